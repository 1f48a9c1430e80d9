-- Calls that a caller made, joined to one list, and what was known between them.
use Rattle.std.proofs.Common.{◌≡◌, List, [], ◌∷◌, ◌++◌, refl, sym, subst, ap, ◌∙◌}
use Rattle.spec_node.specs.Record.{Node}
use Rattle.node_rules.specs.EndpointLocal.{EndpointLocal}
use Rattle.node_endpoint.specs.Sites.{Site, ThreadCall, node_then, node_in_the_end}
use Rattle.node_endpoint.specs.Making.{whole_after, Makes, ForItsNode}
use Rattle.node_endpoint.specs.declared.caller.Caller.{Ghosts}

-- the law `follows` of the trait
abbrev pub Follows : {K : Type 0} → Ghosts K → Type 0
Follows caller =
    (at : Site) (whole : caller.Whole) (call : ThreadCall)
    → caller.record_in at (caller.after at whole call) ≡ node_then at (caller.record_in at whole) call

-- what it is for one call it is for a list of them
pub record_after : {K : Type 0} (caller : Ghosts K) → Follows caller → (at : Site) (whole : caller.Whole)
    (calls : List ThreadCall)
    → caller.record_in at (whole_after caller at whole calls) ≡ node_in_the_end at (caller.record_in at whole) calls
record_after caller follows at whole [] = refl
record_after caller follows at whole (call ∷ later) =
    record_after caller follows at (caller.after at whole call) later
    ∙ ap (λ (node : Node EndpointLocal). node_in_the_end at node later) (follows at whole call)

pub makes_none : {K : Type 0} (caller : Ghosts K) (at : K) → Makes caller at [] at
makes_none caller at = record { site = refl; lent = refl; whole = λ whole stands. stands }

after_both : {K : Type 0} (caller : Ghosts K) (at : Site) (whole : caller.Whole) (first second : List ThreadCall)
    → whole_after caller at whole (first ++ second) ≡ whole_after caller at (whole_after caller at whole first) second
after_both caller at whole [] second = refl
after_both caller at whole (call ∷ first) second = after_both caller at (caller.after at whole call) first second

-- two lists of calls, the second behind the first
pub makes_then : {K : Type 0} (caller : Ghosts K) (old between new : K) (first second : List ThreadCall)
    → Makes caller old first between → Makes caller between second new → Makes caller old (first ++ second) new
makes_then caller old between new first second one other = record {
  site = other.site ∙ one.site;
  lent = other.lent ∙ one.lent;
  whole = λ whole stands.
      let P : Site → Type 0 = λ at.
      caller.stands new (whole_after caller at (whole_after caller (caller.site old) whole first) second) in
      subst (caller.stands new) (sym (after_both caller (caller.site old) whole first second))
      (subst P one.site (other.whole (whole_after caller (caller.site old) whole first) (one.whole whole stands)));
}

-- what is known of the node's record behind the calls is known of the record that they leave of the one before
pub known_then : {K : Type 0} (caller : Ghosts K) → Follows caller → (old new : K) (calls : List ThreadCall)
    (Holds : Site → Node EndpointLocal → Type 0) → Makes caller old calls new
    → ForItsNode caller new (Holds (caller.site new))
    → ForItsNode caller old (λ node. Holds (caller.site old) (node_in_the_end (caller.site old) node calls))
known_then caller follows old new calls Holds makes known whole stands =
    let later = whole_after caller (caller.site old) whole calls in
    let P : Site → Type 0 = λ at. Holds at (caller.record_in at later) in
    subst (Holds (caller.site old)) (record_after caller follows (caller.site old) whole calls)
    (subst P makes.site (known later (makes.whole whole stands)))

-- a caller that stands for nothing behind its calls stood for nothing before them
pub never_before : {K : Type 0} (caller : Ghosts K) (old new : K) (calls : List ThreadCall) → Makes caller old calls new
    → ((whole : caller.Whole) → caller.stands new whole → ⊥) → (whole : caller.Whole) → caller.stands old whole → ⊥
never_before caller old new calls makes never whole stands =
    never (whole_after caller (caller.site old) whole calls) (makes.whole whole stands)
