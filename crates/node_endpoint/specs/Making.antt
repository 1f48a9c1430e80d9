-- What calls, one after another, make of all that a caller stands for.
use Rattle.std.specs.Prelude.{◌≡◌, List, [], ◌∷◌, Option, None, Some}
use Rattle.spec_node.specs.Record.{Node}
use Rattle.node_rules.specs.EndpointLocal.{EndpointLocal}
use Rattle.node_rules.specs.declared.answer.Answer.{Answer}
use Rattle.node_endpoint.specs.Sites.{Site, ThreadCall, MayLack, answer_at}
use Rattle.node_endpoint.specs.declared.caller.Caller.{Ghosts}

-- the whole that these calls leave
abbrev pub whole_after : {K : Type 0} → (caller : Ghosts K) → Site → caller.Whole → List ThreadCall → caller.Whole
whole_after caller site whole [] = whole
whole_after caller site whole (call ∷ later) = whole_after caller site (caller.after site whole call) later

-- The caller made these calls in this order, and was changed by nothing else: where it stood for a whole, it stands for
-- what they make of that whole
pub record Makes {K : Type 0} (caller : Ghosts K) (old : K) (calls : List ThreadCall) (new : K) : Type 0 where
  pub site : caller.site new ≡ caller.site old
  pub lent : caller.lent new ≡ caller.lent old
  pub whole : (whole : caller.Whole) → caller.stands old whole
      → caller.stands new (whole_after caller (caller.site old) whole calls)

-- the caller is at the same site, and has the same reference
abbrev pub IsAsBefore : {K : Type 0} → (caller : Ghosts K) → K → K → Type 0
IsAsBefore caller old new = (caller.site new ≡ caller.site old) × (caller.lent new ≡ caller.lent old)

-- this holds of its node's record, in each whole for which it stands
abbrev pub ForItsNode : {K : Type 0} → (caller : Ghosts K) → K → (Node EndpointLocal → Type 0) → Type 0
ForItsNode caller at Holds =
    (whole : caller.Whole) → caller.stands at whole → Holds (caller.record_in (caller.site at) whole)

-- it made this call, whose answer is that of its node's record; or memory ran out, and it stands for what it stood for
abbrev pub MakesOne : {K : Type 0} → (caller : Ghosts K) → K → ThreadCall → Option Answer → K → Type 0
MakesOne caller old call (Some answer) new =
    Makes caller old (call ∷ []) new × ForItsNode caller old (λ node. answer ≡ answer_at (caller.site old) node call)
MakesOne caller old call None new =
    IsAsBefore caller old new
    × ((whole : caller.Whole) → caller.stands old whole → MayLack caller.may_lack call × caller.stands new whole)
