use Rattle.std.proofs.Common.{◌≡◌, ap, sym, ◌∙◌, refl, Option, Some, None, Bool, true, false, rules}
use Rattle.std.specs.Prelude.{if◌then◌else◌}
use Rattle.wire_message.specs.Content.{content_of}
use Rattle.wire_message.specs.Reading.{viewed_message}
use Rattle.part_handlers.specs.Runs.{passes_end}
use Rattle.spec_node.specs.declared.answer.Why.{Why}
use Rattle.spec_node.specs.declared.answer.Why.TheVariants as why
use Rattle.spec_node.specs.Step.{first_why}
use Rattle.node_core.specs.ClientRules.{is_handled}
use Rattle.node_core.specs.CoreStep.{library_fault}
use Rattle.node_core.proofs.Landings.{inside_placed}
use Rattle.node_core.proofs.LibraryLaws.{handled_refusal, unhandled_refusal, range_refusal}
use Rattle.node_core.proofs.node.Core.content_refusal.Goals.{then-not-is_handled+in_default, else-not-is_handled}
use Rattle.node_core.proofs.node.Core.content_refusal.Goals as goal

pub returns-in-Some-clause-first : goal.returns-in-Some-clause-first
returns-in-Some-clause-first c =
    let content = content_of (viewed_message c.args.message.now) in
    let settings = c.args.self.now.settings in
    let none : is_handled c.args.self.now.table content ≡ false = search rules in
    let fault : library_fault settings content ≡ Some c.in-Some.why = search rules in
    sym (unhandled_refusal settings c.args.self.now.table content none
    ∙ ap (λ (first : Option Why). first_why first (range_refusal settings content)) fault)

pub returns-then-passes_end-clause-first : goal.returns-then-passes_end-clause-first
returns-then-passes_end-clause-first c =
    let content = content_of (viewed_message c.args.message.now) in
    let settings = c.args.self.now.settings in
    let table = c.args.self.now.table in
    let passes : passes_end settings.segment content ≡ true = search rules in
    let range : range_refusal settings content ≡ Some why.Range =
    ap (λ (test : Bool). if test then Some why.Range else None) passes in
    elim c.if-not-is_handled.branch [
      | then-not-is_handled+in_default w ↦
          (let none : is_handled table content ≡ false = sym c.is_handled.ensures ∙ w.if-not-is_handled.true in
          let fault : library_fault settings content ≡ None = no_fault (library_fault settings content)
          (λ one is. w.in_default.not-Some one (search (rules, is))) in
          sym (unhandled_refusal settings table content none
          ∙ (ap (λ (first : Option Why). first_why first (range_refusal settings content)) fault ∙ range)))
      | else-not-is_handled w ↦
          (let handled : is_handled table content ≡ true = sym c.is_handled.ensures ∙ w.if-not-is_handled.false in
          sym (handled_refusal settings table content handled ∙ range))
    ]
  where
    no_fault : (first : Option Why) → ((one : Why) → first ≡ Some one → ⊥) → first ≡ None
    no_fault None none = refl
    no_fault (Some one) none = absurd (none one refl)

pub returns-clause-placed : goal.returns-clause-placed
returns-clause-placed c =
    let content = content_of (viewed_message c.args.message.now) in
    let settings = c.args.self.now.settings in
    let inside : passes_end settings.segment content ≡ false = search rules in
    inside_placed settings.segment content inside
