use Rattle.std.proofs.Common.{arith, subst, sym, ap, ◌∙◌}
use Rattle.wire_message.specs.Content.{Message, Spells}
use Rattle.wire_message.specs.Reading.{viewed_message, message_at}
use Rattle.wire_message.proofs.Laws.{takes, fields, never_refused, only, version_small}
use Rattle.wire_message.proofs.reading.view.Goals as goal

pub first_refusal-requires : goal.first_refusal-requires
first_refusal-requires c = version_small c.args.version c.requires

pub returns-in-Some-clause-only : goal.returns-in-Some-clause-only
returns-in-Some-clause-only c =
    λ message same spells.
    never_refused c.args.version c.args.bytes.now c.in-Some.refusal message
    (sym c.first_refusal.ensures ∙ c.in-Some.is) same spells

pub fields_of-requires : goal.fields_of-requires
fields_of-requires c =
    let f = fields c.args.version c.args.bytes.now (sym c.first_refusal.ensures ∙ c.in_default.is) in
    record { header = f.header; words = f.words }

pub returns-clause-version : goal.returns-clause-version
unfolding message_at
returns-clause-version c = ap (λ (m : Message). m.version) c.fields_of.ensures.value

pub returns-clause-found : goal.returns-clause-found
returns-clause-found c =
    let none = sym c.first_refusal.ensures ∙ c.in_default.is in
    let s = takes c.args.version c.args.bytes.now c.requires (λ i. omega (arith, c.type_inv.bytes i)) none in
    subst (λ (m : Message). Spells m c.args.bytes.now) (sym c.fields_of.ensures.value) s

pub returns-clause-only : goal.returns-clause-only
returns-clause-only c =
    λ message same spells.
    only c.args.version c.args.bytes.now (viewed_message c.fields_of.result) message
    c.fields_of.ensures.value same spells
