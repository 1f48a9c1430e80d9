use Rattle.std.proofs.Common.{ℕ, ◌≡◌, ◌∙◌, sym, subst, arith, rules, refl, take, FitsSigned, w32, take_all, to_z, of_z}
use Rattle.std.proofs.lemmas.Int.{to_z-of_z}
use Rattle.std.proofs.lemmas.Option.{slice_get_within}
use Rattle.wire_message.specs.Reading.{viewed_message}
use Rattle.node_core.proofs.HandlerContexts.{copied_more}
use Rattle.node_core.proofs.arguments.arguments.Goals as goal
use Rattle.base_lists.proofs.Places.{slice_get_short}

pub loop-place-init : goal.loop-place-init
loop-place-init c = record { copied = refl; within = omega arith; room = refl }

pub returns-in-None-clause-count : goal.returns-in-None-clause-count
returns-in-None-clause-count c =
    let past = slice_get_short (viewed_message c.args.message.now).args c.loop-place.place (search rules) in
    omega (arith, past, c.loop-place.invariant.within)

pub returns-in-None-clause-args : goal.returns-in-None-clause-args
returns-in-None-clause-args c =
    let past = slice_get_short (viewed_message c.args.message.now).args c.loop-place.place (search rules) in
    c.loop-place.invariant.copied ∙ take_all c.loop-place.place (viewed_message c.args.message.now).args past

pub loop-place-preserved : goal.loop-place-preserved
loop-place-preserved c =
    let some = sym (c.in-Some.ensures) in
    let within = slice_get_within (viewed_message c.args.message.now).args c.loop-place.place c.in-Some.arg some in
    let fit : FitsSigned w32 c.in-Some.arg = search rules in
    let same : to_z w32 (of_z w32 c.in-Some.arg) ≡ c.in-Some.arg = to_z-of_z w32 c.in-Some.arg fit in
    record {
      copied =
          rw same (copied_more c.loop-place.args (viewed_message c.args.message.now).args c.loop-place.place
          c.in-Some.arg c.loop-place.invariant.copied
          (omega (arith, c.loop-place.invariant.room, c.loop-place-test.true)) some);
      within = omega (arith, within);
      room = search rules;
    }

pub returns-clause-count : goal.returns-clause-count
returns-clause-count c = omega (arith, c.requires, c.loop-place.invariant.within, c.loop-place-test.false)

pub returns-clause-args : goal.returns-clause-args
returns-clause-args c =
    let last : c.loop-place.place ≡ 16 = omega (arith, c.loop-place-test.false, c.loop-place.auto.place-end) in
    (subst (λ (k : ℕ). take k c.loop-place.args ≡ take k (viewed_message c.args.message.now).args) last
    c.loop-place.invariant.copied)
    ∙ take_all 16 (viewed_message c.args.message.now).args c.requires
