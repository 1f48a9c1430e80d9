use Rattle.std.proofs.Common.{◌≡◌, ◌&&◌, ◌||◌, ◌+◌, Bool, false, not, refl, sym, ap, ◌∙◌, subst, arith}
use Rattle.std.proofs.Math.Bool.{and-false}
use Rattle.std.proofs.lemmas.Bool.{and_parts}
use Rattle.part_transfers.specs.declared.table.OperationRecord.{OperationRecord}
use Rattle.part_transfers.specs.declared.table.Check.TheVariants.{Any, Open}
use Rattle.part_transfers.specs.Queue.{Queues}
use Rattle.part_transfers.specs.Table.{on_place, fits_pick, passes, stands_at, has_passing}
use Rattle.part_transfers.proofs.Tests.{any_from}
use Rattle.part_transfers.proofs.Members.{any_plain, and_true}
use Rattle.part_transfers.proofs.Standing.{Tells, tells_none, none_more, none_stands, tells_more, tells_all}
use Rattle.part_transfers.proofs.table.OperationTable.is_settled.Goals as goal

pub loop-index-init : goal.loop-index-init
loop-index-init c = record {
  any = tells_none (fits_pick c.args.pick) c.args.self.now c.self.inside.standing c.run-from.result.0;
  settled = λ index entry there low high at here. absurd (omega (arith, low, high));
}

pub returns-then-is_match : goal.returns-then-is_match
returns-then-is_match c =
    let any = has_passing (fits_pick c.args.pick) Any c.args.self.now in
    let is = any_from (on_place (λ r. fits_pick c.args.pick r && passes (Open c.args.thread) r)) c.args.self.now
    c.at.result.place c.at-operation.result c.at-operation.ensures (sym c.is_match.ensures ∙ c.if-is_match.true) in
    sym (ap (λ open_one. any && not open_one) is ∙ and-false any)

pub loop-index-preserved : goal.loop-index-preserved
loop-index-preserved c =
    let standing = c.self.inside.standing in
    let from = c.run-from.result.0 in
    let told : c.either-any.result ≡ (c.loop-index.any || on_place (fits_pick c.args.pick) c.at-operation.result) =
    c.either-any.ensures ∙ ap (λ is. c.loop-index.any || is) c.is_picked.ensures in
    record {
      any = subst (λ flag. Tells (fits_pick c.args.pick) c.args.self.now standing from (c.loop-index.index + 1) flag)
          (sym told)
          (tells_more (fits_pick c.args.pick) c.args.self.now standing from c.loop-index.index c.loop-index.any c.at.result
          c.at-operation.result c.loop-index.invariant.any c.at.ensures.here c.at-operation.ensures);
      settled = none_more (λ place there. fits_pick c.args.pick there && passes (Open c.args.thread) there)
          c.args.self.now standing from c.loop-index.index c.at.result c.at-operation.result c.at.ensures.here
          c.at-operation.ensures (sym c.is_match.ensures ∙ c.if-is_match.false) c.loop-index.invariant.settled;
    }

pub returns : goal.returns
returns c =
    let places = c.args.self.now in
    let standing = c.self.inside.standing in
    let from = c.run-from.result.0 in
    let Q = subst (λ ps. Queues (stands_at ps) standing) c.self.view_is c.self.invariant.listed in
    let past = c.loop-index-test.false in
    let pick = fits_pick c.args.pick in
    let any = has_passing pick Any places in
    let test : OperationRecord → Bool = λ there. pick there && passes (Open c.args.thread) there in
    let is_any : c.loop-index.any ≡ any = tells_all pick places standing from c.loop-index.index c.loop-index.any Q
    (λ index entry there at same holds. (let spot = c.run-from.ensures.all index entry there at same holds in
    (spot.0, omega (arith, spot.1, past))))
    c.loop-index.invariant.any ∙ sym (any_plain pick places) in
    let none : has_passing pick (Open c.args.thread) places ≡ false = none_stands test (λ place. test) places standing
    from c.loop-index.index Q
    (λ index entry there at same holds. (let spot = c.run-from.ensures.all index entry there at same
    (and_parts (pick there) (passes (Open c.args.thread) there) holds).0 in
    (spot.0, omega (arith, spot.1, past))))
    (λ place there at. refl) c.loop-index.invariant.settled in
    is_any ∙ (sym (and_true any) ∙ ap (λ open_one. any && not open_one) (sym none))
