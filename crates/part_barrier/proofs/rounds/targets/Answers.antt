use Rattle.std.proofs.Common.{◌≡◌, suc, ◌+◌, ◌*◌, ◌^◌, ◌%◌, ◌<◌, sym, ap, ◌∙◌, arith, true, false, not}
use Rattle.std.specs.Prelude.{nat_lt}
use Rattle.std.proofs.lemmas.Bool.Decides.{nat_tests}
use Rattle.part_barrier.specs.Masks.{has}
use Rattle.wire_message.specs.Notifications.{mask_number}
use Rattle.part_barrier.specs.Route.{has_back, any_round, goes_to}
use Rattle.part_barrier.proofs.RoundLaws.{rounds_are, shift_is, round_more, round_less}
use Rattle.part_barrier.proofs.rounds.targets.Goals as goal
use Rattle.part_barrier.proofs.rounds.targets.Goals.{then-step-at+then-step-known, else-step-at}
use Rattle.part_barrier.proofs.rounds.targets.Goals.{else-step-at-via-then-step-at+else-step-known}
use Rattle.part_barrier.proofs.rounds.targets.Goals.{else-step-at-via-else-step-at}

pub loop-round-preserved : goal.loop-round-preserved
loop-round-preserved c = λ to.
    let nodes = c.args.at.nodes in
    let me = c.args.at.me in
    let mask = mask_number c.args.mask.now in
    let round = c.loop-round.round in
    let step : 1 * 2 ^ round % 65536 ≡ 2 ^ round = shift_is round (omega (arith, c.loop-round-test.true)) in
    let known = c.known_back-known.ensures (2 ^ round) in
    let before = c.loop-round.invariant to in
    let next : any_round nodes me mask to (suc round) ≡ any_round nodes me mask to (round + 1) =
    (let one : suc round ≡ round + 1 = omega arith in ap (any_round nodes me mask to) one) in
    elim c.if-step-at.branch [
      | then-step-at+then-step-known w ↦ (
          let low : 2 ^ round < nodes = omega (arith, step, w.if-step-at.true) in
          let within : nat_lt c.known_back-known.result (2 ^ round) ≡ false =
          (let there = w.if-step-known.true in grind (arith, nat_tests, step, there)) in
          let place = w.further.ensures ∙ ap (λ far. (me + far) % nodes) step in
          ap (λ words. has words to) (ap mask_number w.nodes-is ∙ w.put_in.ensures)
          ∙ (round_more nodes me mask w.further.result round (mask_number c.loop-round.nodes) to low
          (known (omega (arith, low)) ∙ ap not within) place before ∙ next))
      | else-step-at w ↦ (
          let out : 2 ^ round < nodes → has_back nodes me mask (2 ^ round) ≡ false = λ low.
          elim w.else-step-at.branch [
            | else-step-at-via-then-step-at+else-step-known v ↦
                (let far : nat_lt c.known_back-known.result (2 ^ round) ≡ true =
                (let there = v.if-step-known.false in grind (arith, nat_tests, step, there)) in
                known (omega (arith, low)) ∙ ap not far)
            | else-step-at-via-else-step-at v ↦ absurd (omega (arith, step, low, v.if-step-at.false))
          ] in
          ap (λ words. has (mask_number words) to) w.nodes-is
          ∙ (before ∙ (sym (round_less nodes me mask round to out) ∙ next)))
    ]

pub returns : goal.returns
returns c = λ to.
    let nodes = c.args.at.nodes in
    let me = c.args.at.me in
    let mask = mask_number c.args.mask.now in
    let all : c.loop-round.round ≡ 8 = omega (arith, c.loop-round.auto.round-end, c.loop-round-test.false) in
    c.loop-round.invariant to
    ∙ (ap (any_round nodes me mask to) all
    ∙ (sym (rounds_are nodes me mask to c.requires.few)
    ∙ ap (λ is. goes_to nodes me is mask to) (sym c.if-not-notified.false)))
