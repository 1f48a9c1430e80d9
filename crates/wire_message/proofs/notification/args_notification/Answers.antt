use Rattle.std.proofs.Common.{◌≡◌, ◌-◌, false, ltb, Some, pos, length}
use Rattle.std.proofs.Common.{slice_index_or, true≢false, sym, ap, subst, ◌∙◌, ◌^◌, arith, rules}
use Rattle.std.specs.Int.{w32}
use Rattle.std.specs.Int.RustNames.{FitsSigned}
use Rattle.std.proofs.lemmas.Bool.{ltb-true}
use Rattle.std.proofs.lemmas.Int.{to_z-of_z}
use Rattle.wire_message.specs.Notifications.{argument, is_no_notification, mask_number}
use Rattle.wire_message.specs.Notifications.{mask_of}
use Rattle.wire_message.proofs.Masks.{mask_fits_is}
use Rattle.wire_message.proofs.Notified.{not_refused, one_notification, is_stray, reads}
use Rattle.wire_message.proofs.notification.args_notification.Goals as goal

pub returns-then-not-mask_fits-clause-refused : goal.returns-then-not-mask_fits-clause-refused
returns-then-not-mask_fits-clause-refused c =
    let nodes = c.args.nodes in
    let args = c.args.args.now in
    let mask = c.mask_of-mask.result in
    let count : length mask ≡ 4 = search rules in
    let fits = mask_fits_is mask nodes count c.mask_of-mask.ensures.words in
    let there : ltb (mask_number (mask_of c.args.version args)) (2 ^ nodes) ≡ false =
    ap (λ m. ltb (mask_number m) (2 ^ nodes)) (sym c.mask_of-mask.ensures.value)
    ∙ (sym fits ∙ (sym c.mask_fits.ensures ∙ c.if-not-mask_fits.true)) in
    sym (is_stray c.args.version nodes args there)

pub returns-then-not-mask_fits-clause-only : goal.returns-then-not-mask_fits-clause-only
returns-then-not-mask_fits-clause-only c = λ notification is same.
    let refused = returns-then-not-mask_fits-clause-refused c in
    let passed = not_refused c.args.version c.args.nodes notification c.requires.version c.requires.nodes is in
    absurd (true≢false (refused ∙ (ap (is_no_notification c.args.version c.args.nodes) same ∙ passed)))

pub returns-clause-found : goal.returns-clause-found
returns-clause-found c =
    let args = c.args.args.now in
    let count = c.notification_count-count.result in
    let mask = c.mask_of-mask.result in
    let high : FitsSigned w32 (slice_index_or args 0 (pos 0)) = search rules in
    let low : FitsSigned w32 (slice_index_or args 1 (pos 0)) = search rules in
    let id : FitsSigned w32 (slice_index_or args (count - 2) (pos 0)) = search rules in
    let last : FitsSigned w32 (slice_index_or args (count - 1) (pos 0)) = search rules in
    let four : length mask ≡ 4 = search rules in
    let fits = mask_fits_is mask c.args.nodes four c.mask_of-mask.ensures.words in
    let same_count = c.notification_count-count.ensures.value in
    let found = c.in_ok-flags.ensures.found in
    reads c.args.version c.args.nodes args _ c.requires.version (record {
      count = omega (arith, c.if-args-count.false, same_count);
      phase = omega arith;
      high = c.joined.ensures.high ∙ to_z-of_z w32 _ high;
      low = c.joined.ensures.low ∙ to_z-of_z w32 _ low;
      mask = record {
        four = four;
        words = c.mask_of-mask.ensures.words;
        there = ltb-true _ _ (sym fits ∙ (sym c.mask_fits.ensures ∙ c.if-not-mask_fits.false));
      };
      middle = c.mask_of-mask.ensures.spelled;
      id_fits = subst (FitsSigned w32) (sym (to_z-of_z w32 _ id)) id;
      id = to_z-of_z w32 _ id ∙ ap (λ n. argument args (n - 2)) same_count;
      flags = sym found.0 ∙ (to_z-of_z w32 _ last ∙ ap (λ n. argument args (n - 1)) same_count);
      low_flags = found.1;
    })

pub returns-clause-refused : goal.returns-clause-refused
returns-clause-refused c =
    let found = returns-clause-found c in
    sym (ap (is_no_notification c.args.version c.args.nodes) found.1
    ∙ not_refused c.args.version c.args.nodes _ c.requires.version c.requires.nodes found.0)

pub returns-clause-only : goal.returns-clause-only
returns-clause-only c = λ notification is same.
    let found = returns-clause-found c in
    ap Some (one_notification c.args.version c.args.nodes _ notification c.requires.version c.requires.nodes found.0 is
    (sym found.1 ∙ same))
