use Rattle.std.proofs.Common.{rules, arith, sym, ◌∙◌, subst, ℕ, List, ◌<◌, length}
use Rattle.std.proofs.lemmas.Iterator.Splits.{YieldsList-from_slice_split}
use Rattle.std.specs.List.{slice_split}
use borrow.Author.Tests.{tests}
use Rattle.std.specs.declared.net.ip_addr.IpAddr.{IpAddr}
use Rattle.proc_linux.specs.HostTexts.{is_between}
use Rattle.proc_linux.proofs.HostReading.{AreRead, all_read, bad_word, empty_passed, none_read, none_yet, one_read, too_many, with_first, with_none}
use Rattle.proc_linux.proofs.hosts.Hosts.of_text.Goals as goal
use Rattle.proc_linux.proofs.hosts.Hosts.of_text.Goals.{in_default-via-in-Ok+else-len-lt-MOST, in_default-via-in_default}

pub loop-word-init : goal.loop-word-init
loop-word-init c = (
  slice_split is_between c.args.text.now,
  YieldsList-from_slice_split {A = ℕ} {F = Unit {0}} {s = c.into_iter-word-iterator.result} _ is_between {f = tt {0}} c.args.text.now (cc) (cc) (cc) (λ x b q k. search (rules, tests)),
  none_yet c.args.text.now c.new-addresses.result.items c.new-addresses.ensures.items,
)

pub loop-word-preserved-then-is_empty : goal.loop-word-preserved-then-is_empty
loop-word-preserved-then-is_empty c =
    let text = c.args.text.now in
    let hosts = c.loop-word.addresses.items in
    let was = c.loop-word.invariant in
    let more = with_first _ _ _ was.0 c.in-Some.word c.next.new.self was.1 c.in-Some.ensures.steps in
    (more.0, more.2, empty_passed text hosts c.in-Some.word.now more.0 (subst (AreRead text hosts) more.1 was.2) (sym c.is_empty.ensures ∙ c.if-is_empty.true))

pub loop-word-preserved : goal.loop-word-preserved
loop-word-preserved c =
    let text = c.args.text.now in
    let hosts = c.loop-word.addresses.items in
    let was = c.loop-word.invariant in
    let more = with_first _ _ _ was.0 c.in-Some.word c.next.new.self was.1 c.in-Some.ensures.steps in
    let room : length hosts < 256 = omega arith in (
      more.0,
      more.2,
      subst (λ (l : List IpAddr). AreRead text l more.0) (sym {A = List IpAddr} c.in_ok-push-in-Ok.ensures.items)
          (one_read text hosts c.in-Some.word.now more.0 c.in-Ok.address (subst (AreRead text hosts) more.1 was.2) (sym c.is_empty.ensures ∙ c.if-is_empty.false) c.in-Ok.ensures room),
    )

pub returns-in_default : goal.returns-in_default
returns-in_default c =
    let text = c.args.text.now in
    let hosts = c.loop-word.addresses.items in
    let was = c.loop-word.invariant in
    let more = with_first _ _ _ was.0 c.in-Some.word c.next.new.self was.1 c.in-Some.ensures.steps in
    let read : AreRead text hosts _ = subst (AreRead text hosts) more.1 was.2 in
    elim c.in_default.branch [
      | in_default-via-in-Ok+else-len-lt-MOST w ↦ too_many text hosts c.in-Some.word.now more.0 read (sym c.is_empty.ensures ∙ c.if-is_empty.false) (omega arith)
      | in_default-via-in_default w ↦ bad_word text hosts c.in-Some.word.now more.0 read (sym c.is_empty.ensures ∙ c.if-is_empty.false) w.in_default.ensures
    ]

pub returns-then-is_empty-2 : goal.returns-then-is_empty-2
returns-then-is_empty-2 c =
    let text = c.args.text.now in
    let hosts = c.loop-word.addresses.items in
    let was = c.loop-word.invariant in
    none_read text hosts (subst (AreRead text hosts) (with_none _ _ _ was.0 c.next.new.self was.1 c.in-None.ensures.steps) was.2) (search rules)

pub returns : goal.returns
returns c =
    let text = c.args.text.now in
    let hosts = c.loop-word.addresses.items in
    let was = c.loop-word.invariant in
    all_read text hosts (subst (AreRead text hosts) (with_none _ _ _ was.0 c.next.new.self was.1 c.in-None.ensures.steps) was.2) (search rules)
