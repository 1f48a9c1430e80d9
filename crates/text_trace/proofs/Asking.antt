-- Whether an entry may go, where the mark at its place is set.
use Rattle.std.proofs.Common.{◌≡◌, ℕ, Bool, true, List, Some, sym, ap, ◌∙◌, subst, IsSomeAnd, get_or, slice_get}
use Rattle.std.specs.Prelude.{IsTrue, ◌↔◌}
use Rattle.std.proofs.lemmas.Option.{same_Some, get_or_from_slice_get}
use Rattle.base_turns.specs.declared.entry.Entry.{Entry}
use Rattle.base_turns.specs.Replay.{Steps}
use Rattle.text_trace.specs.declared.trace.Trace.{Trace}
use Rattle.text_trace.specs.Going.{MayGet, MayGo}
use Rattle.text_trace.specs.Noted.{PlaceMaps, MarkLists, mark, IsNoted, GotNoted, AreAtNoted}
use Rattle.text_trace.proofs.PrefixLemmas.{some_from, some_at}

-- it may go where its thread polls
pub may_go_marked : {S : Type 0} (g : Steps S) (r : S) (es : List Entry) (at : ℕ) (e : Entry) (ps : PlaceMaps)
    (ms : MarkLists) (n : ℕ) (b : Bool) → slice_get es at ≡ Some e → GotNoted ps ms n es at → b ≡ g.polls r e.thread
    → IsTrue b ↔ MayGo g (record { state = r; entries = es }) (IsNoted ps ms n) at
may_go_marked g r es at e ps ms n b here marked is =
    let x = some_from (slice_get es at) (λ z. IsSomeAnd z.got (IsNoted ps ms n)) marked in
    let same : x.0 ≡ e = same_Some x.0 e (sym x.1 ∙ here) in
    let y = some_from (x.0).got (IsNoted ps ms n) x.2 in
    let got : e.got ≡ Some y.0 = ap (λ (z : Entry). z.got) (sym same) ∙ y.1 in (
      λ t. some_at (slice_get es at) (λ z. MayGet (g.polls r z.thread) (IsNoted ps ms n) z.got) e here
          (subst (MayGet (g.polls r e.thread) (IsNoted ps ms n)) (sym got) (sym is ∙ t, y.2)),
      λ h. let k = some_from (slice_get es at) (λ z. MayGet (g.polls r z.thread) (IsNoted ps ms n) z.got) h in
          let one : k.0 ≡ e = same_Some k.0 e (sym k.1 ∙ here) in
          let may : MayGet (g.polls r e.thread) (IsNoted ps ms n) e.got =
          subst (λ (z : Entry). MayGet (g.polls r z.thread) (IsNoted ps ms n) z.got) one k.2 in
          is ∙ (subst (MayGet (g.polls r e.thread) (IsNoted ps ms n)) got may).0,
    )

-- what is known of the mark at the place of a node's entry, as the code reads its trace
pub got_noted : (ps : PlaceMaps) (ms : MarkLists) (ts : List Trace) (n i : ℕ) (t : Trace) (es : List Entry)
    → es ≡ (get_or ts n t).entries → AreAtNoted ps ms ts → mark ms n i ≡ true → GotNoted ps ms n es i
got_noted ps ms ts n i t es e marked h =
    let u = some_from (slice_get ts n) (λ z. GotNoted ps ms n z.entries i) (marked n i h) in
    let read : es ≡ (u.0).entries = e ∙ ap (λ (z : Trace). z.entries) (get_or_from_slice_get ts n u.0 t u.1) in
    subst (λ zs. GotNoted ps ms n zs i) (sym read) u.2
