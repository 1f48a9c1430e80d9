-- Sinks that gather bytes before another sink: one call after the other, and what the sink behind took in the end.
use Rattle.std.proofs.Common.{refl, ◌≡◌, ◌≤◌, ℕ, arith, ◌+◌, List, [], ◌++◌, take, drop, Option, Some, None, sym, ap}
use Rattle.std.proofs.Common.{◌∙◌, subst, append_assoc, append-nil, drop-drop}
use Rattle.std.proofs.lemmas.List.{take-append-drop}
use Rattle.std.proofs.Math.Seq.{take-add}
use Rattle.std.specs.Io.KnownBytes.{Appends, append_known}
use Rattle.std.proofs.KnownBytes.{Appends-nil, Appends-trans}
use Rattle.base_io.specs.Buffered.{Outbox, Gathers, GathersUpTo, GathersNone, GathersPrefix, GathersAll, Flushes}
use Rattle.base_io.specs.Faults.{Rose}
use Rattle.base_io.specs.Whole.{TakesUpTo, WritesAll}
use Rattle.base_io.specs.declared.writing.Wrote.{Wrote}
use Rattle.base_io.specs.declared.writing.Wrote.TheVariants as wrote

-- a count that rose later rose
pub rose_later : (before mid after : ℕ) → before ≤ mid → Rose mid after → Rose before after
rose_later before mid after le rose = omega (arith, le, rose)

-- and one that rose earlier
pub rose_earlier : (before mid after : ℕ) → mid ≤ after → Rose before mid → Rose before after
rose_earlier before mid after le rose = omega (arith, le, rose)

-- nothing went in, and nothing went on
pub gathers_none : (a : Outbox) → Gathers a a []
gathers_none a =
    record { gone = []; whole = append-nil a.pending; given = Appends-nil a.given; later = omega arith }

-- bytes went in, and then more
pub gathers_more : (a b c : Outbox) (first second : List ℕ) → Gathers a b first → Gathers b c second
    → Gathers a c (first ++ second)
gathers_more a b c first second h k = record {
  gone = h.gone ++ k.gone;
  whole = sym (append_assoc a.pending first second) ∙ ap (λ (x : List ℕ). x ++ second) h.whole
      ∙ append_assoc h.gone b.pending second ∙ ap (λ (x : List ℕ). h.gone ++ x) k.whole
      ∙ sym (append_assoc h.gone k.gone c.pending);
  given = Appends-trans a.given b.given c.given h.gone k.gone h.given k.given;
  later = omega (arith, h.later, k.later);
}

-- the first n bytes went in, and then the next m
pub gathers_prefix : (a b c : Outbox) (bytes rest : List ℕ) (n m : ℕ) → rest ≡ drop n bytes → Gathers a b (take n bytes)
    → Gathers b c (take m rest) → Gathers a c (take (n + m) bytes)
gathers_prefix a b c bytes rest n m e h k =
    let whole : take (n + m) bytes ≡ take n bytes ++ take m rest = take-add n m bytes
    ∙ ap (λ x. take n bytes ++ take m x) (sym e) in
    subst (Gathers a c) (sym whole) (gathers_more a b c (take n bytes) (take m rest) h k)

-- the first n bytes went in, and then a call failed
pub gathers_failed : (a b c : Outbox) (bytes : List ℕ) (n : ℕ) → Gathers a b (take n bytes) → GathersNone b c
    → GathersPrefix a c bytes
gathers_failed a b c bytes n h k = record {
  rest = drop n bytes;
  went = record {
    prefix = take n bytes;
    whole = sym (take-append-drop n bytes);
    gathered =
        subst (Gathers a c) (append-nil (take n bytes)) (gathers_more a b c (take n bytes) [] h k.gathered);
  };
  rose = rose_later a.faults b.faults c.faults h.later k.rose;
}

-- a prefix of what waited went on
pub gives_prefix : (a b : Outbox) (n : ℕ) → b.pending ≡ drop n a.pending → a.faults ≤ b.faults
    → Appends a.given b.given (take n a.pending) → Gathers a b []
gives_prefix a b n e later h = record {
  gone = take n a.pending;
  whole = append-nil a.pending ∙ sym (take-append-drop n a.pending)
      ∙ ap (λ (x : List ℕ). take n a.pending ++ x) (sym e);
  given = h;
  later = later;
}

-- ---- one piece after another, where the rest of a text begins with the piece that goes in next

-- nothing of the text went in yet
pub nothing_yet : (a : Outbox) (all : List ℕ) → GathersUpTo a a all all
nothing_yet a all = record { prefix = []; whole = refl; gathered = gathers_none a }

-- the next piece went in
pub past_done : (a b c : Outbox) (all piece next rest : List ℕ) → rest ≡ piece ++ next → GathersUpTo a b all rest
    → Gathers b c piece → GathersUpTo a c all next
past_done a b c all piece next rest e h k = record {
  prefix = h.prefix ++ piece;
  whole = h.whole ∙ ap (λ (x : List ℕ). h.prefix ++ x) e ∙ sym (append_assoc h.prefix piece next);
  gathered = gathers_more a b c h.prefix piece h.gathered k;
}

-- a prefix of the next piece went in
pub past_fault : (a b c : Outbox) (all piece next rest : List ℕ) → rest ≡ piece ++ next → GathersUpTo a b all rest
    → GathersAll b c piece wrote.Fault → GathersAll a c all wrote.Fault
past_fault a b c all piece next rest e h k =
    let went = k.went in
    let cut : rest ≡ went.prefix ++ (k.rest ++ next) =
    e ∙ ap (λ (x : List ℕ). x ++ next) went.whole ∙ append_assoc went.prefix k.rest next in
    record {
      rest = k.rest ++ next;
      went = record {
        prefix = h.prefix ++ went.prefix;
        whole = h.whole ∙ ap (λ (x : List ℕ). h.prefix ++ x) cut
            ∙ sym (append_assoc h.prefix went.prefix (k.rest ++ next));
        gathered = gathers_more a b c h.prefix went.prefix h.gathered went.gathered;
      };
      rose = rose_later a.faults b.faults c.faults h.gathered.later k.rose;
    }

-- the whole text went in where its rest is empty
pub all_gathered : (a b : Outbox) (all rest : List ℕ) → rest ≡ [] → GathersUpTo a b all rest → Gathers a b all
all_gathered a b all rest e h =
    subst (Gathers a b) (sym (h.whole ∙ ap (λ (x : List ℕ). h.prefix ++ x) e ∙ append-nil h.prefix)) h.gathered

-- the rest is the last piece
pub past_last : (a b c : Outbox) (all rest : List ℕ) (result : Wrote) → GathersUpTo a b all rest
    → GathersAll b c rest result → GathersAll a c all result
past_last a b c all rest wrote.Done h k =
    all_gathered a c all [] refl (past_done a b c all rest [] rest (sym (append-nil rest)) h k)
past_last a b c all rest wrote.Fault h k = past_fault a b c all rest [] rest (sym (append-nil rest)) h k

-- a prefix of the first of two pieces went in
pub gathers_first : (a b : Outbox) (first second : List ℕ) → GathersAll a b first wrote.Fault
    → GathersAll a b (first ++ second) wrote.Fault
gathers_first a b first second h =
    past_fault a a b (first ++ second) first second (first ++ second) refl (nothing_yet a (first ++ second)) h

-- the first of two pieces went in, and then the second or a prefix of it
pub gathers_then : (a b c : Outbox) (first second : List ℕ) (result : Wrote) → Gathers a b first
    → GathersAll b c second result → GathersAll a c (first ++ second) result
gathers_then a b c first second result h k =
    past_last a b c (first ++ second) second result (record { prefix = first; whole = refl; gathered = h }) k

-- ---- what the sink behind took in the end

-- all went in where nothing waited, and nothing waits now: the sink behind took exactly that
pub all_given : (old new : Outbox) (bytes : List ℕ) → old.pending ≡ [] → new.pending ≡ [] → Gathers old new bytes
    → Appends old.given new.given bytes
all_given old new bytes none now h =
    let gone : bytes ≡ h.gone = ap (λ (x : List ℕ). x ++ bytes) (sym none) ∙ h.whole
    ∙ ap (λ (x : List ℕ). h.gone ++ x) now ∙ append-nil h.gone in
    subst (Appends old.given new.given) (sym gone) h.given

-- a prefix of the bytes went in where nothing waited: the sink behind took a prefix of them, up to what waits and the
-- rest
pub prefix_given : (old new : Outbox) (bytes rest : List ℕ) → old.pending ≡ [] → GathersUpTo old new bytes rest
    → TakesUpTo old.given new.given bytes (new.pending ++ rest)
prefix_given old new bytes rest none h =
    let prefix : h.prefix ≡ h.gathered.gone ++ new.pending = ap (λ (x : List ℕ). x ++ h.prefix) (sym none)
    ∙ h.gathered.whole in
    record {
      prefix = h.gathered.gone;
      whole = h.whole ∙ ap (λ (x : List ℕ). x ++ rest) prefix ∙ append_assoc h.gathered.gone new.pending rest;
      taken = h.gathered.given;
    }

-- the same of what a call says at a fault
pub fault_given : (old new : Outbox) (bytes : List ℕ) → old.pending ≡ [] → GathersAll old new bytes wrote.Fault
    → WritesAll old.given new.given bytes wrote.Fault
fault_given old new bytes none h = (new.pending ++ h.rest, prefix_given old new bytes h.rest none h.went)

-- all of the bytes went in where nothing waited, and were flushed: they were written to the sink behind, or a prefix of
-- them
pub flushed : (old mid new : Outbox) (bytes : List ℕ) (result : Wrote) → old.pending ≡ [] → Gathers old mid bytes
    → Flushes mid new result → WritesAll old.given new.given bytes result
flushed old mid new bytes wrote.Done none h f =
    let g : Gathers old new bytes =
    subst (Gathers old new) (append-nil bytes) (gathers_more old mid new bytes [] h f.0) in
    all_given old new bytes none f.1 g
flushed old mid new bytes wrote.Fault none h f =
    let g : Gathers old new bytes =
    subst (Gathers old new) (append-nil bytes) (gathers_more old mid new bytes [] h f.gathered) in (
      new.pending ++ [],
      prefix_given old new bytes [] none (record { prefix = bytes; whole = sym (append-nil bytes); gathered = g }),
    )

-- a prefix of the bytes went in where nothing waited, and more was flushed or not: the sink behind took a prefix of them
pub flushed_prefix : (old mid new : Outbox) (bytes rest : List ℕ) → old.pending ≡ [] → GathersUpTo old mid bytes rest
    → Gathers mid new [] → TakesUpTo old.given new.given bytes (new.pending ++ rest)
flushed_prefix old mid new bytes rest none h f =
    let g : Gathers old new h.prefix =
    subst (Gathers old new) (append-nil h.prefix) (gathers_more old mid new h.prefix [] h.gathered f) in
    prefix_given old new bytes rest none (record { prefix = h.prefix; whole = h.whole; gathered = g })

told_cases : (a b : Option (List ℕ)) (waiting pending bytes gone : List ℕ) → waiting ++ bytes ≡ gone ++ pending
    → Appends a b gone → Appends (append_known a waiting) (append_known b pending) bytes
told_cases None b waiting pending bytes gone e h = tt
told_cases (Some x) None waiting pending bytes gone e h = absurd h
told_cases (Some x) (Some y) waiting pending bytes gone e h =
    ap (λ (z : List ℕ). z ++ pending) h ∙ append_assoc x gone pending ∙ ap (λ (z : List ℕ). x ++ z) (sym e)
    ∙ sym (append_assoc x waiting bytes)

-- what a gathering sink tells as taken grew by the bytes that went in
pub told_more : (old new : Outbox) (bytes : List ℕ) → Gathers old new bytes
    → Appends (append_known old.given old.pending) (append_known new.given new.pending) bytes
told_more old new bytes h = told_cases old.given new.given old.pending new.pending bytes h.gone h.whole h.given

-- ---- the bytes that wait, as a part of the buffer

-- a prefix of what waits is gone
pub pending_after : (buffer gathered pending : List ℕ) (start end n : ℕ) → gathered ≡ take end buffer
    → pending ≡ drop start gathered → drop (start + n) (take end buffer) ≡ drop n pending
pending_after buffer gathered pending start end n g p = sym (drop-drop n start (take end buffer))
    ∙ ap (λ (x : List ℕ). drop n (drop start x)) (sym g) ∙ ap (drop n) (sym p)
