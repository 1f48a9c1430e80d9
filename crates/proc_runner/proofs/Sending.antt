-- Lists that are told go on; one datagram more is sent.
use Rattle.std.proofs.Common.{◌≡◌, ℕ, ◌+◌, ◌≤◌, List, [], ◌∷◌, ◌++◌, Option, Some, None, take, refl, sym, ap}
use Rattle.std.proofs.Common.{◌∙◌, arith, append_assoc}
use Rattle.std.specs.Prelude.{slice_get}
use Rattle.std.proofs.lemmas.List.{take_more, append-nil}
use Rattle.std.proofs.lemmas.Option.{slice_get_within, get_or_from_slice_get}
use Rattle.base_io.specs.Told.{and_all}
use Rattle.base_io.specs.declared.link.Link.{Ghosts as LinkGhosts}
use Rattle.base_turns.specs.declared.turns.Machine.{Ghosts as MachineGhosts}
use Rattle.proc_runner.specs.Facts.{WentOn}
use Rattle.proc_runner.specs.Turns.{Sends, AreOutgoing, RecordsAs}
use Rattle.proc_runner.specs.declared.recorder.Recorder.{Ghosts as RecorderGhosts}
use Rattle.base_turns.specs.declared.entry.Entry.{Entry}
use Rattle.std.proofs.Common.{subst}
use Rattle.base_io.specs.Buffered.{Gathers, Flushes}
use Rattle.base_io.specs.declared.writing.Wrote.{Wrote}
use Rattle.base_io.specs.declared.writing.Wrote.TheVariants as wrote
use Rattle.base_io.proofs.Outboxes.{gathers_more, rose_later}

-- a list that went on twice
pub WentOn-twice : {A : Type 0} (first middle last : Option (List A)) (xs ys : List A)
    → WentOn first xs middle → WentOn middle ys last → WentOn first (xs ++ ys) last
WentOn-twice None middle last xs ys p q = q ∙ ap (λ w. and_all w ys) p
WentOn-twice (Some z) middle last xs ys p q = q ∙ ap (λ w. and_all w ys) p ∙ ap Some (append_assoc z xs ys)

-- and one that stayed
pub WentOn-none : {A : Type 0} (first last : Option (List A)) → last ≡ first → WentOn first [] last
WentOn-none None last p = p
WentOn-none (Some z) last p = p ∙ ap Some (sym (append-nil z))

pub take_one_more : {A : Type 0} (xs : List A) (i : ℕ) (x : A) → Some x ≡ slice_get xs i
    → take i xs ++ x ∷ [] ≡ take (i + 1) xs
take_one_more xs i x at =
    sym (take_more xs i x (slice_get_within xs i x (sym at))
    ∙ ap (λ y. take i xs ++ y ∷ []) (get_or_from_slice_get xs i x x (sym at)))

-- nothing was sent yet
pub sends_nothing : {L : Type 0} (l : LinkGhosts L) (link : L) → Sends l [] link link
sends_nothing l link = record {
  sent = WentOn-none (l.sent link) (l.sent link) refl;
  received = refl;
  waiting = refl;
  bound = refl;
  faults = omega arith;
}

pub sends_none : {M L : Type 0} (m : MachineGhosts M) (l : LinkGhosts L) (machine : M) (link : L)
    → (given : List (ℕ × List ℕ)) × AreOutgoing m machine 0 given × Sends l given link link
sends_none m l machine link = ([], (λ state stood. refl), sends_nothing l link)

-- one datagram more was sent
pub sends_more : {L : Type 0} (l : LinkGhosts L) (given : List (ℕ × List ℕ)) (old middle new : L)
    (datagram : ℕ × List ℕ)
    → Sends l given old middle
    → WentOn (l.sent middle) (datagram ∷ []) (l.sent new) → l.received new ≡ l.received middle
    → l.waiting new ≡ l.waiting middle
    → l.bound new ≡ l.bound middle → l.faults middle ≤ l.faults new
    → Sends l (given ++ datagram ∷ []) old new
sends_more l given old middle new datagram h sent received waiting bound faults = record {
  sent = WentOn-twice (l.sent old) (l.sent middle) (l.sent new) given (datagram ∷ []) h.sent sent;
  received = received ∙ h.received;
  waiting = waiting ∙ h.waiting;
  bound = bound ∙ h.bound;
  faults = omega (arith, h.faults, faults);
}

-- the link failed, and told nothing more
pub sends_same : {L : Type 0} (l : LinkGhosts L) (given : List (ℕ × List ℕ)) (old middle new : L)
    → Sends l given old middle
    → l.sent new ≡ l.sent middle → l.received new ≡ l.received middle → l.waiting new ≡ l.waiting middle
    → l.bound new ≡ l.bound middle → l.faults middle ≤ l.faults new
    → Sends l given old new
sends_same l given old middle new h sent received waiting bound faults = record {
  sent = sent ∙ h.sent;
  received = received ∙ h.received;
  waiting = waiting ∙ h.waiting;
  bound = bound ∙ h.bound;
  faults = omega (arith, h.faults, faults);
}

-- the datagrams with one more
pub outgoing_more : {M : Type 0} (m : MachineGhosts M) (machine : M) (i : ℕ) (given : List (ℕ × List ℕ))
    (datagram : ℕ × List ℕ)
    → AreOutgoing m machine i given → ((state : m.State) → m.stands machine state
    → Some datagram ≡ slice_get (m.sent state) i)
    → AreOutgoing m machine (i + 1) (given ++ datagram ∷ [])
outgoing_more m machine i given datagram h at state stood =
    ap (λ w. w ++ datagram ∷ []) (h state stood) ∙ take_one_more (m.sent state) i datagram (at state stood)

-- an entry went in, and then what waited was given on
pub records_after : {K : Type 0} (d : RecorderGhosts K) (entry : Entry) (sends : ℕ) (old middle new : K) (result : Wrote)
    → Gathers (d.outbox old) (d.outbox middle) (d.text entry) → Flushes (d.outbox middle) (d.outbox new) result
    → RecordsAs d entry sends old new result
records_after d entry sends old middle new wrote.Done h f = record {
  gathered = subst (Gathers (d.outbox old) (d.outbox new)) (append-nil (d.text entry))
      (gathers_more (d.outbox old) (d.outbox middle) (d.outbox new) (d.text entry) [] h f.0);
  flushed = λ _. f.1;
}
records_after d entry sends old middle new wrote.Fault h f = record {
  rest = [];
  went = record {
    prefix = d.text entry;
    whole = sym (append-nil (d.text entry));
    gathered = subst (Gathers (d.outbox old) (d.outbox new)) (append-nil (d.text entry))
        (gathers_more (d.outbox old) (d.outbox middle) (d.outbox new) (d.text entry) [] h f.gathered);
  };
  rose = rose_later (d.outbox old).faults (d.outbox middle).faults (d.outbox new).faults h.later f.rose;
}
