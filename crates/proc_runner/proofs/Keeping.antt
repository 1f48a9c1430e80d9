-- Each turn keeps the facts.
use Rattle.std.proofs.Common.{◌≡◌, ◌≢◌, ℕ, suc, ◌+◌, ◌≤◌, ◌<◌, Bool, true, false, ◌&&◌, not, List, [], ◌∷◌}
use Rattle.std.proofs.Common.{◌++◌, Option, Some, None, is_none, length, take, refl, sym, ap, ◌∙◌, arith}
use Rattle.std.proofs.Common.{subst, inl, inr, length-append}
use Rattle.std.specs.Prelude.{if◌then◌else◌, ◌⊎◌}
use Rattle.std.specs.Option.{option_to_list}
use Rattle.std.proofs.Math.Nat.{lt_of_not-le}
use Rattle.std.proofs.Math.Seq.{take-length}
use Rattle.std.proofs.lemmas.List.{append-nil, take-take}
use Rattle.std.proofs.lemmas.List.Elements.{All-push, All-nil}
use Rattle.base_io.specs.Faults.{Rose, one_more}
use Rattle.base_io.specs.Told.{and_all, IsEmptyWhereTold}
use Rattle.base_io.specs.declared.link.Link.{Ghosts as LinkGhosts}
use Rattle.base_io.specs.declared.clock.Clock.{Ghosts as ClockGhosts}
use Rattle.base_turns.specs.declared.entry.Entry.{Entry}
use Rattle.base_turns.specs.declared.turns.Machine.{Ghosts as MachineGhosts}
use Rattle.base_turns.specs.Replay.{steps_of, replay_state, got_in, given_by, sent_in, is_quiet, quiet_tail}
use Rattle.base_turns.proofs.Replays.{replayed-push, sent_in-push, got_in-push}
use Rattle.proc_runner.specs.declared.ends.StationEnd.{StationEnd}
use Rattle.proc_runner.specs.declared.ends.StationEnd.TheVariants.{Over, Stuck, LinkFault, WriteFault, JournalFull, NoMemory}
use Rattle.proc_runner.specs.declared.ends.TurnAnswer.{TurnAnswer}
use Rattle.proc_runner.specs.declared.ends.TurnAnswer.TheVariants.{Went, Idle, Ended}
use Rattle.proc_runner.specs.declared.recorder.Recorder.{Ghosts as RecorderGhosts}
use Rattle.base_io.specs.Buffered.{Outbox, Gathers, GathersPrefix}
use Rattle.proc_runner.specs.StationState.{StationState, Opening, new_station, ended_with}
use Rattle.proc_runner.specs.Facts.{entry_limit, IsJournalFull, IsCut, IsEntryWithin, WentOn, EndIs, Replays, Ahead}
use Rattle.proc_runner.specs.Facts.{HasGone}
use Rattle.proc_runner.specs.Facts.{Facts, HasFacts, texts}
use Rattle.proc_runner.specs.Turns.{KeepsEntry, Rests, FailsAsked, GoesTurn, AppendsAtMostOne, KeepsFacts}
use Rattle.proc_runner.specs.Turns.{CountsAtMostOne}
use Rattle.proc_runner.specs.Turns.{made_entry}
use Rattle.proc_runner.proofs.Sending.{WentOn-twice, WentOn-none}
use Rattle.base_io.proofs.Outboxes.{rose_later, gathers_more, gathers_none}
use Rattle.std.specs.Io.KnownBytes.{Appends}
use Rattle.std.specs.List.{flat_map}
use Rattle.std.proofs.KnownBytes.{Appends-trans}
use Rattle.std.proofs.Common.{append_assoc, zero, IsSomeAnd}

WentOn-along : {A : Type 0} (first last last' : Option (List A)) (xs xs' : List A) → WentOn first xs last → xs' ≡ xs
    → last' ≡ last → WentOn first xs' last'
WentOn-along first last last' xs xs' p x q = q ∙ p ∙ ap (λ w. and_all first w) (sym x)

take_within : {A : Type 0} (xs ys : List A) (n : ℕ) → take (length xs + n) (xs ++ ys) ≡ xs ++ take n ys
take_within [] ys n = let e : 0 + n ≡ n = omega arith in ap (λ k. take k ys) e
take_within (x ∷ xs) ys n =
    let e : length (x ∷ xs) + n ≡ suc (length xs + n) = omega arith in
    ap (λ k. take k (x ∷ (xs ++ ys))) e ∙ ap (λ w. x ∷ w) (take_within xs ys n)

-- the quiet turns grow with the quiet entries
quiet_step : (b : Bool) (q t i q' t' : ℕ) → q' ≡ (if b then q + 1 else 0) → t' ≡ (if b then t + 1 else 0)
    → q ≤ t + i → q' ≤ t' + i
quiet_step true q t i q' t' x y h = omega (arith, x, y, h)
quiet_step false q t i q' t' x y h = omega (arith, x)

quiet_last : (b : Bool) (q t q' t' : ℕ) → q' ≡ (if b then q + 1 else 0) → t' ≡ (if b then t + 1 else 0) → 0 < q'
    → 0 < t'
quiet_last true q t q' t' x y h = omega (arith, y)
quiet_last false q t q' t' x y h = absurd (omega (arith, x, h))

quiet_is : (b : Bool) (q : ℕ) → 0 < (if b then q + 1 else 0) → b ≡ true
quiet_is true q h = refl
quiet_is false q h = absurd (omega (arith, h))

quiet_means : (got : Option (List ℕ)) (stepped : Bool) → (is_none got && not stepped) ≡ true → (got ≡ None)
    × (stepped ≡ false)
quiet_means None true h = absurd (cc h)
quiet_means None false h = (refl, refl)
quiet_means (Some x) s h = absurd (cc h)

quiet_tail-push : {M : Type 0} (m : MachineGhosts M) (state : m.State) (count : ℕ) (journal : List Entry)
    (last : Entry)
    → quiet_tail (steps_of m) state count (journal ++ last ∷ [])
    ≡ (if is_quiet (steps_of m) (replay_state (steps_of m) state journal) last then quiet_tail
    (steps_of m) state count journal + 1 else 0)
quiet_tail-push m state count [] last = refl
quiet_tail-push m state count (e ∷ es) last =
    quiet_tail-push m (m.after state e.thread e.now e.got)
    (if is_quiet (steps_of m) state e then count + 1 else 0) es last

flat_map-push : {A B : Type 0} (f : A → List B) (xs : List A) (last : A)
    → flat_map f (xs ++ last ∷ []) ≡ flat_map f xs ++ f last
flat_map-push f [] last = append-nil (f last)
flat_map-push f (x ∷ xs) last = ap (λ w. f x ++ w) (flat_map-push f xs last)
    ∙ sym (append_assoc (f x) (flat_map f xs) (f last))

-- what has gone on stays so
gone_later : (a b c : Outbox) (bytes gone : List ℕ) → HasGone a b bytes → Appends b.given c.given gone → HasGone a c bytes
gone_later a b c bytes gone h k = (
  h.0 ++ gone,
  subst (Appends a.given c.given) (append_assoc (a.pending ++ bytes) h.0 gone)
      (Appends-trans a.given b.given c.given ((a.pending ++ bytes) ++ h.0) gone h.1 k),
)

-- where all went in and nothing waits, all has gone on
all_gone : (a b : Outbox) (bytes : List ℕ) → Gathers a b bytes → b.pending ≡ [] → HasGone a b bytes
all_gone a b bytes h none = (
  [],
  subst (Appends a.given b.given) (sym (append-nil h.gone) ∙ ap (λ w. h.gone ++ w) (sym none) ∙ sym h.whole
      ∙ sym (append-nil (a.pending ++ bytes))) h.given,
)

-- a prefix of one piece more went in
prefix_more : (a b c : Outbox) (bytes piece : List ℕ) → Gathers a b bytes → GathersPrefix b c piece
    → GathersPrefix a c (bytes ++ piece)
prefix_more a b c bytes piece h k = record {
  rest = k.rest;
  went = record {
    prefix = bytes ++ k.went.prefix;
    whole = ap (λ w. bytes ++ w) k.went.whole ∙ sym (append_assoc bytes k.went.prefix k.rest);
    gathered = gathers_more a b c bytes k.went.prefix h k.went.gathered;
  };
  rose = rose_later a.faults b.faults c.faults h.later k.rose;
}

module _ {M L C K : Type 0} (m : MachineGhosts M) (l : LinkGhosts L) (c : ClockGhosts C) (d : RecorderGhosts K)
    (opening : Opening M L C K) (J : List Entry)
    (old : StationState M L C K) (h : Facts m l c d opening J old) where
  -- an end that isn't the link's or the recorder's is kept
  pub ended_keeps : (end : StationEnd) → old.kept ≡ None → EndIs m l d opening old (Some end) → ¬ IsCut (Some end)
      → Facts m l c d opening J (ended_with old end)
  ended_keeps end begun is other =
      let ok : old.kept ≢ Some LinkFault = λ f. absurd (cc (sym begun ∙ f)) in
      let fine : old.kept ≢ Some WriteFault = λ f. absurd (cc (sym begun ∙ f)) in
      record {
        threads = h.threads;
        patience = h.patience;
        count = h.count;
        within = h.within;
        entries = h.entries;
        written = λ _. h.written fine;
        prefix = λ f. absurd (other (inr f));
        replay = λ state stood. let r = h.replay state stood in let a = r.ahead in record {
          machine = r.machine;
          sent = λ _. r.sent (λ f. elim f [ inl x ↦ ok x | inr x ↦ fine x ]);
          sent_short = λ f. absurd (other f);
          ahead = record {
            written = a.written;
            waits = a.waits;
            whole = a.whole;
            gone = a.gone;
            silent = λ _. a.silent fine;
            sent = λ _. a.sent ok;
          };
          quiet = λ _. r.quiet ok;
          last = λ _ some. r.last ok some;
        };
        received = h.received;
        bound = h.bound;
        faults = h.faults;
        fixed = h.fixed;
        times = h.times;
        asked = h.asked;
        waiting = λ _ some all. h.waiting ok some all;
        end = is;
      }

  module _ (thread : ℕ) (begun : old.kept ≡ None) (below : thread < m.thread_count old.machine)
      (new : StationState M L C K) where
    ok : old.kept ≢ Some LinkFault
    ok = λ f. absurd (cc (sym begun ∙ f))

    fine : old.kept ≢ Some WriteFault
    fine = λ f. absurd (cc (sym begun ∙ f))

    uncut : ¬ IsCut old.kept
    uncut (inl f) = ok f
    uncut (inr f) = fine f

    -- an empty turn
    pub rests_keeps : Rests m l c thread old new → Facts m l c d opening J new
    rests_keeps k =
        let below' : thread < m.thread_count new.machine = omega (arith, below, k.threads) in
        let rested : StationState M L C K = record old {
          machine = new.machine;
          link = new.link;
          clock = new.clock;
          quiet = old.quiet + 1;
          idle = one_more old.idle;
        } in
        subst (Facts m l c d opening J) (sym k.rest)
        (record {
          threads = k.threads ∙ h.threads;
          patience = h.patience;
          count = h.count;
          within = h.within;
          entries = h.entries;
          written = h.written;
          prefix = h.prefix;
          replay = λ state stood. let r = h.replay state stood in let a = r.ahead in record {
            machine = k.stands (replay_state (steps_of m) state J) r.machine;
            sent = λ _. WentOn-along (l.sent opening.link) (l.sent old.link) (l.sent new.link)
                (sent_in (steps_of m) state J) (sent_in (steps_of m) state J) (r.sent uncut) refl k.gives.sent;
            sent_short = λ f. absurd (uncut f);
            ahead = record {
              written = a.written;
              waits = a.waits;
              whole = a.whole;
              gone = a.gone;
              silent = a.silent;
              sent = λ other. WentOn-along (l.sent opening.link) (l.sent old.link) (l.sent new.link)
                  (sent_in (steps_of m) state a.written) (sent_in (steps_of m) state a.written) (a.sent other) refl
                  k.gives.sent;
            };
            quiet = λ _. (let q = r.quiet ok in omega (arith, q, k.small));
            last = λ _ some. inr (thread, below', k.empty (replay_state (steps_of m) state J) r.machine);
          };
          received = WentOn-along (l.received opening.link) (l.received old.link) (l.received new.link) (got_in J)
              (got_in J) h.received refl (k.gives.received
              ∙ sym (WentOn-none (l.received old.link) (l.received old.link) refl));
          bound = k.gives.bound ∙ h.bound;
          faults = omega (arith, h.faults, k.gives.faults);
          fixed = k.asks.fixed ∙ h.fixed;
          times = h.times;
          asked = omega (arith, h.asked, k.asks.asked);
          waiting = λ _ some all. k.gives.none (sym (k.polls thread) ∙ all thread below') refl;
          end = subst (EndIs m l d opening rested) (sym begun) tt;
        })

    -- the link failed as it was asked
    pub fails_keeps : FailsAsked l c old new → Facts m l c d opening J new
    fails_keeps k =
        subst (Facts m l c d opening J) (sym k.rest)
        (record {
          threads = h.threads;
          patience = h.patience;
          count = h.count;
          within = h.within;
          entries = h.entries;
          written = λ _. h.written fine;
          prefix = λ other. absurd (cc other);
          replay = λ state stood. let r = h.replay state stood in let a = r.ahead in record {
            machine = r.machine;
            sent = λ other. absurd (other (inl refl));
            sent_short = λ _. (
              J,
              [],
              length (sent_in (steps_of m) state J),
              sym (append-nil J),
              omega arith,
              omega arith,
              WentOn-along (l.sent opening.link) (l.sent old.link) (l.sent new.link) (sent_in (steps_of m) state J)
                  (take (length (sent_in (steps_of m) state J)) (sent_in (steps_of m) state J)) (r.sent uncut)
                  (take-length (sent_in (steps_of m) state J)) k.gives.sent,
            );
            ahead = record {
              written = a.written;
              waits = a.waits;
              whole = a.whole;
              gone = a.gone;
              silent = λ _. a.silent fine;
              sent = λ other. absurd (other refl);
            };
            quiet = λ other. absurd (other refl);
            last = λ other. absurd (other refl);
          };
          received = k.gives.received ∙ h.received;
          bound = k.gives.bound ∙ h.bound;
          faults = omega (arith, h.faults, k.gives.faults);
          fixed = k.asks.fixed ∙ h.fixed;
          times = h.times;
          asked = omega (arith, h.asked, k.asks.asked);
          waiting = λ other. absurd (other refl);
          end = rose_later (l.faults opening.link) (l.faults old.link) (l.faults new.link) h.faults k.gives.rose;
        })

    module _ (k : KeepsEntry m l c d thread old new) where
      abbrev kept_entry : Entry
      kept_entry = made_entry thread k.now k.got

      abbrev more : List Entry
      more = J ++ kept_entry ∷ []

      -- the station after the turn, field by field
      abbrev kept_station : StationState M L C K
      kept_station = record old {
        machine = new.machine;
        link = new.link;
        clock = new.clock;
        recorder = new.recorder;
        count = old.count + 1;
        quiet = if is_none k.got && not k.told.stepped then old.quiet + 1 else 0;
        kept = new.kept;
      }

      -- the bytes of the journal with the entry went in
      written_more : new.kept ≢ Some WriteFault
          → Gathers (d.outbox opening.recorder) (d.outbox new.recorder) (texts d more)
      written_more other =
          subst (Gathers (d.outbox opening.recorder) (d.outbox new.recorder)) (sym (flat_map-push d.text J kept_entry))
          (gathers_more (d.outbox opening.recorder) (d.outbox old.recorder) (d.outbox new.recorder) (texts d J)
          (d.text kept_entry) (h.written fine) (k.records other).gathered)

      pub prefix_written : new.kept ≡ Some WriteFault
          → GathersPrefix (d.outbox opening.recorder) (d.outbox new.recorder) (texts d more)
      prefix_written is =
          subst (GathersPrefix (d.outbox opening.recorder) (d.outbox new.recorder)) (sym (flat_map-push d.text J kept_entry))
          (prefix_more (d.outbox opening.recorder) (d.outbox old.recorder) (d.outbox new.recorder) (texts d J)
          (d.text kept_entry) (h.written fine) (k.prefix is))

      -- the replay of one entry more
      module _ (state : m.State) (stood : m.stands opening.machine state) where
        r : Replays m l c d opening state J old
        r = h.replay state stood

        abbrev before : m.State
        before = replay_state (steps_of m) state J

        abbrev given : List (ℕ × List ℕ)
        given = given_by (steps_of m) before kept_entry

        told : k.told ≡ m.turned before thread k.now k.got
        told = k.turns.told_is before r.machine

        sends_as : k.told.sends ≡ (m.turned before thread k.now k.got).sends
        sends_as = ap (λ w. w.sends) told

        sent_more : sent_in (steps_of m) state more ≡ sent_in (steps_of m) state J ++ given
        sent_more = sent_in-push (steps_of m) state J kept_entry

        sent_first : WentOn (l.sent old.link) k.given (l.sent new.link)
        sent_first = k.sends.sent ∙ ap (λ w. and_all w k.given) k.gives.sent

        sent_now : WentOn (l.sent opening.link) (sent_in (steps_of m) state J ++ k.given) (l.sent new.link)
        sent_now = WentOn-twice (l.sent opening.link) (l.sent old.link) (l.sent new.link)
            (sent_in (steps_of m) state J) k.given (r.sent uncut) sent_first

        -- all of the turn's datagrams were sent
        sent_all : new.kept ≡ None → WentOn (l.sent opening.link) (sent_in (steps_of m) state more) (l.sent new.link)
        sent_all none =
            let sends : k.count ≡ (m.turned before thread k.now k.got).sends = k.all none ∙ sends_as in
            let all : k.given ≡ given = k.given_is before r.machine
            ∙ take-take k.count (m.turned before thread k.now k.got).sends
            (m.sent (m.after before thread k.now k.got)) (omega (arith, sends))
            ∙ ap (λ n. take n (m.sent (m.after before thread k.now k.got))) sends in
            WentOn-along (l.sent opening.link) (l.sent new.link) (l.sent new.link)
            (sent_in (steps_of m) state J ++ k.given) (sent_in (steps_of m) state more)
            sent_now (sent_more ∙ ap (λ w. sent_in (steps_of m) state J ++ w) (sym all)) refl

        -- none were
        sent_none : k.given ≡ [] → (ds : List (ℕ × List ℕ)) → WentOn (l.sent opening.link) ds (l.sent old.link)
            → WentOn (l.sent opening.link) ds (l.sent new.link)
        sent_none none ds p =
            WentOn-along (l.sent opening.link) (l.sent new.link) (l.sent new.link) (ds ++ k.given) ds
            (WentOn-twice (l.sent opening.link) (l.sent old.link) (l.sent new.link) ds k.given p sent_first)
            (sym (ap (λ w. ds ++ w) none ∙ append-nil ds)) refl

        short_link : new.kept ≡ Some LinkFault → (prefix last : List Entry) × (count : ℕ)
            × (more ≡ prefix ++ last) × (length last ≤ 1)
            × (length (sent_in (steps_of m) state prefix) ≤ count)
            × WentOn (l.sent opening.link) (take count (sent_in (steps_of m) state more)) (l.sent new.link)
        short_link f = (
          J,
          kept_entry ∷ [],
          length (sent_in (steps_of m) state J) + k.count,
          refl,
          omega arith,
          omega arith,
          WentOn-along (l.sent opening.link) (l.sent new.link) (l.sent new.link)
              (sent_in (steps_of m) state J ++ k.given)
              (take (length (sent_in (steps_of m) state J) + k.count) (sent_in (steps_of m) state more))
              sent_now
              (ap (take (length (sent_in (steps_of m) state J) + k.count)) sent_more
              ∙ take_within (sent_in (steps_of m) state J) given k.count
              ∙ ap (λ w. sent_in (steps_of m) state J ++ w) (sym (k.given_is before r.machine)))
              refl,
        )

        short_write : new.kept ≡ Some WriteFault → (prefix last : List Entry) × (count : ℕ)
            × (more ≡ prefix ++ last) × (length last ≤ 1)
            × (length (sent_in (steps_of m) state prefix) ≤ count)
            × WentOn (l.sent opening.link) (take count (sent_in (steps_of m) state more)) (l.sent new.link)
        short_write f = (
          J,
          kept_entry ∷ [],
          length (sent_in (steps_of m) state J) + 0,
          refl,
          omega arith,
          omega arith,
          WentOn-along (l.sent opening.link) (l.sent new.link) (l.sent new.link)
              (sent_in (steps_of m) state J)
              (take (length (sent_in (steps_of m) state J) + 0) (sent_in (steps_of m) state more))
              (sent_none (k.none f) (sent_in (steps_of m) state J) (r.sent uncut))
              (ap (take (length (sent_in (steps_of m) state J) + 0)) sent_more
              ∙ take_within (sent_in (steps_of m) state J) given 0
              ∙ append-nil (sent_in (steps_of m) state J))
              refl,
        )

        -- the entries that had gone on before are still the last that sent something
        ahead_behind : (0 < length r.ahead.written
            → HasGone (d.outbox opening.recorder) (d.outbox new.recorder) (texts d r.ahead.written))
            → (new.kept ≢ Some WriteFault → given ≡ [])
            → (new.kept ≢ Some LinkFault
            → WentOn (l.sent opening.link) (sent_in (steps_of m) state r.ahead.written) (l.sent new.link))
            → Ahead m l d state opening.link new.link opening.recorder new.recorder more new.kept
        ahead_behind gone nothing sent =
            let a = r.ahead in
            record {
              written = a.written;
              waits = a.waits ++ kept_entry ∷ [];
              whole = ap (λ w. w ++ kept_entry ∷ []) a.whole ∙ append_assoc a.written a.waits (kept_entry ∷ []);
              gone = gone;
              silent = λ other. sent_more ∙ ap (λ w. sent_in (steps_of m) state J ++ w) (nothing other)
                  ∙ append-nil (sent_in (steps_of m) state J) ∙ a.silent fine;
              sent = sent;
            }

        -- all have gone on
        ahead_all : new.kept ≢ Some WriteFault → (d.outbox new.recorder).pending ≡ []
            → (new.kept ≢ Some LinkFault → WentOn (l.sent opening.link) (sent_in (steps_of m) state more) (l.sent new.link))
            → Ahead m l d state opening.link new.link opening.recorder new.recorder more new.kept
        ahead_all other none sent = record {
          written = more;
          waits = [];
          whole = sym (append-nil more);
          gone = λ _. all_gone (d.outbox opening.recorder) (d.outbox new.recorder) (texts d more) (written_more other) none;
          silent = λ _. refl;
          sent = sent;
        }

        ahead_fine : (n : ℕ) → n ≡ k.told.sends → new.kept ≢ Some WriteFault
            → (new.kept ≢ Some LinkFault → new.kept ≡ None)
            → Ahead m l d state opening.link new.link opening.recorder new.recorder more new.kept
        ahead_fine zero is other which =
            let nothing : given ≡ [] = ap (λ n. take n (m.sent (m.after before thread k.now k.got)))
            (sym (is ∙ sends_as)) in
            ahead_behind
            (λ some. gone_later (d.outbox opening.recorder) (d.outbox old.recorder) (d.outbox new.recorder)
            (texts d r.ahead.written) (k.records other).gathered.gone (r.ahead.gone some) (k.records other).gathered.given)
            (λ _. nothing)
            (λ ok'. WentOn-along (l.sent opening.link) (l.sent new.link) (l.sent new.link)
            (sent_in (steps_of m) state more) (sent_in (steps_of m) state r.ahead.written) (sent_all (which ok'))
            (sym (sent_more ∙ ap (λ w. sent_in (steps_of m) state J ++ w) nothing
            ∙ append-nil (sent_in (steps_of m) state J) ∙ r.ahead.silent fine)) refl)
        ahead_fine (suc n) is other which =
            ahead_all other ((k.records other).flushed (omega (arith, is))) (λ ok'. sent_all (which ok'))

        ahead_more : (new.kept ≡ None) ⊎ IsCut new.kept
            → Ahead m l d state opening.link new.link opening.recorder new.recorder more new.kept
        ahead_more (inl none) = ahead_fine k.told.sends refl (λ f. absurd (cc (sym none ∙ f))) (λ _. none)
        ahead_more (inr (inl f)) =
            ahead_fine k.told.sends refl (λ w. absurd (cc (sym f ∙ w))) (λ other. absurd (other f))
        ahead_more (inr (inr f)) =
            ahead_behind
            (λ some. gone_later (d.outbox opening.recorder) (d.outbox old.recorder) (d.outbox new.recorder)
            (texts d r.ahead.written) (k.prefix f).went.gathered.gone (r.ahead.gone some) (k.prefix f).went.gathered.given)
            (λ other. absurd (other f))
            (λ _. sent_none (k.none f) (sent_in (steps_of m) state r.ahead.written) (r.ahead.sent ok))

        replays_more : (new.kept ≡ None) ⊎ IsCut new.kept → Replays m l c d opening state more kept_station
        replays_more kept =
            let s = steps_of m in
            let quiet_is' : (is_none k.got && not k.told.stepped)
            ≡ is_quiet s before kept_entry = ap (λ w. is_none k.got && not w.stepped) told in
            let tail = quiet_tail s state 0 J in
            let tail_more : quiet_tail s state 0 more
            ≡ (if is_none k.got && not k.told.stepped then tail + 1 else 0) =
            quiet_tail-push m state 0 J kept_entry ∙ ap (λ (b : Bool). if b then tail + 1 else 0) (sym quiet_is') in
            record {
              machine = subst (m.stands new.machine) (sym (replayed-push s state J kept_entry))
                  (k.turns.stands before r.machine);
              sent = λ other. elim kept [ inl none ↦ sent_all none | inr f ↦ absurd (other f) ];
              sent_short = λ f. elim f [ inl x ↦ short_link x | inr x ↦ short_write x ];
              ahead = ahead_more kept;
              quiet = λ _. quiet_step (is_none k.got && not k.told.stepped) old.quiet tail old.idle kept_station.quiet
                  (quiet_tail s state 0 more) refl tail_more (r.quiet ok);
              last = λ _ some. inl (quiet_last (is_none k.got && not k.told.stepped) old.quiet tail kept_station.quiet
                  (quiet_tail s state 0 more) refl tail_more some);
            }

      -- an entry is kept
      pub keeps_keeps : ¬ IsJournalFull old.count
          → (new.kept ≡ None) ⊎ (((new.kept ≡ Some LinkFault) × Rose (l.faults old.link) (l.faults new.link))
          ⊎ (new.kept ≡ Some WriteFault))
          → Facts m l c d opening more new
      keeps_keeps room kept =
          let longer : length more ≡ length J + 1 = length-append J (kept_entry ∷ []) in
          let before : old.count < entry_limit = lt_of_not-le room in
          let below' : thread < m.thread_count opening.machine = omega (arith, below, h.threads) in
          let which : (new.kept ≡ None) ⊎ IsCut new.kept = elim kept
          [ inl none ↦ inl none | inr f ↦ inr (elim f [ inl x ↦ inl x.0 | inr x ↦ inr x ]) ] in
          subst (Facts m l c d opening more) (sym k.rest)
          (record {
            threads = k.turns.threads ∙ h.threads;
            patience = h.patience;
            count = omega (arith, h.count, longer);
            within = omega (arith, longer, before, h.count);
            entries = All-push (IsEntryWithin (m.thread_count opening.machine)) J kept_entry h.entries
                (below', k.gives.cut);
            written = written_more;
            prefix = prefix_written;
            replay = λ state stood. replays_more state stood which;
            received = WentOn-along (l.received opening.link) (l.received k.between) (l.received new.link)
                (got_in J ++ option_to_list k.got) (got_in (J ++ kept_entry ∷ []))
                (WentOn-twice (l.received opening.link) (l.received old.link) (l.received k.between) (got_in J)
                (option_to_list k.got) h.received k.gives.received) (got_in-push J kept_entry) k.sends.received;
            bound = k.sends.bound ∙ k.gives.bound ∙ h.bound;
            faults = omega (arith, h.faults, k.gives.faults, k.sends.faults);
            fixed = k.asks.fixed ∙ h.fixed;
            times = λ v p. All-push (λ (x : Entry). x.now ≡ v) J kept_entry (h.times v p)
                (sym k.said ∙ k.asks.time v (h.fixed ∙ p));
            asked = omega (arith, h.asked, k.asks.asked, longer);
            waiting = λ _ some all.
                let means = quiet_means k.got k.told.stepped
                (quiet_is (is_none k.got && not k.told.stepped) old.quiet some) in
                let polled : m.polls_at old.machine thread ≡ true = sym (k.turns.polls means.1 thread)
                ∙ all thread (omega (arith, below, k.turns.threads)) in
                subst IsEmptyWhereTold (sym k.sends.waiting) (k.gives.none polled means.0);
            end = elim kept [
              | inl none ↦ subst (EndIs m l d opening kept_station) (sym none) tt
              | inr f ↦ elim f [
                | inl x ↦ subst (EndIs m l d opening kept_station) (sym x.0)
                    (rose_later (l.faults opening.link) (l.faults old.link) (l.faults new.link) h.faults x.1)
                | inr x ↦ subst (EndIs m l d opening kept_station) (sym x) (prefix_written x).rose
              ]
            ];
          })

      appended : AppendsAtMostOne thread J more
      appended = inr (k.now, k.got, refl)

    -- a turn that is begun
    pub goes_keeps : (result : TurnAnswer) → ¬ IsJournalFull old.count
        → GoesTurn m l c d (record { thread = thread; before = old; end = result; after = new })
        → KeepsFacts m l c d opening thread J new
    goes_keeps Went room k = (more k.0, appended k.0, keeps_keeps k.0 room (inl k.1))
    goes_keeps Idle room k = (J, inl refl, rests_keeps k)
    goes_keeps (Ended LinkFault) room k = elim k [
      | inl f ↦ (J, inl refl, fails_keeps f)
      | inr f ↦ (more f.0, appended f.0, keeps_keeps f.0 room (inr (inl (f.1, f.2))))
    ]
    goes_keeps (Ended WriteFault) room k = (more k.0, appended k.0, keeps_keeps k.0 room (inr (inr k.1)))
    goes_keeps (Ended Over) room k = absurd k
    goes_keeps (Ended Stuck) room k = absurd k
    goes_keeps (Ended JournalFull) room k = absurd k
    goes_keeps (Ended NoMemory) room k = (
      J,
      inl refl,
      subst (Facts m l c d opening J) (sym k)
          (ended_keeps NoMemory begun tt (λ f. elim f [ inl x ↦ absurd (cc x) | inr x ↦ absurd (cc x) ])),
    )

-- a turn that is begun counts at most one entry more
pub goes_counts : {M L C K : Type 0} (m : MachineGhosts M) (l : LinkGhosts L) (c : ClockGhosts C) (d : RecorderGhosts K)
    (thread : ℕ) (old new : StationState M L C K) (result : TurnAnswer)
    → GoesTurn m l c d (record { thread = thread; before = old; end = result; after = new })
    → CountsAtMostOne old.count new.count
goes_counts m l c d thread old new Went k = inr (ap (λ b. b.count) k.0.rest)
goes_counts m l c d thread old new Idle k = inl (ap (λ b. b.count) k.rest)
goes_counts m l c d thread old new (Ended LinkFault) k = elim k
    [ inl f ↦ inl (ap (λ b. b.count) f.rest) | inr f ↦ inr (ap (λ b. b.count) f.0.rest) ]
goes_counts m l c d thread old new (Ended WriteFault) k = inr (ap (λ b. b.count) k.0.rest)
goes_counts m l c d thread old new (Ended Over) k = absurd k
goes_counts m l c d thread old new (Ended Stuck) k = absurd k
goes_counts m l c d thread old new (Ended JournalFull) k = absurd k
goes_counts m l c d thread old new (Ended NoMemory) k = inl (ap (λ b. b.count) k)

-- and the machine's threads
pub goes_threads : {M L C K : Type 0} (m : MachineGhosts M) (l : LinkGhosts L) (c : ClockGhosts C)
    (d : RecorderGhosts K) (thread : ℕ) (old new : StationState M L C K) (result : TurnAnswer)
    → GoesTurn m l c d (record { thread = thread; before = old; end = result; after = new })
    → m.thread_count new.machine ≡ m.thread_count old.machine
goes_threads m l c d thread old new Went k = k.0.turns.threads
goes_threads m l c d thread old new Idle k = k.threads
goes_threads m l c d thread old new (Ended LinkFault) k = elim k
    [ inl f ↦ ap (λ b. m.thread_count b.machine) f.rest | inr f ↦ f.0.turns.threads ]
goes_threads m l c d thread old new (Ended WriteFault) k = k.0.turns.threads
goes_threads m l c d thread old new (Ended Over) k = absurd k
goes_threads m l c d thread old new (Ended Stuck) k = absurd k
goes_threads m l c d thread old new (Ended JournalFull) k = absurd k
goes_threads m l c d thread old new (Ended NoMemory) k = ap (λ b. m.thread_count b.machine) k

-- a station that was just made
pub opened_facts : {M L C K : Type 0} (m : MachineGhosts M) (l : LinkGhosts L) (c : ClockGhosts C)
    (d : RecorderGhosts K) (opening : Opening M L C K) → Facts m l c d opening [] (new_station opening)
opened_facts m l c d opening = record {
  threads = refl;
  patience = refl;
  count = refl;
  within = omega arith;
  entries = All-nil (IsEntryWithin (m.thread_count opening.machine));
  written = λ _. gathers_none (d.outbox opening.recorder);
  prefix = λ f. absurd (cc f);
  replay = λ state stood. record {
    machine = stood;
    sent = λ _. WentOn-none (l.sent opening.link) (l.sent opening.link) refl;
    sent_short = λ f. elim f [ inl x ↦ absurd (cc x) | inr x ↦ absurd (cc x) ];
    ahead = record {
      written = [];
      waits = [];
      whole = refl;
      gone = λ some. absurd (omega (arith, some));
      silent = λ _. refl;
      sent = λ _. WentOn-none (l.sent opening.link) (l.sent opening.link) refl;
    };
    quiet = λ _. omega arith;
    last = λ _ some. absurd (omega (arith, some));
  };
  received = WentOn-none (l.received opening.link) (l.received opening.link) refl;
  bound = refl;
  faults = omega arith;
  fixed = refl;
  times = λ v p. All-nil (λ (x : Entry). x.now ≡ v);
  asked = omega arith;
  waiting = λ _ some. absurd (omega (arith, some));
  end = tt;
}

module _ {M L C K : Type 0} (m : MachineGhosts M) (l : LinkGhosts L) (c : ClockGhosts C) (d : RecorderGhosts K)
    (station : StationState M L C K) where
  pub opened_count : (o : Option (Opening M L C K)) → IsSomeAnd o (λ x. station ≡ new_station x) → station.count ≡ 0
  opened_count None h = absurd h
  opened_count (Some x) h = ap (λ b. b.count) h

  pub opened_has : (o : Option (Opening M L C K)) → IsSomeAnd o (λ x. station ≡ new_station x) → (x : Opening M L C K)
      → o ≡ Some x → HasFacts m l c d x station
  opened_has o h x e = (
    [],
    subst (Facts m l c d x []) (sym (subst (λ o'. IsSomeAnd o' (λ y. station ≡ new_station y)) e h)) (opened_facts m l c d x),
  )
