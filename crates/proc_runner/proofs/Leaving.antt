-- The facts of a station, read once its threads have ended.
use Rattle.std.proofs.Common.{◌≡◌, ◌≢◌, List, ℕ, ◌+◌, ◌≤◌, ◌<◌, Option, Some, None, sym, ap, ◌∙◌, arith, subst, inl}
use Rattle.std.proofs.Common.{inr, length}
use Rattle.std.specs.Prelude.{◌⊎◌, min, unwrap_or}
use Rattle.std.proofs.lemmas.Bool.Decides.{leb_tells}
use Rattle.base_io.specs.declared.link.Link.{Ghosts as LinkGhosts}
use Rattle.base_io.specs.declared.clock.Clock.{Ghosts as ClockGhosts}
use Rattle.base_turns.specs.declared.turns.Machine.{Ghosts as MachineGhosts}
use Rattle.base_turns.specs.Replay.{steps_of, quiet_tail}
use Rattle.proc_runner.specs.declared.ends.StationEnd.{StationEnd}
use Rattle.proc_runner.specs.declared.ends.StationEnd.TheVariants.{Over, Stuck, LinkFault, WriteFault, JournalFull, NoMemory}
use Rattle.base_turns.specs.declared.entry.Entry.{Entry}
use Rattle.proc_runner.specs.declared.recorder.Recorder.{Ghosts as RecorderGhosts}
use Rattle.proc_runner.specs.StationState.{StationState, Opening}
use Rattle.proc_runner.specs.Facts.{last_count, EndIs, Facts, IsCut, IsJournalFull}
use Rattle.proc_runner.specs.Leaving.{IsSpent, IsShort, LeavesReplay, StationLeaves, left_by_station}

-- what an end that is no want of memory says of the kept one
kept_is : (kept : Option StationEnd) (end : StationEnd) → unwrap_or kept NoMemory ≡ end → end ≢ NoMemory → kept ≡ Some end
kept_is None end is other = absurd (other (sym is))
kept_is (Some x) end is other = ap Some is

asked_enough : (patience entries asked tail idle now : ℕ) → patience ≤ tail + idle
    → min (asked + (entries + idle)) last_count ≤ now
    → (patience + (entries + asked) ≤ tail + now) ⊎ (last_count ≤ now)
asked_enough patience entries asked tail idle now h k =
    elim (leb_tells last_count now) [ inl top ↦ inr top.1 | inr below ↦ inl (omega (arith, h, k, below.1)) ]

module _ {M L C K : Type 0} (m : MachineGhosts M) (l : LinkGhosts L) (c : ClockGhosts C) (d : RecorderGhosts K)
    (opening : Opening M L C K) (journal : List Entry)
    (station : StationState M L C K) (h : Facts m l c d opening journal station) (some : 1 ≤ opening.patience) where
  -- the kept end, by the end that is told
  is_kept : (end : StationEnd) → (left_by_station station).end ≡ end → end ≢ NoMemory → station.kept ≡ Some end
  is_kept end is other = kept_is station.kept end is other

  cause : (end : StationEnd) → (left_by_station station).end ≡ end → end ≢ NoMemory → EndIs m l d opening station (Some end)
  cause end is other = subst (EndIs m l d opening station) (is_kept end is other) h.end

  -- patience was spent, and no fault is kept
  spent : IsSpent (left_by_station station).end → (station.quiet ≡ station.patience) × (station.kept ≢ Some LinkFault)
  spent (inl over) = (
    (cause Over over (λ e. absurd (cc e))).0,
    λ f. absurd
        (cc (sym (is_kept Over over (λ e. absurd (cc e))) ∙ f)),
  )
  spent (inr stuck) = (
    (cause Stuck stuck (λ e. absurd (cc e))).0,
    λ f. absurd
        (cc (sym (is_kept Stuck stuck (λ e. absurd (cc e))) ∙ f)),
  )

  quiet : IsSpent (left_by_station station).end → 0 < station.quiet
  quiet is = let s = (spent is).0 in omega (arith, s, h.patience, some)

  told : (end : StationEnd) → station.kept ≡ Some end → (left_by_station station).end ≡ end
  told end is = ap (λ k. unwrap_or k NoMemory) is

  is_cut : IsShort (left_by_station station).end → IsCut station.kept
  is_cut (inl f) = inl (is_kept LinkFault f (λ e. absurd (cc e)))
  is_cut (inr f) = inr (is_kept WriteFault f (λ e. absurd (cc e)))

  is_short : IsCut station.kept → IsShort (left_by_station station).end
  is_short (inl f) = inl (told LinkFault f)
  is_short (inr f) = inr (told WriteFault f)

  leaves_replay : (state : m.State) → m.stands opening.machine state
      → LeavesReplay m l c d opening state journal (left_by_station station)
  leaves_replay state stood =
      let r = h.replay state stood in
      let a = r.ahead in
      record {
        machine = r.machine;
        sent = λ other. r.sent (λ f. other (is_short f));
        sent_short = λ f. r.sent_short (is_cut f);
        ahead = record {
          written = a.written;
          waits = a.waits;
          whole = a.whole;
          gone = a.gone;
          silent = λ other. a.silent (λ f. other (ap Some (told WriteFault f)));
          sent = λ other. a.sent (λ f. other (ap Some (told LinkFault f)));
        };
        spent = λ is. asked_enough opening.patience (length journal) (c.asked opening.clock)
            (quiet_tail (steps_of m) state 0 journal) station.idle (c.asked station.clock)
            (let q = r.quiet (spent is).1 in let s = (spent is).0 in omega (arith, q, s, h.patience)) h.asked;
        last = λ is. r.last (spent is).1 (quiet is);
      }

  pub leaves : StationLeaves m l c d opening (left_by_station station)
  leaves = record {
    journal = journal;
    threads = h.threads;
    within = h.within;
    entries = h.entries;
    written = λ other. h.written (λ f. other (told WriteFault f));
    prefix = λ is. h.prefix (is_kept WriteFault is (λ e. absurd (cc e)));
    replay = leaves_replay;
    received = h.received;
    bound = h.bound;
    times = h.times;
    over = λ is. (cause Over is (λ e. absurd (cc e))).1;
    stuck = λ is. (cause Stuck is (λ e. absurd (cc e))).1;
    waiting = λ is. h.waiting (spent is).1 (quiet is);
    fault = λ is. cause LinkFault is (λ e. absurd (cc e));
    full = λ is. subst IsJournalFull h.count (cause JournalFull is (λ e. absurd (cc e)));
  }
