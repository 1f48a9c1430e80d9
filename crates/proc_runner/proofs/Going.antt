-- A turn that kept an entry, put together.
use Rattle.std.proofs.Common.{◌≡◌, ◌≢◌, ℕ, ◌+◌, ◌<◌, ◌≤◌, Bool, true, false, not, ◌&&◌, List, []}
use Rattle.std.proofs.Common.{Option, Some, None, is_none, take, refl, sym, ap, ◌∙◌, arith, subst, inr}
use Rattle.std.specs.Prelude.{if◌then◌else◌, ◌⊎◌}
use Rattle.std.proofs.lemmas.List.{take-take}
use Rattle.base_io.specs.declared.link.Link.{Ghosts as LinkGhosts}
use Rattle.base_io.specs.declared.clock.Clock.{Ghosts as ClockGhosts}
use Rattle.base_turns.specs.declared.entry.Entry.{Entry}
use Rattle.base_turns.specs.declared.turns.Turned.{Turned}
use Rattle.base_turns.specs.declared.turns.Machine.{Ghosts as MachineGhosts}
use Rattle.base_turns.specs.Replay.{steps_of, after_entry, given_by}
use Rattle.proc_runner.specs.declared.ends.StationEnd.{StationEnd}
use Rattle.proc_runner.specs.declared.ends.TurnAnswer.{TurnAnswer}
use Rattle.proc_runner.specs.declared.ends.StationEnd.TheVariants.{Over, Stuck, LinkFault, WriteFault, JournalFull, NoMemory}
use Rattle.proc_runner.specs.declared.ends.TurnAnswer.TheVariants.{Went, Idle, Ended}
use Rattle.proc_runner.specs.declared.recorder.Recorder.{Ghosts as RecorderGhosts}
use Rattle.base_io.specs.Buffered.{GathersPrefix}
use Rattle.proc_runner.specs.StationState.{StationState}
use Rattle.proc_runner.specs.Turns.{Asks, GivesDatagram, Sends, Turns, KeepsEntry, GoesTurn, Finishes, AreOutgoing}
use Rattle.proc_runner.specs.Turns.{made_entry}
use Rattle.proc_runner.specs.Turns.{Records}
use Rattle.proc_runner.proofs.Sending.{sends_nothing}
use Rattle.base_io.proofs.Outboxes.{rose_later}

-- what is known before the datagrams are sent
pub record Before {M L C K : Type 0} (m : MachineGhosts M) (l : LinkGhosts L) (c : ClockGhosts C) (thread : ℕ)
    (old : StationState M L C K)
    (now : ℕ) (got : Option (List ℕ)) (told : Turned) (middle : StationState M L C K) : Type 0 where
  pub asks : Asks c old.clock middle.clock
  pub said : c.said middle.clock ≡ now
  pub gives : GivesDatagram l (m.polls_at old.machine thread) got old.link middle.link
  pub whether : (got ≢ None) ⊎ (told.changed ≡ true)
  pub turns : Turns m (made_entry thread now got) told old.machine middle.machine
  pub begun : old.kept ≡ None
  pub rest : middle ≡ record old {
    machine = middle.machine;
    link = middle.link;
    clock = middle.clock;
    quiet = if is_none got && not told.stepped then old.quiet + 1 else 0;
  }

module _ {M L C K : Type 0} (m : MachineGhosts M) (l : LinkGhosts L) (c : ClockGhosts C) (d : RecorderGhosts K) (thread : ℕ)
    (old : StationState M L C K)
    (now : ℕ) (got : Option (List ℕ)) (told : Turned) (middle : StationState M L C K)
    (b : Before m l c thread old now got told middle) where
  -- what is outgoing is what the turn gave
  given_is : (count : ℕ) (given : List (ℕ × List ℕ)) → count ≤ told.sends → AreOutgoing m middle.machine count given
      → (state : m.State) → m.stands old.machine state
      → given ≡ take count (given_by (steps_of m) state (made_entry thread now got))
  given_is count given within outgoing state stood =
      let sends : told.sends ≡ (m.turned state thread now got).sends = ap (λ w. w.sends)
      (b.turns.told_is state stood) in
      let after = after_entry (steps_of m) state (made_entry thread now got) in
      outgoing after (b.turns.stands state stood) ∙ sym
      (take-take count (m.turned state thread now got).sends (m.sent after) (omega (arith, within, sends)))

  abbrev kept_entry : Entry
  kept_entry = made_entry thread now got

  same : middle.recorder ≡ old.recorder
  same = ap (λ w. w.recorder) b.rest

  keeps_at : (count : ℕ) (given : List (ℕ × List ℕ)) (link' : L) (recorder' : K) (kept' : Option StationEnd)
      → count ≤ told.sends → AreOutgoing m middle.machine count given → Sends l given middle.link link'
      → (kept' ≡ None → count ≡ told.sends) → (kept' ≡ Some LinkFault → count < told.sends)
      → (kept' ≡ Some WriteFault → given ≡ [])
      → (kept' ≢ Some WriteFault → Records d kept_entry told.sends middle.recorder recorder')
      → (kept' ≡ Some WriteFault
      → GathersPrefix (d.outbox middle.recorder) (d.outbox recorder') (d.text kept_entry))
      → KeepsEntry m l c d thread old
      (record middle { link = link'; recorder = recorder'; count = middle.count + 1; kept = kept' })
  keeps_at count given link' recorder' kept' within outgoing sends all short none records prefix = record {
    now = now;
    got = got;
    told = told;
    between = middle.link;
    count = count;
    given = given;
    asks = b.asks;
    said = b.said;
    gives = b.gives;
    whether = b.whether;
    turns = b.turns;
    records = λ other. subst (λ r. Records d kept_entry told.sends r recorder') same (records other);
    prefix = λ is. subst (λ r. GathersPrefix (d.outbox r) (d.outbox recorder') (d.text kept_entry)) same (prefix is);
    sends = sends;
    given_is = given_is count given within outgoing;
    all = all;
    short = short;
    none = none;
    rest = ap {A = StationState M L C K}
        (λ w. record w { link = link'; recorder = recorder'; count = w.count + 1; kept = kept' }) b.rest;
  }

  pub goes : (result : TurnAnswer) (new : StationState M L C K)
      → Finishes m l d kept_entry (record { sends = told.sends; before = middle; end = result; after = new })
      → GoesTurn m l c d (record { thread = thread; before = old; end = result; after = new })
  goes Went new f =
      let none : middle.kept ≡ None = ap (λ w. w.kept) b.rest ∙ b.begun in
      let s = f.1 in
      let new' : new ≡ record middle { link = new.link; recorder = new.recorder; count = middle.count + 1; kept = None } =
      s.1 ∙ ap (λ k. record middle { link = new.link; recorder = new.recorder; count = middle.count + 1; kept = k }) none in
      subst (λ w. GoesTurn m l c d (record { thread = thread; before = old; end = Went; after = w })) (sym new') (
        keeps_at told.sends s.0.0 new.link new.recorder None (omega arith) s.0.1 s.0.2 (λ _. refl)
            (λ some. absurd (cc some)) (λ some. absurd (cc some)) (λ _. f.0) (λ some. absurd (cc some)),
        refl,
      )
  goes Idle new f = absurd f
  goes (Ended LinkFault) new f =
      let s = f.1 in
      let rose = rose_later (l.faults old.link) (l.faults middle.link) (l.faults new.link) b.gives.faults s.0.5 in
      subst (λ w. GoesTurn m l c d (record { thread = thread; before = old; end = Ended LinkFault; after = w }))
      (sym s.1)
      (inr (
        keeps_at s.0.1 s.0.0 new.link new.recorder (Some LinkFault) (let below = s.0.2 in omega (arith, below)) s.0.3
            s.0.4 (λ none. absurd (cc none)) (λ _. s.0.2) (λ other. absurd (cc other)) (λ _. f.0)
            (λ other. absurd (cc other)),
        refl,
        rose,
      ))
  goes (Ended WriteFault) new f =
      subst (λ w. GoesTurn m l c d (record { thread = thread; before = old; end = Ended WriteFault; after = w }))
      (sym f.1) (
        keeps_at 0 [] middle.link new.recorder (Some WriteFault) (omega arith) (λ state stood. refl) (sends_nothing l middle.link)
            (λ none. absurd (cc none)) (λ other. absurd (cc other)) (λ _. refl) (λ other. absurd (other refl))
            (λ _. f.0),
        refl,
      )
  goes (Ended Over) new f = absurd f
  goes (Ended Stuck) new f = absurd f
  goes (Ended JournalFull) new f = absurd f
  goes (Ended NoMemory) new f = absurd f

  -- the same of an entry that is this one
  pub goes_of : (entry : Entry) → entry ≡ kept_entry → (result : TurnAnswer) (new : StationState M L C K)
      → Finishes m l d entry (record { sends = told.sends; before = middle; end = result; after = new })
      → GoesTurn m l c d (record { thread = thread; before = old; end = result; after = new })
  goes_of entry same result new f = goes result new (subst
      (λ e. Finishes m l d e (record { sends = told.sends; before = middle; end = result; after = new })) same f)

-- the quiet turns after a turn that got nothing
pub quiet_if : (b : Bool) (n : ℕ) → (if b then 0 else n + 1) ≡ (if not b then n + 1 else 0)
quiet_if true n = refl
quiet_if false n = refl
