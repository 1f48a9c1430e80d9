-- What a run leaves, by what its link told as sent since the run began.
use Rattle.std.proofs.Common.{◌≡◌, ℕ, List, [], ◌++◌, append-nil, drop, length, Option, Some, refl, sym, ap, ◌∙◌}
use Rattle.std.proofs.Common.{subst, inl, inr}
use Rattle.std.specs.Prelude.{option_map, ◌⊎◌}
use lib.Seq.{drop_at}
use Rattle.base_io.specs.Told.{and_all}
use Rattle.base_io.specs.declared.link.Link.{Ghosts as LinkGhosts}
use Rattle.base_io.specs.declared.clock.Clock.{Ghosts as ClockGhosts}
use Rattle.base_io.proofs.SievePlans.{and_all-nil}
use Rattle.base_turns.specs.declared.entry.Entry.{Entry}
use Rattle.base_turns.specs.declared.turns.Machine.{Ghosts as MachineGhosts}
use Rattle.proc_runner.specs.declared.ends.StationEnd.{StationEnd}
use Rattle.proc_runner.specs.declared.ends.StationEnd.TheVariants.{Over, Stuck, LinkFault, WriteFault, JournalFull, NoMemory}
use Rattle.proc_runner.specs.declared.ends.EndedStation.{EndedStation}
use Rattle.proc_runner.specs.declared.recorder.Recorder.{Ghosts as RecorderGhosts}
use Rattle.proc_runner.specs.Facts.{Ahead, SentShort, WentOn}
use Rattle.proc_runner.specs.Leaving.{IsShort, StationLeaves, LeavesReplay}
use Rattle.proc_runner.specs.StationState.{Opening}
use Rattle.proc_station.specs.declared.node.Node.{Node}
use Rattle.proc_station.specs.NodeRuns.{IsUnbound, RunsBound, RunsOver, opening_over}
use Rattle.proc_node.specs.Sieved.{Datagrams}

-- the same, but for what was told as sent before the run
abbrev pub since : {L : Type 0} → Datagrams → LinkGhosts L → LinkGhosts L
since told l = record l { sent = λ link. option_map (drop (length told)) (l.sent link) }

skip_went : (told more : Datagrams) (before now : Option Datagrams) → before ≡ Some told → WentOn before more now
    → WentOn (option_map (drop (length told)) before) more (option_map (drop (length told)) now)
skip_went told more before now was went =
    let skip = option_map (drop (length told)) in
    let none : drop (length told) told ≡ [] =
    ap (drop (length told)) (sym (append-nil told)) ∙ drop_at told [] (length told) refl in
    let skipped : skip now ≡ Some more =
    ap skip (went ∙ ap (λ b. and_all b more) was) ∙ ap Some (drop_at told more (length told) refl) in
    skipped ∙ sym (ap (λ b. and_all (skip b) more) was ∙ ap (λ list. Some (list ++ more)) none)

module _ {M L C D : Type 0} (m : MachineGhosts M) (l : LinkGhosts L) (c : ClockGhosts C) (d : RecorderGhosts D)
    (told : Datagrams) where
  skip_short : (state : m.State) (first : L) (journal : List Entry) (link : L) → l.sent first ≡ Some told
      → SentShort m l state first journal link → SentShort m (since told l) state first journal link
  skip_short state first journal link was h =
      (h.0, h.1, h.2, h.3, h.4, h.5, skip_went told _ (l.sent first) (l.sent link) was h.6)

  skip_replay : (opening : Opening M L C D) (state : m.State) (journal : List Entry) (left : EndedStation M L C D)
      → l.sent opening.link ≡ Some told → LeavesReplay m l c d opening state journal left
      → LeavesReplay m (since told l) c d opening state journal left
  skip_replay opening state journal left was h = record {
    machine = h.machine;
    sent = λ long. skip_went told _ (l.sent opening.link) (l.sent left.link) was (h.sent long);
    sent_short = λ short. skip_short state opening.link journal left.link was (h.sent_short short);
    ahead = record {
      written = h.ahead.written;
      waits = h.ahead.waits;
      whole = h.ahead.whole;
      gone = h.ahead.gone;
      silent = h.ahead.silent;
      sent = λ some. skip_went told _ (l.sent opening.link) (l.sent left.link) was (h.ahead.sent some);
    };
    spent = h.spent;
    last = h.last;
  }

  abbrev skip_leaves : (opening : Opening M L C D) (left : EndedStation M L C D) → l.sent opening.link ≡ Some told
      → StationLeaves m l c d opening left → StationLeaves m (since told l) c d opening left
  skip_leaves opening left was h = record {
    journal = h.journal;
    threads = h.threads;
    within = h.within;
    entries = h.entries;
    written = h.written;
    prefix = h.prefix;
    replay = λ state stood. skip_replay opening state h.journal left was (h.replay state stood);
    received = h.received;
    bound = h.bound;
    times = h.times;
    over = h.over;
    stuck = h.stuck;
    waiting = h.waiting;
    fault = h.fault;
    full = h.full;
  }

  abbrev skip_bound : (node : Node M L C) (opened : D) (left : EndedStation M L C D) → l.sent node.link ≡ Some told
      → RunsBound m l c d node opened left → RunsBound m (since told l) c d node opened left
  skip_bound node opened left was h = record {
    link = h.link;
    bound = h.bound;
    same = record {
      sent = ap (option_map (drop (length told))) h.same.sent;
      received = h.same.received;
      waiting = h.same.waiting;
    };
    later = h.later;
    leaves = skip_leaves (opening_over h.link opened node) left (h.same.sent ∙ was) h.leaves;
  }

  skip_unbound : (node : Node M L C) (opened : D) (left : EndedStation M L C D) → IsUnbound l node opened left
      → IsUnbound (since told l) node opened left
  skip_unbound node opened left h = record {
    bound = h.bound;
    same = record {
      sent = ap (option_map (drop (length told))) h.same.sent;
      received = h.same.received;
      waiting = h.same.waiting;
    };
    rose = h.rose;
    left_is = h.left_is;
  }

  -- the run, by what was told since it began
  pub skip_runs : (node : Node M L C) (opened : D) (journal : List Entry) (left : EndedStation M L C D)
      → l.sent node.link ≡ Some told → RunsOver m l c d node opened journal left
      → RunsOver m (since told l) c d node opened journal left
  skip_runs node opened journal left was (inl bound) = inl (skip_bound node opened left was bound.0, bound.1)
  skip_runs node opened journal left was (inr unbound) = inr (skip_unbound node opened left unbound.0, unbound.1)

  -- ---- what was sent in it

  short_or_long : (end : StationEnd) → IsShort end ⊎ (IsShort end → ⊥)
  short_or_long LinkFault = inl (inl refl)
  short_or_long WriteFault = inl (inr refl)
  short_or_long Over = inr (λ short. elim short [ inl e ↦ absurd (cc e) | inr e ↦ absurd (cc e) ])
  short_or_long Stuck = inr (λ short. elim short [ inl e ↦ absurd (cc e) | inr e ↦ absurd (cc e) ])
  short_or_long JournalFull = inr (λ short. elim short [ inl e ↦ absurd (cc e) | inr e ↦ absurd (cc e) ])
  short_or_long NoMemory = inr (λ short. elim short [ inl e ↦ absurd (cc e) | inr e ↦ absurd (cc e) ])

  abbrev WentOnBySome : Option Datagrams → Option Datagrams → Type 0
  WentOnBySome before now = (more : Datagrams) × WentOn before more now

  replay_went : (opening : Opening M L C D) (state : m.State) (journal : List Entry) (left : EndedStation M L C D)
      → IsShort left.end ⊎ (IsShort left.end → ⊥) → LeavesReplay m l c d opening state journal left
      → WentOnBySome (l.sent opening.link) (l.sent left.link)
  replay_went opening state journal left (inl short) h = let some = h.sent_short short in (_, some.6)
  replay_went opening state journal left (inr long) h = (_, h.sent long)

  -- the link went on by some datagrams
  pub runs_went : (node : Node M L C) (opened : D) (journal : List Entry) (left : EndedStation M L C D) (state : m.State)
      → m.stands node.machine state → RunsOver m l c d node opened journal left
      → WentOnBySome (l.sent node.link) (l.sent left.link)
  runs_went node opened journal left state stood (inl bound) =
      let ran = bound.0 in
      subst (λ sent. WentOnBySome sent (l.sent left.link)) ran.same.sent
      (replay_went (opening_over ran.link opened node) state ran.leaves.journal left (short_or_long left.end)
      (ran.leaves.replay state stood))
  runs_went node opened journal left state stood (inr unbound) =
      ([], unbound.0.same.sent ∙ sym (and_all-nil (l.sent node.link)))
