-- The command `node`.
use Rattle.std.proofs.Common.{◌≡◌, ◌⊎◌, ℕ, List, [], ◌∷◌, Bool, true, false, Option, Some, refl, sym}
use Rattle.std.proofs.Common.{ap, subst, inl, inr, lit<, ◌∙◌, true≢false}
use Rattle.std.specs.List.{Contains}
use Rattle.base_io.specs.Buffered.{Outbox, GathersPrefix}
use Rattle.base_io.specs.Faults.{Rose}
use Rattle.base_io.proofs.Outboxes.{gathers_first, rose_later}
use Rattle.base_turns.specs.declared.entry.Entry.{Entry}
use Rattle.base_text.specs.LineTexts.{Line, spell, line_text}
use Rattle.node_endpoint.specs.EndpointState.{EndpointState}
use Rattle.text_job.specs.declared.job.Job.{Job as JobState}
use Rattle.proc_runner.specs.declared.ends.StationEnd.{StationEnd}
use Rattle.proc_runner.specs.declared.ends.StationEnd.TheVariants as stations
use Rattle.proc_node.specs.NodeLeaves.{has_noted, node_lines, node_open, post_of, record_after}
use Rattle.proc_node.specs.NodeEnds.{EndsAt, EndsCut, EndsOpen, EndsUnmade, EndsUnopened, RunsTo}
use Rattle.proc_node.specs.NodeEnds.{EndsNode as NodeEndsSo}
use Rattle.sim_drill.proofs.LinesWritten.{one_more}
use Rattle.cli_commands.specs.Outsides.{Call, Course, Input, course_in, took_in}
use Rattle.cli_commands.specs.Commands.{code_of, end_of, status_line}
use Rattle.cli_commands.specs.HowEnds.{After, EndMeans, gives, node_given, nothing, said_last, claims_nothing}
use Rattle.cli_commands.specs.JobReads.{GivesJob, ReadsJob}
use Rattle.cli_commands.specs.NodeCommand.{HoldsNode, LosesLink, NodeCompletes, NodeEnds, NodeMeans, has_node_place}
use Rattle.cli_commands.specs.NodeCommand.{RunsNode, StopsAt}
use Rattle.cli_commands.specs.TopParts.{EndsBy, SaysEnd, SaysNode, cut_short}
use Rattle.cli_commands.specs.declared.ending.CommandEnd.{CommandEnd}
use Rattle.cli_commands.specs.declared.ending.CommandEnd.TheVariants as ends
use Rattle.cli_commands.specs.declared.ending.EndedCommand.{EndedCommand}
use Rattle.cli_commands.specs.declared.ending.Given.{Given}
use Rattle.cli_commands.proofs.LastLine.{IsSaid, Weakens, alone, says_alone, says_last, weak_alone}
use Rattle.cli_commands.proofs.JobRead.{MayReadNone, one_job, was_no_job}
use Rattle.cli_commands.proofs.RunTold.{end_said}
use Rattle.cli_commands.proofs.Statuses.{code_means}

abbrev weak_runs : (rank port : ℕ) (course : Course) (station : StationEnd) (end : CommandEnd) (given : Given) (said : List ℕ)
    → RunsNode rank port course station end (gives given) said → RunsNode rank port course station end claims_nothing said
weak_runs rank port course station end given said h = record {
  job = h.job;
  read = h.read;
  place = h.place;
  run = h.run;
  said_is = h.said_is;
  node_after = tt;
}

pub weak_node : (rank port : ℕ) (course : Course) → Weakens (NodeEnds rank port course)
weak_node rank port course ends.Done given said h = record {
  runs = weak_runs rank port course stations.Over (end_of false) given said h.runs;
  violated_is = h.violated_is;
}
weak_node rank port course ends.Violations given said h = record {
  runs = weak_runs rank port course stations.Over (end_of true) given said h.runs;
  violated_is = h.violated_is;
}
weak_node rank port course ends.Usage given said h = record {
  job = h.job;
  read = h.read;
  no_place = h.no_place;
  alone = weak_alone ends.Usage given said h.alone;
}
weak_node rank port course (ends.BadJob line reason) given said h =
    record { read = h.read; alone = weak_alone (ends.BadJob line reason) given said h.alone }
weak_node rank port course ends.ReadFault given said h =
    record { rose = h.rose; alone = weak_alone ends.ReadFault given said h.alone }
weak_node rank port course ends.WriteFault given said h = h
weak_node rank port course ends.LinkFault given said h = record {
  runs = weak_runs rank port course stations.LinkFault ends.LinkFault given said h.runs;
  rose = h.rose;
}
weak_node rank port course ends.SpawnFault given said h = h
weak_node rank port course ends.NoMemory given said (inl h) = inl (weak_alone ends.NoMemory given said h)
weak_node rank port course ends.NoMemory given said (inr h) = inr
    (record {
      job = h.job;
      read = h.read;
      place = h.place;
      run = h.run;
      said_is = h.said_is;
      nothing_given = tt;
    })
weak_node rank port course ends.Stuck given said h =
    weak_runs rank port course stations.Stuck ends.Stuck given said h
weak_node rank port course ends.JournalFull given said h =
    weak_runs rank port course stations.JournalFull ends.JournalFull given said h
weak_node rank port course (ends.NotARun node entry) given said h = h
weak_node rank port course (ends.Child child code) given said h = h

-- ---- a job was read, or none

pub node_none : (rank port : ℕ) (course : Course) → MayReadNone (NodeEnds rank port course) course.reading
node_none rank port course (ends.BadJob line reason) after said h = h
node_none rank port course ends.ReadFault after said h = h
node_none rank port course ends.NoMemory after said h = inl h
node_none rank port course ends.Done after said h = absurd h
node_none rank port course ends.Violations after said h = absurd h
node_none rank port course ends.Usage after said h = absurd h
node_none rank port course ends.WriteFault after said h = absurd h
node_none rank port course ends.LinkFault after said h = absurd h
node_none rank port course ends.SpawnFault after said h = h
node_none rank port course ends.Stuck after said h = absurd h
node_none rank port course ends.JournalFull after said h = absurd h
node_none rank port course (ends.NotARun node entry) after said h = absurd h
node_none rank port course (ends.Child child code) after said h = absurd h

-- ---- a node ran

module _ (rank port : ℕ) (course : Course) (job : JobState) (read : GivesJob course.reading job)
    (place : has_node_place rank port job.settings.nodes ≡ true) where
  -- its lines, and its run, as the command says them
  abbrev ran : (station : StationEnd) (end : CommandEnd) (after : After)
      (run : RunsTo (post_of job rank port) course.before course.after station)
      → after.left run.left.machine.endpoint
      → RunsNode rank port course station end after
      (said_last (node_lines (post_of job rank port) run.journal) end)
  ran station end after run left = record {
    job = job;
    read = read;
    place = place;
    run = run;
    said_is = refl;
    node_after = left;
  }

  over : (violated : Bool) (after : After)
      (run : RunsTo (post_of job rank port) course.before course.after stations.Over)
      → has_noted (record_after (post_of job rank port) run.journal) ≡ violated
      → after.left run.left.machine.endpoint
      → NodeEnds rank port course (end_of violated) after
      (said_last (node_lines (post_of job rank port) run.journal) (end_of violated))
  over true after run noted left = record { runs = ran stations.Over (end_of true) after run left; violated_is = noted }
  over false after run noted left =
      record { runs = ran stations.Over (end_of false) after run left; violated_is = noted }

  -- where the link failed its count rose
  link_rose : RunsTo (post_of job rank port) course.before course.after stations.LinkFault
      → Rose course.before.link.faults course.after.link.faults
  link_rose run =
      let faults = run.leaves.link.faults in
      elim run.leaves.runs [
        | inl bound ↦ subst (λ (n : ℕ). Rose course.before.link.faults n) faults
            (rose_later course.before.link.faults bound.0.link.faults run.left.link.faults bound.0.later
            (bound.0.leaves.fault run.end_is))
        | inr unbound ↦ subst (λ (n : ℕ). Rose course.before.link.faults n) faults unbound.0.rose
      ]

  lost : (after : After) (run : RunsTo (post_of job rank port) course.before course.after stations.LinkFault)
      → after.left run.left.machine.endpoint
      → LosesLink rank port course after
      (said_last (node_lines (post_of job rank port) run.journal) ends.LinkFault)
  lost after run left =
      record { runs = ran stations.LinkFault ends.LinkFault after run left; rose = link_rose run }

  -- the node is given that is left
  given_node : (left : Option EndpointState) (endpoint : EndpointState) → left ≡ Some endpoint
      → node_given left ≡ node_given (Some endpoint)
  given_node left endpoint is = ap (λ (n : Option EndpointState). node_given n) is

  -- a whole trace, and the status line behind it
  told : (station : StationEnd) (end : CommandEnd) (left : Option EndpointState) (old middle new : Outbox) (ended : EndedCommand)
      (h : EndsAt (post_of job rank port) course.before course.after station old middle left) → IsSaid end
      → NodeEnds rank port course end (gives (node_given left))
      (said_last (node_lines (post_of job rank port) h.run.journal) end)
      → SaysEnd end (node_given left) middle new ended → EndsBy (NodeEnds rank port course) old new ended
  told station end left old middle new ended h is_said so says =
      says_last (NodeEnds rank port course) old middle new (node_lines (post_of job rank port) h.run.journal) end
      (node_given left) ended (weak_node rank port course) is_said so h.written says

  -- a prefix of the lines of a run that ended so, and nothing behind it
  untold_by : (lines : List Line) (old new : Outbox) (end : CommandEnd)
      → NodeEnds rank port course end claims_nothing (said_last lines end) → GathersPrefix old new (spell lines)
      → EndsBy (NodeEnds rank port course) old new cut_short
  untold_by lines old new end so prefix = record {
    end = end;
    said = said_last lines end;
    ends = so;
    cut = rw (one_more lines (status_line end))
        (gathers_first old new (spell lines) (line_text (status_line end)) prefix);
    nothing_given = refl;
  }

  -- the sink failed at an entry, or before all
  stopped : (journal : List Entry) (old new : Outbox) → StopsAt (post_of job rank port) course journal
      → GathersPrefix old new (spell (node_lines (post_of job rank port) journal))
      → EndsBy (NodeEnds rank port course) old new cut_short
  stopped journal old new stops prefix = record {
    end = ends.WriteFault;
    said = spell (node_lines (post_of job rank port) journal);
    ends = record { job = job; read = read; place = place; journal = journal; stops = stops; said_is = refl };
    cut = prefix;
    nothing_given = refl;
  }

  -- a prefix of a trace, and nothing behind it
  untold : (station : StationEnd) (old new : Outbox) → (station ≡ stations.NoMemory → ⊥)
      → (run : RunsTo (post_of job rank port) course.before course.after station)
      → GathersPrefix old new (spell (node_lines (post_of job rank port) run.journal))
      → EndsBy (NodeEnds rank port course) old new cut_short
  untold stations.Over old new other run prefix =
      let noted = has_noted (record_after (post_of job rank port) run.journal) in
      untold_by (node_lines (post_of job rank port) run.journal) old new (end_of noted)
      (over noted claims_nothing run refl tt) prefix
  untold stations.Stuck old new other run prefix =
      untold_by (node_lines (post_of job rank port) run.journal) old new ends.Stuck
      (ran stations.Stuck ends.Stuck claims_nothing run tt) prefix
  untold stations.LinkFault old new other run prefix =
      untold_by (node_lines (post_of job rank port) run.journal) old new ends.LinkFault (lost claims_nothing run tt) prefix
  untold stations.JournalFull old new other run prefix =
      untold_by (node_lines (post_of job rank port) run.journal) old new ends.JournalFull
      (ran stations.JournalFull ends.JournalFull claims_nothing run tt) prefix
  untold stations.WriteFault old new other run prefix = stopped run.journal old new (inl (run, refl)) prefix
  untold stations.NoMemory old new other run prefix = absurd (other refl)

  -- memory ran out as the node ran
  open_told : (old middle new : Outbox) (ended : EndedCommand)
      → EndsOpen (post_of job rank port) course.before course.after old middle
      → SaysEnd ends.NoMemory nothing middle new ended → EndsBy (NodeEnds rank port course) old new ended
  open_told old middle new ended h says =
      says_last (NodeEnds rank port course) old middle new (node_open (post_of job rank port) h.run.journal)
      ends.NoMemory nothing ended (weak_node rank port course) tt
      (inr (record {
        job = job;
        read = read;
        place = place;
        run = h.run;
        said_is = refl;
        nothing_given = refl;
      })) h.written says

  -- or before it
  unmade_told : (old middle new : Outbox) (ended : EndedCommand)
      → EndsUnmade course.before course.after old middle → SaysEnd ends.NoMemory nothing middle new ended
      → EndsBy (NodeEnds rank port course) old new ended
  unmade_told old middle new ended h says =
      says_last (NodeEnds rank port course) old middle new [] ends.NoMemory nothing ended (weak_node rank port course)
      tt (inl (alone ends.NoMemory)) h.written says

  early_told : (old middle new : Outbox) (ended : EndedCommand)
      → (EndsOpen (post_of job rank port) course.before course.after old middle
      ⊎ EndsUnmade course.before course.after old middle)
      → SaysEnd ends.NoMemory nothing middle new ended → EndsBy (NodeEnds rank port course) old new ended
  early_told old middle new ended (inl h) says = open_told old middle new ended h says
  early_told old middle new ended (inr h) says = unmade_told old middle new ended h says

  unwritten_told : (old new : Outbox)
      → (EndsCut (post_of job rank port) course.before course.after old new
      ⊎ EndsUnopened (post_of job rank port) course.before course.after old new)
      → EndsBy (NodeEnds rank port course) old new cut_short
  unwritten_told old new (inl h) = untold h.end old new h.some_text h.run h.written
  unwritten_told old new (inr h) = stopped [] old new (inr (h.kept, refl)) h.written

  -- the run ended so, and then its status line was said
  pub node_told : (old middle new : Outbox) (end : StationEnd) (violated : Bool) (left : Option EndpointState)
      (ended : EndedCommand)
      → NodeEndsSo (post_of job rank port) course.before course.after old middle end violated left
      → SaysNode end violated left middle new ended → EndsBy (NodeEnds rank port course) old new ended
  node_told old middle new stations.Over violated left ended h says =
      told stations.Over (end_of violated) left old middle new ended h.ends (end_said violated)
      (over violated (gives (node_given left)) h.ends.run h.violated_is
      (given_node left h.ends.run.left.machine.endpoint h.ends.node_is)) says
  node_told old middle new stations.Stuck violated left ended h says =
      told stations.Stuck ends.Stuck left old middle new ended h tt
      (ran stations.Stuck ends.Stuck (gives (node_given left)) h.run
      (given_node left h.run.left.machine.endpoint h.node_is)) says
  node_told old middle new stations.LinkFault violated left ended h says =
      told stations.LinkFault ends.LinkFault left old middle new ended h tt
      (lost (gives (node_given left)) h.run (given_node left h.run.left.machine.endpoint h.node_is)) says
  node_told old middle new stations.JournalFull violated left ended h says =
      told stations.JournalFull ends.JournalFull left old middle new ended h tt
      (ran stations.JournalFull ends.JournalFull (gives (node_given left)) h.run
      (given_node left h.run.left.machine.endpoint h.node_is)) says
  node_told old middle new stations.NoMemory violated left ended h says =
      let given = ap (λ (n : Option EndpointState). node_given n) h.no_node in
      early_told old middle new ended h.how
      (subst (λ (g : Given). SaysEnd ends.NoMemory g middle new ended) given says)
  node_told old middle new stations.WriteFault violated left ended h says =
      subst (λ (e : EndedCommand). EndsBy (NodeEnds rank port course) old new e) (sym says.0)
      (subst (λ (out : Outbox). EndsBy (NodeEnds rank port course) old out cut_short) (sym says.1)
      (unwritten_told old middle h.how))

-- no node of the job is asked for
pub no_node_told : (rank port : ℕ) (course : Course) (job : JobState) (old new : Outbox) (ended : EndedCommand)
    → GivesJob course.reading job → has_node_place rank port job.settings.nodes ≡ false
    → SaysEnd ends.Usage nothing old new ended
    → EndsBy (NodeEnds rank port course) old new ended
no_node_told rank port course job old new ended read none says =
    says_alone (NodeEnds rank port course) old new ends.Usage ended (weak_node rank port course) tt
    (record { job = job; read = read; no_place = none; alone = alone ends.Usage }) says

-- ---- exit statuses

node_codes : (rank port : ℕ) (call : Call) (end : CommandEnd)
    → EndMeans (NodeEnds rank port (course_in call)) (took_in call) call.given end
    → Contains (0 ∷ 1 ∷ 2 ∷ 3 ∷ 4 ∷ 5 ∷ 6 ∷ 8 ∷ 9 ∷ 10 ∷ []) (code_of end)
node_codes rank port call ends.Done h = (0, lit< tt, refl)
node_codes rank port call ends.Violations h = (1, lit< tt, refl)
node_codes rank port call ends.Usage h = (2, lit< tt, refl)
node_codes rank port call (ends.BadJob line reason) h = (3, lit< tt, refl)
node_codes rank port call ends.ReadFault h = (4, lit< tt, refl)
node_codes rank port call ends.WriteFault h = (5, lit< tt, refl)
node_codes rank port call ends.LinkFault h = (6, lit< tt, refl)
node_codes rank port call ends.SpawnFault h = absurd h.ends
node_codes rank port call ends.NoMemory h = (7, lit< tt, refl)
node_codes rank port call ends.Stuck h = (8, lit< tt, refl)
node_codes rank port call ends.JournalFull h = (9, lit< tt, refl)
node_codes rank port call (ends.NotARun node entry) h = absurd h.ends
node_codes rank port call (ends.Child child code) h = absurd h.ends

pub node_means : (call : Call) (rank port : ℕ) (end : CommandEnd)
    → EndMeans (NodeEnds rank port (course_in call)) (took_in call) call.given end
    → NodeMeans call rank port (code_of end)
node_means call rank port end h =
    code_means call (NodeEnds rank port (course_in call)) _ end (node_codes rank port call end h) h

is_no_node : (source : Input) (left : Option (List ℕ)) (rank port : ℕ) (job : JobState)
    → HoldsNode rank port source
    → ReadsJob source.left left job → has_node_place rank port job.settings.nodes ≡ false → ⊥
is_no_node source left rank port job holds read none =
    let same = one_job holds.holds.bytes left holds.holds.job job holds.holds.text
    (subst (λ (before : Option (List ℕ)). ReadsJob before left job) holds.holds.told read) in
    absurd (true≢false
    (sym holds.place ∙ (ap (λ (j : JobState). has_node_place rank port j.settings.nodes) same ∙ none)))

pub node_completes : (call : Call) (rank port : ℕ) (end : CommandEnd)
    → EndMeans (NodeEnds rank port (course_in call)) (took_in call) call.given end
    → NodeCompletes call rank port (code_of end)
node_completes call rank port ends.Done h holds faultless linked = (0, lit< tt, refl)
node_completes call rank port ends.Violations h holds faultless linked = (1, lit< tt, refl)
node_completes call rank port ends.NoMemory h holds faultless linked = (2, lit< tt, refl)
node_completes call rank port ends.Stuck h holds faultless linked = (3, lit< tt, refl)
node_completes call rank port ends.JournalFull h holds faultless linked = (4, lit< tt, refl)
node_completes call rank port (ends.NotARun node entry) h holds faultless linked = absurd h.ends
node_completes call rank port (ends.Child child code) h holds faultless linked = absurd h.ends
node_completes call rank port ends.SpawnFault h holds faultless linked = absurd h.ends
node_completes call rank port ends.LinkFault h holds faultless linked = absurd (linked h.ends.rose)
node_completes call rank port ends.ReadFault h holds faultless linked = absurd (faultless.source h.ends.rose)
node_completes call rank port ends.WriteFault h holds faultless linked = absurd (faultless.sink h.cut.0)
node_completes call rank port (ends.BadJob line reason) h holds faultless linked =
    absurd (was_no_job call.before.source call.after.source.left line reason holds.holds h.ends.read)
node_completes call rank port ends.Usage h holds faultless linked =
    absurd (is_no_node call.before.source call.after.source.left rank port h.ends.job holds h.ends.read h.ends.no_place)
