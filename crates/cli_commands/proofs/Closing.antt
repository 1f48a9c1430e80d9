-- A call of a command, from its outside to the one that it gives back.
use Rattle.std.proofs.Common.{◌≡◌, ◌∙◌, ℕ, List, Option, Some, ap, sym, subst}
use Rattle.base_io.specs.Buffered.{Gathering, Outbox, outbox}
use Rattle.base_io.specs.declared.source.Source.{Ghosts as SourceGhosts}
use Rattle.base_io.specs.declared.sink.Sink.{Ghosts as SinkGhosts}
use Rattle.base_io.specs.declared.link.Link.{Ghosts as LinkGhosts}
use Rattle.base_io.specs.declared.spawner.Spawner.{Ghosts as SpawnerGhosts}
use Rattle.base_io.specs.declared.clock.Clock.{Ghosts as ClockGhosts}
use Rattle.base_text.specs.Lines.{Word}
use Rattle.cli_commands.specs.Commands.{IsAsked, code_of}
use Rattle.cli_commands.specs.HowEnds.{EndMeans}
use Rattle.cli_commands.specs.Outsides.{Call, Course, Spawning, call_between, course_in, course_over, given_with, outside_view}
use Rattle.cli_commands.specs.Outsides.{spawning_in, spawning_over, took_in}
use Rattle.cli_commands.specs.TopCall.{IsSaid}
use Rattle.cli_commands.specs.TopParts.{Closes, Ends, EndsAs, EndsBy, KeepsOutside, StandsOver, with_sink}
use Rattle.cli_commands.specs.declared.ending.EndedCommand.{EndedCommand}
use Rattle.cli_commands.specs.declared.ending.Given.{Given}
use Rattle.cli_commands.specs.declared.outside.Outside.{Outside}
use Rattle.cli_commands.specs.declared.top.Status.{Status}
use Rattle.cli_commands.specs.declared.words.Command.{Command}
use Rattle.cli_commands.proofs.LastLine.{means}
use Rattle.cli_commands.proofs.CallStatus.{completes, leaves_alone, status_means, weak_ends}

-- what was asked for is some command, and that is this one
pub asks_for : (asked : Option Command) (some this : Command) → asked ≡ Some some → some ≡ this → asked ≡ Some this
asks_for asked some this is same = is ∙ ap Some same

-- what was asked for is this, and so it ended
pub ends_as : (asked what : Option Command) (course : Course) (spawning : Spawning) (old new : Outbox) (ended : EndedCommand)
    → asked ≡ what → EndsBy (Ends what course spawning) old new ended → KeepsOutside what course spawning
    → EndsAs asked course spawning old new ended
ends_as asked what course spawning old new ended is ends keeps =
    subst (λ (one : Option Command). EndsAs one course spawning old new ended) (sym is)
    (record { ends = ends; keeps = keeps })

module _ {S K L P C G : Type 0} (sources : SourceGhosts S) (sinks : SinkGhosts K) (links : LinkGhosts L)
    (spawners : SpawnerGhosts P) (clocks : ClockGhosts C) (words : List Word) (asked : Option Command) where
  -- the command ran over the outside, and ended so
  abbrev pub RanOver : (first last : Outside S (Gathering K) L P C G) → EndedCommand → Type 0
  RanOver first last ended =
      EndsAs asked
      (course_over sources links clocks first last) (spawning_over spawners first.spawner last.spawner)
      (outbox sinks.taken sinks.faults first.sink) (outbox sinks.taken sinks.faults last.sink) ended

  abbrev pub call_over : (first last : Outside S K L P C G) → Given → Call
  call_over first last given = call_between (outside_view sources sinks links spawners clocks) words first last given

  pub closed_call : (outside back : Outside S K L P C G) (first last : Outside S (Gathering K) L P C G) (ended : EndedCommand)
      (status : Status) → IsAsked words asked → StandsOver outside first → RanOver first last ended
      → Closes sinks.taken sinks.faults ended last status back
      → IsSaid (call_over outside back (given_with status)) status.code
  closed_call outside back first last ended status is over ran closes =
      let call = call_over (with_sink first first.sink.inner) (with_sink last closes.sink.inner)
      closes.over.given in
      let end = closes.over.end in
      let m : EndMeans (Ends asked (course_in call) (spawning_in call)) (took_in call) call.given end =
      means (Ends asked (course_in call) (spawning_in call)) (outbox sinks.taken sinks.faults first.sink)
      (outbox sinks.taken sinks.faults last.sink) (outbox sinks.taken sinks.faults closes.sink) ended closes.over
      (weak_ends asked (course_in call) (spawning_in call)) over.empty ran.ends closes.gives_on in
      subst (λ (one : Outside S K L P C G). IsSaid (call_over one back (given_with status)) status.code) (sym over.is)
      (subst (λ (one : Outside S K L P C G).
      IsSaid (call_over (with_sink first first.sink.inner) one (given_with status)) status.code) (sym closes.is)
      (subst (λ (given : Given). IsSaid (call_over (with_sink first first.sink.inner)
      (with_sink last closes.sink.inner) given) status.code) (sym closes.given)
      (subst (λ (code : ℕ). IsSaid call code) (sym closes.code) (record {
        means = status_means call asked end is m;
        complete = completes call asked end is m;
        leaves = leaves_alone call asked is ran.keeps;
      }))))
