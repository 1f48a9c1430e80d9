-- What is said of a run.
use Rattle.std.proofs.Common.{ℕ, List, refl, sym, subst, Bool, true, false}
use Rattle.base_io.specs.Buffered.{Outbox, GathersAll}
use Rattle.base_io.specs.declared.writing.Wrote.TheVariants as wrote
use Rattle.base_io.proofs.Outboxes.{gathers_first}
use Rattle.base_text.specs.LineTexts.{Line, spell, line_text}
use Rattle.text_job.specs.declared.job.Job.{Job as JobState}
use Rattle.sim_drill.specs.RunText.{is_violated}
use Rattle.sim_drill.specs.RunEnds.{EndsSaying}
use Rattle.sim_drill.specs.RunLaws.{RunLaws}
use Rattle.sim_drill.specs.RunEnd.{RunEnd}
use Rattle.sim_drill.specs.RunEnd.TheVariants as runs
use Rattle.sim_drill.proofs.LinesWritten.{one_more}
use Rattle.cli_commands.specs.Commands.{end_of, status_line}
use Rattle.cli_commands.specs.HowEnds.{EndsHow, gives, nothing, said_last, claims_nothing, world_given}
use Rattle.cli_commands.specs.RunReports.{EndsRun, LeavesRun}
use Rattle.cli_commands.specs.TopParts.{EndsBy, SaysRun}
use Rattle.cli_commands.specs.declared.ending.CommandEnd.TheVariants as ends
use Rattle.cli_commands.specs.declared.ending.EndedCommand.{EndedCommand}
use Rattle.cli_commands.specs.declared.ending.Given.{Given}
use Rattle.cli_commands.proofs.LastLine.{IsSaid, Weakens, says_last}

pub weak_run : (job : JobState) (lines : List Line) (violated : Bool) (given : Given) (said : List ℕ)
    → EndsRun job lines violated (gives given) said → EndsRun job lines violated claims_nothing said
weak_run job lines violated given said h =
    record { laws = h.laws; violated_is = h.violated_is; said_is = h.said_is; world_after = tt }

pub weak_left : (job : JobState) (lines : List Line) (given : Given) (said : List ℕ)
    → LeavesRun job lines (gives given) said → LeavesRun job lines claims_nothing said
weak_left job lines given said h = record {
  laws = h.laws;
  prefix = h.prefix;
  rest = h.rest;
  whole = h.whole;
  said_is = h.said_is;
  nothing_given = tt;
}

-- of a command that runs this job and says these lines: how it may end at the end of the run, and where memory ran out
pub record Runs (Ends : EndsHow) (job : JobState) (lines : List Line) : Type 0 where
  pub laws : RunLaws job
  pub weak : Weakens Ends
  pub whole : (violated : Bool) (given : Given) (said : List ℕ)
      → EndsRun job lines violated (gives given) said → Ends (end_of violated) (gives given) said
  pub cut : (violated : Bool) (said : List ℕ) → EndsRun job lines violated claims_nothing said
      → Ends (end_of violated) claims_nothing said
  pub left : (said : List ℕ) → LeavesRun job lines (gives nothing) said → Ends ends.NoMemory (gives nothing) said

pub end_said : (violated : Bool) → IsSaid (end_of violated)
end_said true = tt
end_said false = tt

-- the run ended so, and then its status line was said
pub run_told : (Ends : EndsHow) (job : JobState) (lines : List Line) (old middle new : Outbox) (run : RunEnd)
    (ended : EndedCommand)
    → Runs Ends job lines → EndsSaying job lines old middle run → SaysRun run middle new ended
    → EndsBy Ends old new ended
run_told Ends job lines old middle new (runs.Done violated world) ended by h says =
    says_last Ends old middle new lines (end_of violated) (world_given world) ended by.weak (end_said violated)
    (by.whole violated (world_given world) (said_last lines (end_of violated)) (record {
      laws = by.laws;
      violated_is = sym h.violated_is;
      said_is = refl;
      world_after = record { state = world; given_is = refl; stands = h.stands };
    })) h.lines says
run_told Ends job lines old middle new runs.Fault ended by h says =
    let end = end_of (is_violated job) in
    let went : GathersAll old new (spell lines) wrote.Fault =
    subst (λ (out : Outbox). GathersAll old out (spell lines) wrote.Fault) (sym says.1) h in
    subst (λ (e : EndedCommand). EndsBy Ends old new e) (sym says.0) (record {
      end = end;
      said = said_last lines end;
      ends =
          by.cut (is_violated job) (said_last lines end)
          (record { laws = by.laws; violated_is = refl; said_is = refl; world_after = tt });
      cut = rw (one_more lines (status_line end))
          (gathers_first old new (spell lines) (line_text (status_line end)) went);
      nothing_given = refl;
    })
run_told Ends job lines old middle new runs.NoMemory ended by h says =
    says_last Ends old middle new h.1.prefix ends.NoMemory nothing ended by.weak tt
    (by.left (said_last h.1.prefix ends.NoMemory) (record {
      laws = by.laws;
      prefix = h.1.prefix;
      rest = h.0;
      whole = h.1.whole;
      said_is = refl;
      nothing_given = refl;
    })) h.1.gathered says
