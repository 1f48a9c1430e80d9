-- What is said of the traces of a job's nodes.
use Rattle.std.proofs.Common.{◌≡◌, ℕ, List, Bool, true, false, refl, sym, subst, inl, inr}
use Rattle.base_io.specs.Buffered.{Outbox, GathersAll}
use Rattle.base_io.specs.declared.writing.Wrote.TheVariants as wrote
use Rattle.base_io.proofs.Outboxes.{gathers_first}
use Rattle.text_trace.specs.declared.trace.Trace.{Trace}
use Rattle.text_job.specs.declared.job.Job.{Job as JobState}
use Rattle.base_text.specs.LineTexts.{spell, line_text}
use Rattle.sim_drill.proofs.LinesWritten.{one_more}
use Rattle.cli_launch.specs.StepLines.{is_violated, run_lines}
use Rattle.cli_launch.specs.Rejected.{accepted_traces}
use Rattle.cli_launch.specs.TracesEnds.{EndsTraces}
use Rattle.cli_launch.specs.TracesEnd.{TracesEnd}
use Rattle.cli_launch.specs.TracesEnd.TheVariants as traces
use Rattle.cli_commands.specs.Commands.{end_of, status_line}
use Rattle.cli_commands.specs.HowEnds.{After, gives, nodes_given, nothing, said_last, claims_nothing}
use Rattle.cli_commands.specs.TopParts.{EndsBy, SaysEnd, SaysTraces}
use Rattle.cli_commands.specs.TracesReports.{RunsTraces, TracesEnds}
use Rattle.cli_commands.specs.declared.ending.CommandEnd.TheVariants as ends
use Rattle.cli_commands.specs.declared.ending.EndedCommand.{EndedCommand}
use Rattle.cli_commands.proofs.LastLine.{Weakens, alone, says_alone, says_last, weak_alone}
use Rattle.cli_commands.proofs.RunTold.{end_said}

pub weak_traces : (job : JobState) (these : List Trace) → Weakens (TracesEnds job these)
weak_traces job these ends.Done given said h =
    record {
      run = h.run;
      violated_is = h.violated_is;
      said_is = h.said_is;
      nodes_of_run = tt;
      nodes_after = tt;
    }
weak_traces job these ends.Violations given said h =
    record {
      run = h.run;
      violated_is = h.violated_is;
      said_is = h.said_is;
      nodes_of_run = tt;
      nodes_after = tt;
    }
weak_traces job these ends.NoMemory given said (inl alone) = inl (weak_alone ends.NoMemory given said alone)
weak_traces job these ends.NoMemory given said (inr left) = inr (record {
  run = left.run;
  prefix = left.prefix;
  rest = left.rest;
  whole = left.whole;
  said_is = left.said_is;
  nothing_given = tt;
})
weak_traces job these (ends.NotARun node entry) given said h =
    record { none = h.none; alone = weak_alone (ends.NotARun node entry) given said h.alone }
weak_traces job these ends.Usage given said h = h
weak_traces job these (ends.BadJob line reason) given said h = h
weak_traces job these ends.ReadFault given said h = h
weak_traces job these ends.WriteFault given said h = h
weak_traces job these ends.LinkFault given said h = h
weak_traces job these ends.SpawnFault given said h = h
weak_traces job these ends.Stuck given said h = h
weak_traces job these ends.JournalFull given said h = h
weak_traces job these (ends.Child rank code) given said h = h

-- a node noted a violation in the run, or none
by_end : (job : JobState) (these : List Trace) (violated : Bool) (after : After) (said : List ℕ)
    → RunsTraces job these violated after said → TracesEnds job these (end_of violated) after said
by_end job these true after said h = h
by_end job these false after said h = h

-- memory ran out before anything was said
pub traces_unknown : (job : JobState) (these : List Trace) (old new : Outbox) (ended : EndedCommand)
    → SaysEnd ends.NoMemory nothing old new ended → EndsBy (TracesEnds job these) old new ended
traces_unknown job these old new ended says =
    says_alone (TracesEnds job these) old new ends.NoMemory ended (weak_traces job these) tt (inl (alone ends.NoMemory))
    says

-- their check ended so, and then its status line was said
pub traces_told : (job : JobState) (these : List Trace) (old middle new : Outbox) (end : TracesEnd) (ended : EndedCommand)
    → EndsTraces job these old middle end → SaysTraces end middle new ended
    → EndsBy (TracesEnds job these) old new ended
traces_told job these old middle new (traces.Done violated nodes) ended told says =
    says_last (TracesEnds job these) old middle new (run_lines job (accepted_traces job these)) (end_of violated) (nodes_given nodes) ended
    (weak_traces job these) (end_said violated)
    (by_end job these violated (gives (nodes_given nodes))
    (said_last (run_lines job (accepted_traces job these)) (end_of violated)) (record {
      run = told.run;
      violated_is = sym told.violated_is;
      said_is = refl;
      nodes_of_run = record { nodes = nodes; given_is = refl; nodes_after = told.nodes_of_run };
      nodes_after = record { nodes = nodes; given_is = refl; nodes_after = told.nodes_after };
    })) told.lines says
traces_told job these old middle new (traces.NotARun node entry) ended told says =
    says_alone (TracesEnds job these) old new (ends.NotARun node entry) ended (weak_traces job these) tt
    (record { none = told.none; alone = alone (ends.NotARun node entry) })
    (subst (λ (out : Outbox). SaysEnd (ends.NotARun node entry) nothing out new ended) told.same says)
traces_told job these old middle new traces.Fault ended told says =
    let violated = is_violated job (accepted_traces job these) in
    let end = end_of violated in
    let lines = run_lines job (accepted_traces job these) in
    let went : GathersAll old new (spell lines) wrote.Fault =
    subst (λ (out : Outbox). GathersAll old out (spell lines) wrote.Fault) (sym says.1) told.lines in
    subst (λ (e : EndedCommand). EndsBy (TracesEnds job these) old new e) (sym says.0) (record {
      end = end;
      said = said_last lines end;
      ends = by_end job these violated claims_nothing (said_last lines end)
          (record { run = told.run; violated_is = refl; said_is = refl; nodes_of_run = tt; nodes_after = tt });
      cut = rw (one_more lines (status_line end))
          (gathers_first old new (spell lines) (line_text (status_line end)) went);
      nothing_given = refl;
    })
traces_told job these old middle new traces.NoMemory ended (inl same) says =
    traces_unknown job these old new ended
    (subst (λ (out : Outbox). SaysEnd ends.NoMemory nothing out new ended) same says)
traces_told job these old middle new traces.NoMemory ended (inr told) says =
    says_last (TracesEnds job these) old middle new told.lines.prefix ends.NoMemory nothing ended
    (weak_traces job these) tt
    (inr (record {
      run = told.run;
      prefix = told.lines.prefix;
      rest = told.rest;
      whole = told.lines.whole;
      said_is = refl;
      nothing_given = refl;
    })) told.lines.gathered says

-- so of the job of a script
pub script_told : (job own : JobState) (these : List Trace) (old middle new : Outbox) (end : TracesEnd) (ended : EndedCommand)
    → own ≡ job → EndsTraces own these old middle end → SaysTraces end middle new ended
    → EndsBy (TracesEnds job these) old new ended
script_told job own these old middle new end ended same told says =
    traces_told job these old middle new end ended
    (subst (λ (j : JobState). EndsTraces j these old middle end) same told) says

-- so of traces that are those
pub same_told : (job : JobState) (these all : List Trace) (old new : Outbox) (ended : EndedCommand) → these ≡ all
    → EndsBy (TracesEnds job these) old new ended → EndsBy (TracesEnds job all) old new ended
same_told job these all old new ended same told =
    subst (λ (traces : List Trace). EndsBy (TracesEnds job traces) old new ended) same told
