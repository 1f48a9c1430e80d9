use Rattle.std.proofs.Common.{List, ◌∷◌, ◌++◌, subst, ◌∙◌}
use Rattle.wire_message.specs.Parameters.{Parameters}
use Rattle.base_io.specs.Buffered.{GathersAll, outbox}
use Rattle.base_text.specs.LineTexts.{Line, spell}
use Rattle.sim_run.specs.RunText.{end_lines, run_most, run_records}
use Rattle.sim_run.proofs.LinesWritten.{no_lines_yet, on_done}
use Rattle.sim_drill.specs.Counting.{count_in}
use Rattle.sim_drill.specs.Drilling.{drill_stage}
use Rattle.sim_drill.specs.Rounds.{drill_job, drill_settings}
use Rattle.sim_drill.specs.Summary.{count_lines, count_of, drill_answers, drill_lines, first_line}
use Rattle.sim_drill.proofs.Drilled.{all_rounds}
use Rattle.sim_drill.proofs.SummaryText.{lines_told, same_counts}
use Rattle.sim_drill.proofs.drill.drill_in.Goals as goal

pub returns-in-Err : goal.returns-in-Err
returns-in-Err g c = record { lines = (drill_lines c.args.seed, no_lines_yet _ _); world = tt }

pub returns-in-Ok : goal.returns-in-Ok
returns-in-Ok g c =
    let seed = c.args.seed in
    let world = c.run_rounds.new.world in
    let counts = c.run_rounds.new.counts in
    let ran =
    all_rounds seed (drill_stage c.args.world.now c.new-counts.result) (drill_stage world counts) c.requires.stands
    c.new-counts.ensures c.in-Ok.ensures.runs
    in
    let same = c.run_rounds.ensures.settings ∙ c.requires.drilled.settings in
    let records = run_records (drill_job seed) in
    let most = run_most (drill_job seed) in
    let old = outbox g.K.Sink.taken g.K.Sink.faults c.args.sink.now in
    let new = outbox g.K.Sink.taken g.K.Sink.faults c.write_drill.new.sink in
    let wrote = c.write_drill.result in
    let there =
    subst
    (λ (s : Parameters). GathersAll old new
    (spell (first_line seed ∷ (count_lines (count_in counts) ++ end_lines s records most))) wrote) same
    (c.write_drill.ensures records most ran.stands)
    in
    let written =
    subst
    (λ (lines : List Line). GathersAll old new
    (spell (first_line seed ∷ (lines ++ end_lines drill_settings records most))) wrote)
    (same_counts (count_in counts) (λ counted. count_of counted (drill_answers seed)) ran.counts) there
    in
    record {
      lines = rw c.from_wrote.ensures (lines_told old new (drill_lines seed) wrote written);
      world =
          rw c.from_wrote.ensures
          (on_done wrote _
          (record {
            settings = same;
            table = c.run_rounds.ensures.table ∙ c.requires.drilled.table;
            stands = ran.stands;
          }));
    }
