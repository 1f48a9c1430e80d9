-- The entries that go one after another are a run, as far as it comes.
use Rattle.std.proofs.Common.{◌≡◌, length, arith, sym, ap, ◌∙◌, sum, replicate, subst, true, false, inr, rules}
use Rattle.base_turns.specs.Replay.{steps_of}
use Rattle.base_turns.specs.Prefixes.{advance, Reaches}
use Rattle.text_trace.specs.Noted.{IsNoted, AreUnmarked, HavePlaces}
use Rattle.text_trace.specs.Merged.{nodes_of}
use Rattle.text_trace.proofs.PrefixLemmas.{run_not_stuck}
use Rattle.text_trace.proofs.NodeLemmas.{stand_length}
use Rattle.text_trace.proofs.StartLemmas.{fit_start, noted_none, marked_at, got_spot}
use Rattle.text_trace.proofs.Walking.{Stood, walk_start, walk_next, stood_start, stood_next, ends_below, left_ends}
use Rattle.text_trace.proofs.Walking.{judged_blocked, round_smaller}
use Rattle.text_trace.proofs.Ending.{merges_start, merges_cut, merges_all, merges_stuck, blocked_more, less_then}
use Rattle.text_trace.proofs.merging.merge.Goals as goal

pub rounds-init : goal.rounds-init
rounds-init g c =
    let each : HavePlaces c.as_slice-places.result.now c.args.traces.now = subst (λ ps. HavePlaces ps c.args.traces.now)
    (sym c.as_slice-places.ensures.value) c.in-Ok.ensures.each in
    let unmarked : AreUnmarked c.as_mut_slice-marks.result.now c.args.traces.now =
    subst (λ ms. AreUnmarked ms c.args.traces.now) (sym c.as_mut_slice-marks.ensures.value)
    c.in-Ok-no_marks.ensures.each in
    let zeros : c.as_mut_slice-prefix.result.now ≡ replicate (length c.args.machines.now) 0 =
    c.as_mut_slice-prefix.ensures.value ∙ (let e : c.in-Ok-vec.counts.items ≡ replicate (length c.args.machines.now)
    0 = search rules in e) in
    record {
      walk = walk_start g.M.Machine c.args.traces.now c.as_mut_slice-prefix.result.now c.args.machines.now
          c.requires.nodes zeros c.requires.threads;
      stood = λ rs stand. stood_start g.M.Machine rs c.args.traces.now c.as_mut_slice-prefix.result.now
          c.args.machines.now (IsNoted c.as_slice-places.result.now c.as_mut_slice-marks.result.now)
          c.new-placed.result.items
          c.requires.nodes stand zeros c.new-placed.ensures.items (noted_none c.as_slice-places.result.now
          c.as_mut_slice-marks.result.now c.args.traces.now unmarked);
      fit = fit_start c.as_slice-places.result.now c.as_mut_slice-marks.result.now c.args.traces.now
          (ap length c.as_mut_slice-marks.ensures.value ∙ c.in-Ok-no_marks.ensures.length) each unmarked;
      none = λ is. absurd (let e : true ≡ false = is in cc);
    }

pub may_go_next-requires-clause-marked : goal.may_go_next-requires-clause-marked
may_go_next-requires-clause-marked g c = marked_at c.as_slice-places.result.now c.entries.marks c.args.traces.now
    (subst (λ ps. HavePlaces ps c.args.traces.now) (sym c.as_slice-places.ensures.value) c.in-Ok.ensures.each)
    c.entries.invariant.fit

pub overflow_add-number : goal.overflow_add-number
overflow_add-number g c =
    let x = walk_next g.M.Machine (record {
      machines = c.entries.machines;
      traces = c.args.traces.now;
      prefix = c.entries.prefix;
      places = c.as_slice-places.result.now;
      marks = c.entries.marks;
    }) c.go_next.new.machines c.go_next.new.marks c.nodes.node
    c.entries.invariant.walk c.go_next.ensures.took in
    let l = x.below in
    let b = ends_below c.args.traces.now c.nodes.node c.requires.entries in omega arith

pub overflow_cast-number : goal.overflow_cast-number
overflow_cast-number g c =
    let x = walk_next g.M.Machine (record {
      machines = c.entries.machines;
      traces = c.args.traces.now;
      prefix = c.entries.prefix;
      places = c.as_slice-places.result.now;
      marks = c.entries.marks;
    }) c.go_next.new.machines c.go_next.new.marks c.nodes.node
    c.entries.invariant.walk c.go_next.ensures.took in
    let l = x.below in
    let b = ends_below c.args.traces.now c.nodes.node c.requires.entries in omega arith

pub entries-smaller : goal.entries-smaller
entries-smaller g c =
    let x = walk_next g.M.Machine (record {
      machines = c.entries.machines;
      traces = c.args.traces.now;
      prefix = c.entries.prefix;
      places = c.as_slice-places.result.now;
      marks = c.entries.marks;
    }) c.go_next.new.machines c.go_next.new.marks c.nodes.node
    c.entries.invariant.walk c.go_next.ensures.took in
    let n = x.counts in omega arith

pub entries-preserved : goal.entries-preserved
entries-preserved g c =
    let x = walk_next g.M.Machine (record {
      machines = c.entries.machines;
      traces = c.args.traces.now;
      prefix = c.entries.prefix;
      places = c.as_slice-places.result.now;
      marks = c.entries.marks;
    }) c.go_next.new.machines c.go_next.new.marks c.nodes.node
    c.entries.invariant.walk c.go_next.ensures.took in
    let n = x.counts in
    let r = c.entries.invariant.rose in
    let each : HavePlaces c.as_slice-places.result.now c.args.traces.now = subst (λ ps. HavePlaces ps c.args.traces.now)
    (sym c.as_slice-places.ensures.value) c.in-Ok.ensures.each in
    let count : length c.as_slice-places.result.now ≡ length c.args.traces.now =
    ap length c.as_slice-places.ensures.value ∙ c.in-Ok.ensures.length in
    record {
      walk = x.walk;
      stood = λ rs stand. subst (Stood g.M.Machine (nodes_of rs c.args.traces.now)
          (advance c.entries.prefix c.nodes.node) c.go_next.new.machines (IsNoted c.as_slice-places.result.now
          c.go_next.new.marks)) (sym c.in-Ok-push.ensures.items)
          (stood_next g.M.Machine rs (record {
            machines = c.entries.machines;
            traces = c.args.traces.now;
            prefix = c.entries.prefix;
            places = c.as_slice-places.result.now;
            marks = c.entries.marks;
          }) c.go_next.new.machines c.go_next.new.marks c.nodes.node c.may_go_next.result
          c.entries.placed.items
          c.entries.invariant.walk c.may_go_next.ensures.judges c.entries-test.true c.go_next.ensures.took
          (got_spot rs c.args.traces.now c.as_slice-places.result.now count each)
          (c.entries.invariant.stood rs stand));
      fit = c.go_next.ensures.fit;
      rose = omega arith;
      less = λ _. inr (omega arith);
      none = λ is. absurd (let e : true ≡ false = is in cc);
    }

pub nodes-preserved : goal.nodes-preserved
nodes-preserved g c =
    let r1 = c.nodes.invariant.rose in
    let r2 = c.entries.invariant.rose in
    record {
      walk = c.entries.invariant.walk;
      stood = c.entries.invariant.stood;
      fit = c.entries.invariant.fit;
      rose = omega arith;
      less = less_then c.nodes.went c.entries.went (sum c.rounds.prefix) (sum c.nodes.prefix) (sum c.entries.prefix)
          c.nodes.invariant.less r2 c.entries.invariant.less r1;
      none = λ is. blocked_more g.M.Machine (record {
        machines = c.entries.machines;
        traces = c.args.traces.now;
        prefix = c.entries.prefix;
        places = c.as_slice-places.result.now;
        marks = c.entries.marks;
      }) c.nodes.node (c.entries.invariant.none is)
          (judged_blocked g.M.Machine (record {
            machines = c.entries.machines;
            traces = c.args.traces.now;
            prefix = c.entries.prefix;
            places = c.as_slice-places.result.now;
            marks = c.entries.marks;
          }) c.nodes.node c.may_go_next.result c.may_go_next.ensures.judges
          c.entries-test.false);
    }

pub rounds-smaller : goal.rounds-smaller
rounds-smaller g c = round_smaller g.M.Machine c.args.traces.now c.nodes.prefix c.nodes.machines (sum c.rounds.prefix)
    c.rounds.went c.nodes.went c.nodes.invariant.walk c.rounds-test.true c.nodes.invariant.rose c.nodes.invariant.less

pub returns-in_default-clause-prefix : goal.returns-in_default-clause-prefix
returns-in_default-clause-prefix g c = (
  replicate (length c.args.machines.now) 0,
  λ rs stand. merges_start g.M.Machine rs c.args.traces.now c.args.machines.now c.requires.nodes stand,
)

pub returns-in_default-no_marks-clause-prefix : goal.returns-in_default-no_marks-clause-prefix
returns-in_default-no_marks-clause-prefix g c = (
  replicate (length c.args.machines.now) 0,
  λ rs stand. merges_start g.M.Machine rs c.args.traces.now c.args.machines.now c.requires.nodes stand,
)

pub returns-in_default-vec-clause-prefix : goal.returns-in_default-vec-clause-prefix
returns-in_default-vec-clause-prefix g c = (
  replicate (length c.args.machines.now) 0,
  λ rs stand. merges_start g.M.Machine rs c.args.traces.now c.args.machines.now c.requires.nodes stand,
)

pub returns-in_default-push-clause-prefix : goal.returns-in_default-push-clause-prefix
returns-in_default-push-clause-prefix g c =
    let x = walk_next g.M.Machine (record {
      machines = c.entries.machines;
      traces = c.args.traces.now;
      prefix = c.entries.prefix;
      places = c.as_slice-places.result.now;
      marks = c.entries.marks;
    }) c.go_next.new.machines c.go_next.new.marks c.nodes.node
    c.entries.invariant.walk c.go_next.ensures.took in
    let each : HavePlaces c.as_slice-places.result.now c.args.traces.now = subst (λ ps. HavePlaces ps c.args.traces.now)
    (sym c.as_slice-places.ensures.value) c.in-Ok.ensures.each in
    let count : length c.as_slice-places.result.now ≡ length c.args.traces.now =
    ap length c.as_slice-places.ensures.value ∙ c.in-Ok.ensures.length in (
      advance c.entries.prefix c.nodes.node,
      λ rs stand. merges_cut g.M.Machine (nodes_of rs c.args.traces.now) (advance c.entries.prefix c.nodes.node)
          c.go_next.new.machines (IsNoted c.as_slice-places.result.now c.go_next.new.marks) _
          (stood_next g.M.Machine rs (record {
            machines = c.entries.machines;
            traces = c.args.traces.now;
            prefix = c.entries.prefix;
            places = c.as_slice-places.result.now;
            marks = c.entries.marks;
          }) c.go_next.new.machines c.go_next.new.marks c.nodes.node c.may_go_next.result
          c.entries.placed.items
          c.entries.invariant.walk c.may_go_next.ensures.judges c.entries-test.true c.go_next.ensures.took
          (got_spot rs c.args.traces.now c.as_slice-places.result.now count each)
          (c.entries.invariant.stood rs stand)),
    )

pub returns-in-None-clause-prefix : goal.returns-in-None-clause-prefix
returns-in-None-clause-prefix g c = (
  c.rounds.prefix,
  λ rs stand. let k = stand_length g.M.Machine c.args.machines.now rs stand in
      merges_all g.M.Machine rs c.args.traces.now c.rounds.prefix c.rounds.machines (IsNoted c.as_slice-places.result.now
      c.rounds.marks) c.rounds.placed (omega arith) c.rounds.invariant.walk (c.rounds.invariant.stood rs stand)
      c.in-None.ensures.none,
)

pub returns-in-None-clause-run : goal.returns-in-None-clause-run
returns-in-None-clause-run g c = λ rs stand.
    let a = (returns-in-None-clause-prefix g c).1 rs stand in (
      a.answers.nodes,
      subst (Reaches (steps_of g.M.Machine) (nodes_of rs c.args.traces.now) a.answers.nodes)
          a.answers.all a.answers.reached,
    )

pub overflow_add-result : goal.overflow_add-result
overflow_add-result g c =
    let l = left_ends c.args.traces.now c.rounds.prefix c.in-Some.node c.in-Some.ensures.some.0 in
    let b = ends_below c.args.traces.now c.in-Some.node c.requires.entries in omega arith

pub overflow_cast-result-in-Some : goal.overflow_cast-result-in-Some
overflow_cast-result-in-Some g c =
    let l = left_ends c.args.traces.now c.rounds.prefix c.in-Some.node c.in-Some.ensures.some.0 in
    let b = ends_below c.args.traces.now c.in-Some.node c.requires.entries in omega arith

pub returns-clause-prefix : goal.returns-clause-prefix
returns-clause-prefix g c = (
  c.rounds.prefix,
  λ rs stand. let k = stand_length g.M.Machine c.args.machines.now rs stand in
      merges_stuck g.M.Machine rs (record {
        machines = c.rounds.machines;
        traces = c.args.traces.now;
        prefix = c.rounds.prefix;
        places = c.as_slice-places.result.now;
        marks = c.rounds.marks;
      }) c.rounds.placed.items c.in-Some.node (omega arith)
      (omega arith) (c.rounds.invariant.stood rs stand)
      (c.rounds.invariant.none c.rounds-test.false) c.in-Some.ensures.some.0 c.in-Some.ensures.some.1,
)

pub returns-clause-no_run : goal.returns-clause-no_run
returns-clause-no_run g c = λ rs stand node entry is run.
    let a = (returns-clause-prefix g c).1 rs stand in
    run_not_stuck (steps_of g.M.Machine) (nodes_of rs c.args.traces.now) (returns-clause-prefix g c).0 run (a.answers).0
