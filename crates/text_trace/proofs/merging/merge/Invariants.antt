-- Each round goes over the nodes; a round in which nothing went has found that nothing can go.
use Rattle.std.proofs.Common.{◌≡◌, ℕ, ◌+◌, ◌-◌, ◌*◌, ◌<◌, ◌≤◌, true, false, length, sum, cond, ◌⊎◌, List}
use Rattle.text_trace.specs.Going.{IsBlocked}
use Rattle.text_trace.specs.Noted.{IsNoted, Fit}
use Rattle.text_trace.specs.Merged.{StandFor, nodes_of}
use Rattle.text_trace.proofs.NodeLemmas.{ends}
use Rattle.text_trace.proofs.Walking.{Walk, Stood}
use Rattle.text_trace.proofs.merging.merge.Given as goal

abbrev pub invariant-rounds : goal.invariant-rounds
invariant-rounds g l = record {
  walk : Walk g.M.Machine l.traces l.prefix l.machines;
  stood : (rs : List g.M.Machine.State) → StandFor g.M.Machine l.fn.machines rs
      → Stood g.M.Machine (nodes_of rs l.traces) l.prefix l.machines (IsNoted l.places l.marks) l.placed.items;
  fit : Fit l.places l.marks;
  none : l.went ≡ false → (k : ℕ) → k < length l.machines → IsBlocked g.M.Machine (record {
    machines = l.machines;
    traces = l.traces;
    prefix = l.prefix;
    places = l.places;
    marks = l.marks;
  }) k;
}

abbrev pub decreases-rounds : goal.decreases-rounds
decreases-rounds g l = 2 * (sum (ends l.traces) - sum l.prefix) + cond l.went 1 0

abbrev pub invariant-nodes : goal.invariant-nodes
invariant-nodes g l = record {
  walk : Walk g.M.Machine l.traces l.prefix l.machines;
  stood : (rs : List g.M.Machine.State) → StandFor g.M.Machine l.fn.machines rs
      → Stood g.M.Machine (nodes_of rs l.traces) l.prefix l.machines (IsNoted l.places l.marks) l.placed.items;
  fit : Fit l.places l.marks;
  rose : sum l.initial.prefix ≤ sum l.prefix;
  less : l.went ≡ true → sum l.initial.prefix < sum l.prefix;
  none : l.went ≡ false → (k : ℕ) → k < l.node → IsBlocked g.M.Machine (record {
    machines = l.machines;
    traces = l.traces;
    prefix = l.prefix;
    places = l.places;
    marks = l.marks;
  }) k;
}

abbrev pub invariant-entries : goal.invariant-entries
invariant-entries g l = record {
  walk : Walk g.M.Machine l.traces l.prefix l.machines;
  stood : (rs : List g.M.Machine.State) → StandFor g.M.Machine l.fn.machines rs
      → Stood g.M.Machine (nodes_of rs l.traces) l.prefix l.machines (IsNoted l.places l.marks) l.placed.items;
  fit : Fit l.places l.marks;
  rose : sum l.initial.prefix ≤ sum l.prefix;
  less : l.went ≡ true → (l.initial.went ≡ true) ⊎ (sum l.initial.prefix < sum l.prefix);
  none : l.went ≡ false → (k : ℕ) → k < l.node → IsBlocked g.M.Machine (record {
    machines = l.machines;
    traces = l.traces;
    prefix = l.prefix;
    places = l.places;
    marks = l.marks;
  }) k;
}

abbrev pub decreases-entries : goal.decreases-entries
decreases-entries g l = sum (ends l.traces) - sum l.prefix
