-- A station, as contracts see it, and what it was opened with.
use Rattle.std.specs.Prelude.{ℕ, Option, Some, None}
use Rattle.proc_runner.specs.declared.ends.StationEnd.{StationEnd}

-- a station
pub record StationState (M L C K : Type 0) : Type 0 where
  pub machine : M
  pub link : L
  pub clock : C
  pub recorder : K  -- what takes the turns that got or changed something, in order
  pub count : ℕ  -- how many those are
  pub quiet : ℕ  -- how many quiet turns came last in a row
  pub idle : ℕ  -- how many turns were empty; the number stays at its last value
  pub patience : ℕ  -- how many quiet turns in a row end it
  pub kept : Option StationEnd  -- why it takes no more turns

-- machine, link, clock and recorder as they were at the opening, and the patience
pub record Opening (M L C K : Type 0) : Type 0 where
  pub machine : M
  pub link : L
  pub clock : C
  pub recorder : K
  pub patience : ℕ

-- these five
abbrev pub opened_with : {M L C K : Type 0} → (machine : M) → (link : L) → (clock : C) → (recorder : K) → (patience : ℕ)
    → Opening M L C K
opened_with machine link clock recorder patience =
    record { machine = machine; link = link; clock = clock; recorder = recorder; patience = patience }

-- a station that was just made
abbrev pub new_station : {M L C K : Type 0} → Opening M L C K → StationState M L C K
new_station opening = record {
  machine = opening.machine;
  link = opening.link;
  clock = opening.clock;
  recorder = opening.recorder;
  count = 0;
  quiet = 0;
  idle = 0;
  patience = opening.patience;
  kept = None;
}

-- what a station that was just made was opened with
abbrev pub opening_of : {M L C K : Type 0} → StationState M L C K → Opening M L C K
opening_of station = record {
  machine = station.machine;
  link = station.link;
  clock = station.clock;
  recorder = station.recorder;
  patience = station.patience;
}

-- the end is kept, and nothing else changes
abbrev pub ended_with : {M L C K : Type 0} → StationState M L C K → StationEnd → StationState M L C K
ended_with station end = record station { kept = Some end }
