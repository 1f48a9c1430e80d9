-- The requests of one peer that a node ran.
use Rattle.std.specs.Prelude.{ℕ, zero, suc, ◌+◌, ◌==◌, Bool, ◌&&◌, if◌then◌else◌, max, List, [], ◌∷◌, Option, None}
use Rattle.std.specs.Prelude.{Some}
use Rattle.std.specs.List.{list_any}
use Rattle.spec_node.specs.Record.{Run}

-- the greatest number run in the slot, or 0
abbrev pub greatest : ℕ → List Run → ℕ
greatest slot [] = 0
greatest slot (run ∷ rest) =
    if run.slot == slot then max run.number (greatest slot rest) else greatest slot rest

-- the run of the request with this number
abbrev pub run_of : ℕ → List Run → Option Run
run_of number [] = None
run_of number (run ∷ rest) = if run.number == number then Some run else run_of number rest

-- the run of the request with this slot and number
abbrev pub run_at : ℕ → ℕ → List Run → Option Run
run_at slot number [] = None
run_at slot number (run ∷ rest) =
    if (run.number == number) && (run.slot == slot) then Some run else run_at slot number rest

-- the run with the greatest number of the slot, whose reply is kept
abbrev pub last_run : ℕ → List Run → Option Run
last_run slot runs = run_at slot (greatest slot runs) runs

-- some request of the slot was run
abbrev pub has_run : ℕ → List Run → Bool
has_run slot runs = list_any (λ run. run.slot == slot) runs

-- how many of the slots below this one have a run, and so a reply that is kept
abbrev pub slots_run : List Run → ℕ → ℕ
slots_run runs zero = 0
slots_run runs (suc slot) = slots_run runs slot + (if has_run slot runs then 1 else 0)
