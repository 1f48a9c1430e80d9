-- What the readers of a trace return, beside what reading is.
use Rattle.std.specs.Prelude.{◌≡◌, Result, Ok, Err}
use Rattle.base_text.specs.declared.why.LineWhy.{LineWhy}
use Rattle.text_trace.specs.declared.fault.LineFault.{LineFault}
use Rattle.text_trace.specs.declared.fault.LineFault.TheVariants as faults
use Rattle.text_trace.specs.declared.fault.TraceFault.{TraceFault}
use Rattle.text_trace.specs.declared.fault.TraceFault.TheVariants.{Bad, NoMemory}
use Rattle.text_trace.specs.TraceReading.{BadLine}

-- what a reader returned is what reading gives
abbrev pub Tells : {X Y : Type 0} → (X → Y) → Result X LineWhy → Result Y LineWhy → Type 0
Tells view (Ok found) read = read ≡ Ok (view found)
Tells view (Err why) read = read ≡ Err why

-- a reader failed by want of memory, or for the reason of reading
abbrev pub Fails : {Y : Type 0} → LineFault → Result Y LineWhy → Type 0
Fails faults.NoMemory read = Unit {0}
Fails (faults.Bad why) read = read ≡ Err why

-- what a reader returned is what reading gives, unless memory ran out
abbrev pub Gives : {X Y : Type 0} → (X → Y) → Result X LineFault → Result Y LineWhy → Type 0
Gives view (Ok found) read = read ≡ Ok (view found)
Gives view (Err fault) read = Fails fault read

-- a reader of many lines failed by want of memory, or at the bad line of reading
abbrev pub FailsAt : {Y : Type 0} → TraceFault → Result Y BadLine → Type 0
FailsAt NoMemory read = Unit {0}
FailsAt (Bad line why) read = read ≡ Err (record { line = line; why = why })

-- what a reader of many lines returned is what reading gives, unless memory ran out
abbrev pub GivesAt : {X Y : Type 0} → (X → Y) → Result X TraceFault → Result Y BadLine → Type 0
GivesAt view (Ok found) read = read ≡ Ok (view found)
GivesAt view (Err fault) read = FailsAt fault read
