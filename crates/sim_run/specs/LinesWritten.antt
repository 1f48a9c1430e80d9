-- How far the lines of a command went into its sink.
use Rattle.std.specs.Prelude.{◌≡◌, List, ◌++◌, ⊤}
use Rattle.base_io.specs.Buffered.{Outbox, Gathers, GathersPrefix}
use Rattle.base_io.specs.declared.writing.Wrote.{Wrote}
use Rattle.base_io.specs.declared.writing.Wrote.TheVariants as wrote
use Rattle.base_text.specs.LineTexts.{Line, spell}
use Rattle.sim_run.specs.declared.said.Said.{Said}
use Rattle.sim_run.specs.declared.said.Said.TheVariants.{Done, Fault, NoMemory}

-- whole lines went in, up to these that are left
pub record LinesUpTo (old new : Outbox) (lines rest : List Line) : Type 0 where
  pub prefix : List Line
  pub whole : lines ≡ prefix ++ rest
  pub gathered : Gathers old new (spell prefix)

-- all the lines; at a fault of the sink, a prefix of their text; where memory ran out, some whole lines
abbrev pub SaysLines : Outbox → Outbox → List Line → Said → Type 0
SaysLines old new lines Done = Gathers old new (spell lines)
SaysLines old new lines Fault = GathersPrefix old new (spell lines)
SaysLines old new lines NoMemory = (rest : List Line) × LinesUpTo old new lines rest

-- a fact where all was said
abbrev pub OnDone : Said → Type 0 → Type 0
OnDone Done P = P
OnDone Fault P = ⊤
OnDone NoMemory P = ⊤

-- how far a write went, as how far lines were said
abbrev pub said_of : Wrote → Said
said_of wrote.Done = Done
said_of wrote.Fault = Fault
