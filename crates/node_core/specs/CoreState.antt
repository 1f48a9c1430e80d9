-- What a core is, as a value.
use Rattle.std.specs.Prelude.{ℕ, ℤ, List, Option}
use Rattle.wire_message.specs.Parameters.{Parameters}
use Rattle.part_window.specs.SlotsState.{SlotsState}
use Rattle.part_window.specs.RepliesState.{RepliesState}
use Rattle.part_handlers.specs.declared.table.Entry.{Entry}
use Rattle.part_handlers.specs.declared.lock_answer.Held.{Held}
use Rattle.part_handlers.specs.LogState.{LogRecord}

pub record CoreState : Type 0 where
  pub settings : Parameters
  pub me : ℕ
  pub table : List (Option Entry)
  pub requests : SlotsState
  pub replies : RepliesState
  pub segment : List ℕ
  pub locks : List Held
  pub cells : List ℤ
  pub log : LogRecord
