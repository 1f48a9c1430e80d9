-- Exit statuses.
use Rattle.std.specs.Prelude.{◌≡◌, ℕ, List}
use Rattle.std.specs.List.{Contains}
use Rattle.base_text.specs.declared.why.LineWhy.{LineWhy}
use Rattle.cli_commands.specs.Outsides.{Call}
use Rattle.cli_commands.specs.HowEnds.{EndsHow, IsCutShort, TellsEnd}
use Rattle.cli_commands.specs.declared.ending.CommandEnd.TheVariants as ends

-- what each exit status says of a call whose command may end so, and which ones it may have
pub record CodeMeans (call : Call) (Ends : EndsHow) (codes : List ℕ) (code : ℕ) : Type 0 where
  pub is_status : Contains codes code
  pub ok : code ≡ 0 → TellsEnd call Ends ends.Done
  pub violations : code ≡ 1 → TellsEnd call Ends ends.Violations
  pub usage : code ≡ 2 → TellsEnd call Ends ends.Usage
  pub bad_job : code ≡ 3 → (line : ℕ) × (reason : LineWhy) × TellsEnd call Ends (ends.BadJob line reason)
  pub read_fault : code ≡ 4 → TellsEnd call Ends ends.ReadFault
  pub write_fault : code ≡ 5 → IsCutShort call Ends
  pub link_fault : code ≡ 6 → TellsEnd call Ends ends.LinkFault
  pub spawn_fault : code ≡ 7 → TellsEnd call Ends ends.SpawnFault
  pub no_memory : code ≡ 8 → TellsEnd call Ends ends.NoMemory
  pub stuck : code ≡ 9 → TellsEnd call Ends ends.Stuck
  pub journal_full : code ≡ 10 → TellsEnd call Ends ends.JournalFull
  pub not_a_run : code ≡ 11 → (node entry : ℕ) × TellsEnd call Ends (ends.NotARun node entry)
  pub child : code ≡ 12 → (rank status : ℕ) × TellsEnd call Ends (ends.Child rank status)
