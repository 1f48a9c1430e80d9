-- The word is there, or memory ran out.
use Rattle.std.proofs.Common.{◌≡◌, ◌⊎◌, ℕ, List, [], ◌∷◌, ◌++◌, Result, Ok, Err, String, Global, inl, inr, is_ok, if◌then◌else◌, decimal}
use Rattle.std.specs.String.{string_bytes}
use Rattle.cli_report.proofs.command.with_word.Goals as goal

has_word : {U E : Type 0} (pushed : Result U E) (old new : List (String Global)) (word : String Global) (port : ℕ)
    → string_bytes word ≡ decimal port → new ≡ (if is_ok pushed then old ++ word ∷ [] else old)
    → (new ≡ old) ⊎ ((own : String Global) × (string_bytes own ≡ decimal port) × (new ≡ old ++ own ∷ []))
has_word (Ok unit) old new word port bytes is = inr (word, bytes, is)
has_word (Err fault) old new word port bytes is = inl is

pub returns-in-Ok : goal.returns-in-Ok
returns-in-Ok c = rw c.in-Some.is
    (has_word c.push.result c.args.words.items c.push.new.self.items c.in-Ok.word c.in-Some.port c.in-Ok.ensures
    c.push.ensures.items)
