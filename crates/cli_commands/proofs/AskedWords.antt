-- Whether words are those of a command.
use Rattle.std.proofs.Common.{◌≡◌, ℕ, ◌<◌, ◌≤◌, ◌^◌, List, [], ◌∷◌, length, ap, codes, ◌∙◌}
use Rattle.std.specs.Prelude.{decimal}
use Rattle.base_text.specs.Lines.{Word}
use Rattle.cli_commands.specs.Commands.{Asks, AsksNothing}
use Rattle.cli_commands.specs.declared.words.Command.{Command}
use Rattle.cli_commands.specs.declared.words.Command.TheVariants as commands

-- one word
pub asks_world : (word : Word) → word ≡ codes "world" → Asks (word ∷ []) commands.World
asks_world word is = record { in_range = tt; words_are = ap (λ (w : Word). w ∷ []) is }

pub asks_upgrade : (word : Word) → word ≡ codes "upgrade" → Asks (word ∷ []) commands.Upgrade
asks_upgrade word is = record { in_range = tt; words_are = ap (λ (w : Word). w ∷ []) is }

pub asks_check : (word : Word) → word ≡ codes "check" → Asks (word ∷ []) commands.Check
asks_check word is = record { in_range = tt; words_are = ap (λ (w : Word). w ∷ []) is }

one_other_by : (word : Word) (command : Command) → (word ≡ codes "world" → ⊥) → (word ≡ codes "upgrade" → ⊥)
    → (word ≡ codes "check" → ⊥) → Asks (word ∷ []) command → ⊥
one_other_by word commands.World world upgrade check asks = let same = asks.words_are in world (cc)
one_other_by word commands.Upgrade world upgrade check asks = let same = asks.words_are in upgrade (cc)
one_other_by word commands.Check world upgrade check asks = let same = asks.words_are in check (cc)
one_other_by word (commands.Launch port) world upgrade check asks = let same = asks.words_are in absurd (cc)
one_other_by word (commands.Node rank port) world upgrade check asks = let same = asks.words_are in absurd (cc)
one_other_by word (commands.Drill seed) world upgrade check asks = let same = asks.words_are in absurd (cc)

pub one_other : (word : Word) → (word ≡ codes "world" → ⊥) → (word ≡ codes "upgrade" → ⊥)
    → (word ≡ codes "check" → ⊥) → AsksNothing (word ∷ [])
one_other word world upgrade check command = one_other_by word command world upgrade check

-- two words
pub asks_drill : (name word : Word) (seed : ℕ) → seed < 2 ^ 64 → name ≡ codes "drill" → word ≡ decimal seed
    → Asks (name ∷ word ∷ []) (commands.Drill seed)
asks_drill name word seed fits is number = record {
  in_range = fits;
  words_are = ap (λ (w : Word). w ∷ word ∷ []) is ∙ ap (λ (w : Word). codes "drill" ∷ w ∷ []) number;
}

pub asks_launch : (name word : Word) (port : ℕ) → 1024 ≤ port → port ≤ 65472 → name ≡ codes "launch"
    → word ≡ decimal port → Asks (name ∷ word ∷ []) (commands.Launch port)
asks_launch name word port low high is number = record {
  in_range = (low, high);
  words_are = ap (λ (w : Word). w ∷ word ∷ []) is ∙ ap (λ (w : Word). codes "launch" ∷ w ∷ []) number;
}

two_other_by : (name word : Word) (command : Command) → (name ≡ codes "drill" → ⊥) → (name ≡ codes "launch" → ⊥)
    → Asks (name ∷ word ∷ []) command → ⊥
two_other_by name word commands.World drill launch asks = let same = asks.words_are in absurd (cc)
two_other_by name word commands.Upgrade drill launch asks = let same = asks.words_are in absurd (cc)
two_other_by name word commands.Check drill launch asks = let same = asks.words_are in absurd (cc)
two_other_by name word (commands.Launch port) drill launch asks = let same = asks.words_are in launch (cc)
two_other_by name word (commands.Node rank port) drill launch asks = let same = asks.words_are in absurd (cc)
two_other_by name word (commands.Drill seed) drill launch asks = let same = asks.words_are in drill (cc)

pub two_other : (name word : Word) → (name ≡ codes "drill" → ⊥) → (name ≡ codes "launch" → ⊥)
    → AsksNothing (name ∷ word ∷ [])
two_other name word drill launch command = two_other_by name word command drill launch

no_seed_by : (name word : Word) (command : Command) → name ≡ codes "drill"
    → ((seed : ℕ) → seed < 2 ^ 64 → word ≡ decimal seed → ⊥) → Asks (name ∷ word ∷ []) command → ⊥
no_seed_by name word commands.World is none asks = let same = asks.words_are in absurd (cc)
no_seed_by name word commands.Upgrade is none asks = let same = asks.words_are in absurd (cc)
no_seed_by name word commands.Check is none asks = let same = asks.words_are in absurd (cc)
no_seed_by name word (commands.Launch port) is none asks =
    let same = asks.words_are in let other : codes "drill" ≡ codes "launch" = cc in absurd (cc)
no_seed_by name word (commands.Node rank port) is none asks = let same = asks.words_are in absurd (cc)
no_seed_by name word (commands.Drill seed) is none asks =
    let same = asks.words_are in none seed asks.in_range (cc)

pub no_seed : (name word : Word) → name ≡ codes "drill" → ((seed : ℕ) → seed < 2 ^ 64 → word ≡ decimal seed → ⊥)
    → AsksNothing (name ∷ word ∷ [])
no_seed name word is none command = no_seed_by name word command is none

no_port_by : (name word : Word) (command : Command) → name ≡ codes "launch"
    → ((port : ℕ) → 1024 ≤ port → port ≤ 65472 → word ≡ decimal port → ⊥) → Asks (name ∷ word ∷ []) command → ⊥
no_port_by name word commands.World is none asks = let same = asks.words_are in absurd (cc)
no_port_by name word commands.Upgrade is none asks = let same = asks.words_are in absurd (cc)
no_port_by name word commands.Check is none asks = let same = asks.words_are in absurd (cc)
no_port_by name word (commands.Launch port) is none asks =
    let same = asks.words_are in none port asks.in_range.0 asks.in_range.1 (cc)
no_port_by name word (commands.Node rank port) is none asks = let same = asks.words_are in absurd (cc)
no_port_by name word (commands.Drill seed) is none asks =
    let same = asks.words_are in let other : codes "launch" ≡ codes "drill" = cc in absurd (cc)

pub no_port : (name word : Word) → name ≡ codes "launch"
    → ((port : ℕ) → 1024 ≤ port → port ≤ 65472 → word ≡ decimal port → ⊥) → AsksNothing (name ∷ word ∷ [])
no_port name word is none command = no_port_by name word command is none

-- three words
pub asks_node : (rank_word port_word : Word) (rank port : ℕ) → rank ≤ 255 → 1024 ≤ port → port ≤ 65472
    → rank_word ≡ decimal rank → port_word ≡ decimal port
    → Asks (codes "node" ∷ rank_word ∷ port_word ∷ []) (commands.Node rank port)
asks_node rank_word port_word rank port few low high r p = record {
  in_range = (few, low, high);
  words_are = ap (λ (w : Word). codes "node" ∷ w ∷ port_word ∷ []) r
      ∙ ap (λ (w : Word). codes "node" ∷ decimal rank ∷ w ∷ []) p;
}

-- these words are none where one of the numbers is none of its range
no_numbers_by : (name rank_word port_word : Word) (command : Command)
    → ((rank port : ℕ) → rank ≤ 255 → 1024 ≤ port → port ≤ 65472 → rank_word ≡ decimal rank
    → port_word ≡ decimal port → ⊥)
    → Asks (name ∷ rank_word ∷ port_word ∷ []) command → ⊥
no_numbers_by name rank_word port_word commands.World none asks = let same = asks.words_are in absurd (cc)
no_numbers_by name rank_word port_word commands.Upgrade none asks = let same = asks.words_are in absurd (cc)
no_numbers_by name rank_word port_word commands.Check none asks = let same = asks.words_are in absurd (cc)
no_numbers_by name rank_word port_word (commands.Launch port) none asks = let same = asks.words_are in absurd (cc)
no_numbers_by name rank_word port_word (commands.Drill seed) none asks = let same = asks.words_are in absurd (cc)
no_numbers_by name rank_word port_word (commands.Node rank port) none asks =
    let same = asks.words_are in none rank port asks.in_range.0 asks.in_range.1 asks.in_range.2 (cc) (cc)

pub no_numbers : (name rank_word port_word : Word)
    → ((rank port : ℕ) → rank ≤ 255 → 1024 ≤ port → port ≤ 65472 → rank_word ≡ decimal rank
    → port_word ≡ decimal port → ⊥)
    → AsksNothing (name ∷ rank_word ∷ port_word ∷ [])
no_numbers name rank_word port_word none command = no_numbers_by name rank_word port_word command none

three_other_by : (name rank_word port_word : Word) (command : Command) → (name ≡ codes "node" → ⊥)
    → Asks (name ∷ rank_word ∷ port_word ∷ []) command → ⊥
three_other_by name rank_word port_word commands.World other asks = let same = asks.words_are in absurd (cc)
three_other_by name rank_word port_word commands.Upgrade other asks = let same = asks.words_are in absurd (cc)
three_other_by name rank_word port_word commands.Check other asks = let same = asks.words_are in absurd (cc)
three_other_by name rank_word port_word (commands.Launch port) other asks = let same = asks.words_are in absurd (cc)
three_other_by name rank_word port_word (commands.Drill seed) other asks = let same = asks.words_are in absurd (cc)
three_other_by name rank_word port_word (commands.Node rank port) other asks =
    let same = asks.words_are in other (cc)

pub three_other : (name rank_word port_word : Word) → (name ≡ codes "node" → ⊥)
    → AsksNothing (name ∷ rank_word ∷ port_word ∷ [])
three_other name rank_word port_word other command = three_other_by name rank_word port_word command other

-- any other number of words
other_count_by : (words : List Word) (command : Command) → (length words ≡ 1 → ⊥) → (length words ≡ 2 → ⊥)
    → (length words ≡ 3 → ⊥) → Asks words command → ⊥
other_count_by words commands.World one two three asks = one (ap length asks.words_are)
other_count_by words commands.Upgrade one two three asks = one (ap length asks.words_are)
other_count_by words commands.Check one two three asks = one (ap length asks.words_are)
other_count_by words (commands.Launch port) one two three asks = two (ap length asks.words_are)
other_count_by words (commands.Node rank port) one two three asks = three (ap length asks.words_are)
other_count_by words (commands.Drill seed) one two three asks = two (ap length asks.words_are)

pub other_count : (words : List Word) → (length words ≡ 1 → ⊥) → (length words ≡ 2 → ⊥) → (length words ≡ 3 → ⊥)
    → AsksNothing words
other_count words one two three command = other_count_by words command one two three
