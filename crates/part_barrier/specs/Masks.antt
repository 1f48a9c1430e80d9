-- Masks of nodes as numbers: bit j stands for node j.
use Rattle.std.specs.Prelude.{ℕ, zero, suc, ◌/◌, ◌%◌, ◌^◌, Bool, true, ◌&&◌, List, [], ◌∷◌, ◌==◌}
use Rattle.std.specs.Int.{bit_at}

-- the node is in the mask; or the flag with this bit is among the flags
abbrev pub has : (mask node : ℕ) → Bool
has mask node = bit_at mask node == 1

-- each node below this one is in the mask
abbrev pub has_all : (mask nodes : ℕ) → Bool
has_all mask zero = true
has_all mask (suc node) = has_all mask node && has mask node

-- ---- as four words, the lowest first

abbrev pub low_word : ℕ → ℕ
low_word number = number % 2 ^ 64

abbrev pub higher : ℕ → ℕ
higher number = number / 2 ^ 64

abbrev pub mask_words : ℕ → List ℕ
mask_words number =
    low_word number
    ∷ low_word (higher number)
    ∷ low_word (higher (higher number))
    ∷ higher (higher (higher number))
    ∷ []
