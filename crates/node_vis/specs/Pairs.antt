-- Which byte of the target's segment goes with which byte of the local one.
-- Origin: this project's profile.
use Rattle.std.specs.Prelude.{ℕ, zero, suc, ◌+◌, ◌*◌, List, [], ◌∷◌, ◌++◌}
use Rattle.node_vis.specs.declared.shapes.Level.{Level}
use Rattle.node_vis.specs.declared.shapes.Strided.{Strided}
use Rattle.node_vis.specs.declared.shapes.Indexed.{Indexed}

-- the places of two bytes: one of the target's segment, and the one of the local segment that goes with it
pub record Pair : Type 0 where
  pub remote : ℕ
  pub local : ℕ

abbrev pub pair : (remote local : ℕ) → Pair
pair remote local = record { remote = remote; local = local }

-- so many pairs in a row, from these two bytes on
abbrev pub pairs_from : (remote local len : ℕ) → List Pair
pairs_from remote local zero = []
pairs_from remote local (suc len) = pair remote local ∷ pairs_from (suc remote) (suc local) len

-- ---- strided transfers

-- the lists at 0, 1 and so on, of so many numbers, one behind the other
abbrev pub joined_lists : (ℕ → List Pair) → (many : ℕ) → List Pair
joined_lists list zero = []
joined_lists list (suc many) = joined_lists list many ++ list many

-- For each vector of indexes below the counts of the levels, the last level fastest, `len` pairs in a row. They begin
-- behind these two bytes by the sum of each index times its level's stride
abbrev pub level_pairs : List Level → (remote local len : ℕ) → List Pair
level_pairs [] remote local len = pairs_from remote local len
level_pairs (level ∷ deeper) remote local len =
    joined_lists
    (λ index. level_pairs deeper (remote + index * level.remote) (local + index * level.local) len) level.count

-- how many vectors of indexes there are
abbrev pub vectors : List Level → ℕ
vectors [] = 1
vectors (level ∷ deeper) = level.count * vectors deeper

abbrev pub strided_pairs : Strided → List Pair
strided_pairs transfer = level_pairs transfer.levels.now transfer.remote transfer.local transfer.len

-- ---- indexed transfers

-- the bytes of a range, by their places
abbrev pub bytes_from : (first len : ℕ) → List ℕ
bytes_from first zero = []
bytes_from first (suc len) = first ∷ bytes_from (suc first) len

-- those of ranges, each a first byte and a length, one range behind the other
abbrev pub range_bytes : List (ℕ × ℕ) → List ℕ
range_bytes [] = []
range_bytes (range ∷ ranges) = bytes_from range.0 range.1 ++ range_bytes ranges

-- how many they are
abbrev pub total : List (ℕ × ℕ) → ℕ
total [] = 0
total (range ∷ ranges) = range.1 + total ranges

-- the first with the first, the second with the second, while both lists have one
abbrev pub pairs_of : (remote local : List ℕ) → List Pair
pairs_of [] locals = []
pairs_of (remote ∷ remotes) [] = []
pairs_of (remote ∷ remotes) (local ∷ locals) = pair remote local ∷ pairs_of remotes locals

-- the bytes of the remote ranges with those of the local ones
abbrev pub range_pairs : (remote local : List (ℕ × ℕ)) → List Pair
range_pairs remote local = pairs_of (range_bytes remote) (range_bytes local)

abbrev pub indexed_pairs : Indexed → List Pair
indexed_pairs transfer = range_pairs transfer.remote.now transfer.local.now
