-- The chunks that are open: issued, and not back.
use Rattle.std.specs.Prelude.{ℕ, suc, ◌==◌, not, ◌&&◌, if◌then◌else◌, List, [], ◌∷◌, ◌++◌, map}
use Rattle.part_transfers.specs.Operation.{Operation, SentChunk, target}

-- a chunk that is out: the number of its operation, and of its request
pub record Out : Type 0 where
  pub operation : ℕ
  pub request : ℕ

-- the requests of those that went in that slot
abbrev pub requests_in : (slot : ℕ) → List SentChunk → List ℕ
requests_in slot [] = []
requests_in slot (sent ∷ later) =
    if (sent.slot == slot) && not sent.back then sent.number ∷ requests_in slot later else requests_in slot later

-- the requests of those of the operation that are out to the node in that slot
abbrev pub requests_of : (to slot : ℕ) → Operation → List ℕ
requests_of to slot operation = if target operation.transfer == to then requests_in slot operation.sent else []

-- those of all operations; the first one here has this number
abbrev pub outs : (to slot number : ℕ) → List Operation → List Out
outs to slot number [] = []
outs to slot number (operation ∷ later) =
    map (λ request. record { operation = number; request = request }) (requests_of to slot operation)
    ++ outs to slot (suc number) later
