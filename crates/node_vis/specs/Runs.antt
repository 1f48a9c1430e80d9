-- Runs of pairs as the code keeps them, and what is wrong with pieces: serves the code.
use Rattle.std.specs.Prelude.{ℕ, ◌≡◌, ◌≢◌, ◌+◌, ◌*◌, ◌<◌, ◌≤◌, ◌==◌, nat_le, nat_lt, Bool, true, false}
use Rattle.std.specs.Prelude.{◌||◌, ◌&&◌, if◌then◌else◌}
use Rattle.std.specs.Prelude.{List, [], ◌∷◌, ◌++◌, length, Option, None, Some, Result, Ok, Err}
use Rattle.std.specs.List.{All, list_any, AllByRecursion}
use Rattle.wire_message.specs.Parameters.{Parameters}
use Rattle.node_vis.specs.declared.shapes.Way.{Way}
use Rattle.node_vis.specs.declared.shapes.Way.TheVariants.{Put, Get}
use Rattle.node_vis.specs.declared.shapes.Piece.{Piece}
use Rattle.node_vis.specs.declared.shapes.PlanFault.{PlanFault}
use Rattle.node_vis.specs.declared.shapes.PlanFault.TheVariants as fault
use Rattle.node_vis.specs.declared.runs.Run.{Run}
use Rattle.node_vis.specs.declared.shapes.Level.{Level}
use Rattle.node_vis.specs.Pairs.{Pair}
use Rattle.node_vis.specs.Pieces.{piece, pieces_of}
use Rattle.node_vis.specs.Plans.{IsReason}
use Rattle.node_vis.specs.declared.levels.TheConstants.{MOST_VECTORS}

abbrev pub piece_in : Run → Piece
piece_in run = piece run.remote run.local run.len

-- the run ends before 2^100 on both sides
abbrev pub EndsSoon : Run → Type 0
EndsSoon run =
    (run.remote + run.len ≤ 1267650600228229401496703205376)
    × (run.local + run.len ≤ 1267650600228229401496703205376)

-- what holds of the runs that are kept
abbrev pub AreRuns : List Run → Type 0
AreRuns runs = All EndsSoon runs × (length runs ≤ 1024)

-- the run ends so soon that as many levels may still move it
abbrev pub IsNear : (levels : ℕ) → Run → Type 0
IsNear levels run =
    (run.remote + run.len + levels * 1208925819614629174706176 ≤ 1267650600228229401496703205376)
    × (run.local + run.len + levels * 1208925819614629174706176 ≤ 1267650600228229401496703205376)

-- the index of the level has no value
abbrev pub is_none : Level → Bool
is_none level = level.count == 0

-- no index has more than 65,536 values
abbrev pub AreFew : List Level → Type 0
AreFew levels = AllByRecursion (λ (level : Level). level.count ≤ MOST_VECTORS) levels

-- ---- pairs that are added

-- memory ran out, or so many are more than a plan has
abbrev pub IsFull : (pieces : ℕ) → PlanFault → Type 0
IsFull pieces why = why ≢ fault.NoMemory → (why ≡ fault.Pieces) × (1024 < pieces)

-- these pairs came behind those that were there
abbrev pub Adds : (old : List Piece) → List Pair → (new : List Piece) → Type 0
Adds old more new = (pairs : List Pair) → old ≡ pieces_of pairs → new ≡ pieces_of (pairs ++ more)

-- or they would make too many pieces
abbrev pub AddsAll : (old : List Piece) → List Pair → Result (Unit {0}) PlanFault → (new : List Piece) → Type 0
AddsAll old more (Ok done) new = Adds old more new
AddsAll old more (Err why) new =
    (pairs : List Pair) → old ≡ pieces_of pairs → IsFull (length (pieces_of (pairs ++ more))) why

-- the pieces of pairs, or they are too many
abbrev pub IsGathered : List Pair → Result (List Piece) PlanFault → Type 0
IsGathered pairs (Ok pieces) = pieces ≡ pieces_of pairs
IsGathered pairs (Err why) = IsFull (length (pieces_of pairs)) why

-- ---- what is wrong with pieces

-- where a piece is written
abbrev pub written_at : Way → Piece → ℕ
written_at Put piece = piece.remote
written_at Get piece = piece.local

-- the two pieces write the same byte
abbrev pub meet : Way → (first second : Piece) → Bool
meet way first second =
    nat_lt (written_at way first) (written_at way second + second.len)
    && nat_lt (written_at way second) (written_at way first + first.len)

-- some two of the pieces do
abbrev pub some_meet : Way → List Piece → Bool
some_meet way [] = false
some_meet way (first ∷ pieces) = list_any (meet way first) pieces || some_meet way pieces

-- each piece is written behind the end of the one before it, and the first one behind this byte
abbrev pub ascend_from : Way → (end : ℕ) → List Piece → Bool
ascend_from way end [] = true
ascend_from way end (piece ∷ pieces) =
    nat_le end (written_at way piece) && ascend_from way (written_at way piece + piece.len) pieces

-- a range of so many bytes ends behind the segment
abbrev pub ends_behind : (segment first len : ℕ) → Bool
ends_behind segment first len = nat_lt segment (first + len)

-- the first thing that is wrong with pieces
abbrev pub pieces_fault : Parameters → Way → List Piece → Option PlanFault
pieces_fault settings way pieces =
    if nat_lt 1024 (length pieces) then Some fault.Pieces
    else (if list_any (λ (piece : Piece). ends_behind settings.segment piece.local piece.len) pieces
    then Some fault.Source
    else (if list_any (λ (piece : Piece). ends_behind settings.segment piece.remote piece.len) pieces
    then Some fault.Offset
    else (if some_meet way pieces then Some fault.Overlap else None)))

-- nothing is wrong, or this is the first thing, or memory ran out
abbrev pub IsJudged : (first : Option PlanFault) → Result (Unit {0}) PlanFault → Type 0
IsJudged first (Ok done) = first ≡ None
IsJudged first (Err why) = IsReason first why
