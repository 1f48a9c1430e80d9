-- Why a transfer gets no plan: the first reason that applies.
-- Origin: this project's profile.
use Rattle.std.specs.Prelude.{ℕ, ◌==◌, nat_le, nat_lt, Bool, false, not, ◌||◌, if◌then◌else◌, List, [], ◌∷◌, map}
use Rattle.std.specs.Prelude.{length}
use Rattle.std.specs.Prelude.{Option, None, Some}
use Rattle.std.specs.List.{list_any}
use Rattle.wire_message.specs.Parameters.{Parameters}
use Rattle.node_vis.specs.declared.shapes.Way.{Way}
use Rattle.node_vis.specs.declared.shapes.Way.TheVariants.{Put, Get}
use Rattle.node_vis.specs.declared.shapes.Strided.{Strided}
use Rattle.node_vis.specs.declared.shapes.Indexed.{Indexed}
use Rattle.node_vis.specs.declared.shapes.PlanFault.{PlanFault}
use Rattle.node_vis.specs.declared.shapes.PlanFault.TheVariants as fault
use Rattle.node_vis.specs.Pairs.{Pair, strided_pairs, vectors, total, indexed_pairs}
use Rattle.node_vis.specs.Pieces.{pieces_of}
use Rattle.node_vis.specs.declared.levels.TheConstants.{MOST_VECTORS}

-- the byte of a pair that is written: of a put the target's, of a get the local one
abbrev pub written_byte : Way → Pair → ℕ
written_byte Put pair = pair.remote
written_byte Get pair = pair.local

-- a byte stands there twice
abbrev pub has_twice : List ℕ → Bool
has_twice [] = false
has_twice (byte ∷ bytes) = list_any (λ other. other == byte) bytes || has_twice bytes

-- of pairs: a byte outside the local segment, a byte outside the target's, or a byte that is written twice
abbrev pub pairs_fault : Parameters → Way → List Pair → Option PlanFault
pairs_fault settings way pairs =
    if list_any (λ (pair : Pair). nat_le settings.segment pair.local) pairs then Some fault.Source
    else (if list_any (λ (pair : Pair). nat_le settings.segment pair.remote) pairs then Some fault.Offset
    else (if has_twice (map (written_byte way) pairs) then Some fault.Overlap else None))

-- before that, more than 1,024 pieces
abbrev pub cut_fault : Parameters → Way → List Pair → Option PlanFault
cut_fault settings way pairs =
    if nat_lt 1024 (length (pieces_of pairs)) then Some fault.Pieces else pairs_fault settings way pairs

abbrev pub strided_fault : Parameters → Strided → Option PlanFault
strided_fault settings transfer =
    if nat_le settings.nodes transfer.to then Some fault.Node
    else (if nat_lt 4 (length transfer.levels.now) then Some fault.Shape
    else (if nat_lt MOST_VECTORS (vectors transfer.levels.now) then Some fault.Pieces
    else cut_fault settings transfer.way (strided_pairs transfer)))

abbrev pub indexed_fault : Parameters → Indexed → Option PlanFault
indexed_fault settings transfer =
    if nat_le settings.nodes transfer.to then Some fault.Node
    else (if nat_lt 256 (length transfer.remote.now) || nat_lt 256 (length transfer.local.now) then Some fault.Shape
    else (if not (total transfer.remote.now == total transfer.local.now) then Some fault.Length
    else cut_fault settings transfer.way (indexed_pairs transfer)))
