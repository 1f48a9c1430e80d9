-- What is wrong with pieces, and with the pairs that they spell.
use Rattle.std.proofs.Common.{◌≡◌, Bool, List, length, ap, ap₂, ◌∙◌}
use Rattle.std.specs.Prelude.{nat_lt, if◌then◌else◌, Option, None, Some, map}
use Rattle.std.specs.List.{list_any}
use Rattle.std.proofs.lemmas.List.{length-map}
use Rattle.wire_message.specs.Parameters.{Parameters}
use Rattle.node_vis.specs.declared.shapes.Way.{Way}
use Rattle.node_vis.specs.declared.shapes.Piece.{Piece}
use Rattle.node_vis.specs.declared.shapes.PlanFault.{PlanFault}
use Rattle.node_vis.specs.declared.shapes.PlanFault.TheVariants as fault
use Rattle.node_vis.specs.declared.runs.Run.{Run}
use Rattle.node_vis.specs.Runs.{ends_behind, piece_in, pieces_fault, some_meet}
use Rattle.node_vis.proofs.Walking.{any_map}

-- the first that is so
abbrev pub first_of : (many source offset overlap : Bool) → Option PlanFault
first_of many source offset overlap =
    if many then Some fault.Pieces
    else (if source then Some fault.Source
    else (if offset then Some fault.Offset else (if overlap then Some fault.Overlap else None)))

-- of runs, by four tests
pub fault_by : (settings : Parameters) (way : Way) (runs : List Run)
    → pieces_fault settings way (map piece_in runs)
    ≡ first_of (nat_lt 1024 (length runs))
    (list_any (λ (run : Run). ends_behind settings.segment run.local run.len) runs)
    (list_any (λ (run : Run). ends_behind settings.segment run.remote run.len) runs)
    (some_meet way (map piece_in runs))
fault_by settings way runs =
    let many = ap (nat_lt 1024) (length-map runs piece_in) in
    let source = any_map (λ (piece : Piece). ends_behind settings.segment piece.local piece.len) piece_in runs in
    let offset = any_map (λ (piece : Piece). ends_behind settings.segment piece.remote piece.len) piece_in runs in
    ap₂ (λ m s. first_of m s (list_any (λ (piece : Piece). ends_behind settings.segment piece.remote piece.len)
    (map piece_in runs)) (some_meet way (map piece_in runs))) many source
    ∙ ap (λ o. first_of (nat_lt 1024 (length runs))
    (list_any (λ (run : Run). ends_behind settings.segment run.local run.len) runs) o
    (some_meet way (map piece_in runs))) offset

-- where the tests are known
pub fault_known : (settings : Parameters) (way : Way) (runs : List Run) (many source offset overlap : Bool)
    → nat_lt 1024 (length runs) ≡ many
    → list_any (λ (run : Run). ends_behind settings.segment run.local run.len) runs ≡ source
    → list_any (λ (run : Run). ends_behind settings.segment run.remote run.len) runs ≡ offset
    → some_meet way (map piece_in runs) ≡ overlap
    → pieces_fault settings way (map piece_in runs) ≡ first_of many source offset overlap
fault_known settings way runs many source offset overlap is_many is_source is_offset is_overlap =
    fault_by settings way runs
    ∙ ap₂ (λ m s. first_of m s (list_any (λ (run : Run). ends_behind settings.segment run.remote run.len) runs)
    (some_meet way (map piece_in runs))) is_many is_source
    ∙ ap₂ (first_of many source) is_offset is_overlap
