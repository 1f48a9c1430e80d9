-- What is told of how the nodes of a launch ended.
use Rattle.std.specs.Prelude.{ℕ, List, [], ◌++◌, ◌==◌, ◌||◌, if◌then◌else◌, Bool, true, false, not, codes, decimal}
use Rattle.std.specs.Prelude.{Option, Some, None, string_bytes}
use Rattle.std.specs.List.{flat_map}
use Rattle.cli_report.specs.declared.ends.EndedNode.{EndedNode}

-- the name of the status with which a node ends
unfoldable pub status_name : ℕ → List ℕ
status_name code =
    if code == 2 then codes "usage"
    else if code == 3 then codes "bad-job"
    else if code == 4 then codes "read-fault"
    else if code == 5 then codes "write-fault"
    else if code == 6 then codes "link-fault"
    else if code == 8 then codes "no-memory"
    else if code == 9 then codes "stuck"
    else if code == 10 then codes "journal-full"
    else if code == 127 then codes "no-program"
    else codes "of-no-node"

-- the line of a node that ended with a status
abbrev pub ended_line : (rank code : ℕ) → List ℕ
ended_line rank code = codes "ended " ++ (decimal rank ++ (codes " status " ++ (decimal code
    ++ (codes " " ++ (status_name code ++ codes "\n")))))

-- whether a node with this status is told of among those that got stuck, or else of their own
abbrev pub is_told : Bool → Option ℕ → Bool
is_told stuck (Some code) = if code == 0 || code == 1 then false else if code == 9 then stuck else not stuck
is_told stuck None = not stuck

-- the line of a node that ended with a status or otherwise
abbrev pub line_of_end : (rank : ℕ) → Option ℕ → (how : List ℕ) → List ℕ
line_of_end rank (Some code) how = ended_line rank code
line_of_end rank None how = codes "ended " ++ (decimal rank ++ (codes " " ++ (how ++ codes "\n")))

abbrev pub end_line : EndedNode → List ℕ
end_line node = line_of_end node.rank node.code (string_bytes node.how)

-- what is told of one node
unfoldable pub end_told : Bool → EndedNode → List ℕ
end_told stuck node = if is_told stuck node.code then end_line node else []

-- those that failed of their own, and then those that got stuck
abbrev pub ends_text : List EndedNode → List ℕ
ends_text nodes = flat_map (end_told false) nodes ++ flat_map (end_told true) nodes
