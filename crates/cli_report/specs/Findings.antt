-- What the outputs of the nodes of a run tell.
use Rattle.std.specs.Prelude.{ℕ, ◌+◌, ◌-◌, ◌^◌, min, ◌==◌, ◌&&◌, ◌||◌, not, nat_lt, nat_le, List, [], ◌++◌, length}
use Rattle.std.specs.Prelude.{Bool}
use Rattle.std.specs.Prelude.{if◌then◌else◌, Some, codes, decimal}
use Rattle.cli_report.specs.Ends.{ended_line, is_told}
use Rattle.cli_report.specs.declared.findings.NodeFinding.{NodeFinding}
use Rattle.cli_report.specs.declared.status.Ending.{Ending}
use Rattle.cli_report.specs.declared.status.Ending.TheVariants as endings

-- some turns of a node got what it refused
abbrev pub refused_line : (rank turns : ℕ) → List ℕ
refused_line rank turns = codes "gasnet: node " ++ (decimal rank ++ (codes " refused what " ++ (decimal turns
    ++ codes " of its turns got\n")))

-- so it is told of a run that failed
unfoldable pub refused_told : Ending → NodeFinding → List ℕ
refused_told endings.Run node = []
refused_told endings.NoRun node = []
refused_told endings.Failed node = if node.refused == 0 then [] else refused_line node.rank node.refused

-- requests of a node aren't back
unfoldable pub open_told : NodeFinding → List ℕ
open_told node = if node.outstanding == 0 then []
    else codes "open " ++ (decimal node.rank ++ (codes " " ++ (decimal node.outstanding ++ codes "\n")))

abbrev pub counts_told : Ending → NodeFinding → List ℕ
counts_told ending node = refused_told ending node ++ open_told node

-- what is wrong with the status that a node told; empty where nothing is
unfoldable pub fault_of : NodeFinding → List ℕ
fault_of node =
    if (node.status == 0 || node.status == 1) && not node.over
    then codes "by its trace and this job a script isn't over"
    else if node.status == 0 && node.violated then codes "by its trace and this job it noted a violation"
    else if node.status == 1 && not node.violated then codes "by its trace and this job it noted none"
    else if node.status == 9 && node.over then codes "by its trace and this job all its scripts are over"
    else []

unfoldable pub difference_told : NodeFinding → List ℕ
difference_told node = if length (fault_of node) == 0 then []
    else codes "differs " ++ (decimal node.rank ++ (codes " status " ++ (decimal node.status ++ (codes ": "
    ++ (fault_of node ++ codes "\n")))))

-- a turn of a trace gets nothing, where its thread holds a lock
abbrev pub is_blocked : NodeFinding → Bool
is_blocked node = nat_lt node.turns node.entries

-- such a turn, with its line in the output; both count from 1, and the turns begin behind three lines
unfoldable pub blocked_told : NodeFinding → List ℕ
blocked_told node = if nat_le node.entries node.turns then []
    else codes "blocked " ++ (decimal node.rank ++ (codes " " ++ (decimal (min (node.turns + 1) (2 ^ 64 - 1))
    ++ (codes " line " ++ (decimal (min (node.turns + 4) (2 ^ 64 - 1))
    ++ codes ": its thread holds a lock, and gets nothing\n")))))

abbrev pub is_stuck : NodeFinding → Bool
is_stuck node = node.status == 9

-- the status that a node ended with, where it is told of
unfoldable pub status_told : (stuck : Bool) → NodeFinding → List ℕ
status_told stuck node = if is_told stuck (Some node.status) then ended_line node.rank node.status else []
