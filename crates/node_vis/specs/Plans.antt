-- Plans as values, and how the making of one is answered.
use Rattle.std.specs.Prelude.{ℕ, ◌≡◌, ◌+◌, ◌<◌, ◌≤◌, List, length, Option, None, Some, Result, Ok, Err}
use Rattle.std.specs.List.{All}
use Rattle.wire_message.specs.Parameters.{Parameters}
use Rattle.node_vis.specs.declared.shapes.Way.{Way}
use Rattle.node_vis.specs.declared.shapes.Piece.{Piece}
use Rattle.node_vis.specs.declared.shapes.Strided.{Strided}
use Rattle.node_vis.specs.declared.shapes.Indexed.{Indexed}
use Rattle.node_vis.specs.declared.shapes.PlanFault.{PlanFault}
use Rattle.node_vis.specs.declared.shapes.PlanFault.TheVariants.{NoMemory}
use Rattle.node_vis.specs.Pairs.{strided_pairs, indexed_pairs}
use Rattle.node_vis.specs.Pieces.{AreFilled, AreUnjoined, pieces_of}

-- the settings of its job, which way the bytes go, the target, and the pieces
pub record PlanState : Type 0 where
  pub settings : Parameters
  pub way : Way
  pub to : ℕ
  pub pieces : List Piece

-- the piece lies inside both segments
abbrev pub IsInside : Parameters → Piece → Type 0
IsInside settings piece =
    (piece.remote + piece.len ≤ settings.segment) × (piece.local + piece.len ≤ settings.segment)

-- what holds of every plan
pub record IsPlan (plan : PlanState) : Type 0 where
  pub there : plan.to < plan.settings.nodes
  pub few : length plan.pieces ≤ 1024
  pub filled : AreFilled plan.pieces
  pub apart : AreUnjoined plan.pieces
  pub inside : All (IsInside plan.settings) plan.pieces

abbrev pub strided_plan : Parameters → Strided → PlanState
strided_plan settings transfer = record {
  settings = settings;
  way = transfer.way;
  to = transfer.to;
  pieces = pieces_of (strided_pairs transfer);
}

abbrev pub indexed_plan : Parameters → Indexed → PlanState
indexed_plan settings transfer = record {
  settings = settings;
  way = transfer.way;
  to = transfer.to;
  pieces = pieces_of (indexed_pairs transfer);
}

-- this is the first reason, or memory ran out
abbrev pub IsReason : (first : Option PlanFault) → PlanFault → Type 0
IsReason first NoMemory = Unit {0}
IsReason first why = first ≡ Some why

-- the plan is made where there is no reason to refuse it; else the first reason is told, or memory ran out
abbrev pub IsPlanned : (first : Option PlanFault) → (plan : PlanState) → Result PlanState PlanFault → Type 0
IsPlanned first plan (Ok answer) = (first ≡ None) × (answer ≡ plan)
IsPlanned first plan (Err why) = IsReason first why
