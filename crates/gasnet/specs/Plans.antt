-- Plans of strided and indexed transfers, as clauses see them.
pub use Rattle.node_vis.specs.Pairs.{Pair, strided_pairs, indexed_pairs}
pub use Rattle.node_vis.specs.Pieces.{IsCut, pieces_of}
pub use Rattle.node_vis.specs.Faults.{strided_fault, indexed_fault}
pub use Rattle.node_vis.specs.Plans.{PlanState, IsPlan, IsPlanned, strided_plan, indexed_plan}
pub use Rattle.node_vis.specs.Beginning.{BeginCall, calls_made, vis_answer}
pub use Rattle.node_vis.specs.Begins.{Begins}
