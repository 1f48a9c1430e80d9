-- Calls of a caller that are made one after another, joined to one list.
pub use Rattle.node_endpoint.proofs.Joining.{Follows, record_after, makes_none, makes_then, known_then, never_before}
