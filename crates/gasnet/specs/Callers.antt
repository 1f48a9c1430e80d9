-- What calls of a caller make of its node.
pub use Rattle.node_endpoint.specs.Sites.{Site, ThreadCall, IsThere, called_by, answer_at, node_then, node_in_the_end}
pub use Rattle.node_endpoint.specs.Sites.{answers_at}
pub use Rattle.node_endpoint.specs.Making.{whole_after, Makes, ForItsNode, IsAsBefore, MakesOne}
