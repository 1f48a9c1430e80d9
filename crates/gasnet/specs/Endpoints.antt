-- The model of an endpoint, as clauses see it, and what its calls say of the records of its node.
pub use Rattle.node_endpoint.specs.EndpointState.{EndpointState, EndpointStands, EndpointSteps, ForItsRecord}
