-- What a slot owns.
use Rattle.std.specs.Prelude.{Option, Some, None}
use base.Fml.{Fml, ftrue}
use denote.RawPtr.{Ptr}
use Rattle.std.specs.Box.Ownership.{box_owns}
use Rattle.std.specs.contracts.impls.GlobalAllocator.TheImpl.{ghosts}
use Rattle.node_endpoint.specs.EndpointState.{EndpointState}
use Rattle.gasnet_c.specs.contracts.node.Node as node

-- the place of a boxed node, with the right to free its block; nothing where none is held
abbrev pub place_owns : Ptr → Option EndpointState → Fml
place_owns at None = ftrue
place_owns at (Some x) = box_owns (ghosts.dealloc_token (record { memory = record { seal = tt } })) node.the_row at x
