-- What a slot owns.
use Rattle.std.specs.Prelude.{Option, Some, None}
use base.Fml.{Fml, ftrue}
use denote.RawPtr.{Ptr}
use Rattle.std.specs.Box.Ownership.{box_owns}
use Rattle.std.specs.contracts.impls.GlobalAllocator.TheImpl.{ghosts}
use Rattle.node_collectives.specs.CollectivesState.{CollectivesState}
use Rattle.node_collectives.specs.contracts.collectives.Collectives as collectives

-- the place of boxed collectives, with the right to free its block; nothing where none are held
abbrev pub collectives_place_owns : Ptr → Option CollectivesState → Fml
collectives_place_owns at None = ftrue
collectives_place_owns at (Some x) =
    box_owns (ghosts.dealloc_token (record { memory = record { seal = tt } })) collectives.the_row at x
