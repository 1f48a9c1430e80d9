-- What an export of collectives tells, from what its start did.
use Rattle.std.proofs.Common.{◌≡◌, ℕ, Option, Some, None, refl, sym, ap₂, subst}
use Rattle.std.specs.Prelude.{option_map}
use Rattle.part_collective_area.specs.declared.shape.CollectiveKind.{CollectiveKind}
use Rattle.node_endpoint.specs.EndpointState.{EndpointState}
use Rattle.node_collectives.specs.CollectivesState.{CollectivesState}
use Rattle.gasnet_c.specs.CollectiveCalls.{Handles, NodeAndCollectives, StartsAs, StartsFor, StartsOf, WhereHeld, WhereLive, both}
use Rattle.gasnet_c.specs.CollectiveCalls.{collective_kind_of, pair, pair_of, start_asked_by}
use Rattle.gasnet_c.specs.Telling.{IsNumber}
use Rattle.gasnet_c.specs.declared.collective_node.Collective.{Collective}
use Rattle.gasnet_c.specs.declared.told.Told.{Told}

-- a kind has the number
pub starts_kind : (now : ℕ) (what : Collective) (one : CollectiveKind) (old new : NodeAndCollectives) (told : Told)
    → Some one ≡ collective_kind_of what.kind → StartsAs now (start_asked_by what one) old told new
    → StartsFor now what old told new
starts_kind now what one old new told is starts =
    subst (λ (found : Option CollectiveKind). StartsOf now (option_map (start_asked_by what) found) old told new) is
    starts

-- none has it
pub starts_none : (now : ℕ) (what : Collective) (old : NodeAndCollectives) (told : Told) → None ≡ collective_kind_of what.kind
    → IsNumber 5 0 told → StartsFor now what old told old
starts_none now what old told is bad =
    subst (λ (found : Option CollectiveKind). StartsOf now (option_map (start_asked_by what) found) old told old) is
    (bad, refl)

-- ---- what both handles hold

pub both_are : (held : Option EndpointState) (collectives : Option CollectivesState) (x : EndpointState)
    (it : CollectivesState) → held ≡ Some x → collectives ≡ Some it → pair_of held collectives ≡ Some (pair x it)
both_are held collectives x it is are = ap₂ pair_of is are

pub calls_live : (Happens : NodeAndCollectives → Told → NodeAndCollectives → Type 0) (old new : Handles) (from to : NodeAndCollectives) (told : Told)
    → both old ≡ Some from → both new ≡ Some to → Happens from told to → WhereLive Happens old told new
calls_live Happens old new from to told is becomes happens =
    subst (λ (held : Option NodeAndCollectives). WhereHeld Happens held old told new) (sym is) (to, becomes, happens)
