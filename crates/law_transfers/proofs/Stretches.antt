-- What a run leaves of a node's operations, of their chunks, and of what was written into its segment.
use Rattle.std.proofs.Common.{◌≡◌, ◌⊎◌, inl, inr, ℕ, List, [], ◌∷◌, Option, Some, refl, ◌∙◌}
use Rattle.wire_message.specs.Parameters.{Parameters}
use Rattle.part_handlers.specs.declared.table.Entry.{Entry}
use Rattle.part_handlers.specs.Runs.{Meaning}
use Rattle.base_lists.specs.Numbered.{element_at}
use Rattle.spec_node.specs.NodeStep.{IsAllSound}
use Rattle.spec_network.specs.World.{EventAt, world_answer, world_after, run}
use Rattle.spec_network.specs.Plain.{plain_of}
use Rattle.spec_network.specs.Invariant.{Holds}
use Rattle.spec_network.proofs.Worlds.{step_keeps}
use Rattle.spec_network.proofs.PlainSteps.{step_plain}
use Rattle.part_transfers.specs.declared.operation.Transfer.{Transfer}
use Rattle.part_transfers.specs.Operation.{Operation}
use Rattle.node_rules.specs.EndpointLocal.{IsEndpointKept}
use Rattle.node_rules.specs.EndpointRules.{OtherCall, Records, all_rules, job_of}
use Rattle.node_rules.specs.Tracking.{chunk_at}
use Rattle.law_transfers.specs.History.{Sometime}
use Rattle.law_transfers.specs.Chunks.{Issues, writes_at}
use Rattle.law_transfers.specs.TransferLaws.{AreAmong}
use Rattle.law_transfers.proofs.LocalSteps.{local_step}
use Rattle.law_transfers.proofs.Marking.{Chunked}
use Rattle.law_transfers.proofs.Effects.{Extends, extends_same, extends_more}
use Rattle.law_transfers.proofs.Issuing.{SendEffect, step_effect}

-- the rules of an endpoint are sound
abbrev pub AreSound : Parameters → List (Option Entry) → Meaning → Type 0
AreSound settings table meaning = IsAllSound (all_rules settings table meaning) (IsEndpointKept settings)

-- what holds of each pair of nodes, and of what each node keeps
abbrev pub AllHolds : Parameters → List (Option Entry) → Meaning → Records → Type 0
AllHolds settings table meaning world = Holds (job_of settings table meaning) (IsEndpointKept settings) world

-- one event
step_of : (settings : Parameters) (table : List (Option Entry)) (meaning : Meaning) (world : Records)
    (e : EventAt OtherCall) (node : ℕ) → AreSound settings table meaning → AllHolds settings table meaning world
    → SendEffect settings (plain_of world) (plain_of (world_after (job_of settings table meaning) world e)) e.event
    (world_answer (job_of settings table meaning) world e) node
step_of settings table meaning world e node sound holds =
    let job = job_of settings table meaning in
    step_effect settings table meaning _ _ e.event (world_answer job world e) node
    (local_step job _ _ e.event (world_answer job world e) node
    (step_plain job (IsEndpointKept settings) world e sound holds))

-- after an event what holds holds
pub holds_after : (settings : Parameters) (table : List (Option Entry)) (meaning : Meaning) (world : Records)
    (e : EventAt OtherCall) (events : List (EventAt OtherCall)) → AreSound settings table meaning
    → AreAmong (job_of settings table meaning) (e ∷ events) → AllHolds settings table meaning world
    → AllHolds settings table meaning (world_after (job_of settings table meaning) world e)
holds_after settings table meaning world e events sound among holds =
    step_keeps (job_of settings table meaning) (IsEndpointKept settings) world e sound holds among.0

-- more was written
pub writes_grow : (settings : Parameters) (table : List (Option Entry)) (meaning : Meaning)
    (events : List (EventAt OtherCall)) (world : Records) (node : ℕ) → AreSound settings table meaning
    → AreAmong (job_of settings table meaning) events → AllHolds settings table meaning world
    → Extends (writes_at world node) (writes_at (run (job_of settings table meaning) events world) node)
writes_grow settings table meaning [] world node sound among holds = extends_same _ _ refl
writes_grow settings table meaning (e ∷ events) world node sound among holds =
    extends_more _ _ _ (step_of settings table meaning world e node sound holds).writes
    (writes_grow settings table meaning events (world_after (job_of settings table meaning) world e) node sound among.1
    (holds_after settings table meaning world e events sound among holds))

-- an operation keeps its transfer
pub transfer_stays : (settings : Parameters) (table : List (Option Entry)) (meaning : Meaning)
    (events : List (EventAt OtherCall)) (world : Records) (node number : ℕ) (old : Operation)
    → AreSound settings table meaning
    → AreAmong (job_of settings table meaning) events → AllHolds settings table meaning world
    → element_at (world node).local.operations number ≡ Some old
    → (new : Operation) × (element_at (run (job_of settings table meaning) events world node).local.operations number
    ≡ Some new)
    × (new.transfer ≡ old.transfer)
transfer_stays settings table meaning [] world node number old sound among holds at = (old, at, refl)
transfer_stays settings table meaning (e ∷ events) world node number old sound among holds at =
    let next = (step_of settings table meaning world e node sound holds).kept number old at in
    let last = transfer_stays settings table meaning events (world_after (job_of settings table meaning) world e) node
    number next.0 sound among.1
    (holds_after settings table meaning world e events sound among holds) next.1 in
    (last.0, last.1, last.2 ∙ next.2)

-- a chunk that was issued was issued before, or is issued at one of the events
pub chunks_happen : (settings : Parameters) (table : List (Option Entry)) (meaning : Meaning)
    (events : List (EventAt OtherCall)) (world : Records) (node number index request : ℕ) (transfer : Transfer)
    → AreSound settings table meaning
    → AreAmong (job_of settings table meaning) events → AllHolds settings table meaning world
    → Chunked (run (job_of settings table meaning) events world node).local.operations number index request transfer
    → Chunked (world node).local.operations number index request transfer
    ⊎ Sometime (job_of settings table meaning)
    (Issues (job_of settings table meaning) node (chunk_at transfer number index) request) events world
chunks_happen settings table meaning [] world node number index request transfer sound among holds C = inl C
chunks_happen settings table meaning (e ∷ events) world node number index request transfer sound among holds C =
    elim (chunks_happen settings table meaning events (world_after (job_of settings table meaning) world e) node number
    index request transfer sound among.1
    (holds_after settings table meaning world e events sound among holds) C) [
      | inl there ↦ elim ((step_of settings table meaning world e node sound holds).chunk number index request transfer
          there) [
            | inl old ↦ inl old
            | inr now ↦ inr (inl (record {
              event = now.event;
              slot = now.slot;
              answered = now.answered;
              next = now.next;
              accepted = now.accepted;
            }))
          ]
      | inr later ↦ inr (inr later)
    ]
