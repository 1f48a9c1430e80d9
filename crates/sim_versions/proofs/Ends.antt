-- What a node holds, and what its answers name, by two versions.
use Rattle.std.proofs.Common.{◌≡◌, ℕ, Bool}
use Rattle.std.proofs.Common.{Option, None, refl, ap, ◌∙◌}
use Rattle.std.specs.Prelude.{if◌then◌else◌, unwrap_or}
use Rattle.std.proofs.Math.Path.{fun_ext}
use Rattle.base_lists.specs.Sums.{sum_below}
use Rattle.wire_message.specs.Parameters.{Parameters, credits_of}
use Rattle.spec_node.specs.Record.{Node}
use Rattle.spec_node.specs.Held.{held_buffers, held_with}
use Rattle.spec_node.specs.SlotMessages.{number_in_slot, committed_number, has_slot}
use Rattle.spec_node.specs.declared.answer.SlotRef.{SlotRef}
use Rattle.spec_node.specs.declared.answer.Side.{Side}
use Rattle.spec_node.specs.declared.answer.Side.TheVariants as side
use Rattle.node_rules.specs.EndpointLocal.{EndpointLocal}
use Rattle.text_script.specs.AnswerWords.{Sight, sight_of}
use Rattle.node_core.specs.Kept.{segment_of}
use Rattle.sim_versions.specs.Respelled.{Versions, respell_node}
use Rattle.sim_versions.proofs.Lists.{outstanding-respelled, slots_run-respelled, open_number-respelled}
use Rattle.sim_versions.proofs.Lists.{last_number-respelled}
use Rattle.sim_versions.proofs.Asking.{same_credits}

held_with_alike : (v : Versions) (me : ℕ) (node : Node EndpointLocal) (peer : ℕ)
    → held_with (record v.settings { version = v.version }) me (respell_node v.spell node) peer
    ≡ held_with v.settings me node peer
held_with_alike v me node peer =
    rw (outstanding-respelled v.spell (node.asked peer))
    (rw (same_credits v.settings v.version peer me)
    (rw (slots_run-respelled v.spell (node.ran peer) (credits_of v.settings peer me)) refl))

pub held_alike : (v : Versions) (me : ℕ) (node : Node EndpointLocal)
    → held_buffers (record v.settings { version = v.version }) me (respell_node v.spell node) ≡ held_buffers v.settings me node
held_alike v me node =
    ap (λ (with_peer : ℕ → ℕ). sum_below with_peer v.settings.nodes) (fun_ext (λ peer. held_with_alike v me node peer))

-- the number at a slot
committed_alike : (v : Versions) (node : Node EndpointLocal) (which : Side) (peer slot : ℕ)
    → committed_number (respell_node v.spell node) (record { side = which; peer = peer; slot = slot })
    ≡ committed_number node (record { side = which; peer = peer; slot = slot })
committed_alike v node side.Request peer slot = open_number-respelled v.spell slot (node.asked peer)
committed_alike v node side.Reply peer slot = last_number-respelled v.spell slot (node.ran peer)

slot_alike : (settings : Parameters) (version me : ℕ) (which : Side) (peer slot : ℕ)
    → has_slot (record settings { version = version }) me (record { side = which; peer = peer; slot = slot })
    ≡ has_slot settings me (record { side = which; peer = peer; slot = slot })
slot_alike settings version me side.Request peer slot = rw (same_credits settings version me peer) refl
slot_alike settings version me side.Reply peer slot = rw (same_credits settings version peer me) refl

number_alike : (v : Versions) (me : ℕ) (node : Node EndpointLocal) (at : SlotRef)
    → number_in_slot (record v.settings { version = v.version }) me (respell_node v.spell node) at
    ≡ number_in_slot v.settings me node at
number_alike v me node at =
    ap (λ (is : Bool). if is then committed_number (respell_node v.spell node) at else None)
    (slot_alike v.settings v.version me at.side at.peer at.slot)
    ∙ ap (λ (number : Option ℕ). if has_slot v.settings me at then number else None)
    (committed_alike v node at.side at.peer at.slot)

pub sight_alike : (v : Versions) (me : ℕ) (node : Node EndpointLocal)
    → sight_of (record v.settings { version = v.version }) me (respell_node v.spell node) ≡ sight_of v.settings me node
sight_alike v me node =
    ap (λ (numbers : SlotRef → ℕ). sight numbers)
    (fun_ext (λ at. ap (λ (n : Option ℕ). unwrap_or n 0) (number_alike v me node at)))
  where
    sight : (SlotRef → ℕ) → Sight
    sight numbers = record { numbers = numbers; segment = segment_of v.settings node.local.core }
