-- An endpoint at its opening.
use Rattle.std.proofs.Common.{◌≡◌, ◌≢◌, ◌≤◌, ◌<◌, ℕ, [], None, ap, sym, subst, ◌∙◌, length}
use Rattle.std.specs.Prelude.{replicate}
use Rattle.std.proofs.lemmas.List.{length-replicate}
use Rattle.wire_message.specs.Parameters.{Parameters, AreInRange, credits_of}
use Rattle.part_barrier.specs.Record.{opened_record}
use Rattle.part_barrier.specs.Stands.{BarrierStands}
use Rattle.spec_node.specs.Record.{opening_node}
use Rattle.part_transfers.specs.Stands.{Stands as TransfersStand, room_of}
use Rattle.node_core.specs.CoreState.{CoreState}
use Rattle.node_core.specs.Kept.{nothing_done}
use Rattle.node_core.specs.Sizes.{HasSegment}
use Rattle.node_core.specs.Stands.{CoreStands}
use Rattle.node_rules.specs.EndpointLocal.{nothing_begun, invalid}
use Rattle.node_rules.proofs.Kept.{opening_kept}
use Rattle.node_rules.proofs.Tracking.{opening_tracks}
use Rattle.node_endpoint.specs.declared.extended.Extended.{Extended}
use Rattle.node_endpoint.specs.Parts.{IsWhole}

pub opens_whole : (core : CoreState) (extended : Extended) (settings : Parameters) (me : ℕ) → me < settings.nodes
    → core.settings ≡ settings → core.me ≡ me → HasSegment core → CoreStands core (opening_node nothing_done)
    → extended.nodes ≡ settings.nodes → extended.me ≡ me → TransfersStand extended.transfers []
    → (room_of extended.transfers).nodes ≡ settings.nodes
    → ((to : ℕ) → to < settings.nodes → to ≢ me
    → credits_of settings me to ≤ (room_of extended.transfers).credits)
    → extended.regions ≡ replicate settings.threads None → extended.registers ≡ replicate 256 invalid
    → BarrierStands settings.nodes me extended.barrier opened_record → extended.barrier.nodes ≡ settings.nodes
    → AreInRange settings → IsWhole core extended
opens_whole core extended settings me low settings_are me_are segment stands nodes me_is transfers room_nodes room
    regions registers barrier barrier_nodes range =
    by settings_are me_are low nodes me_is room_nodes room regions barrier barrier_nodes range
  where
    by : {s : Parameters} {m : ℕ} → core.settings ≡ s → core.me ≡ m → m < s.nodes → extended.nodes ≡ s.nodes
        → extended.me ≡ m → (room_of extended.transfers).nodes ≡ s.nodes
        → ((to : ℕ) → to < s.nodes → to ≢ m → credits_of s m to ≤ (room_of extended.transfers).credits)
        → extended.regions ≡ replicate s.threads None → BarrierStands s.nodes m extended.barrier opened_record
        → extended.barrier.nodes ≡ s.nodes → AreInRange s → IsWhole core extended
    by {s} {m} e f low nodes me_is room_nodes room regions barrier barrier_nodes range = record {
      nodes = nodes ∙ ap (λ (p : Parameters). p.nodes) (sym e);
      me_is = me_is ∙ sym f;
      few = subst (λ (p : Parameters). p.nodes ≤ 256) (sym e) range.nodes;
      me_in = stands.me_in;
      segment = segment;
      threads = ap length regions ∙ (length-replicate s.threads None
          ∙ ap (λ (p : Parameters). p.threads) (sym e));
      barrier_nodes = barrier_nodes ∙ ap (λ (p : Parameters). p.nodes) (sym e);
      room_nodes = room_nodes ∙ ap (λ (p : Parameters). p.nodes) (sym e);
      room = subst (λ (p : Parameters). (to : ℕ) → to < p.nodes → to ≢ core.me
          → credits_of p core.me to ≤ (room_of extended.transfers).credits) (sym e)
          (subst (λ k. (to : ℕ) → to < s.nodes → to ≢ k
          → credits_of s k to ≤ (room_of extended.transfers).credits) (sym f) room);
      record_ = (
        opening_node (nothing_begun core.settings),
        record {
          core = stands;
          kept = opening_kept core.settings core.me;
          tracks = opening_tracks core.settings;
          transfers = transfers;
          regions_are = regions ∙ ap (λ (p : Parameters). replicate p.threads None) (sym e);
          registers_are = registers;
          barrier = subst (λ (p : Parameters). BarrierStands p.nodes core.me extended.barrier opened_record) (sym e)
              (subst (λ k. BarrierStands s.nodes k extended.barrier opened_record) (sym f) barrier);
        },
      );
    }
