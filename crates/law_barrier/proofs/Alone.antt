-- Barriers that are those of a run of barriers by themselves.
use Rattle.std.proofs.Common.{◌≡◌, ◌⊎◌, inl, inr, ℕ, List, [], ◌∷◌, ◌++◌, refl, sym, ap, ◌∙◌, subst, eqb, Bool, true}
use Rattle.std.proofs.Common.{false, cond}
use Rattle.std.specs.List.{AllByRecursion}
use Rattle.std.proofs.Math.Path.{fun_ext}
use Rattle.base_lists.specs.Put.{put as put_at}
use Rattle.base_lists.proofs.Members.{all_append}
use Rattle.base_lists.proofs.Put.{put_own}
use Rattle.spec_node.specs.Record.{Node}
use Rattle.part_barrier.specs.Record.{BarrierRecord}
use Rattle.part_barrier.specs.World.{Barriers, BarrierEvent, IsAmong, happens, barriers_after, all_opened, put_record}
use Rattle.part_barrier.specs.World.{InEveryRun}
use Rattle.node_rules.specs.EndpointLocal.{EndpointLocal}
use Rattle.node_rules.specs.EndpointRules.{Records}
use Rattle.law_barrier.specs.BarrierLaws.{barriers_of}

-- they are what some events leave
pub record IsAlone (nodes : ℕ) (barriers : Barriers) : Type 0 where
  pub events : List BarrierEvent
  pub among : AllByRecursion (IsAmong nodes) events
  pub left : barriers_after nodes events all_opened ≡ barriers

pub alone_opened : (nodes : ℕ) → IsAlone nodes all_opened
alone_opened nodes = record { events = []; among = tt; left = refl }

after_more : (nodes : ℕ) (events : List BarrierEvent) (event : BarrierEvent) (barriers : Barriers)
    → barriers_after nodes (events ++ event ∷ []) barriers
    ≡ happens nodes (barriers_after nodes events barriers) event
after_more nodes [] event barriers = refl
after_more nodes (first ∷ events) event barriers = after_more nodes events event (happens nodes barriers first)

-- so are they after one event more
alone_more : (nodes : ℕ) (barriers : Barriers) (event : BarrierEvent) → IsAlone nodes barriers → IsAmong nodes event
    → IsAlone nodes (happens nodes barriers event)
alone_more nodes barriers event alone there = record {
  events = alone.events ++ event ∷ [];
  among = all_append (IsAmong nodes) alone.events (event ∷ []) alone.among (there, tt);
  left = after_more nodes alone.events event all_opened
      ∙ ap (λ (before : Barriers). happens nodes before event) alone.left;
}

-- what holds of every run of barriers by themselves holds of them
pub alone_law : (Law : (nodes : ℕ) → Barriers → Type 0) (nodes : ℕ) (barriers : Barriers) → InEveryRun Law
    → IsAlone nodes barriers → Law nodes barriers
alone_law Law nodes barriers holds alone = subst (Law nodes) alone.left (holds nodes alone.events alone.among)

-- what becomes of the barrier of one node: nothing, or one event
abbrev pub Changes : (nodes : ℕ) → Barriers → (node : ℕ) → (newer : BarrierRecord) → Type 0
Changes nodes barriers node newer =
    (newer ≡ barriers node)
    ⊎ ((event : BarrierEvent) × IsAmong nodes event × (happens nodes barriers event ≡ put_record barriers node newer))

pub alone_changes : (nodes : ℕ) (barriers : Barriers) (node : ℕ) (newer : BarrierRecord)
    → Changes nodes barriers node newer → IsAlone nodes barriers → IsAlone nodes (put_record barriers node newer)
alone_changes nodes barriers node newer (inl same) alone =
    subst (IsAlone nodes) (sym (ap (put_record barriers node) same ∙ put_own barriers node)) alone
alone_changes nodes barriers node newer (inr event) alone =
    subst (IsAlone nodes) event.2 (alone_more nodes barriers event.0 alone event.1)

-- where one node's record is changed, so is its barrier
pub barriers_put : (records : Records) (node : ℕ) (newer : Node EndpointLocal)
    → put_record (barriers_of records) node newer.local.barrier ≡ barriers_of (put_at records node newer)
barriers_put records node newer = fun_ext (λ other. either other (eqb other node))
  where
    either : (other : ℕ) (same : Bool)
        → cond same newer.local.barrier (records other).local.barrier
        ≡ (cond same newer (records other)).local.barrier
    either other true = refl
    either other false = refl
