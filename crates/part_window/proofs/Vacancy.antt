-- What a claim and a refusal say of single slots.
use Rattle.std.proofs.Common.{ℕ, ◌≡◌, ◌≤◌, ◌<◌, ◌+◌, Option, Some, true, false, length, refl, sym, ap, subst, ◌∙◌, inl}
use Rattle.std.proofs.Common.{inr, arith}
use Rattle.std.specs.Prelude.{slice_get, IfSome, option_and_then}
use Rattle.std.specs.Option.{option_map}
use Rattle.std.proofs.lemmas.Option.{slice_get_cases}
use Rattle.std.proofs.lemmas.List.Quantifiers.{position-Some}
use Rattle.std.proofs.lemmas.Grind.{common_steps}
use Rattle.std.specs.List.{position_or_len}
use Rattle.std.proofs.lemmas.List.Sums.{fails_before_first}
use Rattle.part_window.specs.declared.credits.NoClaim.TheVariants.{NotYet}
use Rattle.part_window.specs.SlotsState.{PeerState, SlotState, SlotsState, Vacant, Opened, Committed, is_vacant, slot_at}
use Rattle.part_window.specs.SlotsState.{CanClaim, Refuses, Claim, Claims, given_at}

-- a slot that tests as vacant
pub vacant : (s : SlotState) → is_vacant s ≡ true → s ≡ Vacant
vacant Vacant e = refl
vacant (Opened number time buffer) e = absurd cc
vacant (Committed number time message) e = absurd cc

-- the slot that can be claimed
pub vacant-in : (p : PeerState) (last k : ℕ) → CanClaim p last k → slice_get p.slots k ≡ Some Vacant
vacant-in p last k h = elim ((slice_get_cases p.slots k).1) [
  | inl w ↦
      w.2
      ∙ ap (λ (s : SlotState). Some s) (vacant w.0 (sym (ap is_vacant w.3)
      ∙ (position-Some is_vacant p.slots k w.0 h.lowest).1))
  | inr w ↦ absurd (omega (arith, w.0, h.in_range))
]

-- the slot of a node that was claimed
pub vacant-at : (t : SlotsState) (to k : ℕ) (p : PeerState) → slice_get t.peers to ≡ Some p → CanClaim p t.last k
    → slot_at t to k ≡ Some Vacant
vacant-at t to k p at h = ap (option_and_then (λ (q : PeerState). slice_get q.slots k)) at ∙ vacant-in p t.last k h

-- where a request is refused for now, no slot is vacant
pub none_vacant : (p : PeerState) (last k : ℕ) (s : SlotState) → Refuses p last NotYet → slice_get p.slots k ≡ Some s
    → is_vacant s ≡ false
none_vacant p last k s h at = elim ((slice_get_cases p.slots k).1) [
  | inl w ↦
      let same : w.0 ≡ s = cc in
      let past : length p.slots ≤ position_or_len is_vacant p.slots = grind (arith, common_steps, h.1) in
      ap is_vacant (sym same)
      ∙ (sym (ap is_vacant w.3) ∙ fails_before_first is_vacant p.slots k w.0 (omega (arith, w.1)))
  | inr w ↦ absurd cc
]

-- what a claim says of the node that was claimed from
claimed-in : (old new : SlotsState) (to : ℕ) (claim : Claim) → to < length old.peers → Claims old to claim new
    → (p : PeerState) × (slice_get old.peers to ≡ Some p) × CanClaim p old.last claim.slot ×
    (claim.number ≡ p.given + 1)
claimed-in old new to claim inside h = elim ((slice_get_cases old.peers to).1) [
  | inl w ↦
      let at : CanClaim w.0 old.last claim.slot × (claim.number ≡ w.0.given + 1) =
      subst (λ (o : Option PeerState). IfSome o
      (λ p. CanClaim p old.last claim.slot × (claim.number ≡ p.given + 1))) w.2 h.lowest in
      (w.0, w.2, at.0, at.1)
  | inr w ↦ absurd (omega (arith, w.0, inside))
]

-- the slot that was claimed
pub claimed-vacant : (old new : SlotsState) (to : ℕ) (claim : Claim) → to < length old.peers
    → Claims old to claim new → slot_at old to claim.slot ≡ Some Vacant
claimed-vacant old new to claim inside h =
    let c = claimed-in old new to claim inside h in vacant-at old to claim.slot c.0 c.1 c.2

-- the number that was claimed: the next one, and no greater than the last
pub claimed-number : (old new : SlotsState) (to : ℕ) (claim : Claim) → to < length old.peers
    → Claims old to claim new
    → (given : ℕ) × (given_at old to ≡ Some given) × (claim.number ≡ given + 1) × (claim.number ≤ old.last)
claimed-number old new to claim inside h =
    let c = claimed-in old new to claim inside h in
    (c.0.given, ap (option_map (λ (p : PeerState). p.given)) c.1, c.3, omega (arith, c.3, c.2.left))
