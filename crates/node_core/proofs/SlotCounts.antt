-- The counts of slots are filled in, node by node.
use Rattle.std.proofs.Common.{ℕ, zero, suc, ◌≡◌, ◌≢◌, ◌<◌, ◌≤◌, ◌+◌, ◌∙◌, List, [], ◌∷◌, Some, length, take, get_or}
use Rattle.std.proofs.Common.{sym, slice_set, ap, refl, arith, inl, inr}
use Rattle.std.specs.List.{slice_get}
use Rattle.std.proofs.lemmas.Bool.{cases_eq}
use Rattle.std.proofs.lemmas.Option.{slice_get-get_or}
use Rattle.std.proofs.lemmas.List.{length-take-le, length-set, get_or-set_same, get_or-set_other}
use Rattle.std.proofs.lemmas.Option.{slice_get_within, same_Some}
use Rattle.std.specs.Prelude.{All}
use Rattle.part_window.specs.SlotsState.{counts_of}
use Rattle.part_window.proofs.NewCredits.{narrow-others}
use Rattle.wire_message.specs.Parameters.{Parameters, AreInRange}
use Rattle.wire_message.proofs.Credits.{few_credits}
use Rattle.spec_node.specs.declared.answer.Side.TheVariants as side
use Rattle.spec_node.specs.declared.answer.Side.{Side}
use Rattle.spec_node.specs.SlotMessages.{slots_of}
use Rattle.node_core.specs.Sizes.{AreSlots}

-- the counts of the nodes below this one
pub record AreFilled (settings : Parameters) (me : ℕ) (which : Side) (below : ℕ) (counts : List ℕ) : Type 0 where
  pub room : length counts ≡ 256
  pub filled : (node : ℕ) → node < below → node ≢ me → get_or counts node 0 ≡ slots_of settings me which node

-- the local node has none
pub filled_own : (settings : Parameters) (me : ℕ) (which : Side) (node : ℕ) (counts : List ℕ)
    → AreFilled settings me which node counts → node ≡ me → AreFilled settings me which (node + 1) counts
filled_own settings me which node counts F own = record {
  room = F.room;
  filled = λ k low other. F.filled k (omega (arith, low, other, own)) other;
}

-- one node more
pub filled_more : (settings : Parameters) (me : ℕ) (which : Side) (node count : ℕ) (counts : List ℕ)
    → AreFilled settings me which node counts → node < 256 → count ≡ slots_of settings me which node
    → AreFilled settings me which (node + 1) (slice_set counts node count)
filled_more settings me which node count counts F low is = record {
  room = length-set counts node count ∙ F.room;
  filled = λ k l other. elim (cases_eq k node) [
    | inl here ↦ rw here (get_or-set_same counts node count 0 (omega (arith, F.room, low)) ∙ is)
    | inr there ↦ get_or-set_other counts node k count 0 there ∙ F.filled k (omega (arith, l, there)) other
  ];
}

-- a place of a prefix
take_get : (xs : List ℕ) (n k : ℕ) → k < n → slice_get (take n xs) k ≡ slice_get xs k
take_get xs zero k low = absurd (omega (arith, low))
take_get [] (suc n) k low = refl
take_get (x ∷ xs) (suc n) zero low = refl
take_get (x ∷ xs) (suc n) (suc k) low = take_get xs n k (omega (arith, low))

-- all counts
pub filled_all : (settings : Parameters) (me : ℕ) (which : Side) (counts : List ℕ) → settings.nodes ≤ 256
    → AreFilled settings me which settings.nodes counts → AreSlots settings me which (take settings.nodes counts)
filled_all settings me which counts few F = record {
  nodes = length-take-le settings.nodes counts (omega (arith, few, F.room));
  others = λ peer low other.
      take_get counts settings.nodes peer low
      ∙ slice_get-get_or counts peer 0 (omega (arith, low, few, F.room)) ∙ ap Some (F.filled peer low other);
}

-- a pair has at most 32 credits
few_slots : (settings : Parameters) → AreInRange settings → (me : ℕ) (which : Side) (peer : ℕ)
    → slots_of settings me which peer ≤ 32
few_slots settings range me side.Request peer = (few_credits settings range me peer).few
few_slots settings range me side.Reply peer = (few_credits settings range peer me).few

-- so few slots are in range for a table
pub narrow_slots : (settings : Parameters) (me : ℕ) (which : Side) (counts : List ℕ) → AreInRange settings
    → AreSlots settings me which counts → All (λ count. count ≤ 32) (counts_of counts me)
narrow_slots settings me which counts range slots =
    narrow-others counts me (λ node count other at.
    let low : node < settings.nodes = omega (arith, slice_get_within counts node count at, slots.nodes) in
    let same : count ≡ slots_of settings me which node =
    same_Some count _ (sym at ∙ slots.others node low other) in
    omega (arith, same, few_slots settings range me which node))
