-- What the plain world counts is what the records count.
use Rattle.std.proofs.Common.{◌≡◌, ℕ, zero, suc, ◌+◌, ◌||◌, cond, List, [], ◌∷◌, map, Some, refl, ap, ap₂, ◌∙◌, eqb}
use Rattle.std.specs.List.{list_any, slice_get}
use Rattle.std.specs.Prelude.{Option}
use Rattle.wire_message.specs.Parameters.{credits_of}
use Rattle.wire_message.specs.Content.{Content}
use Rattle.base_lists.specs.Numbered.{element_at}
use Rattle.base_lists.proofs.Numbered.{numbered_map}
use Rattle.spec_node.specs.declared.answer.Why.{Why}
use Rattle.spec_node.specs.Record.{Request, Run}
use Rattle.spec_node.specs.Executed.{has_run, slots_run}
use Rattle.spec_node.specs.Held.{held_with}
use Rattle.spec_node.specs.Credits.{Limits, limits_of}
use Rattle.spec_node.specs.NodeStep.{Job}
use Rattle.base_lists.proofs.Sums.{sum_same}
use Rattle.spec_network.specs.World.{World}
use Rattle.spec_network.specs.Invariant.{PairInvariant, Holds}
use Rattle.spec_network.specs.Plain.{plain_of, plain_request, run_reply, has_slot, slots_ran, plain_held_with}
use Rattle.spec_network.specs.Laws.{CountsAgree}
use Rattle.spec_network.proofs.PlainReadings.{outstanding_in_is}

-- tests that agree on each run agree on the list
any_agree : (slot : ℕ) (requests : List Request) (runs : List Run)
    → ((place : ℕ) (run : Run) → slice_get runs place ≡ Some run
    → has_slot slot (element_at (map plain_request requests) run.number) ≡ eqb run.slot slot)
    → list_any (λ run. has_slot slot (element_at (map plain_request requests) run.number)) (map run_reply runs)
    ≡ has_run slot runs
any_agree slot requests [] each = refl
any_agree slot requests (run ∷ runs) each =
    ap₂ (λ a b. a || b) (each 0 run refl) (any_agree slot requests runs (λ place t e. each (suc place) t e))

-- a slot has a run where the slot has one
slot_ran_is : (limits : Limits) {refuses : Content → Option Why} (requests : List Request) (runs : List Run)
    (slot : ℕ)
    → PairInvariant limits refuses requests runs
    → list_any (λ r. has_slot slot (element_at (map plain_request requests) r.number)) (map run_reply runs)
    ≡ has_run slot runs
slot_ran_is limits requests runs slot P = any_agree slot requests runs (λ place r e.
    let it = P.named place r e in
    ap (has_slot slot) (numbered_map plain_request requests r.number it.0 it.1) ∙ ap (λ q. eqb q slot) it.2)

-- as many slots have a run as slots
slots_ran_is : {Local Call Told : Type 0} (job : Job Local Call Told) (IsKept : (me : ℕ) → Local → Type 0)
    (world : World Local) (j i n : ℕ) → Holds job IsKept world
    → slots_ran (plain_of world) j i n ≡ slots_run ((world i).ran j) n
slots_ran_is job IsKept world j i zero holds = refl
slots_ran_is job IsKept world j i (suc n) holds =
    ap₂ (λ a b. a + cond b 1 0) (slots_ran_is job IsKept world j i n holds)
    (slot_ran_is (limits_of job.settings j i) ((world j).asked i) ((world i).ran j) n (holds.pair j i))

-- a node holds as much for each other one
held_with_is : {Local Call Told : Type 0} (job : Job Local Call Told) (IsKept : (me : ℕ) → Local → Type 0)
    (world : World Local) (from to : ℕ) → Holds job IsKept world
    → plain_held_with job.settings (plain_of world) from to ≡ held_with job.settings from (world from) to
held_with_is job IsKept world from to holds =
    ap₂ (λ a b. a + b) (outstanding_in_is ((world from).asked to))
    (slots_ran_is job IsKept world to from (credits_of job.settings to from) holds)

-- the counts agree
pub counts_agree : {Local Call Told : Type 0} (job : Job Local Call Told) (IsKept : (me : ℕ) → Local → Type 0)
    (world : World Local) → Holds job IsKept world → CountsAgree job.settings world
counts_agree job IsKept world holds = record {
  outstanding = λ i j. outstanding_in_is ((world i).asked j);
  held =
      λ i. sum_same (plain_held_with job.settings (plain_of world) i) (held_with job.settings i (world i))
      job.settings.nodes
      (λ j low. held_with_is job IsKept world i j holds);
}
