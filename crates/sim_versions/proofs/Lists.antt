-- What is read off the requests and runs of a node whose contents are spelled otherwise.
use Rattle.std.proofs.Common.{◌≡◌, ℕ, zero, suc, ◌+◌, ◌==◌, Bool, not, ◌&&◌, ◌||◌}
use Rattle.std.proofs.Common.{List, [], ◌∷◌, length, map, Option, None, Some, refl, sym, ap, ◌∙◌}
use Rattle.std.proofs.Common.{inl, inr}
use Rattle.std.specs.Prelude.{if◌then◌else◌, option_map, nat_le, max}
use Rattle.std.proofs.lemmas.Bool.{cases_Bool}
use Rattle.std.proofs.lemmas.List.{length-map}
use Rattle.std.proofs.lemmas.Option.{slice_get-map}
use Rattle.wire_message.specs.Content.{Content}
use Rattle.base_lists.specs.Numbered.{element_at, change}
use Rattle.base_lists.specs.Update.{update}
use Rattle.base_lists.proofs.Update.{update-on}
use Rattle.spec_node.specs.Record.{Request, Run}
use Rattle.spec_node.specs.Requests.{taken_slots, outstanding, free_slot, least_outside, next_claim, Claim, is_open}
use Rattle.spec_node.specs.Requests.{open_from, open_in, dues, Due}
use Rattle.spec_node.specs.Executed.{greatest, run_of, run_at, last_run, has_run, slots_run}
use Rattle.sim_versions.specs.Respelled.{respell_request, respell_run}

-- ---- requests

pub taken-respelled : (spell : Content → Content) (requests : List Request)
    → taken_slots (map (respell_request spell) requests) ≡ taken_slots requests
taken-respelled spell [] = refl
taken-respelled spell (r ∷ rs) = elim (cases_Bool r.back) [
  | inl back ↦ rw back (taken-respelled spell rs)
  | inr out ↦ rw out (ap (λ slots. r.slot ∷ slots) (taken-respelled spell rs))
]

pub outstanding-respelled : (spell : Content → Content) (requests : List Request)
    → outstanding (map (respell_request spell) requests) ≡ outstanding requests
outstanding-respelled spell requests = ap length (taken-respelled spell requests)

pub next_claim-respelled : (spell : Content → Content) (requests : List Request)
    → next_claim (map (respell_request spell) requests) ≡ next_claim requests
next_claim-respelled spell requests =
    ap (λ (slots : List ℕ). claim (least_outside slots (length slots) 0)
    (length (map (respell_request spell) requests)))
    (taken-respelled spell requests)
    ∙ ap (claim (free_slot requests)) (length-map requests (respell_request spell))
  where
    claim : ℕ → ℕ → Claim
    claim slot count = record { slot = slot; number = suc count }

pub numbered-respelled : (spell : Content → Content) (requests : List Request) (number : ℕ)
    → element_at (map (respell_request spell) requests) number
    ≡ option_map (respell_request spell) (element_at requests number)
numbered-respelled spell requests zero = refl
numbered-respelled spell requests (suc place) = slice_get-map (respell_request spell) requests place

is_open-respelled : (spell : Content → Content) (slot : ℕ) (request : Option Request)
    → is_open slot (option_map (respell_request spell) request) ≡ is_open slot request
is_open-respelled spell slot None = refl
is_open-respelled spell slot (Some r) = refl

-- whether the request of that number isn't back, with this slot
pub open_at-respelled : (spell : Content → Content) (slot : ℕ) (requests : List Request) (number : ℕ)
    → is_open slot (element_at (map (respell_request spell) requests) number) ≡ is_open slot (element_at requests number)
open_at-respelled spell slot requests number =
    ap (is_open slot) (numbered-respelled spell requests number)
    ∙ is_open-respelled spell slot (element_at requests number)

update-respelled : (spell : Content → Content) (change_one : Request → Request)
    → ((r : Request) → change_one (respell_request spell r) ≡ respell_request spell (change_one r))
    → (requests : List Request) (place : ℕ)
    → update (map (respell_request spell) requests) place change_one
    ≡ map (respell_request spell) (update requests place change_one)
update-respelled spell change_one commutes [] place = refl
update-respelled spell change_one commutes (r ∷ rs) zero =
    ap (λ (x : Request). x ∷ map (respell_request spell) rs) (commutes r)
update-respelled spell change_one commutes (r ∷ rs) (suc place) =
    update-on (respell_request spell r) (map (respell_request spell) rs) place change_one
    ∙ (ap (λ xs. respell_request spell r ∷ xs) (update-respelled spell change_one commutes rs place)
    ∙ ap (map (respell_request spell)) (sym (update-on r rs place change_one)))

pub change-respelled : (spell : Content → Content) (change_one : Request → Request)
    → ((r : Request) → change_one (respell_request spell r) ≡ respell_request spell (change_one r))
    → (requests : List Request) (number : ℕ)
    → change change_one (map (respell_request spell) requests) number
    ≡ map (respell_request spell) (change change_one requests number)
change-respelled spell change_one commutes requests zero = refl
change-respelled spell change_one commutes requests (suc place) =
    update-respelled spell change_one commutes requests place

pub dues-respelled : (spell : Content → Content) (now resend peer number : ℕ) (requests : List Request)
    → dues now resend peer number (map (respell_request spell) requests) ≡ dues now resend peer number requests
dues-respelled spell now resend peer number [] = refl
dues-respelled spell now resend peer number (r ∷ rs) =
    elim (cases_Bool (not r.back && nat_le (r.time + resend) now)) [
      | inl due ↦ rw due (ap (λ (later : List Due). record {
        time = r.time;
        peer = peer;
        slot = r.slot;
        number = number;
      } ∷ later)
          (dues-respelled spell now resend peer (suc number) rs))
      | inr early ↦ rw early (dues-respelled spell now resend peer (suc number) rs)
    ]

abbrev number_of : Option (ℕ × Request) → Option ℕ
number_of open_ = option_map (λ (found : ℕ × Request). found.0) open_

open_from-respelled : (spell : Content → Content) (slot number : ℕ) (requests : List Request)
    → number_of (open_from slot number (map (respell_request spell) requests))
    ≡ number_of (open_from slot number requests)
open_from-respelled spell slot number [] = refl
open_from-respelled spell slot number (r ∷ rs) = elim (cases_Bool (not r.back && (r.slot == slot))) [
  | inl open_ ↦ rw open_ refl
  | inr other ↦ rw other (open_from-respelled spell slot (suc number) rs)
]

-- the number of the request of this slot that isn't back
pub open_number-respelled : (spell : Content → Content) (slot : ℕ) (requests : List Request)
    → option_map (λ (found : ℕ × Request). found.0) (open_in slot (map (respell_request spell) requests))
    ≡ option_map (λ (found : ℕ × Request). found.0) (open_in slot requests)
open_number-respelled spell slot requests = open_from-respelled spell slot 1 requests

-- ---- runs

pub greatest-respelled : (spell : Content → Content) (slot : ℕ) (runs : List Run)
    → greatest slot (map (respell_run spell) runs) ≡ greatest slot runs
greatest-respelled spell slot [] = refl
greatest-respelled spell slot (r ∷ rs) = elim (cases_Bool (r.slot == slot)) [
  | inl here ↦ rw here (ap (max r.number) (greatest-respelled spell slot rs))
  | inr other ↦ rw other (greatest-respelled spell slot rs)
]

pub run_of-respelled : (spell : Content → Content) (number : ℕ) (runs : List Run)
    → run_of number (map (respell_run spell) runs) ≡ option_map (respell_run spell) (run_of number runs)
run_of-respelled spell number [] = refl
run_of-respelled spell number (r ∷ rs) = elim (cases_Bool (r.number == number)) [
  | inl here ↦ rw here refl
  | inr other ↦ rw other (run_of-respelled spell number rs)
]

run_at-respelled : (spell : Content → Content) (slot number : ℕ) (runs : List Run)
    → run_at slot number (map (respell_run spell) runs) ≡ option_map (respell_run spell) (run_at slot number runs)
run_at-respelled spell slot number [] = refl
run_at-respelled spell slot number (r ∷ rs) = elim (cases_Bool ((r.number == number) && (r.slot == slot))) [
  | inl here ↦ rw here refl
  | inr other ↦ rw other (run_at-respelled spell slot number rs)
]

abbrev run_number : Option Run → Option ℕ
run_number run = option_map (λ (found : Run). found.number) run

same_number : (spell : Content → Content) (run : Option Run)
    → run_number (option_map (respell_run spell) run) ≡ run_number run
same_number spell None = refl
same_number spell (Some r) = refl

-- the number of the last run of this slot
pub last_number-respelled : (spell : Content → Content) (slot : ℕ) (runs : List Run)
    → option_map (λ (found : Run). found.number) (last_run slot (map (respell_run spell) runs))
    ≡ option_map (λ (found : Run). found.number) (last_run slot runs)
last_number-respelled spell slot runs =
    ap (λ number. run_number (run_at slot number (map (respell_run spell) runs))) (greatest-respelled spell slot runs)
    ∙ (ap run_number (run_at-respelled spell slot (greatest slot runs) runs)
    ∙ same_number spell (last_run slot runs))

has_run-respelled : (spell : Content → Content) (slot : ℕ) (runs : List Run)
    → has_run slot (map (respell_run spell) runs) ≡ has_run slot runs
has_run-respelled spell slot [] = refl
has_run-respelled spell slot (r ∷ rs) = ap (λ b. (r.slot == slot) || b) (has_run-respelled spell slot rs)

pub slots_run-respelled : (spell : Content → Content) (runs : List Run) (slots : ℕ)
    → slots_run (map (respell_run spell) runs) slots ≡ slots_run runs slots
slots_run-respelled spell runs zero = refl
slots_run-respelled spell runs (suc slot) =
    ap (λ count. count + (if has_run slot (map (respell_run spell) runs) then 1 else 0))
    (slots_run-respelled spell runs slot)
    ∙ ap (λ (b : Bool). slots_run runs slot + (if b then 1 else 0)) (has_run-respelled spell slot runs)
