-- The lowest number of a request that is out is the one after the exchanges at the prefix that are back.
use Rattle.std.proofs.Common.{◌≡◌, inl, inr, ℕ, zero, suc, ◌<◌, ◌≤◌, Bool, true, false, List, map, length, get_or, sym}
use Rattle.std.proofs.Common.{ap, ◌∙◌, arith}
use Rattle.std.proofs.lemmas.List.{length-map}
use Rattle.std.proofs.lemmas.Option.{slice_get_cases}
use Rattle.spec_node.specs.Record.{Request, Run, element_at}
use Rattle.node_rules.specs.EndpointRules.{Records}
use Rattle.spec_network.specs.Plain.{IsFirstOut, plain_of, plain_request, is_back}
use Rattle.sim_world.specs.Exchanges.{leading_back}
use Rattle.sim_world.specs.Stands.{StandsForPair}
use Rattle.sim_world.specs.declared.exchanges.Exchange.{Exchange}
use Rattle.sim_world.proofs.PairStands.{sent_is}
use Rattle.sim_world.proofs.Prefixes.{prefix_within, prefix_is_back, prefix_is_out}
use Rattle.spec_network.proofs.PlainReadings.{is_back_at}

-- a request is back in the plain world where its exchange says so
back_reads : (list : List Exchange) (xs : List Request) (rs : List Run) (place : ℕ) (b : Bool)
    → StandsForPair list xs rs → place < length list
    → ((d : Exchange) → (get_or list place d).back ≡ b) → is_back (element_at xs (suc place)) ≡ b
back_reads list xs rs place b P low says = elim ((slice_get_cases list place).1) [
  | inl here ↦ (let it = sent_is list xs rs (suc place) here.0 P here.2 in
      is_back_at (element_at xs (suc place)) it.x it.at
      ∙ (sym it.stands.back ∙ (ap (λ (e : Exchange). e.back) (sym here.3) ∙ says here.0)))
  | inr past ↦ absurd (omega (arith, low, past.0))
]

-- the number after those at the prefix that are back is the lowest that is out
pub first_out_is : (i j : ℕ) (list : List Exchange) (w : Records)
    → StandsForPair list ((w i).asked j) ((w j).ran i) → IsFirstOut (plain_of w) i j (suc (leading_back list))
first_out_is i j list w P =
    let xs = (w i).asked j in
    let rs = (w j).ran i in
    let count : length (map plain_request xs) ≡ length list = length-map xs plain_request ∙ sym P.count in
    record {
      first = omega arith;
      last = omega (arith, count, prefix_within list);
      before = λ l some low. before l some low;
      out =
          λ low. back_reads list xs rs (leading_back list) false P (omega (arith, low, count))
          (λ d. prefix_is_out list d (omega (arith, low, count)));
    }
  where
    before : (l : ℕ) → 1 ≤ l → l < suc (leading_back list) → is_back (element_at ((w i).asked j) l) ≡ true
    before zero some low = absurd (omega (arith, some))
    before (suc place) some low =
        let less : place < leading_back list = omega (arith, low) in
        back_reads list ((w i).asked j) ((w j).ran i) place true P (omega (arith, less, prefix_within list))
        (λ d. prefix_is_back list place d less)
