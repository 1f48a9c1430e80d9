-- What a world is as a plain one: its requests, runs and credits.
use Rattle.std.proofs.Common.{◌≡◌, inl, inr, ℕ, zero, suc, ◌+◌, ◌-◌, Bool, true, true≢false, cond, List, [], ◌∷◌, map}
use Rattle.std.proofs.Common.{length, Option, None, Some, refl, sym, ap, ◌∙◌, arith}
use Rattle.std.proofs.lemmas.List.{length-map}
use Rattle.std.proofs.lemmas.Bool.Decides.{nat_tests}
use Rattle.std.proofs.lemmas.Bool.{cases_Bool, cases_eq}
use Rattle.std.proofs.lemmas.Option.{same_Some}
use Rattle.wire_message.specs.Content.{Content}
use Rattle.base_lists.specs.Numbered.{element_at}
use Rattle.spec_node.specs.Record.{Request, Run}
use Rattle.spec_node.specs.Requests.{outstanding}
use Rattle.spec_node.specs.Executed.{run_of}
use Rattle.spec_network.specs.Plain.{RunReply, is_among, reply_of, how_many, plain_request, run_reply, is_back}

-- a request that is there is back where its record says so
pub is_back_at : (o : Option Request) (request : Request) → o ≡ Some request → is_back o ≡ request.back
is_back_at o request e = ap is_back e

-- what is back is there
pub is_back_says : (o : Option Request) → is_back o ≡ true
    → (request : Request) × (o ≡ Some request) × (request.back ≡ true)
is_back_says None e = absurd (true≢false (sym e))
is_back_says (Some request) e = (request, refl, e)

-- ---- runs

-- a run that is found is among the runs
pub among_from : (runs : List Run) (k : ℕ) (run : Run) → run_of k runs ≡ Some run → is_among k (map run_reply runs) ≡ true
among_from [] k run e = absurd (cc)
among_from (t ∷ runs) k run e =
    elim (cases_eq t.number k) [
      | inl h ↦ grind (arith, nat_tests)
      | inr n ↦ (let ih = among_from runs k run (grind (arith, nat_tests)) in grind (arith, nat_tests))
    ]

-- what is among the runs is found
pub from_among : (runs : List Run) (k : ℕ) → is_among k (map run_reply runs) ≡ true
    → (run : Run) × (run_of k runs ≡ Some run)
from_among [] k e = absurd (true≢false (sym e))
from_among (t ∷ runs) k e =
    elim (cases_eq t.number k) [
      | inl h ↦ (t, grind (arith, nat_tests))
      | inr n ↦ (let ih = from_among runs k (grind (arith, nat_tests)) in (ih.0, grind (arith, nat_tests)))
    ]

-- the reply that is read is that of the run
pub reply_of_from : (runs : List Run) (k : ℕ) (run : Run) → run_of k runs ≡ Some run
    → reply_of k (map run_reply runs) ≡ Some run.reply
reply_of_from [] k run e = absurd (cc)
reply_of_from (t ∷ runs) k run e =
    elim (cases_eq t.number k) [
      | inl h ↦ (let i : t ≡ run = grind (arith, nat_tests) in grind (arith, nat_tests))
      | inr n ↦ (let ih = reply_of_from runs k run (grind (arith, nat_tests)) in grind (arith, nat_tests))
    ]

-- ---- replies

-- where a reply is read its request is among the runs
pub reply_among : (rs : List RunReply) (k : ℕ) (c : Content) → reply_of k rs ≡ Some c → is_among k rs ≡ true
reply_among [] k c e = absurd (cc)
reply_among (t ∷ rs) k c e =
    elim (cases_eq t.number k) [
      | inl h ↦ grind (arith, nat_tests)
      | inr n ↦ (let ih = reply_among rs k c (grind (arith, nat_tests)) in grind (arith, nat_tests))
    ]

-- of what is among the runs a reply is read
pub among_reply : (rs : List RunReply) (k : ℕ) → is_among k rs ≡ true → (c : Content) × (reply_of k rs ≡ Some c)
among_reply [] k e = absurd (true≢false (sym e))
among_reply (t ∷ rs) k e =
    elim (cases_eq t.number k) [
      | inl h ↦ (t.reply, grind (arith, nat_tests))
      | inr n ↦ (let ih = among_reply rs k (grind (arith, nat_tests)) in (ih.0, grind (arith, nat_tests)))
    ]

-- the reply that is read is that of a run that is found
pub from_reply : (runs : List Run) (k : ℕ) (c : Content) → reply_of k (map run_reply runs) ≡ Some c
    → (run : Run) × (run_of k runs ≡ Some run) × (run.reply ≡ c)
from_reply runs k c e =
    let run = from_among runs k (reply_among (map run_reply runs) k c e) in
    (run.0, run.1, same_Some _ _ (sym (reply_of_from runs k run.0 run.1) ∙ e))

-- ---- outstanding

-- the first number, and the others
how_many_shift : (test : ℕ → Bool) (n : ℕ) → how_many test (suc n) ≡ cond (test 1) 1 0 + how_many (λ k. test (suc k)) n
how_many_shift test zero = omega arith
how_many_shift test (suc n) = let ih = how_many_shift test n in omega (arith, ih)

-- tests that agree pass as many
how_many_agree : (t u : ℕ → Bool) (n : ℕ) → ((k : ℕ) → t (suc k) ≡ u (suc k)) → how_many t n ≡ how_many u n
how_many_agree t u zero e = refl
how_many_agree t u (suc n) e = let ih = how_many_agree t u n e in rw (ih, e n) refl

-- one request more
one_more : (request : Request) (requests : List Request) (m : ℕ) → m + outstanding requests ≡ length requests
    → cond request.back 1 0 + m + outstanding (request ∷ requests) ≡ suc (length requests)
one_more request requests m e =
    elim (cases_Bool request.back) [ inl t ↦ rw t (omega (arith, e)) | inr f ↦ rw f (omega (arith, e)) ]

-- each request is back or out
pub backs_and_open : (requests : List Request)
    → how_many (λ k. is_back (element_at requests k)) (length requests) + outstanding requests ≡ length requests
backs_and_open [] = refl
backs_and_open (x ∷ requests) =
    let a = how_many_shift (λ k. is_back (element_at (x ∷ requests) k)) (length requests) in
    let b = how_many_agree (λ k. is_back (element_at (x ∷ requests) (suc k))) (λ k. is_back (element_at requests k))
    (length requests)
    (λ k. refl) in
    ap (λ q. q + outstanding (x ∷ requests)) (a ∙ ap (λ q. cond x.back 1 0 + q) b)
    ∙ one_more x requests (how_many (λ k. is_back (element_at requests k)) (length requests)) (backs_and_open requests)

-- what is read as outstanding is what the record has as outstanding
pub outstanding_in_is : (requests : List Request)
    → length (map plain_request requests) - how_many (λ k. is_back (element_at requests k)) (length (map plain_request requests))
    ≡ outstanding requests
outstanding_in_is requests = rw (length-map requests plain_request) (omega (arith, backs_and_open requests))
