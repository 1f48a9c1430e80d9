-- The exchanges of a pair stand for its requests still when one is accepted, runs, comes back or is sent again.
use Rattle.std.proofs.Common.{◌≡◌, ◌≢◌, inl, inr, ℕ, zero, suc, ◌-◌, ◌<◌, ◌≤◌, false, List, [], ◌∷◌, ◌++◌}
use Rattle.std.proofs.Common.{length, Option, None, Some, refl, sym, ap, ◌∙◌, subst, subst₂, arith, eqb, ne_eqb}
use Rattle.std.proofs.Common.{length-append}
use Rattle.std.specs.Prelude.{is_some}
use Rattle.std.specs.List.{slice_get}
use Rattle.std.specs.Option.{option_map}
use Rattle.std.proofs.lemmas.Bool.{cases_Bool, cases_eq}
use Rattle.std.proofs.lemmas.Option.{same_Some, slice_get_within, slice_get-get_or}
use Rattle.base_lists.specs.Update.{update}
use Rattle.base_lists.proofs.Update.{slice_get-update, slice_get-update_other, length-update}
use Rattle.wire_message.specs.Content.{Content}
use Rattle.spec_node.specs.declared.answer.Why.{Why}
use Rattle.spec_node.specs.Record.{Request, Run, element_at, change}
use Rattle.spec_node.specs.Requests.{as_back, sent_at}
use Rattle.spec_node.specs.Executed.{run_of}
use Rattle.spec_node.specs.Credits.{Limits}
use Rattle.spec_node.proofs.Lists.{numbered_push, numbered_kept, numbered_in, slice_get_last, numbered-change}
use Rattle.spec_node.proofs.Lists.{length-change, run_of_there}
use Rattle.spec_network.specs.Invariant.{PairInvariant}
use Rattle.sim_world.specs.Exchanges.{new_exchange, run as as_run, with_credit_back, with_ran, with_returned}
use Rattle.sim_world.specs.Stands.{StandsForExchange, StandsForPair}
use Rattle.sim_world.specs.declared.exchanges.Exchange.{Exchange}
use Rattle.spec_network.proofs.RecordAdds.{run_of_new}

-- ---- a request is accepted

-- a number that wasn't accepted wasn't run
not_run : (limits : Limits) (refuses : Content → Option Why) (xs : List Request) (rs : List Run) (number : ℕ)
    → PairInvariant limits refuses xs rs → length xs < number → run_of number rs ≡ None
not_run limits refuses xs rs number P above = go (run_of number rs) refl
  where
    go : (o : Option Run) → run_of number rs ≡ o → run_of number rs ≡ None
    go None e = e
    go (Some r) e =
        (let at = run_of_there number rs r e in let it = P.named at.1.0 r at.1.1 in
        absurd (omega (arith, at.0, above, numbered_in xs r.number it.0 it.1)))

-- a request is accepted: its exchange is added
pub pair_accepted : (limits : Limits) (refuses : Content → Option Why) (list : List Exchange) (xs : List Request)
    (rs : List Run) (x : Request) → PairInvariant limits refuses xs rs → StandsForPair list xs rs → x.back ≡ false
    → StandsForPair (list ++ new_exchange x.slot ∷ []) (xs ++ x ∷ []) rs
pair_accepted limits refuses list xs rs x P S open_ =
    let new : Exchange = new_exchange x.slot in
    record {
      count = length-append list (new ∷ []) ∙ (omega (arith, S.count) ∙ sym (length-append xs (x ∷ [])));
      each = λ number y e. elim (numbered_push xs x number y e) [
        | inl was ↦ (let it = S.each number y was in (it.0, numbered_kept list new number it.0 it.1, it.2))
        | inr last ↦ (
          new,
          ap (element_at (list ++ new ∷ [])) (last.0 ∙ ap suc (sym S.count)) ∙ slice_get_last list new,
          record {
            slot = ap (λ (z : Request). z.slot) last.1;
            ran = sym (ap is_some (not_run limits refuses xs rs number P (omega (arith, last.0))));
            back = sym open_ ∙ ap (λ (z : Request). z.back) last.1;
          },
        )
      ];
    }

-- ---- a request runs

-- one more run is none of another request
run_of_other : (rs : List Run) (r : Run) (number : ℕ) → number ≢ r.number
    → run_of number (rs ++ r ∷ []) ≡ run_of number rs
run_of_other [] r number other = rw (ne_eqb r.number number (λ e. other (sym e))) refl
run_of_other (t ∷ rs) r number other =
    let ih = run_of_other rs r number other in
    elim (cases_Bool (eqb t.number number)) [ inl a ↦ rw a refl | inr a ↦ rw a ih ]

-- an exchange by its number, after one was changed
numbered_update : (list : List Exchange) (number k : ℕ) (f : Exchange → Exchange) (e : Exchange) → 1 ≤ number
    → element_at list k ≡ Some e
    → (y : Exchange) × (element_at (update list (number - 1) f) k ≡ Some y) ×
    ((k ≡ number → y ≡ f e) × (k ≢ number → y ≡ e))
numbered_update list number zero f e some at = absurd (cc)
numbered_update list number (suc place) f e some at = elim (cases_eq place (number - 1)) [
  | inl same ↦ (
    f e,
    ap (slice_get (update list (number - 1) f)) same
        ∙ (slice_get-update list (number - 1) f ∙ ap (option_map f) (ap (slice_get list) (sym same) ∙ at)),
    ((λ _. refl), λ other. absurd (other (omega (arith, same)))),
  )
  | inr other ↦ (
    e,
    slice_get-update_other list (number - 1) f place other
        ∙ at,
    ((λ same. absurd (other (omega (arith, same)))), λ _. refl),
  )
]

-- a request runs: its exchange says so
pub pair_ran : (list : List Exchange) (xs : List Request) (rs : List Run) (r : Run) → 1 ≤ r.number
    → run_of r.number rs ≡ None → StandsForPair list xs rs
    → StandsForPair (with_ran list r.number) xs (rs ++ r ∷ [])
pair_ran list xs rs r some none S = record {
  count = length-update list (r.number - 1) as_run ∙ S.count;
  each = λ number x e.
      let it = S.each number x e in
      let up = numbered_update list r.number number as_run it.0 some it.1 in (
        up.0,
        up.1,
        elim (cases_eq number r.number) [
          | inl same ↦ subst (λ (y : Exchange). StandsForExchange y number x (rs ++ r ∷ [])) (sym (up.2.0 same))
              (record {
                slot = it.2.slot;
                ran = sym (ap is_some (ap (λ k. run_of k (rs ++ r ∷ [])) same ∙ run_of_new rs r none));
                back = it.2.back;
              })
          | inr other ↦ subst (λ (y : Exchange). StandsForExchange y number x (rs ++ r ∷ [])) (sym (up.2.1 other))
              (record {
                slot = it.2.slot;
                ran = it.2.ran ∙ sym (ap is_some (run_of_other rs r number other));
                back = it.2.back;
              })
        ],
      );
}

-- ---- a request comes back

-- a request comes back: its exchange says so
pub pair_returned : (list : List Exchange) (xs : List Request) (rs : List Run) (k : ℕ) → 1 ≤ k
    → StandsForPair list xs rs → StandsForPair (with_returned list k) (change as_back xs k) rs
pair_returned list xs rs k some S = record {
  count = length-update list (k - 1) with_credit_back ∙ (S.count ∙ sym (length-change as_back xs k));
  each = λ number x e.
      let y = numbered-change as_back xs k number x e in
      let it = S.each number y.0 y.1 in
      let up = numbered_update list k number with_credit_back it.0 some it.1 in (
        up.0,
        up.1,
        elim y.2 [
          | inl same ↦ subst₂ (λ (d : Exchange) (z : Request). StandsForExchange d number z rs)
              (sym (up.2.1 same.0)) (sym same.1) it.2
          | inr back ↦ subst₂ (λ (d : Exchange) (z : Request). StandsForExchange d number z rs)
              (sym (up.2.0 back.0)) (sym back.1) (record { slot = it.2.slot; ran = it.2.ran; back = refl })
        ],
      );
}

-- ---- a request is sent again

-- a request is sent again: its exchange is what it was
pub pair_sent : (now : ℕ) (list : List Exchange) (xs : List Request) (rs : List Run) (k : ℕ)
    → StandsForPair list xs rs → StandsForPair list (change (sent_at now) xs k) rs
pair_sent now list xs rs k S = record {
  count = S.count ∙ sym (length-change (sent_at now) xs k);
  each = λ number x e.
      let y = numbered-change (sent_at now) xs k number x e in
      let it = S.each number y.0 y.1 in (
        it.0,
        it.1,
        elim y.2 [
          | inl same ↦ subst (λ (z : Request). StandsForExchange it.0 number z rs) (sym same.1) it.2
          | inr again ↦ subst (λ (z : Request). StandsForExchange it.0 number z rs) (sym again.1)
              (record { slot = it.2.slot; ran = it.2.ran; back = it.2.back })
        ],
      );
}

-- ---- what was sent

-- the request of an exchange
asked_at : {X Y : Type 0} (list : List X) (xs : List Y) (k : ℕ) (e : X) → length list ≡ length xs
    → element_at list k ≡ Some e → (x : Y) × (element_at xs k ≡ Some x)
asked_at list xs zero e same at = absurd (cc)
asked_at list [] (suc place) e same at = let l = slice_get_within list place e at in absurd (omega arith)
asked_at list (y ∷ xs) (suc place) e same at =
    let l = slice_get_within list place e at in (_, slice_get-get_or (y ∷ xs) place y (omega arith))

-- the request of an exchange, and what the exchange says of it
pub record Sent (k : ℕ) (exchange : Exchange) (xs : List Request) (rs : List Run) : Type 0 where
  pub x : Request
  pub at : element_at xs k ≡ Some x
  pub stands : StandsForExchange exchange k x rs

-- an exchange is that of a request
pub sent_is : (list : List Exchange) (xs : List Request) (rs : List Run) (k : ℕ) (exchange : Exchange)
    → StandsForPair list xs rs → element_at list k ≡ Some exchange → Sent k exchange xs rs
sent_is list xs rs k exchange S e =
    let x = asked_at list xs k exchange S.count e in
    let it = S.each k x.0 x.1 in
    record {
      x = x.0;
      at = x.1;
      stands = subst (λ (y : Exchange). StandsForExchange y k x.0 rs) (same_Some _ _ (sym it.1 ∙ e)) it.2;
    }

-- where there is no exchange there is no request
pub none_sent : (list : List Exchange) (xs : List Request) (rs : List Run) (k : ℕ) → StandsForPair list xs rs
    → element_at list k ≡ None → element_at xs k ≡ None
none_sent list xs rs k S e = go (element_at xs k) refl
  where
    go : (o : Option Request) → element_at xs k ≡ o → element_at xs k ≡ None
    go None f = f
    go (Some x) f = let it = S.each k x f in absurd (some_none it.0 (sym it.1 ∙ e))
      where
        some_none : (y : Exchange) → Some y ≡ None → ⊥
        some_none y g = cc
