-- What holds of places as one more is given.
use Rattle.std.proofs.Common.{◌≡◌, ℕ, ◌+◌, ◌<◌, true, false, List, Option, Some, None, refl, sym, ap, subst, ◌∙◌, inl}
use Rattle.std.proofs.Common.{inr, cond, IsSome, IsSomeAnd, length, get_or, take, slice_get}
use Rattle.std.specs.Option.{ForSome}
use Rattle.std.specs.Str.{bytes_eq}
use Rattle.std.proofs.lemmas.Bool.{cases_Bool, cond-true, cond-false}
use Rattle.std.proofs.lemmas.Slice.Eq.{bytes_eq-Decides}
use Rattle.std.proofs.lemmas.Option.{same_Some, slice_get_read}
use Rattle.std.proofs.lemmas.List.Elements.{All-more, All-weaker}
use Rattle.base_turns.specs.declared.entry.Entry.{Entry}
use Rattle.text_trace.specs.Noted.{PlaceMap, place_in, AreFound, ArePlaces}
use Rattle.text_trace.proofs.PrefixLemmas.{some_at}

module _ (m n : PlaceMap) (bs : List ℕ) (i : ℕ) (h : (b : List ℕ)
    → place_in n b ≡ cond (bytes_eq bs b) (Some i) (place_in m b)) where
  place_here : (b : List ℕ) → bytes_eq bs b ≡ true → place_in n b ≡ Some i
  place_here b t = h b ∙ cond-true (bytes_eq bs b) (Some i) (place_in m b) t

  place_there : (b : List ℕ) → bytes_eq bs b ≡ false → place_in n b ≡ place_in m b
  place_there b f = h b ∙ cond-false (bytes_eq bs b) (Some i) (place_in m b) f

  some_is : {A : Type 0} (o : Option A) (x : A) → o ≡ Some x → IsSome o
  some_is o x e = subst IsSome (sym e) refl

  pub found_kept : (b : List ℕ) → IsSome (place_in m b) → IsSome (place_in n b)
  found_kept b p = elim (cases_Bool (bytes_eq bs b)) [
    | inl t ↦ some_is (place_in n b) i (place_here b t)
    | inr f ↦ subst IsSome (sym (place_there b f)) p
  ]

  pub found_more : (es : List Entry) (e : Entry) → e ≡ get_or es i e → i < length es → e.got ≡ Some bs
      → AreFound m (take i es) → AreFound n (take (i + 1) es)
  found_more es e at l got found =
      All-more (λ x. ForSome x.got (λ b. IsSome (place_in n b))) es i e l
      (All-weaker (λ x. ForSome x.got (λ b. IsSome (place_in m b))) (λ x. ForSome x.got (λ b. IsSome (place_in n b)))
      (λ x f b g. found_kept b (f b g)) (take i es) found)
      (λ b g. some_is (place_in n b) i
      (place_here b ((bytes_eq-Decides bs b).1 (same_Some bs b (sym got ∙ ap (λ (x : Entry). x.got) at ∙ g)))))

  pub places_more : (es : List Entry) (e : Entry) → e ≡ get_or es i e → i < length es → e.got ≡ Some bs → ArePlaces m es
      → ArePlaces n es
  places_more es e at l got places b j p = elim (cases_Bool (bytes_eq bs b)) [
    | inl t ↦
        let same : bs ≡ b = (bytes_eq-Decides bs b).0 t in
        let place : i ≡ j = same_Some i j (sym (place_here b t) ∙ p) in
        subst (λ k. IsSomeAnd (slice_get es k) (λ x. x.got ≡ Some b)) place
        (some_at (slice_get es i) (λ x. x.got ≡ Some b) e (slice_get_read es (length es) i e refl l at)
        (got ∙ ap Some same))
    | inr f ↦ places b j (sym (place_there b f) ∙ p)
  ]

pub found_none : (m : PlaceMap) (es : List Entry) (i : ℕ) (e : Entry)
    → e ≡ get_or es i e → i < length es → e.got ≡ None → AreFound m (take i es) → AreFound m (take (i + 1) es)
found_none m es i e at l got found = All-more (λ x. ForSome x.got (λ b. IsSome (place_in m b))) es i e l found
    (λ b g. let no : None ≡ Some b = sym got ∙ ap (λ (x : Entry). x.got) at ∙ g in cc)
