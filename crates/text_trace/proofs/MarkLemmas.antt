-- What holds of marks as one more is set.
use Rattle.std.proofs.Common.{◌≡◌, ℕ, zero, suc, ◌+◌, ◌<◌, Bool, true, false, List, [], ◌∷◌, ◌++◌, Some, None, sym, ap}
use Rattle.std.proofs.Common.{subst, ◌∙◌, inl, inr, IsSome, IsSomeAnd, length, get_or, set, take, slice_get, slice_set}
use Rattle.std.proofs.Common.{Vec, arith}
use Rattle.std.specs.Option.{option_map_or}
use Rattle.std.specs.Global.{Global}
use Rattle.std.proofs.lemmas.Bool.{cases_eq}
use Rattle.std.proofs.lemmas.Option.{same_Some, slice_get_within}
use Rattle.std.proofs.lemmas.List.{get_or-set_same, get_or-set_other, length-set}
use Rattle.text_trace.specs.Noted.{PlaceMaps, MarkLists, spot, mark, IsNoted, Fit, Marks, datagram}
use Rattle.text_trace.proofs.PrefixLemmas.{some_from, some_at}
use Rattle.std.proofs.lemmas.List.Elements.{Contains-append_left, Contains-append_right, Contains-append_cases}
use Rattle.std.specs.Option.{option_to_list}
use Rattle.text_trace.proofs.NodeLemmas.{take_more_get}
use Rattle.base_lists.proofs.Indexes.{get-set_same, get-set_other}

mark_at : (ms : MarkLists) (n i : ℕ) (v : Vec Bool Global) → slice_get ms n ≡ Some v → mark ms n i
    ≡ get_or v.items i false
mark_at ms n i v e = ap (λ o. option_map_or (λ (v' : Vec Bool Global). get_or v'.items i false) o false) e

one_of : (y x : ℕ × List ℕ) (k : ℕ) → k < length (y ∷ []) → get_or (y ∷ []) k x ≡ x → y ≡ x
one_of y x zero l e = e
one_of y x (suc k) l e = absurd (omega arith)

pub room_in : (ps : PlaceMaps) (ms : MarkLists) → Fit ps ms → (to i : ℕ) (b : List ℕ) → spot ps to b ≡ Some i
    → (v : Vec Bool Global) → slice_get ms to ≡ Some v → i < length v.items
room_in ps ms fit to i b here v at =
    let r = some_from (slice_get ms to) (λ w. i < length w.items) (fit.room to i b here) in
    subst (λ (w : Vec Bool Global). i < length w.items) (same_Some r.0 v (sym r.1 ∙ at)) r.2

-- one place of a node is marked
module _ (ps : PlaceMaps) (ms : MarkLists) (fit : Fit ps ms) (to i : ℕ) (b : List ℕ) (here : spot ps to b ≡ Some i)
    (v v' : Vec Bool Global) (at : slice_get ms to ≡ Some v) (is : v'.items ≡ set v.items i true) where
  within : to < length ms
  within = slice_get_within ms to v at

  now : slice_get (slice_set ms to v') to ≡ Some v'
  now = get-set_same ms to v' within

  room_here : i < length v.items
  room_here = room_in ps ms fit to i b here v at

  mark_same : mark (slice_set ms to v') to i ≡ true
  mark_same = mark_at (slice_set ms to v') to i v' now ∙ ap (λ xs. get_or xs i false) is ∙ get_or-set_same v.items i
      true false room_here

  mark_else : (j : ℕ) → (j ≡ i → ⊥) → mark (slice_set ms to v') to j ≡ mark ms to j
  mark_else j d = mark_at (slice_set ms to v') to j v' now ∙ ap (λ xs. get_or xs j false) is ∙ get_or-set_other v.items
      i j true false d ∙ sym (mark_at ms to j v at)

  mark_other : (n j : ℕ) → (n ≡ to → ⊥) → mark (slice_set ms to v') n j ≡ mark ms n j
  mark_other n j d = ap (λ o. option_map_or (λ (w : Vec Bool Global). get_or w.items j false) o false)
      (get-set_other ms to v' n d)

  pub fit_after : Fit ps (slice_set ms to v')
  fit_after = record {
    room = λ n j c e. elim (cases_eq n to) [
      | inl s ↦
          let r = some_from (slice_get ms to) (λ w. j < length w.items)
          (subst (λ k. IsSomeAnd (slice_get ms k) (λ w. j < length w.items)) s (fit.room n j c e)) in
          let l : j < length v.items = subst (λ (w : Vec Bool Global). j < length w.items)
          (same_Some r.0 v (sym r.1 ∙ at)) r.2 in
          let same : length v'.items ≡ length v.items = ap length is ∙ length-set v.items i true in
          subst (λ k. IsSomeAnd (slice_get (slice_set ms to v') k) (λ w. j < length w.items)) (sym s)
          (some_at (slice_get (slice_set ms to v') to) (λ w. j < length w.items) v' now (omega arith))
      | inr d ↦ subst (λ o. IsSomeAnd o (λ (w : Vec Bool Global). j < length w.items))
          (sym (get-set_other ms to v' n d)) (fit.room n j c e)
    ];
    one = fit.one;
    held = λ n j h. elim (cases_eq n to) [
      | inl s ↦ elim (cases_eq j i) [
        | inl k ↦ (b, subst (λ m. spot ps m b ≡ Some j) (sym s) (here ∙ ap Some (sym k)))
        | inr k ↦ fit.held n j (subst (λ m. mark ms m j ≡ true) (sym s)
            (sym (mark_else j k) ∙ subst (λ m. mark (slice_set ms to v') m j ≡ true) s h))
      ]
      | inr d ↦ fit.held n j (sym (mark_other n j d) ∙ h)
    ];
  }

  pub marks_after : Marks ps ms (slice_set ms to v') (datagram to b ∷ [])
  marks_after = record {
    no_more = λ n c h. let x = some_from (spot ps n c) (λ j. mark (slice_set ms to v') n j ≡ true) h in
        elim (cases_eq n to) [
          | inl s ↦ elim (cases_eq x.0 i) [
            | inl k ↦
                let e : b ≡ c = fit.one to i b c here (subst (λ m. spot ps m c ≡ Some i) s (x.1 ∙ ap Some k)) in
                let d : datagram to b ≡ datagram n c = ap (λ m. datagram m b) (sym s) ∙ ap (datagram n) e in
                inr (0, omega arith, d)
            | inr k ↦ inl (some_at (spot ps n c) (λ j. mark ms n j ≡ true) x.0 x.1
                (subst (λ m. mark ms m x.0 ≡ true) (sym s) (sym (mark_else x.0 k)
                ∙ subst (λ m. mark (slice_set ms to v') m x.0 ≡ true) s x.2)))
          ]
          | inr d ↦ inl (some_at (spot ps n c) (λ j. mark ms n j ≡ true) x.0 x.1 (sym (mark_other n x.0 d) ∙ x.2))
        ];
    kept = λ n c h. let x = some_from (spot ps n c) (λ j. mark ms n j ≡ true) h in
        some_at (spot ps n c) (λ j. mark (slice_set ms to v') n j ≡ true) x.0 x.1 (elim (cases_eq n to) [
          | inl s ↦ elim (cases_eq x.0 i) [
            | inl k ↦ subst (λ m. mark (slice_set ms to v') m x.0 ≡ true) (sym s)
                (subst (λ j. mark (slice_set ms to v') to j ≡ true) (sym k) mark_same)
            | inr k ↦ subst (λ m. mark (slice_set ms to v') m x.0 ≡ true) (sym s) (mark_else x.0 k
                ∙ subst (λ m. mark ms m x.0 ≡ true) s x.2)
          ]
          | inr d ↦ mark_other n x.0 d ∙ x.2
        ]);
    noted = λ n c h _. let e : datagram to b ≡ datagram n c = one_of (datagram to b) (datagram n c) h.0 h.1 h.2 in
        subst (λ (d : ℕ × List ℕ). IsNoted ps (slice_set ms to v') d.0 d.1) e
        (some_at (spot ps to b) (λ j. mark (slice_set ms to v') to j ≡ true) i here mark_same);
  }

-- none is marked
pub marks_none : (ps : PlaceMaps) (ms : MarkLists) (to : ℕ) (b : List ℕ) → spot ps to b ≡ None
    → Marks ps ms ms (datagram to b ∷ [])
marks_none ps ms to b none = record {
  no_more = λ n c h. inl h;
  kept = λ n c h. h;
  noted = λ n c h found.
      let e : datagram to b ≡ datagram n c = one_of (datagram to b) (datagram n c) h.0 h.1 h.2 in
      let no : spot ps n c ≡ None = subst (λ (d : ℕ × List ℕ). spot ps d.0 d.1 ≡ None) e none in
      absurd (let f = subst IsSome no found in cc);
}

pub room_at : (ps : PlaceMaps) (ms : MarkLists) (to i : ℕ) (b : List ℕ) → Fit ps ms → spot ps to b ≡ Some i
    → to < length ms
room_at ps ms to i b fit here = let r = some_from (slice_get ms to) (λ w. i < length w.items) (fit.room to i b here) in
    slice_get_within ms to r.0 r.1

-- one marking after another
pub marks_trans : (ps : PlaceMaps) (a b c : MarkLists) (ds es : List (ℕ × List ℕ)) → Marks ps a b ds → Marks ps b c es
    → Marks ps a c (ds ++ es)
marks_trans ps a b c ds es m n = record {
  no_more = λ k x h. elim (n.no_more k x h) [
    | inl h' ↦ elim (m.no_more k x h') [ inl h'' ↦ inl h'' | inr d ↦ inr (Contains-append_left ds es (datagram k x) d) ]
    | inr e ↦ inr (Contains-append_right ds es (datagram k x) e)
  ];
  kept = λ k x h. n.kept k x (m.kept k x h);
  noted = λ k x h found. elim (Contains-append_cases ds es (datagram k x) h) [
    | inl d ↦ n.kept k x (m.noted k x d found)
    | inr e ↦ n.noted k x e found
  ];
}

-- the marks of one more datagram of a list
pub marks_more : (ps : PlaceMaps) (a b c : MarkLists) (ds : List (ℕ × List ℕ)) (i : ℕ) → Marks ps a b (take i ds)
    → Marks ps b c (option_to_list (slice_get ds i)) → Marks ps a c (take (i + 1) ds)
marks_more ps a b c ds i m n = subst (Marks ps a c) (sym (take_more_get ds i))
    (marks_trans ps a b c (take i ds) (option_to_list (slice_get ds i)) m n)
