-- The notifies of n nodes, combined, say what they must.
use Rattle.std.proofs.Common.{◌≡◌, ◌≢◌, ◌⊎◌, inl, inr, ℕ, zero, suc, ℤ, ◌≤ℤ◌, true, false, true≢false, ◌||◌}
use Rattle.std.proofs.Common.{Option, Some, None, refl, sym, ap, ◌∙◌, subst, arith}
use Rattle.std.specs.Int.{int_min}
use Rattle.std.proofs.Common.{int_lt}
use Rattle.std.proofs.lemmas.Int.{ints, clamps}
use Rattle.std.proofs.lemmas.Bool.{cases_Bool, cases_eq, or_cases}
use Rattle.std.proofs.lemmas.Option.{same_Some}
use Rattle.part_barrier.specs.declared.known.Combination.{Combination}
use Rattle.part_barrier.specs.declared.known.Notify.{Notify}
use Rattle.part_barrier.specs.Masks.{has}
use Rattle.part_barrier.specs.Combinations.{Notifies, one_notify, differ, least, combine, notified_by, all_of}
use Rattle.part_barrier.specs.Together.{HasMismatch, IsNamedBy, HasClash, AllTogether}
use Rattle.part_barrier.proofs.Combining.{int_eq_tells, int_min_same}
use Rattle.std.proofs.lemmas.Bool.{or_parts}

-- a combination says what it must of a flag, and of the identifiers that are named
record Says (Flag : Type 0) (Named : ℤ → Type 0) (combined : Combination) : Type 0 where
  bad : combined.mismatch ≡ true → Flag ⊎ ((other : ℤ) × (id : ℤ) × Named other × Named id × (other ≢ id))
  good : combined.mismatch ≡ false → (Flag → ⊥) × ((id : ℤ) → Named id → combined.id ≡ Some id)
  some : (id : ℤ) → combined.id ≡ Some id → Named id × ((other : ℤ) → Named other → id ≤ℤ other)
  none : combined.id ≡ None → (id : ℤ) → Named id → ⊥

says_like : (Flag Other_flag : Type 0) (Named Other_named : ℤ → Type 0) (combined : Combination) → (Flag → Other_flag)
    → (Other_flag → Flag) → ((id : ℤ) → Named id → Other_named id) → ((id : ℤ) → Other_named id → Named id)
    → Says Flag Named combined → Says Other_flag Other_named combined
says_like Flag Other_flag Named Other_named combined to_flag from_flag to from says = record {
  bad = λ is. elim (says.bad is) [
    | inl found ↦ inl (to_flag found)
    | inr found ↦ inr
        (found.0, found.1, to found.0 found.2, to found.1 found.3, found.4)
  ];
  good = λ is. let found = says.good is in (λ flag. found.0 (from_flag flag), λ id name. found.1 id (from id name));
  some = λ id is. let found = says.some id is in (to id found.0, λ other name. found.1 other (from other name));
  none = λ is id name. says.none is id (from id name);
}

-- the least of two identifiers
least_says : (Named Other_named : ℤ → Type 0) (first second : Option ℤ)
    → ((id : ℤ) → first ≡ Some id → Named id × ((other : ℤ) → Named other → id ≤ℤ other))
    → (first ≡ None → (id : ℤ) → Named id → ⊥)
    → ((id : ℤ) → second ≡ Some id → Other_named id × ((other : ℤ) → Other_named other → id ≤ℤ other))
    → (second ≡ None → (id : ℤ) → Other_named id → ⊥)
    → (id : ℤ) → least first second ≡ Some id
    → (Named id ⊎ Other_named id) × ((other : ℤ) → Named other ⊎ Other_named other → id ≤ℤ other)
least_says Named Other_named None second sa na sb nb id least_is = let found = sb id least_is in
    (inr found.0, λ other name. elim name [ inl mine ↦ absurd (na refl other mine) | inr its ↦ found.1 other its ])
least_says Named Other_named (Some one) None sa na sb nb id least_is = let found = sa id least_is in
    (inl found.0, λ other name. elim name [ inl mine ↦ found.1 other mine | inr its ↦ absurd (nb refl other its) ])
least_says Named Other_named (Some one) (Some two) sa na sb nb id least_is =
    let is : int_min one two ≡ id = same_Some (int_min one two) id least_is in
    let hx = sa one refl in
    let hw = sb two refl in
    let which : (id ≡ one) ⊎ (id ≡ two) = min_is one two id is in (
      elim which [ inl s ↦ inl (subst Named (sym s) hx.0) | inr s ↦ inr (subst Other_named (sym s) hw.0) ],
      λ other name. elim name [
        | inl mine ↦ omega (arith, ints, clamps, is, hx.1 other mine)
        | inr its ↦ omega
            (arith, ints, clamps, is, hw.1 other its)
      ],
    )
  where
    min_is : (one two id : ℤ) → int_min one two ≡ id → (id ≡ one) ⊎ (id ≡ two)
    min_is one two id least_is = elim (cases_Bool (int_lt two one)) [
      | inl t ↦ inr
          (sym least_is ∙ rw t refl)
      | inr notifies ↦ inl (sym least_is ∙ rw notifies refl)
    ]

differ_says : (first second : Option ℤ) → differ first second ≡ true
    → (id : ℤ) × (other : ℤ) × (first ≡ Some id) × (second ≡ Some other) × (id ≢ other)
differ_says None second is = absurd (true≢false (sym is))
differ_says (Some id) None is = absurd (true≢false (sym is))
differ_says (Some id) (Some other) is = elim (int_eq_tells id other) [
  | inl found ↦ absurd (true≢false (sym is ∙ rw found.0 refl))
  | inr found ↦ (id, other, refl, refl, found.1)
]

least_same : (first second : Option ℤ) (id : ℤ) → differ first second ≡ false → (first ≡ Some id) ⊎ (second ≡ Some id)
    → least first second ≡ Some id
least_same None second id alike (inl is) = absurd (cc)
least_same None second id alike (inr is) = is
least_same (Some one) None id alike (inl is) = is
least_same (Some one) None id alike (inr is) = absurd (cc)
least_same (Some one) (Some other) id alike found = elim (int_eq_tells one other) [
  | inr unlike ↦ absurd (true≢false (sym (rw unlike.0 refl) ∙ alike))
  | inl same ↦ rw (same.1, int_min_same other) (elim found [ inl is ↦ ap Some (sym same.1) ∙ is | inr is ↦ is ])
]

least_none : (first second : Option ℤ) → least first second ≡ None → (first ≡ None) × (second ≡ None)
least_none None second is = (refl, is)
least_none (Some one) None is = absurd (cc)
least_none (Some one) (Some other) is = absurd (cc)

combine_says : (Flag Other_flag : Type 0) (Named Other_named : ℤ → Type 0) (first second : Combination)
    → Says Flag Named first → Says Other_flag Other_named second
    → Says (Flag ⊎ Other_flag) (λ id. Named id ⊎ Other_named id) (combine first second)
combine_says Flag Other_flag Named Other_named first second one two = record {
  bad = λ is. elim (or_cases (first.mismatch || second.mismatch) (differ first.id second.id) is) [
    | inl found ↦ elim (or_cases first.mismatch second.mismatch found) [
      | inl which ↦ elim (one.bad which) [
        | inl flag ↦ inl (inl flag)
        | inr clash ↦ inr
            (clash.0, clash.1, inl clash.2, inl clash.3, clash.4)
      ]
      | inr which ↦ elim (two.bad which) [
        | inl flag ↦ inl (inr flag)
        | inr clash ↦ inr
            (clash.0, clash.1, inr clash.2, inr clash.3, clash.4)
      ]
    ]
    | inr found ↦ (let clash_of = differ_says first.id second.id found in
        inr (
          clash_of.0,
          clash_of.1,
          inl (one.some clash_of.0 clash_of.2).0,
          inr (two.some clash_of.1 clash_of.3).0,
          clash_of.4,
        ))
  ];
  good = λ is.
      let which = or_parts (first.mismatch || second.mismatch) (differ first.id second.id) is in
      let both = or_parts first.mismatch second.mismatch which.0 in (
        λ flag. elim flag [ inl fact ↦ (one.good both.0).0 fact | inr fact ↦ (two.good both.1).0 fact ],
        λ id name. least_same first.id second.id id which.1
            (elim name [ inl fact ↦ inl ((one.good both.0).1 id fact) | inr fact ↦ inr ((two.good both.1).1 id fact) ]),
      );
  some = least_says Named Other_named first.id second.id one.some one.none two.some two.none;
  none = λ is id name. let which = least_none first.id second.id is in
      elim name [ inl fact ↦ one.none which.0 id fact | inr fact ↦ two.none which.1 id fact ];
}

-- one_notify node's notify
abbrev Flagged : Option Notify → Type 0
Flagged own = (notify : Notify) × (own ≡ Some notify) × (has notify.flags 1 ≡ true)

abbrev NamedBy : Option Notify → ℤ → Type 0
NamedBy own id = (notify : Notify) × (own ≡ Some notify) × (has notify.flags 0 ≡ false) × (notify.id ≡ id)

single_says : (own : Option Notify) → Says (Flagged own) (NamedBy own) (notified_by own)
single_says None = record {
  bad = λ fact. absurd (true≢false (sym fact));
  good = λ fact. (λ flag. let found = flag.1 in cc, λ id name. absurd (let found = name.1 in cc));
  some = λ id fact. absurd cc;
  none = λ fact id name. let found = name.1 in cc;
}
single_says (Some notify) = record {
  bad = λ fact. inl (notify, refl, fact);
  good = λ fact. (
    λ flag. true≢false (sym flag.2
        ∙ (ap (λ (other : Notify). has other.flags 1) (same_Some _ _ (sym flag.1)) ∙ fact)),
    λ id name. named id name,
  );
  some = λ id fact. elim (cases_Bool (has notify.flags 0)) [
    | inl holds ↦ (let none : None ≡ Some id = rw holds at fact in absurd cc)
    | inr flag ↦ (let is : notify.id ≡ id = same_Some _ _ (rw flag at fact) in (
      (notify, refl, flag, is),
      λ other name. let same : notify.id ≡ other =
          ap (λ (any : Notify). any.id) (same_Some _ _ name.1) ∙ name.3 in omega (arith, ints),
    ))
  ];
  none = λ fact id name. let found : None ≡ Some id = sym fact ∙ named id name in cc;
}
  where
    named : (id : ℤ) → NamedBy (Some notify) id → (one_notify notify.id notify.flags).id ≡ Some id
    named id name = let equal : notify ≡ name.0 = same_Some _ _ name.1 in let flag : has notify.flags 0 ≡ false =
        ap (λ (other : Notify). has other.flags 0) equal ∙ name.2 in
        rw flag (ap Some (ap (λ (other : Notify). other.id) equal ∙ name.3))

all_says : (notifies : Notifies) (unlike : ℕ)
    → Says (HasMismatch notifies unlike) (IsNamedBy notifies unlike) (all_of notifies unlike)
all_says notifies zero = record {
  bad = λ is. absurd (true≢false (sym is));
  good = λ is. (λ found. absurd (omega (arith, found.1.1)), λ id found. absurd (omega (arith, found.1.1)));
  some = λ id is. absurd cc;
  none = λ is id found. absurd (omega (arith, found.1.1));
}
all_says notifies (suc node) = says_like _ _ _ _ (all_of notifies (suc node)) flag_to flag_from name_to name_from
    (combine_says _ _ _ _ (all_of notifies node) (notified_by (notifies node)) (all_says notifies node)
    (single_says (notifies node)))
  where
    flag_to : HasMismatch notifies node ⊎ Flagged (notifies node) → HasMismatch notifies (suc node)
    flag_to (inl found) = (found.0, (found.1.0, omega (arith, found.1.1), found.1.2), found.2)
    flag_to (inr found) = (found.0, (node, omega arith, found.1), found.2)

    flag_from : HasMismatch notifies (suc node) → HasMismatch notifies node ⊎ Flagged (notifies node)
    flag_from found = elim (cases_eq found.1.0 node) [
      | inl is ↦ inr
          (found.0, ap notifies (sym is) ∙ found.1.2, found.2)
      | inr unlike ↦ inl
          (found.0, (found.1.0, omega (arith, found.1.1, unlike), found.1.2), found.2)
    ]

    name_to : (id : ℤ) → IsNamedBy notifies node id ⊎ NamedBy (notifies node) id → IsNamedBy notifies (suc node) id
    name_to id (inl found) = (found.0, (found.1.0, omega (arith, found.1.1), found.1.2), found.2, found.3)
    name_to id (inr found) = (found.0, (node, omega arith, found.1), found.2, found.3)

    name_from : (id : ℤ) → IsNamedBy notifies (suc node) id → IsNamedBy notifies node id ⊎ NamedBy (notifies node) id
    name_from id found = elim (cases_eq found.1.0 node) [
      | inl is ↦ inr
          (found.0, ap notifies (sym is) ∙ found.1.2, found.2, found.3)
      | inr unlike ↦ inl
          (found.0, (found.1.0, omega (arith, found.1.1, unlike), found.1.2), found.2, found.3)
    ]

pub all_together : AllTogether
all_together notifies nodes = record {
  mismatch = (
    says.bad,
    λ found. elim (cases_Bool
        (all_of notifies nodes).mismatch) [ inl holds ↦ holds | inr is ↦ absurd (clashes found (says.good is)) ],
  );
  none = (says.none, λ found. empty found (all_of notifies nodes).id refl);
  some = says.some;
}
  where
    says : Says (HasMismatch notifies nodes) (IsNamedBy notifies nodes) (all_of notifies nodes)
    says = all_says notifies nodes

    clashes : HasMismatch notifies nodes ⊎ HasClash notifies nodes
        → (HasMismatch notifies nodes → ⊥)
        × ((id : ℤ) → IsNamedBy notifies nodes id → (all_of notifies nodes).id ≡ Some id) → ⊥
    clashes (inl found) none_of = none_of.0 found
    clashes (inr found) none_of = found.4 (same_Some _ _ (sym (none_of.1 found.0 found.2) ∙ none_of.1 found.1 found.3))

    empty : ((id : ℤ) → IsNamedBy notifies nodes id → ⊥) → (named : Option ℤ) → (all_of notifies nodes).id ≡ named
        → named ≡ None
    empty found None is = refl
    empty found (Some id) is = absurd (found id (says.some id is).0)
