-- A ring without one of its places, and with one more; and its first place.
use Rattle.std.proofs.Common.{ℕ, ◌≡◌, ◌≢◌, ◌⊎◌, ◌+◌, ◌*◌, ◌<◌, ◌≤◌, Bool, true, false, cond, suc, zero, refl, sym, ap}
use Rattle.std.proofs.Common.{subst, ◌∙◌, inl, inr, arith}
use Rattle.std.proofs.lemmas.Bool.Decides.{eqb_tells}
use Rattle.base_lists.proofs.Put.{put_same, put_other}
use Rattle.std.proofs.Math.Nat.{mul-le-mul_right}
use Rattle.part_window.specs.Ring.{put, IsOn, IsBefore, IsRing, weight}

-- the place that was changed, under another name
pub put-same : {A : Type 0} (values : ℕ → A) (place : ℕ) (value : A) (other : ℕ) → other ≡ place
    → put values place value other ≡ value
put-same values place value other same = ap (put values place value) same ∙ put_same values place value

-- which case a place is
abbrev Same : ℕ → ℕ → Type 0
Same index place = (index ≡ place) ⊎ (index ≢ place)

pub same? : (index place : ℕ) → Same index place
same? index place = elim (eqb_tells index place) [ inl found ↦ inl found.1 | inr found ↦ inr found.1 ]

-- a listed place is not the head
not-head : (head : ℕ) (next previous time : ℕ → ℕ) (listed : ℕ → Bool) (place : ℕ)
    → IsRing head next previous time listed → listed place ≡ true → place ≢ head
not-head head next previous time listed place ring on =
    λ equal. let low : place < head = ring.below place on in absurd (omega (arith, low, equal))

-- no place is next to itself but an empty ring's head
not-next : (head : ℕ) (next previous time : ℕ → ℕ) (listed : ℕ → Bool) (place : ℕ)
    → IsRing head next previous time listed → listed place ≡ true → next place ≢ place
not-next head next previous time listed place ring on = λ equal.
    let differs : place ≢ head = not-head head next previous time listed place ring on in
    let rises = ring.rising place (inr on) differs (λ again. differs (sym equal ∙ again)) in
    let less : place < next place = rises.1 (ap time equal) in
    absurd (omega (arith, less, equal))

-- a place of the ring without one of them is a place of the ring, and is not that one
on-without : (head place : ℕ) (listed : ℕ → Bool) (index : ℕ) → place ≢ head → IsOn head (put listed place false) index
    → IsOn head listed index × (index ≢ place)
on-without head place listed index differs (inl equal) = (inl equal, λ again. differs (sym again ∙ equal))
on-without head place listed index differs (inr on) = elim (same? index place) [
  | inl equal ↦ let off : put listed place false index ≡ false = put-same listed place false index equal in absurd cc
  | inr other ↦ (inr (sym (put_other listed place false index other) ∙ on), other)
]

without-on : (head place : ℕ) (listed : ℕ → Bool) (index : ℕ) → index ≢ place → IsOn head listed index
    → IsOn head (put listed place false) index
without-on head place listed index differs (inl equal) = inl equal
without-on head place listed index differs (inr on) = inr (put_other listed place false index differs ∙ on)

pub ring-without : (head : ℕ) (next previous time : ℕ → ℕ) (listed : ℕ → Bool) (place : ℕ)
    → IsRing head next previous time listed → listed place ≡ true
    → IsRing head (put next (previous place) (next place))
    (put previous (next place) (previous place)) time (put listed place false)
ring-without head next previous time listed place ring on = record {
  apart = put_other listed place false head (λ equal. differs (sym equal)) ∙ ring.apart;
  below =
      λ index is. elim (same? index place) [
        | inl equal ↦ let off : put listed place false index ≡ false = put-same listed place false index equal in absurd
            cc
        | inr other ↦ ring.below index (sym (put_other listed place false index other) ∙ is)
      ];
  next_on = λ index is. let found = on-without head place listed index differs is in elim (same? index left) [
    | inl equal ↦
        subst (IsOn head (put listed place false)) (sym (put-same next left right index equal))
        (without-on head place listed right right_other (ring.next_on place (inr on)))
    | inr other ↦
        subst (IsOn head (put listed place false)) (sym (put_other next left right index other))
        (without-on head place listed (next index) (λ equal. other (sym (ring.there index found.0)
        ∙ ap previous equal)) (ring.next_on index found.0))
  ];
  previous_on = λ index is. let found = on-without head place listed index differs is in elim (same? index right) [
    | inl equal ↦
        subst (IsOn head (put listed place false)) (sym (put-same previous right left index equal))
        (without-on head place listed left left_other (ring.previous_on place (inr on)))
    | inr other ↦
        subst (IsOn head (put listed place false)) (sym (put_other previous right left index other))
        (without-on head place listed (previous index) (λ equal. other (sym (ring.back index found.0)
        ∙ ap next equal)) (ring.previous_on index found.0))
  ];
  there = λ index is. let found = on-without head place listed index differs is in elim (same? index left) [
    | inl equal ↦
        ap (put previous right left) (put-same next left right index equal)
        ∙ (put-same previous right left right refl ∙ sym equal)
    | inr other ↦
        ap (put previous right left) (put_other next left right index other)
        ∙ (put_other previous right left (next index)
        (λ equal. found.1 (sym (ring.there index found.0) ∙ (ap previous equal ∙ ring.there place (inr on))))
        ∙ ring.there index found.0)
  ];
  back = λ index is. let found = on-without head place listed index differs is in elim (same? index right) [
    | inl equal ↦
        ap (put next left right) (put-same previous right left index equal)
        ∙ (put-same next left right left refl ∙ sym equal)
    | inr other ↦
        ap (put next left right) (put_other previous right left index other)
        ∙ (put_other next left right (previous index)
        (λ equal. found.1 (sym (ring.back index found.0) ∙ (ap next equal ∙ ring.back place (inr on))))
        ∙ ring.back index found.0)
  ];
  rising = λ index is low high. let found = on-without head place listed index differs is in elim (same? index left) [
    | inl equal ↦
        let here : put next left right index ≡ right = put-same next left right index equal in
        let right_low : right ≢ head = λ again. high (here ∙ again) in
        let left_low : left ≢ head = λ again. low (equal ∙ again) in
        let first : IsBefore (time left) left (time place) place =
        subst (λ (moved : ℕ). IsBefore (time left) left (time moved) moved) (ring.back place (inr on))
        (ring.rising left (ring.previous_on place (inr on)) left_low
        (λ again. differs (sym (ring.back place (inr on)) ∙ again))) in
        let second : IsBefore (time place) place (time right) right = ring.rising place (inr on) differs right_low in
        let both : IsBefore (time left) left (time right) right = (
          omega (arith, first.0, second.0),
          λ same. let near : left < place = first.1
              (omega (arith, first.0, second.0, same)) in let earlier : place < right = second.1
              (omega (arith, first.0, second.0, same)) in omega (arith, near, earlier),
        ) in
        subst (λ (moved : ℕ). IsBefore (time index) index (time moved) moved) (sym here)
        (subst (λ (moved : ℕ). IsBefore (time moved) moved (time right) right) (sym equal) both)
    | inr other ↦
        let here : put next left right index ≡ next index = put_other next left right index other in
        subst (λ (moved : ℕ). IsBefore (time index) index (time moved) moved) (sym here)
        (ring.rising index found.0 low (λ equal. high (here ∙ equal)))
  ];
} where
  left : ℕ
  left = previous place

  right : ℕ
  right = next place

  differs : place ≢ head
  differs = not-head head next previous time listed place ring on

  right_other : right ≢ place
  right_other = not-next head next previous time listed place ring on

  left_other : left ≢ place
  left_other = λ equal. right_other (ap next (sym equal) ∙ ring.back place (inr on))

-- a place of the ring is not the one that is off it
on-other : (head place : ℕ) (listed : ℕ → Bool) (index : ℕ) → place ≢ head → listed place ≡ false
    → IsOn head listed index → index ≢ place
on-other head place listed index differs off (inl equal) = λ again. differs (sym again ∙ equal)
on-other head place listed index differs off (inr on) =
    λ again. let no_on : listed index ≡ false = ap listed again ∙ off in absurd cc

with-on : (head place : ℕ) (listed : ℕ → Bool) (index : ℕ) → IsOn head listed index
    → IsOn head (put listed place true) index
with-on head place listed index (inl equal) = inl equal
with-on head place listed index (inr on) =
    elim (same? index place) [
      | inl equal ↦ inr (put-same listed place true index equal)
      | inr other ↦ inr
          (put_other listed place true index other ∙ on)
    ]

-- a place of the ring with one more is that one, or a place of the ring
on-with : (head place : ℕ) (listed : ℕ → Bool) (index : ℕ) → IsOn head (put listed place true) index
    → (index ≡ place) ⊎ ((index ≢ place) × IsOn head listed index)
on-with head place listed index (inl equal) =
    elim (same? index place) [ inl again ↦ inl again | inr other ↦ inr (other, inl equal) ]
on-with head place listed index (inr on) =
    elim (same? index place) [
      | inl again ↦ inl again
      | inr other ↦ inr (
        other,
        inr (sym (put_other listed place true index other) ∙ on),
      )
    ]

pub ring-with : (head : ℕ) (next previous time : ℕ → ℕ) (listed : ℕ → Bool) (place left moment : ℕ)
    → IsRing head next previous time listed → place < head → listed place ≡ false → IsOn head listed left
    → (left ≢ head → IsBefore (time left) left moment place)
    → (next left ≢ head → IsBefore moment place (time (next left)) (next left))
    → IsRing head (put (put next place (next left)) left place) (put (put previous place left) (next left) place)
    (put time place moment) (put listed place true)
ring-with head next previous time listed place left moment ring inside off on before after = record {
  apart = put_other listed place true head (λ equal. differs (sym equal)) ∙ ring.apart;
  below =
      λ index is. elim (same? index place) [
        | inl equal ↦ omega (
          arith,
          equal,
          inside,
        )
        | inr other ↦ ring.below index (sym (put_other listed place true index other) ∙ is)
      ];
  next_on = λ index is. elim (on-with head place listed index is) [
    | inl equal ↦
        subst (IsOn head (put listed place true)) (sym (next_place index equal))
        (with-on head place listed right right_on)
    | inr found ↦ elim (same? index left) [
      | inl equal ↦
          subst (IsOn head (put listed place true)) (sym (next_left index equal))
          (inr (put-same listed place true place refl))
      | inr other ↦
          subst (IsOn head (put listed place true)) (sym (next_other index other found.0))
          (with-on head place listed (next index) (ring.next_on index found.1))
    ]
  ];
  previous_on = λ index is. elim (on-with head place listed index is) [
    | inl equal ↦
        subst (IsOn head (put listed place true)) (sym (previous_place index equal)) (with-on head place listed left on)
    | inr found ↦ elim (same? index right) [
      | inl equal ↦
          subst (IsOn head (put listed place true)) (sym (previous_right index equal))
          (inr (put-same listed place true place refl))
      | inr other ↦
          subst (IsOn head (put listed place true)) (sym (previous_other index other found.0))
          (with-on head place listed (previous index) (ring.previous_on index found.1))
    ]
  ];
  there = λ index is. elim (on-with head place listed index is) [
    | inl equal ↦ ap new_previous (next_place index equal) ∙ (previous_right right refl ∙ sym equal)
    | inr found ↦ elim (same? index left) [
      | inl equal ↦ ap new_previous (next_left index equal) ∙ (previous_place place refl ∙ sym equal)
      | inr other ↦
          ap new_previous (next_other index other found.0)
          ∙ (previous_other (next index)
          (λ equal. other (sym (ring.there index found.1) ∙ (ap previous equal ∙ ring.there left on)))
          (on-other head place listed (next index) differs off (ring.next_on index found.1))
          ∙ ring.there index found.1)
    ]
  ];
  back = λ index is. elim (on-with head place listed index is) [
    | inl equal ↦ ap new_next (previous_place index equal) ∙ (next_left left refl ∙ sym equal)
    | inr found ↦ elim (same? index right) [
      | inl equal ↦ ap new_next (previous_right index equal) ∙ (next_place place refl ∙ sym equal)
      | inr other ↦
          ap new_next (previous_other index other found.0)
          ∙ (next_other (previous index) (λ equal. other (sym (ring.back index found.1) ∙ ap next equal))
          (on-other head place listed (previous index) differs off (ring.previous_on index found.1))
          ∙ ring.back index found.1)
    ]
  ];
  rising = λ index is low high. elim (on-with head place listed index is) [
    | inl equal ↦
        let right_low : right ≢ head = λ again. high (next_place index equal ∙ again) in
        let earlier : IsBefore moment place (time right) right = after right_low in
        let shifted : IsBefore (put time place moment index) index (put time place moment right) right =
        subst (λ (shown : ℕ). IsBefore (put time place moment index) index shown right)
        (sym (put_other time place moment right right_other))
        (subst (λ (shown : ℕ). IsBefore shown index (time right) right)
        (sym (put-same time place moment index equal))
        (subst (λ (moved : ℕ). IsBefore moment moved (time right) right) (sym equal) earlier)) in
        subst (λ (moved : ℕ). IsBefore (put time place moment index) index (put time place moment moved) moved)
        (sym (next_place index equal)) shifted
    | inr found ↦ elim (same? index left) [
      | inl equal ↦
          let earlier : IsBefore (time left) left moment place = before (λ again. low (equal ∙ again)) in
          let shifted : IsBefore (put time place moment index) index (put time place moment place) place =
          subst (λ (shown : ℕ). IsBefore (put time place moment index) index shown place)
          (sym (put-same time place moment place refl))
          (subst (λ (shown : ℕ). IsBefore shown index moment place)
          (sym (put_other time place moment index found.0))
          (subst (λ (moved : ℕ). IsBefore (time moved) moved moment place) (sym equal) earlier)) in
          subst (λ (moved : ℕ). IsBefore (put time place moment index) index (put time place moment moved) moved)
          (sym (next_left index equal)) shifted
      | inr other ↦
          let earlier : IsBefore (time index) index (time (next index)) (next index) =
          ring.rising index found.1 low (λ equal. high (next_other index other found.0 ∙ equal)) in
          let shifted : IsBefore (put time place moment index) index (put time place moment (next index)) (next index) =
          subst (λ (shown : ℕ). IsBefore (put time place moment index) index shown (next index))
          (sym (put_other time place moment (next index)
          (on-other head place listed (next index) differs off (ring.next_on index found.1))))
          (subst (λ (shown : ℕ). IsBefore shown index (time (next index)) (next index))
          (sym (put_other time place moment index found.0)) earlier) in
          subst (λ (moved : ℕ). IsBefore (put time place moment index) index (put time place moment moved) moved)
          (sym (next_other index other found.0)) shifted
    ]
  ];
} where
  right : ℕ
  right = next left

  new_next : ℕ → ℕ
  new_next = put (put next place (next left)) left place

  new_previous : ℕ → ℕ
  new_previous = put (put previous place left) (next left) place

  differs : place ≢ head
  differs = λ equal. absurd (omega (arith, equal, inside))

  right_on : IsOn head listed right
  right_on = ring.next_on left on

  left_other : left ≢ place
  left_other = on-other head place listed left differs off on

  right_other : right ≢ place
  right_other = on-other head place listed right differs off right_on

  next_place : (index : ℕ) → index ≡ place → new_next index ≡ right
  next_place index equal =
      put_other (put next place (next left)) left place index (λ again. left_other (sym again ∙ equal))
      ∙ put-same next place (next left) index equal

  next_left : (index : ℕ) → index ≡ left → new_next index ≡ place
  next_left index equal = put-same (put next place (next left)) left place index equal

  next_other : (index : ℕ) → index ≢ left → index ≢ place → new_next index ≡ next index
  next_other index other also =
      put_other (put next place (next left)) left place index other ∙ put_other next place (next left) index also

  previous_place : (index : ℕ) → index ≡ place → new_previous index ≡ left
  previous_place index equal =
      put_other (put previous place left) (next left) place index (λ again. right_other (sym again ∙ equal))
      ∙ put-same previous place left index equal

  previous_right : (index : ℕ) → index ≡ right → new_previous index ≡ place
  previous_right index equal = put-same (put previous place left) (next left) place index equal

  previous_other : (index : ℕ) → index ≢ right → index ≢ place → new_previous index ≡ previous index
  previous_other index other also =
      put_other (put previous place left) (next left) place index other ∙ put_other previous place left index also

-- the weight falls from a place to the one before it
pub weight-falls : (head : ℕ) (next previous time : ℕ → ℕ) (listed : ℕ → Bool) (index : ℕ)
    → IsRing head next previous time listed → IsOn head listed index → index ≢ head
    → weight head time (previous index) < weight head time index
weight-falls head next previous time listed index ring on low = elim (eqb_tells (previous index) head) [
  | inl e ↦
      let zero_at : weight head time (previous index) ≡ 0 =
      ap (λ (earlier : Bool). cond earlier 0 (time (previous index) * (head + 1) + previous index + 1)) e.0 in
      omega (arith, zero_at, here)
  | inr e ↦
      let left : ℕ = previous index in
      let left_on : IsOn head listed left = ring.previous_on index on in
      let at : weight head time left ≡ time left * (head + 1) + left + 1 =
      ap (λ (earlier : Bool). cond earlier 0 (time left * (head + 1) + left + 1)) e.0 in
      let rises : IsBefore (time left) left (time index) index =
      subst (λ (moved : ℕ). IsBefore (time left) left (time moved) moved) (ring.back index on)
      (ring.rising left left_on e.1 (λ again. low (sym (ring.back index on) ∙ again))) in
      let left_low : left < head = on-below left left_on e.1 in
      elim (same? (time index) (time left)) [
        | inl same ↦
            let less : left < index = rises.1 same in
            let equal : time index * (head + 1) ≡ time left * (head + 1) =
            ap (λ (factor : ℕ). factor * (head + 1)) same in
            omega (arith, at, here, less, equal)
        | inr other ↦
            let more : time left + 1 ≤ time index = omega (arith, rises.0, other) in
            let times : (time left + 1) * (head + 1) ≤ time index * (head + 1) = mul-le-mul_right (head + 1) more in
            let split : (time left + 1) * (head + 1) ≡ time left * (head + 1) + (head + 1) = omega arith in
            omega (arith, at, here, times, split, left_low)
      ]
] where
  here : weight head time index ≡ time index * (head + 1) + index + 1
  here =
      elim (eqb_tells index head) [
        | inl e ↦ absurd (low e.1)
        | inr e ↦ ap
            (λ (earlier : Bool). cond earlier 0 (time index * (head + 1) + index + 1)) e.0
      ]

  on-below : (moved : ℕ) → IsOn head listed moved → moved ≢ head → moved < head
  on-below moved (inl e) differs = absurd (differs e)
  on-below moved (inr listed_there) differs = ring.below moved listed_there

-- the first place of the ring is not after any other
pub ring-first : (head : ℕ) (next previous time : ℕ → ℕ) (listed : ℕ → Bool) (place : ℕ)
    → IsRing head next previous time listed → listed place ≡ true
    → (listed (next head) ≡ true) × (time (next head) ≤ time place)
    × (time place ≡ time (next head) → next head ≤ place)
ring-first head next previous time listed place ring on =
    down (suc (weight head time place)) place (omega arith) on where
      down : (fuel : ℕ) (index : ℕ) → weight head time index < fuel → listed index ≡ true
          → (listed (next head) ≡ true) × (time (next head) ≤ time index)
          × (time index ≡ time (next head) → next head ≤ index)
      down zero index low is = absurd (omega arith)
      down (suc fuel) index low is = elim (same? (previous index) head) [
        | inl equal ↦
            let first : next head ≡ index = ap next (sym equal) ∙ ring.back index (inr is) in
            (ap listed first ∙ is, omega (arith, ap time first), λ _. omega (arith, first))
        | inr differs ↦
            let left : ℕ = previous index in
            let low_i : index ≢ head = not-head head next previous time listed index ring is in
            let left_listed : listed left ≡ true =
            elim (ring.previous_on index (inr is))
            [ inl equal ↦ absurd (differs equal) | inr listed_there ↦ listed_there ] in
            let falls : weight head time left < weight head time index =
            weight-falls head next previous time listed index ring (inr is) low_i in
            let rises : IsBefore (time left) left (time index) index =
            subst (λ (moved : ℕ). IsBefore (time left) left (time moved) moved) (ring.back index (inr is))
            (ring.rising left (inr left_listed) differs (λ equal. low_i (sym (ring.back index (inr is)) ∙ equal))) in
            let rest = down fuel left (omega (arith, falls, low)) left_listed in (
              rest.0,
              omega (arith, rest.1, rises.0),
              λ same. let less : left < index = rises.1
                  (omega (arith, rest.1, rises.0, same)) in let at_most : next head ≤ left = rest.2
                  (omega (arith, rest.1, rises.0, same)) in omega (arith, less, at_most),
            )
      ]
