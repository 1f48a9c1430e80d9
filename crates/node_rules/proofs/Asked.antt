-- How the requests of a node change: one is added, is sent again, or comes back.
use Rattle.std.proofs.Common.{◌≡◌, inl, inr, ◌⊎◌, ℕ, ◌==◌, ◌&&◌, Bool, true, false, if◌then◌else◌, List, [], ◌∷◌, ◌++◌}
use Rattle.std.proofs.Common.{Some, refl, sym, ap, ◌∙◌, arith, eq-eqb, ne_eqb}
use Rattle.std.proofs.lemmas.Bool.{cases_eq}
use Rattle.std.proofs.lemmas.Option.{same_Some}
use Rattle.base_lists.specs.Put.{put}
use Rattle.base_lists.specs.Numbered.{element_at, change}
use Rattle.base_lists.proofs.Put.{put_same, put_other}
use Rattle.base_lists.proofs.Numbered.{numbered_in, numbered_kept, numbered-change, numbered-changed}
use Rattle.spec_node.specs.Record.{Request}
use Rattle.spec_node.specs.Requests.{as_back, sent_at}

-- the later one is the request, where it is back so
pub record IsStill (back : Bool) (request now : Request) : Type 0 where
  pub slot : now.slot ≡ request.slot
  pub content : now.content ≡ request.content
  pub back_is : now.back ≡ back

-- each request is still there, and is back exactly where it was
abbrev pub Stay : (asked later : ℕ → List Request) → Type 0
Stay asked later =
    (peer number : ℕ) (request : Request) → element_at (asked peer) number ≡ Some request
    → (now : Request) × (element_at (later peer) number ≡ Some now) × IsStill request.back request now

-- one is the request of this number to that peer, in that slot
abbrev pub is_it : (from slot number peer any : ℕ) → Request → Bool
is_it from slot number peer any request = (peer == from) && ((request.slot == slot) && (any == number))

-- each request is still there, and is back where it was or is the one that came back
abbrev pub Returns : (from slot number : ℕ) → (asked later : ℕ → List Request) → Type 0
Returns from slot number asked later =
    (peer any : ℕ) (request : Request) → element_at (asked peer) any ≡ Some request
    → (now : Request) × (element_at (later peer) any ≡ Some now)
    × IsStill (if is_it from slot number peer any request then true else request.back) request now

-- one is added
pub stay_push : (asked : ℕ → List Request) (to : ℕ) (new : Request)
    → Stay asked (put asked to (asked to ++ new ∷ []))
stay_push asked to new peer number request at = elim (cases_eq peer to) [
  | inl same ↦ (
    request,
    ap (λ list. element_at list number)
        (ap (put asked to (asked to ++ new ∷ [])) same ∙ put_same asked to (asked to ++ new ∷ []))
        ∙ numbered_kept (asked to) new number request (ap (λ one. element_at (asked one) number) (sym same) ∙ at),
    record { slot = refl; content = refl; back_is = refl },
  )
  | inr apart ↦ (
    request,
    ap (λ list. element_at list number) (put_other asked to (asked to ++ new ∷ []) peer apart) ∙ at,
    record { slot = refl; content = refl; back_is = refl },
  )
]

-- the request of this number to a peer changes, and no other
pub changed : (asked : ℕ → List Request) (f : Request → Request) (to number peer any : ℕ) (request : Request)
    → element_at (asked peer) any ≡ Some request
    → (now : Request) × (element_at (put asked to (change f (asked to) number) peer) any ≡ Some now)
    × (((peer ≡ to) × (any ≡ number) × (now ≡ f request)) ⊎ ((((peer ≡ to) × (any ≡ number)) → ⊥) × (now ≡ request)))
changed asked f to number peer any request at = elim (cases_eq peer to) [
  | inl same ↦ (
      let here : put asked to (change f (asked to) number) peer ≡ change f (asked to) number =
      ap (put asked to (change f (asked to) number)) same ∙ put_same asked to (change f (asked to) number) in
      let was : element_at (asked to) any ≡ Some request = ap (λ one. element_at (asked one) any) (sym same) ∙ at in
      let now = numbered-changed f (asked to) number any request was in
      let before = numbered-change f (asked to) number any now.0 now.1 in
      let is : before.0 ≡ request = same_Some _ _ (sym before.1 ∙ was) in (
        now.0,
        ap (λ list. element_at list any) here ∙ now.1,
        elim before.2 [
          | inl other ↦ inr ((λ both. other.0 both.1), other.1 ∙ is)
          | inr one ↦ inl (same, one.0, one.1 ∙ ap f is)
        ],
      ))
  | inr apart ↦ (
    request,
    ap (λ list. element_at list any) (put_other asked to (change f (asked to) number) peer apart) ∙ at,
    inr ((λ both. apart both.0), refl),
  )
]

-- one is sent again
pub stay_sent : (asked : ℕ → List Request) (now to number : ℕ)
    → Stay asked (put asked to (change (sent_at now) (asked to) number))
stay_sent asked now to number peer any request at =
    let later = changed asked (sent_at now) to number peer any request at in (
      later.0,
      later.1,
      elim later.2 [
        | inl one ↦ record {
          slot = ap (λ (r : Request). r.slot) one.2;
          content = ap (λ (r : Request). r.content) one.2;
          back_is = ap (λ (r : Request). r.back) one.2;
        }
        | inr other ↦ record {
          slot = ap (λ (r : Request). r.slot) other.1;
          content = ap (λ (r : Request). r.content) other.1;
          back_is = ap (λ (r : Request). r.back) other.1;
        }
      ],
    )

-- not both
not_it : (from slot number peer any : ℕ) (request : Request) → (((peer ≡ from) × (any ≡ number)) → ⊥)
    → is_it from slot number peer any request ≡ false
not_it from slot number peer any request none = elim (cases_eq peer from) [
  | inr apart ↦ rw (ne_eqb peer from apart) refl
  | inl same ↦ elim (cases_eq any number) [
    | inl one ↦ absurd (none (same, one))
    | inr other ↦ rw (eq-eqb peer from same, ne_eqb any number other) (never (request.slot == slot))
  ]
]
  where
    never : (test : Bool) → (test && false) ≡ false
    never true = refl
    never false = refl

-- one comes back
pub returns_back : (asked : ℕ → List Request) (from slot number : ℕ) (one : Request)
    → element_at (asked from) number ≡ Some one → one.slot ≡ slot
    → Returns from slot number asked (put asked from (change as_back (asked from) number))
returns_back asked from slot number one here in_slot peer any request at =
    let now = changed asked as_back from number peer any request at in (
      now.0,
      now.1,
      elim now.2 [
        | inl it ↦ (
            let same : request ≡ one = same_Some _ _ (sym at ∙ (ap (λ p. element_at (asked p) any) it.0
            ∙ (ap (element_at (asked from)) it.1 ∙ here))) in
            let slot_is : request.slot ≡ slot = ap (λ (r : Request). r.slot) same ∙ in_slot in
            record {
              slot = ap (λ (r : Request). r.slot) it.2;
              content = ap (λ (r : Request). r.content) it.2;
              back_is = ap (λ (r : Request). r.back) it.2
                  ∙ sym (rw (eq-eqb peer from it.0, eq-eqb request.slot slot slot_is, eq-eqb any number it.1) refl);
            })
        | inr other ↦ record {
          slot = ap (λ (r : Request). r.slot) other.1;
          content = ap (λ (r : Request). r.content) other.1;
          back_is = ap (λ (r : Request). r.back) other.1
              ∙ sym (rw (not_it from slot number peer any request other.0) refl);
        }
      ],
    )

-- the reply of a call on the local node has the number 0, which no request has
pub returns_none : (asked : ℕ → List Request) (from slot : ℕ) → Returns from slot 0 asked asked
returns_none asked from slot peer any request at = (
  request,
  at,
  record {
    slot = refl;
    content = refl;
    back_is = sym (rw (not_it from slot 0 peer any request (λ both. none any both.1 at)) refl);
  },
)
  where
    none : (number : ℕ) → number ≡ 0 → element_at (asked peer) number ≡ Some request → ⊥
    none number zero_is here = absurd (omega (arith, zero_is, numbered_in (asked peer) number request here))
