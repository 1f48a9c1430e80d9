-- What the searches over the nodes tell.
use Rattle.std.proofs.Common.{◌≡◌, inl, inr, ℕ, zero, suc, ◌+◌, ◌<◌, ◌≤◌, Bool, true, false, List, []}
use Rattle.std.proofs.Common.{◌∷◌, Option, Some, None, refl, sym, ap, ◌∙◌, arith}
use Rattle.std.specs.Prelude.{slice_get, if◌then◌else◌}
use Rattle.std.proofs.lemmas.Bool.{cases_Bool, cases_eq, and_parts, eq-eqb}
use Rattle.std.proofs.lemmas.Option.{same_Some}
use Rattle.base_lists.proofs.Cases.{none_some}
use Rattle.std.specs.Prelude.{◌==◌, ◌%◌, ◌^◌, min, max}
use Rattle.std.proofs.Common.{ap₂}
use Rattle.part_collective_area.specs.declared.shape.CollectiveKind.{CollectiveKind}
use Rattle.part_collective_area.specs.declared.shape.CollectiveKind.TheVariants as kind
use Rattle.part_collective_area.specs.declared.shape.Shape.{Shape}
use Rattle.part_collective_area.specs.Shapes.{kind_code, shape_word, uses}
use Rattle.part_collective_area.specs.Area.{Area, data_in}
use Rattle.part_collective_area.specs.Results.{contribution_of, pieces_by, sum_of, together}
use Rattle.node_collectives.specs.Progress.{Progress, is_ready_from, first_node, data_of_all}
use Rattle.law_collectives.specs.Groups.{Group}
use Rattle.law_collectives.specs.CollectiveLaws.{bytes_given, given_bytes}

-- all nodes pass
pub ready_at : (test : ℕ → Bool) (node many at : ℕ) → is_ready_from test node many ≡ true → node ≤ at
    → at < node + many → test at ≡ true
ready_at test node zero at all low high = absurd (omega (arith, low, high))
ready_at test node (suc many) at all low high =
    let parts = and_parts (test node) (is_ready_from test (suc node) many) all in
    elim (cases_eq at node) [
      | inl here ↦ ap test here ∙ parts.0
      | inr other ↦ ready_at test (suc node) many at parts.1 (omega (arith, low, other)) (omega (arith, high))
    ]

-- none passes
pub none_at : (test : ℕ → Bool) (node many at : ℕ) → first_node test node many ≡ None → node ≤ at
    → at < node + many → test at ≡ false
none_at test node zero at none low high = absurd (omega (arith, low, high))
none_at test node (suc many) at none low high = elim (cases_Bool (test node)) [
  | inl passes ↦ absurd (none_some (sym (rw passes at none)))
  | inr fails ↦ (
      let later : first_node test (suc node) many ≡ None = rw fails at none in
      elim (cases_eq at node) [
        | inl here ↦ ap test here ∙ fails
        | inr other ↦ none_at test (suc node) many at later (omega (arith, low, other)) (omega (arith, high))
      ])
]

-- the first one that passes
pub record IsFirst (test : ℕ → Bool) (node many found : ℕ) : Type 0 where
  pub passes : test found ≡ true
  pub low : node ≤ found
  pub high : found < node + many
  pub before : (at : ℕ) → node ≤ at → at < found → test at ≡ false

pub first_at : (test : ℕ → Bool) (node many found : ℕ) → first_node test node many ≡ Some found
    → IsFirst test node many found
first_at test node zero found is = absurd (none_some is)
first_at test node (suc many) found is = elim (cases_Bool (test node)) [
  | inl passes ↦ (
      let here : node ≡ found = same_Some node found (rw passes at is) in
      record {
        passes = ap test (sym here) ∙ passes;
        low = omega (arith, here);
        high = omega (arith, here);
        before = λ at low high. absurd (omega (arith, here, low, high));
      })
  | inr fails ↦ (
      let it = first_at test (suc node) many found (rw fails at is) in
      let low = it.low in
      let high = it.high in
      record {
        passes = it.passes;
        low = omega (arith, low);
        high = omega (arith, high);
        before = λ at from to. elim (cases_eq at node) [
          | inl here ↦ ap test here ∙ fails
          | inr other ↦ it.before at (omega (arith, from, other)) to
        ];
      })
]

-- ---- the data of all nodes

-- so many parts from a node on
pub data_at : (area : Area) (progress : Progress) (segment : List ℕ) (node many place at : ℕ) → place < many
    → at ≡ node + place
    → slice_get (data_of_all area progress segment node many) place
    ≡ Some (data_in segment area (progress.ended % 2) at progress.shape.len)
data_at area progress segment node zero place at low is = absurd (omega (arith, low))
data_at area progress segment node (suc many) zero at low is =
    let here : node ≡ at = omega (arith, is) in
    ap (λ (one : ℕ). Some (data_in segment area (progress.ended % 2) one progress.shape.len)) here
data_at area progress segment node (suc many) (suc place) at low is =
    data_at area progress segment (suc node) many place at (omega (arith, low)) (omega (arith, is))

pub given_at : (group : Group) (phase node many place at : ℕ) → place < many → at ≡ node + place
    → slice_get (bytes_given group phase node many) place ≡ Some (given_bytes (slice_get (group.given at) phase))
given_at group phase node zero place at low is = absurd (omega (arith, low))
given_at group phase node (suc many) zero at low is =
    let here : node ≡ at = omega (arith, is) in
    ap (λ (one : ℕ). Some (given_bytes (slice_get (group.given one) phase))) here
given_at group phase node (suc many) (suc place) at low is =
    given_at group phase (suc node) many place at (omega (arith, low)) (omega (arith, is))

-- where each part has what its node gave, all have
pub same_data : (area : Area) (progress : Progress) (segment : List ℕ) (group : Group) (node many : ℕ)
    → ((at : ℕ) → node ≤ at → at < node + many
    → data_in segment area (progress.ended % 2) at progress.shape.len
    ≡ given_bytes (slice_get (group.given at) progress.ended))
    → data_of_all area progress segment node many ≡ bytes_given group progress.ended node many
same_data area progress segment group node zero each = refl
same_data area progress segment group node (suc many) each =
    ap₂ (λ (first : List ℕ) (later : List (List ℕ)). first ∷ later)
    (each node (omega arith) (omega arith))
    (same_data area progress segment group (suc node) many
    (λ at low high. each at (omega (arith, low)) (omega (arith, high))))

-- ---- results

-- the bytes of a node
pub same_at : (one other : List (List ℕ)) (node : ℕ) → slice_get one node ≡ slice_get other node
    → contribution_of one node ≡ contribution_of other node
same_at one other node is =
    ap (λ (found : Option (List ℕ)). elim found [ Some bytes ↦ bytes | None ↦ [] ]) is

-- what two lists of bytes have in common, as far as a node's result uses them
pub record SameUsed (k : CollectiveKind) (root len : ℕ) (data_list given : List (List ℕ)) (nodes me : ℕ) : Type 0 where
  pub whole : ((at : ℕ) → at < nodes → uses (record { kind = k; root = root; len = len }) at me ≡ true)
      → data_list ≡ given
  pub at_root : uses (record { kind = k; root = root; len = len }) root me ≡ true
      → contribution_of data_list root ≡ contribution_of given root

root_pieces : (here : Bool) (one other : List (List ℕ)) → (here ≡ true → one ≡ other)
    → (if here then one else []) ≡ (if here then other else [])
root_pieces true one other same = same refl
root_pieces false one other same = refl

pub same_pieces : (k : CollectiveKind) (root len : ℕ) (data_list given : List (List ℕ)) (nodes me : ℕ)
    → SameUsed k root len data_list given nodes me
    → pieces_by k (record { kind = k; root = root; len = len }) data_list me
    ≡ pieces_by k (record { kind = k; root = root; len = len }) given me
same_pieces kind.Broadcast root len xs ys nodes me same =
    ap (λ (bytes : List ℕ). bytes ∷ []) (same.at_root (eq-eqb root root refl))
same_pieces kind.Gather root len xs ys nodes me same =
    root_pieces (me == root) xs ys (λ here. same.whole (λ at low. here))
same_pieces kind.AllGather root len xs ys nodes me same = same.whole (λ at low. refl)
same_pieces kind.Sum root len xs ys nodes me same =
    root_pieces (me == root) _ _ (λ here. ap (λ (all : List (List ℕ)). together sum_of len all ∷ [])
    (same.whole (λ at low. here)))
same_pieces kind.Min root len xs ys nodes me same =
    root_pieces (me == root) _ _ (λ here. ap (λ (all : List (List ℕ)). together min len all ∷ [])
    (same.whole (λ at low. here)))
same_pieces kind.Max root len xs ys nodes me same =
    root_pieces (me == root) _ _ (λ here. ap (λ (all : List (List ℕ)). together max len all ∷ [])
    (same.whole (λ at low. here)))
same_pieces kind.AllSum root len xs ys nodes me same =
    ap (λ (all : List (List ℕ)). together sum_of len all ∷ []) (same.whole (λ at low. refl))
same_pieces kind.AllMin root len xs ys nodes me same =
    ap (λ (all : List (List ℕ)). together min len all ∷ []) (same.whole (λ at low. refl))
same_pieces kind.AllMax root len xs ys nodes me same =
    ap (λ (all : List (List ℕ)). together max len all ∷ []) (same.whole (λ at low. refl))

-- ---- the word of a shape says it

kind_again : List CollectiveKind
kind_again =
    kind.Broadcast ∷ kind.Gather ∷ kind.AllGather ∷ kind.Sum ∷ kind.Min ∷ kind.Max ∷ kind.AllSum ∷ kind.AllMin
    ∷ kind.AllMax
    ∷ []

code_again : (k : CollectiveKind) → slice_get kind_again (kind_code k) ≡ Some k
unfolding kind_again
code_again kind.Broadcast = refl
code_again kind.Gather = refl
code_again kind.AllGather = refl
code_again kind.Sum = refl
code_again kind.Min = refl
code_again kind.Max = refl
code_again kind.AllSum = refl
code_again kind.AllMin = refl
code_again kind.AllMax = refl

same_kind : (one other : CollectiveKind) → kind_code one ≡ kind_code other → one ≡ other
same_kind one other is =
    same_Some one other (sym (code_again one) ∙ (ap (slice_get kind_again) is ∙ code_again other))

pub same_shape : (one other : Shape) → one.root < 2 ^ 16 → one.len < 2 ^ 32 → other.root < 2 ^ 16
    → other.len < 2 ^ 32 → shape_word one ≡ shape_word other → one ≡ other
same_shape one other root len other_root other_len is =
    let kinds : kind_code one.kind ≡ kind_code other.kind = omega (arith, root, len, other_root, other_len, is) in
    let roots : one.root ≡ other.root = omega (arith, root, len, other_root, other_len, is, kinds) in
    let lens : one.len ≡ other.len = omega (arith, root, len, other_root, other_len, is, kinds, roots) in
    ap (λ (k : CollectiveKind). record { kind = k; root = one.root; len = one.len }) (same_kind one.kind other.kind kinds)
    ∙ (ap (λ (root : ℕ). record { kind = other.kind; root = root; len = one.len }) roots
    ∙ ap (λ (len : ℕ). record { kind = other.kind; root = other.root; len = len }) lens)
