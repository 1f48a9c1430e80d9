-- How long results are, and that they are written outside of the area.
use Rattle.std.proofs.Common.{◌≡◌, ◌⊎◌, inl, inr, ℕ, zero, suc, ◌+◌, ◌-◌, ◌*◌, ◌/◌, ◌%◌, ◌<◌, ◌≤◌, Bool, true, false}
use Rattle.std.proofs.Common.{List, [], ◌∷◌, length, refl, ap, ◌∙◌, arith, length-append, append-nil}
use Rattle.std.specs.Prelude.{◌==◌, min, max, nat_lt, if◌then◌else◌}
use Rattle.std.specs.List.{flat_map}
use Rattle.std.specs.Int.{w64, to_le_bytes}
use Rattle.std.proofs.Math.Nat.{suc-mul, div-add-mod}
use Rattle.std.proofs.lemmas.Bool.{and_cases, ltb-false, or_parts}
use Rattle.std.proofs.lemmas.List.{nil_from_length}
use Rattle.part_segment.proofs.Lists.{part_long}
use Rattle.part_collective_area.specs.declared.shape.CollectiveKind.{CollectiveKind}
use Rattle.part_collective_area.specs.declared.shape.CollectiveKind.TheVariants as kind
use Rattle.part_collective_area.specs.declared.shape.Shape.{Shape}
use Rattle.part_collective_area.specs.Shapes.{is_reduction}
use Rattle.part_collective_area.specs.Area.{Area, IsArea, SpareArea, area_end, data_place}
use Rattle.part_collective_area.specs.Results.{contribution_of, pieces_by, result_len, sum_of, together, together_at, together_from}
use Rattle.part_collective_area.proofs.Places.{part_inside}
use Rattle.node_collectives.specs.Progress.{Progress, data_of_all, is_bad_dest, share, writes_from}

-- the bytes of pieces, one after another
abbrev pub flat : List (List ℕ) → List ℕ
flat pieces = flat_map (λ bytes. bytes) pieces

-- each of these has so many bytes
abbrev pub AllLong : (len : ℕ) → List (List ℕ) → Type 0
AllLong len [] = Unit {0}
AllLong len (bytes ∷ later) = (length bytes ≡ len) × AllLong len later

pub long_flat : (len : ℕ) (lists : List (List ℕ)) → AllLong len lists → length (flat lists) ≡ length lists * len
long_flat len [] all = omega arith
long_flat len (bytes ∷ later) all =
    let whole = length-append bytes (flat later) in
    let rest = long_flat len later all.1 in
    let product = suc-mul (length later) len in
    omega (arith, whole, rest, product, all.0)

pub long_at : (len : ℕ) (lists : List (List ℕ)) (node : ℕ) → AllLong len lists → node < length lists
    → length (contribution_of lists node) ≡ len
long_at len [] node all low = absurd (omega (arith, low))
long_at len (bytes ∷ later) zero all low = all.0
long_at len (bytes ∷ later) (suc node) all low = long_at len later node all.1 (omega (arith, low))

-- words, taken together
pub words_long : (with : ℕ → ℕ → ℕ) (given : List (List ℕ)) (place count : ℕ)
    → length (together_from with given place count) ≡ 8 * count
words_long with given place zero = refl
words_long with given place (suc count) =
    let whole = length-append (to_le_bytes w64 (together_at with given place))
    (together_from with given (suc place) count) in
    let rest = words_long with given (suc place) count in
    let word : length (to_le_bytes w64 (together_at with given place)) ≡ 8 = refl in
    omega (arith, whole, rest, word)

pub together_long : (with : ℕ → ℕ → ℕ) (len : ℕ) (given : List (List ℕ)) → len % 8 ≡ 0
    → length (flat (together with len given ∷ [])) ≡ len
together_long with len given even =
    let one = ap (λ (bytes : List ℕ). length bytes) (append-nil (together with len given)) in
    let words = words_long with given 0 (len / 8) in
    let whole = div-add-mod len 8 in
    omega (arith, one, words, whole, even)

pub root_long : (here : Bool) (pieces : List (List ℕ)) (len : ℕ) → length (flat pieces) ≡ len
    → length (flat (if here then pieces else [])) ≡ (if here then len else 0)
root_long true pieces len is = is
root_long false pieces len is = refl

-- a result is as long as it says
pub result_long : (k : CollectiveKind) (root len : ℕ) (given : List (List ℕ)) (nodes node : ℕ) → length given ≡ nodes
    → AllLong len given → root < nodes → (is_reduction k ≡ true → len % 8 ≡ 0)
    → length (flat (pieces_by k (record { kind = k; root = root; len = len }) given node))
    ≡ result_len (record { kind = k; root = root; len = len }) nodes node
result_long kind.Broadcast root len given nodes node many all low words =
    ap (λ (bytes : List ℕ). length bytes) (append-nil (contribution_of given root))
    ∙ long_at len given root all (omega (arith, many, low))
result_long kind.Gather root len given nodes node many all low words =
    root_long (node == root) given (nodes * len) (long_flat len given all ∙ ap (λ (n : ℕ). n * len) many)
result_long kind.AllGather root len given nodes node many all low words =
    long_flat len given all ∙ ap (λ (n : ℕ). n * len) many
result_long kind.Sum root len given nodes node many all low words =
    root_long (node == root) (together sum_of len given ∷ []) len (together_long sum_of len given (words refl))
result_long kind.Min root len given nodes node many all low words =
    root_long (node == root) (together min len given ∷ []) len (together_long min len given (words refl))
result_long kind.Max root len given nodes node many all low words =
    root_long (node == root) (together max len given ∷ []) len (together_long max len given (words refl))
result_long kind.AllSum root len given nodes node many all low words = together_long sum_of len given (words refl)
result_long kind.AllMin root len given nodes node many all low words = together_long min len given (words refl)
result_long kind.AllMax root len given nodes node many all low words = together_long max len given (words refl)

-- ---- what stands in the parts

pub data_many : (area : Area) (progress : Progress) (segment : List ℕ) (node many : ℕ)
    → length (data_of_all area progress segment node many) ≡ many
data_many area progress segment node zero = refl
data_many area progress segment node (suc many) =
    let rest = data_many area progress segment (suc node) many in omega (arith, rest)

pub data_long : (size : ℕ) (area : Area) (progress : Progress) (segment : List ℕ) (node many : ℕ) → IsArea size area
    → length segment ≡ size → progress.shape.len ≤ area.room → node + many ≤ area.nodes
    → AllLong progress.shape.len (data_of_all area progress segment node many)
data_long size area progress segment node zero good long few low = tt
data_long size area progress segment node (suc many) good long few low =
    let inside = part_inside area (progress.ended % 2) node (omega arith) (omega (arith, low)) in
    let whole = good.inside in (
      part_long segment (data_place area (progress.ended % 2) node) progress.shape.len
          (omega (arith, inside, whole, long, few)),
      data_long size area progress segment (suc node) many good long few (omega (arith, low)),
    )

-- ---- its place

-- what a place says that isn't bad
pub record IsGood (area : Area) (segment dest len : ℕ) : Type 0 where
  pub inside : dest + len ≤ segment
  pub apart : (len ≡ 0) ⊎ ((dest + len ≤ area.base) ⊎ (area_end area ≤ dest))

apart_then : (dest len base end : ℕ) → base < end → share dest len base (end - base) ≡ false
    → (len ≡ 0) ⊎ ((dest + len ≤ base) ⊎ (end ≤ dest))
apart_then dest len base end some is = elim (and_cases (nat_lt 0 len) _ is) [
  | inl none ↦ inl (let few = ltb-false 0 len none in omega (arith, few))
  | inr rest ↦ elim (and_cases (nat_lt 0 (end - base)) _ rest) [
    | inl none ↦ absurd (let few = ltb-false 0 (end - base) none in omega (arith, few, some))
    | inr both ↦ elim (and_cases (nat_lt base (dest + len)) _ both) [
      | inl before ↦ inr (inl (ltb-false base (dest + len) before))
      | inr behind ↦ inr (inr (let far = ltb-false dest (base + (end - base)) behind in omega (arith, far, some)))
    ]
  ]
]

pub is_good : (area : Area) (segment node : ℕ) (shape : Shape) (dest : ℕ) → node < area.nodes
    → is_bad_dest area segment node shape dest ≡ false
    → IsGood area segment dest (result_len shape area.nodes node)
is_good area segment node shape dest there is =
    let len = result_len shape area.nodes node in
    let parts = or_parts (nat_lt segment (dest + len)) _ is in
    let others = or_parts (share dest len area.base (area_end area - area.base)) _ parts.1 in
    let place = part_inside area 0 node (omega arith) there in
    record {
      inside = ltb-false segment (dest + len) parts.0;
      apart = apart_then dest len area.base (area_end area) (omega (arith, place)) others.0;
    }

-- writes that follow one another between two places
pub spare_between : (area : Area) (dest low high : ℕ) (pieces : List (List ℕ)) → low ≤ dest
    → dest + length (flat pieces) ≤ high → (high ≡ low) ⊎ ((high ≤ area.base) ⊎ (area_end area ≤ low))
    → SpareArea area (writes_from dest pieces)
spare_between area dest low high [] over under apart = tt
spare_between area dest low high (bytes ∷ later) over under apart =
    let whole = length-append bytes (flat later) in (
      elim apart [
        | inl none ↦ inl (nil_from_length bytes (omega (arith, over, under, whole, none)))
        | inr sides ↦ inr (elim sides [
          | inl before ↦ inl (omega (arith, under, whole, before))
          | inr behind ↦ inr (omega (arith, over, behind))
        ])
      ],
      spare_between area (dest + length bytes) low high later (omega (arith, over)) (omega (arith, under, whole)) apart,
    )

-- ---- each piece

root_all : (here : Bool) (len : ℕ) (pieces : List (List ℕ)) → AllLong len pieces
    → AllLong len (if here then pieces else [])
root_all true len pieces all = all
root_all false len pieces all = tt

one_long : (with : ℕ → ℕ → ℕ) (len : ℕ) (given : List (List ℕ)) → len % 8 ≡ 0
    → AllLong len (together with len given ∷ [])
one_long with len given even =
    let words = words_long with given 0 (len / 8) in
    let whole = div-add-mod len 8 in
    (omega (arith, words, whole, even), tt)

-- each piece of a result is as long as what each node gave
pub pieces_long : (k : CollectiveKind) (root len : ℕ) (given : List (List ℕ)) (node : ℕ) → AllLong len given
    → root < length given → (is_reduction k ≡ true → len % 8 ≡ 0)
    → AllLong len (pieces_by k (record { kind = k; root = root; len = len }) given node)
pieces_long kind.Broadcast root len given node all low words = (long_at len given root all low, tt)
pieces_long kind.Gather root len given node all low words = root_all (node == root) len given all
pieces_long kind.AllGather root len given node all low words = all
pieces_long kind.Sum root len given node all low words =
    root_all (node == root) len (together sum_of len given ∷ []) (one_long sum_of len given (words refl))
pieces_long kind.Min root len given node all low words =
    root_all (node == root) len (together min len given ∷ []) (one_long min len given (words refl))
pieces_long kind.Max root len given node all low words =
    root_all (node == root) len (together max len given ∷ []) (one_long max len given (words refl))
pieces_long kind.AllSum root len given node all low words = one_long sum_of len given (words refl)
pieces_long kind.AllMin root len given node all low words = one_long min len given (words refl)
pieces_long kind.AllMax root len given node all low words = one_long max len given (words refl)

-- pieces of a result at a good place are written outside of the area
pub good_spare : (area : Area) (segment dest len : ℕ) (pieces : List (List ℕ)) → IsGood area segment dest len
    → length (flat pieces) ≡ len → SpareArea area (writes_from dest pieces)
good_spare area segment dest len pieces it long =
    spare_between area dest dest (dest + length (flat pieces)) pieces (omega arith) (omega arith)
    (elim it.apart [
      | inl none ↦ inl (omega (arith, long, none))
      | inr sides ↦ inr (elim sides [
        | inl before ↦ inl (omega (arith, long, before))
        | inr behind ↦ inr behind
      ])
    ])
