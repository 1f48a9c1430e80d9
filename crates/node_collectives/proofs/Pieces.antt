-- The pieces of a result.
use Rattle.std.proofs.Common.{◌≡◌, ℕ, zero, suc, ◌+◌, ◌%◌, ◌<◌, Bool, true, false, List, [], ◌∷◌, length}
use Rattle.std.proofs.Common.{Option, Some, None, refl, sym, ap, ◌∙◌, arith}
use Rattle.std.specs.Prelude.{slice_get, ◌==◌, if◌then◌else◌, min, max}
use Rattle.std.proofs.lemmas.Bool.{eq-eqb}
use Rattle.part_collective_area.specs.declared.shape.CollectiveKind.{CollectiveKind}
use Rattle.part_collective_area.specs.declared.shape.CollectiveKind.TheVariants as kind
use Rattle.base_lists.proofs.Places.{slice_get_there}
use Rattle.part_collective_area.specs.Area.{Area, data_in}
use Rattle.part_collective_area.specs.Shapes.{is_reduction}
use Rattle.part_collective_area.specs.Results.{contribution_of, combination, pieces_by, sum_of, together}
use Rattle.node_collectives.specs.Progress.{Progress, data_of_all}
use Rattle.node_collectives.specs.CollectivesState.{CollectivesState, progress_of}
use Rattle.node_collectives.specs.Ends.{giver_by, result_in}
use Rattle.node_collectives.proofs.Sizes.{data_many}

-- the data of all nodes
abbrev pub data_all : CollectivesState → (segment : List ℕ) → List (List ℕ)
data_all it segment = data_of_all it.area (progress_of it) segment 0 it.area.nodes

-- the pieces of a result, where the kind is this one
pub pieces_with : (it : CollectivesState) (segment : List ℕ) (k : CollectiveKind) → it.shape.kind ≡ k
    → result_in it segment ≡ pieces_by k it.shape (data_all it segment) it.me
pieces_with it segment k is =
    ap (λ (one : CollectiveKind). pieces_by one it.shape (data_all it segment) it.me) is

pub many_all : (it : CollectivesState) → it.shape.kind ≡ kind.AllGather → (segment : List ℕ)
    → it.area.nodes ≡ length (result_in it segment)
many_all it is segment =
    sym (ap (λ (pieces : List (List ℕ)). length pieces) (pieces_with it segment kind.AllGather is)
    ∙ data_many it.area (progress_of it) segment 0 it.area.nodes)

pub many_root : (it : CollectivesState) → it.shape.kind ≡ kind.Gather → it.me ≡ it.shape.root → (segment : List ℕ)
    → it.area.nodes ≡ length (result_in it segment)
many_root it is root segment =
    let here : pieces_by kind.Gather it.shape (data_all it segment) it.me ≡ data_all it segment =
    rw (eq-eqb it.me it.shape.root root) refl in
    sym (ap (λ (pieces : List (List ℕ)). length pieces) (pieces_with it segment kind.Gather is ∙ here)
    ∙ data_many it.area (progress_of it) segment 0 it.area.nodes)

-- ---- one of them

-- the data of a node
data_at : (area : Area) (progress : Progress) (segment : List ℕ) (first many node : ℕ) → node < many
    → slice_get (data_of_all area progress segment first many) node
    ≡ Some (data_in segment area (progress.ended % 2) (first + node) progress.shape.len)
data_at area progress segment first zero node low = absurd (omega (arith, low))
data_at area progress segment first (suc many) zero low =
    let same : first ≡ first + 0 = omega arith in
    ap (λ (at : ℕ). Some (data_in segment area (progress.ended % 2) at progress.shape.len)) same
data_at area progress segment first (suc many) (suc node) low =
    let same : suc first + node ≡ first + suc node = omega arith in
    data_at area progress segment (suc first) many node (omega (arith, low))
    ∙ ap (λ (at : ℕ). Some (data_in segment area (progress.ended % 2) at progress.shape.len)) same

pub data_of : (it : CollectivesState) (segment : List ℕ) (node : ℕ) → node < it.area.nodes
    → slice_get (data_all it segment) node ≡ Some (data_in segment it.area (it.ended % 2) node it.shape.len)
data_of it segment node low =
    let here : 0 + node ≡ node = omega arith in
    data_at it.area (progress_of it) segment 0 it.area.nodes node low
    ∙ ap (λ (at : ℕ). Some (data_in segment it.area (it.ended % 2) at it.shape.len)) here

-- what stands at a place of a list
some_bytes : (given : List (List ℕ)) (node : ℕ) (bytes : List ℕ) → slice_get given node ≡ Some bytes
    → Some (contribution_of given node) ≡ Some bytes
some_bytes given node bytes is = ap (λ (one : Option (List ℕ)). Some (elim one [ Some it ↦ it | None ↦ [] ])) is

there : (given : List (List ℕ)) (node : ℕ) → node < length given
    → slice_get given node ≡ Some (contribution_of given node)
there given node low =
    let at = slice_get_there given node low in
    at.1 ∙ sym (some_bytes given node at.0 at.1)

-- the only piece is the first
only_first : (bytes : List ℕ) (index : ℕ) → index < length (bytes ∷ []) → slice_get (bytes ∷ []) index ≡ Some bytes
only_first bytes zero low = refl
only_first bytes (suc index) low = absurd (omega (arith, low))

if_root : (here : Bool) (pieces : List (List ℕ)) (index : ℕ) → index < length (if here then pieces else [])
    → (index < length pieces) × (slice_get (if here then pieces else []) index ≡ slice_get pieces index)
if_root true pieces index low = (low, refl)
if_root false pieces index low = absurd (omega (arith, low))

pub gives : (k : CollectiveKind) (root len : ℕ) (given : List (List ℕ)) (node index : ℕ) → is_reduction k ≡ false
    → root < length given → index < length (pieces_by k (record { kind = k; root = root; len = len }) given node)
    → (giver_by k root index < length given)
    × (slice_get (pieces_by k (record { kind = k; root = root; len = len }) given node) index
    ≡ Some (contribution_of given (giver_by k root index)))
gives kind.Broadcast root len given node index none low inside = (low, only_first (contribution_of given root) index inside)
gives kind.Gather root len given node index none low inside =
    let here = if_root (node == root) given index inside in
    (here.0, here.1 ∙ there given index here.0)
gives kind.AllGather root len given node index none low inside = (inside, there given index inside)
gives kind.Sum root len given node index none low inside = absurd (cc)
gives kind.Min root len given node index none low inside = absurd (cc)
gives kind.Max root len given node index none low inside = absurd (cc)
gives kind.AllSum root len given node index none low inside = absurd (cc)
gives kind.AllMin root len given node index none low inside = absurd (cc)
gives kind.AllMax root len given node index none low inside = absurd (cc)

takes : (k : CollectiveKind) (root len : ℕ) (given : List (List ℕ)) (node index : ℕ) → is_reduction k ≡ true
    → index < length (pieces_by k (record { kind = k; root = root; len = len }) given node)
    → slice_get (pieces_by k (record { kind = k; root = root; len = len }) given node) index
    ≡ Some (together (combination k) len given)
takes kind.Broadcast root len given node index is inside = absurd (cc)
takes kind.Gather root len given node index is inside = absurd (cc)
takes kind.AllGather root len given node index is inside = absurd (cc)
takes kind.Sum root len given node index is inside =
    let here = if_root (node == root) (together sum_of len given ∷ []) index inside in
    here.1 ∙ only_first (together sum_of len given) index here.0
takes kind.Min root len given node index is inside =
    let here = if_root (node == root) (together min len given ∷ []) index inside in
    here.1 ∙ only_first (together min len given) index here.0
takes kind.Max root len given node index is inside =
    let here = if_root (node == root) (together max len given ∷ []) index inside in
    here.1 ∙ only_first (together max len given) index here.0
takes kind.AllSum root len given node index is inside = only_first (together sum_of len given) index inside
takes kind.AllMin root len given node index is inside = only_first (together min len given) index inside
takes kind.AllMax root len given node index is inside = only_first (together max len given) index inside

-- a piece that takes no words together is the data of its node
pub piece_given : (it : CollectivesState) (segment : List ℕ) (index : ℕ) → is_reduction it.shape.kind ≡ false
    → it.shape.root < it.area.nodes → index < length (result_in it segment)
    → (giver_by it.shape.kind it.shape.root index < it.area.nodes)
    × (slice_get (result_in it segment) index
    ≡ Some (data_in segment it.area (it.ended % 2) (giver_by it.shape.kind it.shape.root index) it.shape.len))
piece_given it segment index none root inside =
    let many = data_many it.area (progress_of it) segment 0 it.area.nodes in
    let low : it.shape.root < length (data_all it segment) = omega (arith, many, root) in
    let here = gives it.shape.kind it.shape.root it.shape.len (data_all it segment) it.me index none low inside in
    let node = giver_by it.shape.kind it.shape.root index in
    let node_low : node < it.area.nodes = omega (arith, many, here.0) in
    (node_low, here.1 ∙ some_bytes (data_all it segment) node _ (data_of it segment node node_low))

-- one that does is what they make together
pub piece_together : (it : CollectivesState) (segment : List ℕ) (index : ℕ) → is_reduction it.shape.kind ≡ true
    → index < length (result_in it segment)
    → slice_get (result_in it segment) index
    ≡ Some (together (combination it.shape.kind) it.shape.len (data_all it segment))
piece_together it segment index is inside =
    takes it.shape.kind it.shape.root it.shape.len (data_all it segment) it.me index is inside
