-- How the making of a plan is answered.
use Rattle.std.proofs.Common.{◌≡◌, ℕ, ◌<◌, ◌≤◌, true, false, List, [], ◌++◌, length, Ok, Err, refl, sym, subst, ap, ◌∙◌}
use Rattle.std.proofs.Common.{arith}
use Rattle.std.specs.Prelude.{◌==◌, nat_le, nat_lt, IfOk, Option, Result}
use Rattle.std.proofs.lemmas.Bool.{le-ltb, lt-leb, lt-ltb, eq-eqb}
use Rattle.wire_message.specs.Parameters.{Parameters}
use Rattle.node_vis.specs.declared.shapes.Way.{Way}
use Rattle.node_vis.specs.declared.shapes.Level.{Level}
use Rattle.node_vis.specs.declared.shapes.Piece.{Piece}
use Rattle.node_vis.specs.declared.shapes.PlanFault.{PlanFault}
use Rattle.node_vis.specs.Pairs.{Pair, level_pairs, strided_pairs, vectors, total, indexed_pairs}
use Rattle.node_vis.specs.Pieces.{IsCut, pieces_of, pairs_of_pieces}
use Rattle.node_vis.specs.declared.shapes.Strided.{Strided}
use Rattle.node_vis.specs.declared.shapes.Indexed.{Indexed}
use Rattle.node_vis.specs.declared.shapes.PlanFault.TheVariants as fault
use Rattle.node_vis.specs.Faults.{cut_fault, strided_fault, indexed_fault}
use Rattle.node_vis.specs.Plans.{PlanState, IsPlanned, IsReason}
use Rattle.node_vis.specs.Runs.{Adds, AreFew, IsFull, pieces_fault}
use Rattle.node_vis.proofs.Counting.{few_levels, no_pairs}
use Rattle.node_vis.proofs.Cutting.{pieces_cut}
use Rattle.node_vis.proofs.Bytes.{judged}

pub cut_of : (pairs : List Pair) (pieces : List Piece) → pieces ≡ pieces_of pairs → IsCut pieces (pairs_of_pieces pieces)
cut_of pairs pieces is =
    let cut = pieces_cut pairs in
    subst (λ ps. IsCut ps (pairs_of_pieces ps)) (sym is)
    (record { spells = refl; filled = cut.filled; apart = cut.apart })

-- by the pieces, or by the pairs
pub planned_by : (first : Option PlanFault) (settings : Parameters) (way : Way) (to : ℕ) (pairs : List Pair)
    (pieces : List Piece) (result : Result PlanState PlanFault) → pieces ≡ pieces_of pairs
    → first ≡ cut_fault settings way pairs
    → IsPlanned (pieces_fault settings way pieces)
    (record { settings = settings; way = way; to = to; pieces = pieces }) result
    → IsPlanned first (record { settings = settings; way = way; to = to; pieces = pieces_of pairs }) result
planned_by first settings way to pairs pieces result are is planned =
    let P : List Piece → Type 0 = λ ps. IsPlanned (pieces_fault settings way ps)
    (record { settings = settings; way = way; to = to; pieces = ps }) result in
    let Q : Option PlanFault → Type 0 = λ f. IsPlanned f
    (record { settings = settings; way = way; to = to; pieces = pieces_of pairs }) result in
    subst Q (sym (judged settings way pairs) ∙ sym is) (subst P are planned)

-- the pieces of a plan are the cut of the pairs
pub cut_planned : (first : Option PlanFault) (plan : PlanState) (result : Result PlanState PlanFault) (pairs : List Pair)
    → plan.pieces ≡ pieces_of pairs → IsPlanned first plan result → IfOk result (λ made. IsCut made.pieces pairs)
cut_planned first plan (Ok made) pairs are planned =
    subst (λ ps. IsCut ps pairs) (sym (ap (λ (p : PlanState). p.pieces) planned.1 ∙ are)) (pieces_cut pairs)
cut_planned first plan (Err why) pairs are planned = tt

-- ---- the tests before

pub strided_by : (settings : Parameters) (transfer : Strided) → transfer.to < settings.nodes → length transfer.levels.now ≤ 4
    → vectors transfer.levels.now ≤ 65536
    → strided_fault settings transfer ≡ cut_fault settings transfer.way (strided_pairs transfer)
strided_by settings transfer there shape few =
    let one : nat_le settings.nodes transfer.to ≡ false = lt-leb settings.nodes transfer.to there in
    let two : nat_lt 4 (length transfer.levels.now) ≡ false = le-ltb 4 (length transfer.levels.now) shape in
    let three : nat_lt 65536 (vectors transfer.levels.now) ≡ false = le-ltb 65536 (vectors transfer.levels.now) few in
    rw (one, two, three) refl

pub indexed_by : (settings : Parameters) (transfer : Indexed) → transfer.to < settings.nodes → length transfer.remote.now ≤ 256
    → length transfer.local.now ≤ 256 → total transfer.remote.now ≡ total transfer.local.now
    → indexed_fault settings transfer ≡ cut_fault settings transfer.way (indexed_pairs transfer)
indexed_by settings transfer there far near same =
    let one : nat_le settings.nodes transfer.to ≡ false = lt-leb settings.nodes transfer.to there in
    let two : nat_lt 256 (length transfer.remote.now) ≡ false = le-ltb 256 (length transfer.remote.now) far in
    let three : nat_lt 256 (length transfer.local.now) ≡ false = le-ltb 256 (length transfer.local.now) near in
    let four : (total transfer.remote.now == total transfer.local.now) ≡ true = eq-eqb (total transfer.remote.now) (total transfer.local.now) same in
    rw (one, two, three, four) refl

-- no index vector: no piece
pub no_pieces : (levels : List Level) (remote local len : ℕ) (pieces : List Piece) → pieces ≡ []
    → vectors levels ≡ 0 → pieces ≡ pieces_of (level_pairs levels remote local len)
no_pieces levels remote local len pieces is none = is ∙ ap pieces_of (sym (no_pairs levels remote local len none))

-- pairs that were added to none
pub from_none : (old new : List Piece) (more : List Pair) → old ≡ [] → Adds old more new → new ≡ pieces_of more
from_none old new more is adds = adds [] is

-- or were too many
pub full_from_none : (old : List Piece) (more : List Pair) (why : PlanFault) → old ≡ []
    → ((pairs : List Pair) → old ≡ pieces_of pairs → IsFull (length (pieces_of (pairs ++ more))) why)
    → IsFull (length (pieces_of more)) why
full_from_none old more why is full = full [] is

-- too many pieces are the first reason, where no other one was found before
pub reason_full : (first : Option PlanFault) (settings : Parameters) (way : Way) (pairs : List Pair) (why : PlanFault)
    → first ≡ cut_fault settings way pairs → IsFull (length (pieces_of pairs)) why → IsReason first why
reason_full first settings way pairs fault.NoMemory is full = tt
reason_full first settings way pairs fault.Pieces is full =
    let many = (full (λ same. cc)).1 in
    let test : nat_lt 1024 (length (pieces_of pairs)) ≡ true = lt-ltb 1024 (length (pieces_of pairs)) many in
    is ∙ rw test refl
reason_full first settings way pairs fault.Node is full = absurd (let no = (full (λ same. cc)).0 in cc)
reason_full first settings way pairs fault.Shape is full = absurd (let no = (full (λ same. cc)).0 in cc)
reason_full first settings way pairs fault.Length is full = absurd (let no = (full (λ same. cc)).0 in cc)
reason_full first settings way pairs fault.Source is full = absurd (let no = (full (λ same. cc)).0 in cc)
reason_full first settings way pairs fault.Offset is full = absurd (let no = (full (λ same. cc)).0 in cc)
reason_full first settings way pairs fault.Overlap is full = absurd (let no = (full (λ same. cc)).0 in cc)

pub few_values : (levels : List Level) (count : ℕ) → count ≡ vectors levels → count ≤ 65536 → 0 < count → AreFew levels
few_values levels count are few some = few_levels levels (omega (arith, are, some)) (omega (arith, are, few))
