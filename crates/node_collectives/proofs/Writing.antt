-- The pieces of a result are written one after another.
use Rattle.std.proofs.Common.{◌≡◌, inl, inr, ℕ, zero, suc, ◌+◌, ◌*◌, ◌%◌, ◌<◌, ◌≤◌, Bool, true, false, List, [], ◌∷◌}
use Rattle.std.proofs.Common.{◌++◌, length, drop, take, map, Option, None, Some, refl, sym, ap, ◌∙◌, subst, arith, length-append}
use Rattle.std.specs.Prelude.{◌≢◌, is_some, slice_get}
use Rattle.std.proofs.lemmas.Bool.{le-ltb, true≢false}
use Rattle.std.proofs.lemmas.List.{drop_all}
use Rattle.base_lists.proofs.Places.{slice_get_there}
use Rattle.std.proofs.lemmas.Option.{same_Some}
use Rattle.wire_message.specs.Parameters.{Parameters}
use Rattle.part_segment.specs.Image.{Write, FitsIn, image, overwritten}
use Rattle.part_segment.proofs.Images.{image-append, length-overwritten}
use Rattle.spec_node.specs.Record.{Node}
use Rattle.node_rules.specs.EndpointLocal.{EndpointLocal}
use Rattle.node_rules.specs.Memory.{Set, segment_does}
use Rattle.node_rules.specs.declared.answer.Answer.{Answer}
use Rattle.node_endpoint.specs.declared.caller.Caller.{Ghosts}
use Rattle.node_endpoint.specs.Sites.{Site, ThreadCall, node_then}
use Rattle.node_endpoint.specs.Making.{whole_after}
use Rattle.node_endpoint.proofs.Joining.{Follows}
use Rattle.part_collective_area.specs.Area.{Area, IsArea, SpareArea, SparesArea, data_in, data_place}
use Rattle.part_collective_area.specs.Results.{pieces_of, result_len}
use Rattle.part_collective_area.proofs.Places.{part_inside}
use Rattle.part_collective_area.proofs.Bytes.{IsApart, part_spared}
use Rattle.node_collectives.specs.Progress.{Progress, data_of_all, writes_from}
use Rattle.node_collectives.specs.CollectivesState.{CollectivesState, Stands, progress_of}
use Rattle.node_collectives.specs.Starts.{CallsOne}
use Rattle.node_collectives.specs.Ends.{EndAsked, HasPiece, IsLong, MayEnd, WritesPiece, WritesResult, result_calls, result_in}
use Rattle.node_collectives.specs.Ends.{segment_in, set_call}
use Rattle.node_collectives.proofs.Sizes.{AllLong, data_long, data_many, flat, good_spare, is_good, pieces_long, result_long}
use Rattle.node_collectives.proofs.Pieces.{data_all}

-- ---- what a write leaves

-- the call leaves the segment as its write does
set_leaves : (site : Site) (node : Node EndpointLocal) (thread : ℕ) (write : Write) → IsLong site node
    → write.offset + length write.bytes ≤ site.settings.segment
    → segment_in site (node_then site node (set_call thread write)) ≡ overwritten (segment_in site node) write
set_leaves site node thread write long inside =
    let bytes = segment_in site node in
    let goes : (segment_does bytes (Set write)).1 ≡ write ∷ [] =
    rw (le-ltb (length bytes) (write.offset + length write.bytes) (omega (arith, long, inside))) refl in
    ap (λ (writes : List Write). image site.settings.segment (node.local.core.writes ++ writes)) goes
    ∙ image-append site.settings.segment node.local.core.writes (write ∷ [])

-- a write that spares the area leaves the data in it
data_spared : (size : ℕ) (area : Area) (progress : Progress) (bytes : List ℕ) (write : Write) (first many : ℕ)
    → IsArea size area → length bytes ≡ size → FitsIn (length bytes) write → SparesArea area write
    → progress.shape.len ≤ area.room → first + many ≤ area.nodes
    → data_of_all area progress (overwritten bytes write) first many ≡ data_of_all area progress bytes first many
data_spared size area progress bytes write first zero good long fits spares few low = refl
data_spared size area progress bytes write first (suc many) good long fits spares few low =
    let inside = part_inside area (progress.ended % 2) first (omega arith) (omega (arith, low)) in
    let offset = data_place area (progress.ended % 2) first in
    let len = progress.shape.len in
    let apart : IsApart write offset len = elim spares [
      | inl none ↦ inl none
      | inr sides ↦ inr (elim sides [
        | inl before ↦ inl (omega (arith, before))
        | inr behind ↦ inr (omega (arith, behind, inside, few))
      ])
    ] in
    let here : data_in (overwritten bytes write) area (progress.ended % 2) first len
    ≡ data_in bytes area (progress.ended % 2) first len = part_spared bytes write offset len fits apart in
    ap (λ (one : List ℕ). one ∷ data_of_all area progress (overwritten bytes write) (suc first) many) here
    ∙ ap (λ (later : List (List ℕ)). data_in bytes area (progress.ended % 2) first len ∷ later)
    (data_spared size area progress bytes write (suc first) many good long fits spares few (omega (arith, low)))

-- ---- some pieces are written

-- where it stands once this many pieces are written
abbrev pub offset_of : CollectivesState → EndAsked → (index : ℕ) → ℕ
offset_of it asked index = asked.dest + index * it.shape.len

abbrev pub rest_of : CollectivesState → (segment : List ℕ) → (index : ℕ) → List (List ℕ)
rest_of it segment index = drop index (result_in it segment)

abbrev pub calls_from : EndAsked → (offset : ℕ) → List (List ℕ) → List ThreadCall
calls_from asked offset pieces = map (set_call asked.thread) (writes_from offset pieces)

pub record WritingFor {K : Type 0} (caller : Ghosts K) (it : CollectivesState) (site : Site) (asked : EndAsked) (index : ℕ)
    (now : K) (whole : caller.Whole) : Type 0 where
  pub here : caller.Whole
  pub stands : caller.stands now here
  pub long : IsLong site (caller.record_in site here)
  pub same : data_all it (segment_in site (caller.record_in site here))
      ≡ data_all it (segment_in site (caller.record_in site whole))
  pub rest : whole_after caller site here
      (calls_from asked (offset_of it asked index) (rest_of it (segment_in site (caller.record_in site whole)) index))
      ≡ whole_after caller site whole (result_calls it (segment_in site (caller.record_in site whole)) asked)
  pub spare : SpareArea it.area (writes_from (offset_of it asked index)
      (rest_of it (segment_in site (caller.record_in site whole)) index))
  pub inside : offset_of it asked index + length (flat (rest_of it (segment_in site (caller.record_in site whole)) index))
      ≤ site.settings.segment

-- so many pieces are written, of whatever whole the caller stood for
pub record Writing {K : Type 0} (caller : Ghosts K) (it : CollectivesState) (old : K) (asked : EndAsked) (index : ℕ)
    (now : K) : Type 0 where
  pub site : caller.site now ≡ caller.site old
  pub reference : caller.lent now ≡ caller.lent old
  pub each : (whole : caller.Whole) → caller.stands old whole
      → IsLong (caller.site old) (caller.record_in (caller.site old) whole)
      → WritingFor caller it (caller.site old) asked index now whole

-- the pieces, each as long as what a node gives
all_long : (it : CollectivesState) (segment : List ℕ) → Stands it → length segment ≡ it.settings.segment
    → AllLong it.shape.len (result_in it segment)
all_long it segment stands long =
    let many = data_many it.area (progress_of it) segment 0 it.area.nodes in
    let root = stands.shape_good.root in
    pieces_long it.shape.kind it.shape.root it.shape.len (data_all it segment) it.me
    (data_long it.settings.segment it.area (progress_of it) segment 0 it.area.nodes stands.area_good long
    stands.shape_good.few (omega arith))
    (omega (arith, many, root)) stands.shape_good.words

whole_long : (it : CollectivesState) (segment : List ℕ) → Stands it → length segment ≡ it.settings.segment
    → length (flat (result_in it segment)) ≡ result_len it.shape it.area.nodes it.me
whole_long it segment stands long =
    result_long it.shape.kind it.shape.root it.shape.len (data_all it segment) it.area.nodes it.me
    (data_many it.area (progress_of it) segment 0 it.area.nodes)
    (data_long it.settings.segment it.area (progress_of it) segment 0 it.area.nodes stands.area_good long
    stands.shape_good.few (omega arith))
    stands.shape_good.root stands.shape_good.words

pub writing_first : {K : Type 0} (caller : Ghosts K) (it : CollectivesState) (old : K) (asked : EndAsked)
    → Stands it → it.settings ≡ (caller.site old).settings → MayEnd it asked.dest
    → Writing caller it old asked 0 old
writing_first caller it old asked good settings may = record {
  site = refl;
  reference = refl;
  each = λ whole stands long.
      let site = caller.site old in
      let segment = segment_in site (caller.record_in site whole) in
      let size : it.settings.segment ≡ site.settings.segment = ap (λ (one : Parameters). one.segment) settings in
      let as_long : length segment ≡ it.settings.segment = long ∙ sym size in
      let nodes = good.nodes in
      let there = good.there in
      let place = is_good it.area it.settings.segment it.me it.shape asked.dest (omega (arith, nodes, there)) may.good in
      let many = whole_long it segment good as_long in
      let start : asked.dest ≡ asked.dest + 0 * it.shape.len = omega arith in
      let low = place.inside in
      record {
        here = whole;
        stands = stands;
        long = long;
        same = refl;
        rest = ap (λ (offset : ℕ). whole_after caller site whole (calls_from asked offset (result_in it segment)))
            (sym start);
        spare = subst (λ (offset : ℕ). SpareArea it.area (writes_from offset (result_in it segment))) start
            (good_spare it.area it.settings.segment asked.dest (result_len it.shape it.area.nodes it.me)
            (result_in it segment) place many);
        inside = omega (arith, many, low, size, start);
      };
}

-- a list that is cut at a place
cut_at : (pieces : List (List ℕ)) (index : ℕ) (piece : List ℕ) → slice_get pieces index ≡ Some piece
    → drop index pieces ≡ piece ∷ drop (index + 1) pieces
cut_at pieces index piece at = cut pieces index at ∙ ap (λ (n : ℕ). piece ∷ drop n pieces) one
  where
    one : suc index ≡ index + 1
    one = omega arith

    cut : (xs : List (List ℕ)) (place : ℕ) → slice_get xs place ≡ Some piece → drop place xs ≡ piece ∷ drop (suc place) xs
    cut [] place is = absurd (cc)
    cut (x ∷ xs) zero is = cc
    cut (x ∷ xs) (suc place) is = cut xs place is

long_there : (len : ℕ) (pieces : List (List ℕ)) (index : ℕ) (piece : List ℕ) → AllLong len pieces
    → slice_get pieces index ≡ Some piece → length piece ≡ len
long_there len [] index piece all at = absurd (cc)
long_there len (x ∷ pieces) zero piece all at =
    ap (λ (bytes : List ℕ). length bytes) (sym (same_Some x piece at)) ∙ all.0
long_there len (x ∷ pieces) (suc index) piece all at = long_there len pieces index piece all.1 at

-- one more
next_for : {K : Type 0} (caller : Ghosts K) → Follows caller → (it : CollectivesState) (site : Site) (asked : EndAsked)
    (index : ℕ) (now new : K) (whole : caller.Whole) (piece : List ℕ) → Stands it → it.settings ≡ site.settings
    → IsLong site (caller.record_in site whole)
    → (at : WritingFor caller it site asked index now whole)
    → slice_get (result_in it (segment_in site (caller.record_in site whole))) index ≡ Some piece
    → caller.stands new (caller.after site at.here
    (set_call asked.thread (record { offset = offset_of it asked index; bytes = piece })))
    → WritingFor caller it site asked (index + 1) new whole
next_for {K} caller follows it site asked index now new whole piece good settings whole_is at here stands =
    let segment = segment_in site (caller.record_in site whole) in
    let bytes = segment_in site (caller.record_in site at.here) in
    let offset = offset_of it asked index in
    let write : Write = record { offset = offset; bytes = piece } in
    let call = set_call asked.thread write in
    let size : it.settings.segment ≡ site.settings.segment = ap (λ (one : Parameters). one.segment) settings in
    let later = drop (index + 1) (result_in it segment) in
    let cut : rest_of it segment index ≡ piece ∷ later = cut_at (result_in it segment) index piece here in
    let len : length piece ≡ it.shape.len =
    long_there it.shape.len (result_in it segment) index piece (all_long it segment good (whole_is ∙ sym size)) here in
    let next : offset + length piece ≡ offset_of it asked (index + 1) = grind (arith, len) in
    let both = length-append piece (flat later) in
    let all_inside : offset + length (flat (piece ∷ later)) ≤ site.settings.segment =
    subst (λ (pieces : List (List ℕ)). offset + length (flat pieces) ≤ site.settings.segment) cut at.inside in
    let inside : offset + length piece ≤ site.settings.segment = omega (arith, both, all_inside) in
    let fits : FitsIn (length bytes) write = (let long = at.long in omega (arith, long, inside)) in
    let spares = subst (λ (pieces : List (List ℕ)). SpareArea it.area (writes_from offset pieces)) cut at.spare in
    let leaves : segment_in site (caller.record_in site (caller.after site at.here call)) ≡ overwritten bytes write =
    ap (segment_in site) (follows site at.here call)
    ∙ set_leaves site (caller.record_in site at.here) asked.thread write at.long inside in
    record {
      here = caller.after site at.here call;
      stands = stands;
      long = ap (λ (now_bytes : List ℕ). length now_bytes) leaves ∙ (length-overwritten bytes write fits ∙ at.long);
      same = ap (data_all it) leaves
          ∙ (data_spared it.settings.segment it.area (progress_of it) bytes write 0 it.area.nodes good.area_good
          (at.long ∙ sym size) fits spares.0 good.shape_good.few (omega arith) ∙ at.same);
      rest = subst (λ (from : ℕ). whole_after caller site (caller.after site at.here call) (calls_from asked from later)
          ≡ whole_after caller site whole (result_calls it segment asked)) next
          (subst (λ (pieces : List (List ℕ)). whole_after caller site at.here (calls_from asked offset pieces)
          ≡ whole_after caller site whole (result_calls it segment asked)) cut at.rest);
      spare = subst (λ (from : ℕ). SpareArea it.area (writes_from from later)) next spares.1;
      inside = omega (arith, both, all_inside, next);
    }

-- what a piece's write says, at the place where the calls began
wrote_at : {K : Type 0} (caller : Ghosts K) (it : CollectivesState) (old now : K) (asked : EndAsked) (index offset : ℕ)
    (done : Bool) (new : K) → caller.site now ≡ caller.site old
    → WritesPiece caller it now asked.thread index offset done new
    → (whole : caller.Whole) → caller.stands now whole
    → IsLong (caller.site old) (caller.record_in (caller.site old) whole)
    → (piece : List ℕ)
    → slice_get (result_in it (segment_in (caller.site old) (caller.record_in (caller.site old) whole))) index
    ≡ Some piece
    → (done ≡ true)
    × caller.stands new (caller.after (caller.site old) whole
    (set_call asked.thread (record { offset = offset; bytes = piece })))
wrote_at {K} caller it old now asked index offset done new site writes =
    let P : Site → Type 0 = λ at. (whole : caller.Whole) → caller.stands now whole
    → IsLong at (caller.record_in at whole) → (piece : List ℕ)
    → slice_get (result_in it (segment_in at (caller.record_in at whole))) index ≡ Some piece
    → (done ≡ true)
    × caller.stands new (caller.after at whole (set_call asked.thread (record { offset = offset; bytes = piece }))) in
    subst P site writes.wrote

-- the piece, where the data stands as it did
there_too : (it : CollectivesState) (bytes segment : List ℕ) (index : ℕ) (piece : List ℕ)
    → data_all it bytes ≡ data_all it segment → slice_get (result_in it segment) index ≡ Some piece
    → slice_get (result_in it bytes) index ≡ Some piece
there_too it bytes segment index piece same at =
    ap (λ (given : List (List ℕ)). slice_get (pieces_of it.shape given it.me) index) same ∙ at

some_piece : (pieces : List (List ℕ)) (index : ℕ) → index < length pieces
    → (piece : List ℕ) × (slice_get pieces index ≡ Some piece)
some_piece pieces index low = slice_get_there pieces index low

pub writing_on : {K : Type 0} (caller : Ghosts K) → Follows caller → (it : CollectivesState) (old now : K)
    (asked : EndAsked) (index : ℕ) (done : Bool) (new : K) → Stands it → it.settings ≡ (caller.site old).settings
    → HasPiece it index → Writing caller it old asked index now
    → WritesPiece caller it now asked.thread index (offset_of it asked index) done new
    → Writing caller it old asked (index + 1) new
writing_on {K} caller follows it old now asked index done new good settings has writing writes = record {
  site = writes.site ∙ writing.site;
  reference = writes.reference ∙ writing.reference;
  each = λ whole stands long.
      let site = caller.site old in
      let segment = segment_in site (caller.record_in site whole) in
      let at = writing.each whole stands long in
      let piece = some_piece (result_in it segment) index (has segment) in
      next_for caller follows it site asked index now new whole piece.0 good settings long at piece.1
      (wrote_at caller it old now asked index (offset_of it asked index) done new writing.site writes at.here at.stands
      at.long piece.0 (there_too it (segment_in site (caller.record_in site at.here)) segment index piece.0 at.same
      piece.1)).1;
}

-- a piece that wasn't written: no whole stood
pub writing_fails : {K : Type 0} (caller : Ghosts K) (it : CollectivesState) (old now : K) (asked : EndAsked) (index : ℕ)
    (done : Bool) (new : K) → HasPiece it index → Writing caller it old asked index now
    → WritesPiece caller it now asked.thread index (offset_of it asked index) done new → done ≡ false
    → WritesResult caller it old asked false new
writing_fails {K} caller it old now asked index done new has writing writes fails = record {
  site = writes.site ∙ writing.site;
  reference = writes.reference ∙ writing.reference;
  wrote = λ whole stands long.
      let site = caller.site old in
      let segment = segment_in site (caller.record_in site whole) in
      let at = writing.each whole stands long in
      let piece = some_piece (result_in it segment) index (has segment) in
      let wrote = wrote_at caller it old now asked index (offset_of it asked index) done new writing.site writes at.here
      at.stands at.long piece.0 (there_too it (segment_in site (caller.record_in site at.here)) segment index piece.0
      at.same piece.1) in
      absurd (true≢false (sym wrote.0 ∙ fails));
}

-- all were written
pub writing_all : {K : Type 0} (caller : Ghosts K) (it : CollectivesState) (old now : K) (asked : EndAsked) (index : ℕ)
    → ((segment : List ℕ) → length (result_in it segment) ≤ index) → Writing caller it old asked index now
    → WritesResult caller it old asked true now
writing_all {K} caller it old now asked index all writing = record {
  site = writing.site;
  reference = writing.reference;
  wrote = λ whole stands long.
      let site = caller.site old in
      let segment = segment_in site (caller.record_in site whole) in
      let at = writing.each whole stands long in
      let none : rest_of it segment index ≡ [] = drop_all index (result_in it segment) (all segment) in
      let there = sym (ap (λ (pieces : List (List ℕ)). whole_after caller site at.here
      (calls_from asked (offset_of it asked index) pieces)) none) ∙ at.rest in
      (refl, subst (caller.stands now) there at.stands);
}

-- ---- the write of a piece

-- no piece was made: no whole stood
pub piece_lacks : {K : Type 0} (caller : Ghosts K) (it : CollectivesState) (old : K) (thread index offset : ℕ)
    (bytes : List ℕ) → it.settings ≡ (caller.site old).settings
    → ((whole : caller.Whole) → caller.stands old whole
    → bytes ≡ segment_in (caller.site old) (caller.record_in (caller.site old) whole))
    → length bytes ≢ it.settings.segment → WritesPiece caller it old thread index offset false old
piece_lacks caller it old thread index offset bytes settings shown short = record {
  site = refl;
  reference = refl;
  wrote = λ whole stands long piece is.
      let size = ap (λ (one : Parameters). one.segment) settings in
      absurd (short (ap (λ (now : List ℕ). length now) (shown whole stands) ∙ (long ∙ sym size)));
}

-- the call that writes it was made, with so many bytes of the piece
pub piece_told : {K : Type 0} (caller : Ghosts K) (it : CollectivesState) (old : K) (thread index offset : ℕ)
    (bytes piece : List ℕ) (len : ℕ) (told : Option Answer) (new : K)
    → ((whole : caller.Whole) → caller.stands old whole
    → bytes ≡ segment_in (caller.site old) (caller.record_in (caller.site old) whole))
    → slice_get (result_in it bytes) index ≡ Some (take it.shape.len piece) → len ≡ it.shape.len
    → CallsOne caller old (set_call thread (record { offset = offset; bytes = take len piece })) told new
    → WritesPiece caller it old thread index offset (is_some told) new
piece_told caller it old thread index offset bytes piece len None new shown is few called = record {
  site = called.site;
  reference = called.reference;
  wrote = λ whole stands long one at. absurd (called.made.1 whole stands).0.1;
}
piece_told caller it old thread index offset bytes piece len (Some answer) new shown is few called = record {
  site = called.site;
  reference = called.reference;
  wrote = λ whole stands long one at.
      let there = ap (λ (now : List ℕ). slice_get (result_in it now) index) (shown whole stands) ∙ at in
      let same = same_Some (take it.shape.len piece) one (sym is ∙ there) in (
        refl,
        subst (λ (this : List ℕ). caller.stands new (caller.after (caller.site old) whole
            (set_call thread (record { offset = offset; bytes = this }))))
            (ap (λ (n : ℕ). take n piece) few ∙ same) (called.made.0.whole whole stands),
      );
}
