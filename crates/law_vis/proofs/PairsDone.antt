-- Each pair of a plan whose pieces were synchronised was transferred.
use Rattle.std.proofs.Common.{◌≡◌, ℕ, zero, suc, ◌+◌, ◌-◌, ◌<◌, ◌≤◌, List, [], ◌∷◌, length, Some, sym, subst}
use Rattle.std.proofs.Common.{ap, ◌∙◌, arith, drop}
use Rattle.std.specs.Prelude.{Option}
use Rattle.std.specs.List.{slice_get}
use Rattle.std.proofs.Math.Nat.{min-le_left, min-le_right}
use Rattle.std.proofs.lemmas.List.{length-take}
use Rattle.std.proofs.lemmas.List.{length-drop, length-take-le}
use Rattle.base_lists.proofs.Places.{slice_get_there}
use Rattle.part_segment.specs.Image.{Write, AllFit, image}
use Rattle.part_segment.proofs.Images.{length-image}
use Rattle.wire_message.specs.Parameters.{AreInRange}
use Rattle.part_handlers.specs.Runs.{IsLawfulMeaning}
use Rattle.part_transfers.specs.Operation.{target}
use Rattle.node_rules.specs.EndpointLocal.{IsByChunks, IsEndpointKept}
use Rattle.node_rules.proofs.Kept.{opening_kept}
use Rattle.node_rules.proofs.Sound.{rules_sound}
use Rattle.law_transfers.specs.Chunks.{writes_at}
use Rattle.law_transfers.proofs.Happening.{sometime_around}
use Rattle.law_transfers.proofs.Landing.{Over, holds_last}
use Rattle.law_transfers.proofs.Laws.{over_stretch, transfers_hold}
use Rattle.std.proofs.lemmas.Option.{same_Some}
use Rattle.base_lists.proofs.Cut.{get-take, get-drop}
use Rattle.base_lists.proofs.Appended.{get-append_right}
use Rattle.base_lists.proofs.Indexes.{get-append_left}
use Rattle.part_segment.specs.Bytes.{part}
use Rattle.wire_message.specs.Parameters.{Parameters}
use Rattle.part_handlers.specs.declared.table.Entry.{Entry}
use Rattle.part_handlers.specs.Runs.{Meaning}
use Rattle.part_transfers.specs.declared.operation.Transfer.{Transfer}
use Rattle.part_transfers.specs.Operation.{chunk_start, chunk_size}
use Rattle.node_rules.specs.EndpointRules.{job_of}
use Rattle.node_rules.specs.Tracking.{chunk_at}
use Rattle.spec_network.specs.PlainStep.{request_name}
use Rattle.law_transfers.specs.History.{Runs, ComesBack}
use Rattle.law_transfers.specs.Chunks.{EndpointJob, EndpointMoment, Stretch, segment_at, PutDone, GetDone}
use Rattle.law_transfers.specs.Chunks.{IssuesBytes, RunWrites, RunReads, BackWrites, Issues, Piece as ChunkPiece}
use Rattle.law_transfers.specs.TransferLaws.{IsDone}
use Rattle.law_transfers.proofs.Happening.{sometime_map, sometime_out}
use Rattle.node_vis.specs.declared.shapes.Way.{Way}
use Rattle.node_vis.specs.declared.shapes.Way.TheVariants.{Put, Get}
use Rattle.node_vis.specs.declared.shapes.Piece.{Piece}
use Rattle.node_vis.specs.Pairs.{Pair, pair}
use Rattle.node_vis.specs.Pieces.{pairs_in, pairs_of_pieces}
use Rattle.node_vis.specs.Beginning.{transfer_of}
use Rattle.law_vis.specs.StridedLaws.{before, LiesAt, WritesWithin, PairPut, PairGot, PairDone, PairsAreDone}
use Rattle.law_vis.specs.StridedLaws.{stretch_of, WritesByte}
use Rattle.law_vis.proofs.Located.{get_pairs, length-pairs_from, lies_once}

-- ---- bytes of a part

-- a byte of a part
get_part : (bytes : List ℕ) (offset len at : ℕ) → at < len
    → slice_get (part bytes offset len) at ≡ slice_get bytes (offset + at)
get_part bytes offset len at inside = get-take len at (drop offset bytes) inside ∙ get-drop offset at bytes

-- a part has at most so many bytes
length-part : (bytes : List ℕ) (offset len : ℕ) → length (part bytes offset len) ≤ len
length-part bytes offset len =
    let long = length-take len (drop offset bytes) in
    let least = min-le_left len (length (drop offset bytes)) in
    omega (arith, long, least)

-- ---- the pairs of a piece

pub pair_there : (pieces : List Piece) (place : ℕ) (piece : Piece) (offset : ℕ) → slice_get pieces place ≡ Some piece
    → offset < piece.len
    → slice_get (pairs_of_pieces pieces) (before pieces place + offset) ≡ Some (pair (piece.remote + offset) (piece.local + offset))
pair_there [] place piece offset at inside = absurd (cc (at))
pair_there (first ∷ pieces) zero piece offset at inside =
    let same : first ≡ piece = same_Some first piece at in
    let long = length-pairs_from first.len first.remote first.local in
    let size : first.len ≡ piece.len = ap (λ (p : Piece). p.len) same in
    let number : 0 + offset ≡ offset = omega arith in
    ap (slice_get (pairs_of_pieces (first ∷ pieces))) number
    ∙ get-append_left (pairs_in first) (pairs_of_pieces pieces) offset (omega (arith, inside, long, size))
    ∙ get_pairs first.len first.remote first.local offset (omega (arith, inside, size))
    ∙ ap (λ (p : Piece). Some (pair (p.remote + offset) (p.local + offset))) same
pair_there (first ∷ pieces) (suc place) piece offset at inside =
    let long = length-pairs_from first.len first.remote first.local in
    let number : first.len + before pieces place + offset ≡ length (pairs_in first) + (before pieces place + offset)
    = omega (arith, long) in
    ap (slice_get (pairs_of_pieces (first ∷ pieces))) number
    ∙ get-append_right (pairs_in first) (pairs_of_pieces pieces) (before pieces place + offset)
    ∙ pair_there pieces place piece offset at inside

-- a byte of a chunk is one of its piece
in_piece : (all index at : ℕ) → at < chunk_size all index → chunk_start index + at < all
in_piece all index at inside =
    let most = min-le_right 8192 (all - chunk_start index) in omega (arith, inside, most)

-- ---- a put

-- what a chunk of a piece writes lies where bytes of the pairs go
put_within : (pieces : List Piece) (pairs : List Pair) (place : ℕ) (piece : Piece) (index : ℕ) (bytes : List ℕ)
    → pairs_of_pieces pieces ≡ pairs → slice_get pieces place ≡ Some piece → length bytes ≤ chunk_size piece.len index
    → WritesWithin Put pairs (record { offset = piece.remote + chunk_start index; bytes = bytes })
put_within pieces pairs place piece index bytes spells there few at inside =
    let offset = chunk_start index + at in
    let low : offset < piece.len = in_piece piece.len index at (omega (arith, inside, few)) in
    let is : piece.remote + offset ≡ (piece.remote + chunk_start index) + at = omega arith in (
      before pieces place + offset,
      pair (piece.remote + offset) (piece.local + offset),
      ap (λ ps. slice_get ps (before pieces place + offset)) (sym spells) ∙ pair_there pieces place piece offset there low,
      is,
    )

get_within : (pieces : List Piece) (pairs : List Pair) (place : ℕ) (piece : Piece) (index : ℕ) (bytes : List ℕ)
    → pairs_of_pieces pieces ≡ pairs → slice_get pieces place ≡ Some piece → length bytes ≤ chunk_size piece.len index
    → WritesWithin Get pairs (record { offset = piece.local + chunk_start index; bytes = bytes })
get_within pieces pairs place piece index bytes spells there few at inside =
    let offset = chunk_start index + at in
    let low : offset < piece.len = in_piece piece.len index at (omega (arith, inside, few)) in
    let is : piece.local + offset ≡ (piece.local + chunk_start index) + at = omega arith in (
      before pieces place + offset,
      pair (piece.remote + offset) (piece.local + offset),
      ap (λ ps. slice_get ps (before pieces place + offset)) (sym spells) ∙ pair_there pieces place piece offset there low,
      is,
    )

-- a chunk of a transfer of the node
abbrev pub chunk_of : (node : ℕ) → Transfer → (number index remote local len : ℕ) → ChunkPiece
chunk_of node transfer number index remote local len = record {
  node = node;
  chunk = chunk_at transfer number index;
  local = local + chunk_start index;
  remote = remote + chunk_start index;
  len = chunk_size len index;
}

put_done : (job : EndpointJob) (stretch : Stretch) (node : ℕ) (settings : Parameters) (to : ℕ) (pieces : List Piece)
    (pairs : List Pair) (number : ℕ) (one : Pair) (place index : ℕ) (piece : Piece) (operation : ℕ)
    → pairs_of_pieces pieces ≡ pairs → LiesAt pieces number one place index piece
    → (done : PutDone job stretch (chunk_of node (transfer_of (record {
      settings = settings;
      way = Put;
      to = to;
      pieces = pieces;
    }) piece) operation index piece.remote piece.local piece.len))
    → length done.bytes ≡ chunk_size piece.len index
    → PairPut job stretch node (chunk_at (transfer_of (record {
      settings = settings;
      way = Put;
      to = to;
      pieces = pieces;
    }) piece) operation index) pairs one
put_done job stretch node settings to pieces pairs number one place index piece operation spells lies done full =
    let there = slice_get_there done.bytes (lies.offset - chunk_start index)
    (omega (arith, full, lies.chunk.first, lies.chunk.last)) in
    let start = chunk_start index in
    let at = lies.offset - start in
    let whole : start + at ≡ lies.offset = omega (arith, lies.chunk.first) in
    let inside : at < chunk_size piece.len index = omega (arith, lies.chunk.first, lies.chunk.last) in
    let remote : one.remote ≡ (piece.remote + start) + at = omega (arith, lies.remote, whole) in
    let local : (piece.local + start) + at ≡ one.local = omega (arith, lies.local, whole) in
    let transfer = transfer_of (record { settings = settings; way = Put; to = to; pieces = pieces }) piece in
    let chunk = chunk_of node transfer operation index piece.remote piece.local piece.len in
    record {
      number = done.number;
      byte = there.0;
      write = record { offset = piece.remote + start; bytes = done.bytes };
      issued = sometime_map job (IssuesBytes job chunk done.number done.bytes)
          (λ (moment : EndpointMoment). Issues job node (chunk_at transfer operation index) done.number moment
          × (slice_get (segment_at job moment.before node) one.local ≡ Some there.0))
          stretch.events stretch.from
          (λ moment is. (
            is.0,
            sym (ap (λ bytes. slice_get bytes at) is.1
                ∙ get_part (segment_at job moment.before node) (piece.local + start) (chunk_size piece.len index) at inside
                ∙ ap (slice_get (segment_at job moment.before node)) local)
                ∙ there.1,
          ))
          done.issued;
      once = done.once;
      written = sometime_map job (RunWrites job chunk done.number
          (record { offset = piece.remote + start; bytes = done.bytes }))
          (λ (moment : EndpointMoment). Runs job (request_name node to done.number) moment
          × WritesByte job to one.remote there.0
          (record { offset = piece.remote + start; bytes = done.bytes }) moment)
          stretch.events stretch.from
          (λ moment is. (is.0, record { writes = is.1; at = at; byte_is = there.1; offset_is = remote })) done.written;
      back = done.back;
      within = put_within pieces pairs place piece index done.bytes spells lies.there
          (sometime_out job (IssuesBytes job chunk done.number done.bytes)
          (length done.bytes ≤ chunk_size piece.len index) stretch.events stretch.from
          (λ moment is. rw is.1 (length-part (segment_at job moment.before node) (piece.local + start)
          (chunk_size piece.len index)))
          done.issued);
    }

-- ---- a get

get_done : (job : EndpointJob) (stretch : Stretch) (node : ℕ) (settings : Parameters) (to : ℕ) (pieces : List Piece)
    (pairs : List Pair) (number : ℕ) (one : Pair) (place index : ℕ) (piece : Piece) (operation : ℕ)
    → pairs_of_pieces pieces ≡ pairs → LiesAt pieces number one place index piece
    → (done : GetDone job stretch (chunk_of node (transfer_of (record {
      settings = settings;
      way = Get;
      to = to;
      pieces = pieces;
    }) piece) operation index piece.remote piece.local piece.len))
    → length done.bytes ≡ chunk_size piece.len index
    → PairGot job stretch node (chunk_at (transfer_of (record {
      settings = settings;
      way = Get;
      to = to;
      pieces = pieces;
    }) piece) operation index) pairs one
get_done job stretch node settings to pieces pairs number one place index piece operation spells lies done full =
    let there = slice_get_there done.bytes (lies.offset - chunk_start index)
    (omega (arith, full, lies.chunk.first, lies.chunk.last)) in
    let start = chunk_start index in
    let at = lies.offset - start in
    let whole : start + at ≡ lies.offset = omega (arith, lies.chunk.first) in
    let inside : at < chunk_size piece.len index = omega (arith, lies.chunk.first, lies.chunk.last) in
    let remote : (piece.remote + start) + at ≡ one.remote = omega (arith, lies.remote, whole) in
    let local : one.local ≡ (piece.local + start) + at = omega (arith, lies.local, whole) in
    let transfer = transfer_of (record { settings = settings; way = Get; to = to; pieces = pieces }) piece in
    let chunk = chunk_of node transfer operation index piece.remote piece.local piece.len in
    record {
      number = done.number;
      byte = there.0;
      write = record { offset = piece.local + start; bytes = done.bytes };
      issued = done.issued;
      once = done.once;
      read = sometime_map job (RunReads job chunk done.number done.bytes)
          (λ (moment : EndpointMoment). Runs job (request_name node to done.number) moment
          × (slice_get (segment_at job moment.before to) one.remote ≡ Some there.0))
          stretch.events stretch.from
          (λ moment is. (
            is.0,
            sym (ap (λ bytes. slice_get bytes at) is.1
                ∙ get_part (segment_at job moment.before to) (piece.remote + start) (chunk_size piece.len index) at inside
                ∙ ap (slice_get (segment_at job moment.before to)) remote)
                ∙ there.1,
          ))
          done.read;
      back = done.back;
      written = sometime_map job (BackWrites job chunk done.number
          (record { offset = piece.local + start; bytes = done.bytes }))
          (λ (moment : EndpointMoment). ComesBack job (request_name node to done.number) moment
          × WritesByte job node one.local there.0
          (record { offset = piece.local + start; bytes = done.bytes }) moment)
          stretch.events stretch.from
          (λ moment is. (is.0, record { writes = is.1; at = at; byte_is = there.1; offset_is = local })) done.written;
      within = get_within pieces pairs place piece index done.bytes spells lies.there
          (sometime_out job (RunReads job chunk done.number done.bytes)
          (length done.bytes ≤ chunk_size piece.len index) stretch.events stretch.from
          (λ moment is. rw is.1 (length-part (segment_at job moment.before to) (piece.remote + start)
          (chunk_size piece.len index)))
          done.read);
    }

-- ---- a chunk has all its bytes

-- a part that lies inside a segment after writes that fit has all its bytes
full_part : (settings : Parameters) (writes : List Write) (bytes : List ℕ) (offset len : ℕ)
    → AllFit settings.segment writes → bytes ≡ part (image settings.segment writes) offset len
    → offset + len ≤ settings.segment → length bytes ≡ len
full_part settings writes bytes offset len fit is inside =
    let long = length-image settings.segment writes fit in
    let rest = length-drop offset (image settings.segment writes) in
    ap length is ∙ length-take-le len (drop offset (image settings.segment writes)) (omega (arith, long, rest, inside))

-- a chunk of a range that lies inside lies inside
chunk_inside : (base all index segment : ℕ) → base + all ≤ segment → chunk_start index < all
    → (base + chunk_start index) + chunk_size all index ≤ segment
chunk_inside base all index segment inside below =
    let most = min-le_right 8192 (all - chunk_start index) in omega (arith, inside, below, most)

-- what the node held where the chunk of a put was issued
put_full : {settings : Parameters} {table : List (Option Entry)} {meaning : Meaning} (over : Over settings table meaning)
    (chunk : ChunkPiece) (done : PutDone (job_of settings table meaning) over.stretch chunk)
    → chunk.local + chunk.len ≤ settings.segment → length done.bytes ≡ chunk.len
put_full {settings} {table} {meaning} over chunk done inside =
    let job = job_of settings table meaning in
    sometime_out job (λ (moment : EndpointMoment). length done.bytes ≡ chunk.len) (length done.bytes ≡ chunk.len)
    over.stretch.events over.stretch.from (λ moment is. is)
    (sometime_around job (IsEndpointKept settings) (IssuesBytes job chunk done.number done.bytes)
    (λ (moment : EndpointMoment). length done.bytes ≡ chunk.len) over.stretch.events over.stretch.from over.sound
    over.among over.holds
    (λ moment around ends is. full_part settings (writes_at moment.before chunk.node) done.bytes chunk.local chunk.len
    (around.holds.kept chunk.node).core.writes is.1 inside)
    done.issued)

-- what the target held where the request of a get's chunk ran
get_full : {settings : Parameters} {table : List (Option Entry)} {meaning : Meaning} (over : Over settings table meaning)
    (chunk : ChunkPiece) (done : GetDone (job_of settings table meaning) over.stretch chunk)
    → chunk.remote + chunk.len ≤ settings.segment → length done.bytes ≡ chunk.len
get_full {settings} {table} {meaning} over chunk done inside =
    let job = job_of settings table meaning in
    sometime_out job (λ (moment : EndpointMoment). length done.bytes ≡ chunk.len) (length done.bytes ≡ chunk.len)
    over.stretch.events over.stretch.from (λ moment is. is)
    (sometime_around job (IsEndpointKept settings) (RunReads job chunk done.number done.bytes)
    (λ (moment : EndpointMoment). length done.bytes ≡ chunk.len) over.stretch.events over.stretch.from over.sound
    over.among over.holds
    (λ moment around ends is. full_part settings (writes_at moment.before (target chunk.chunk.transfer)) done.bytes
    chunk.remote chunk.len (around.holds.kept (target chunk.chunk.transfer)).core.writes is.1 inside)
    done.read)

-- ---- all of it

-- an operation that is done is one by chunks: its ranges lie inside the segments
fits_of : {settings : Parameters} {table : List (Option Entry)} {meaning : Meaning} (over : Over settings table meaning)
    (node operation : ℕ) (transfer : Transfer)
    → IsDone (job_of settings table meaning) over.stretch node operation transfer → IsByChunks settings node transfer
fits_of {settings} over node operation transfer done =
    subst (IsByChunks settings node) done.transfer_is
    (((holds_last over).kept node).operations operation done.operation done.there)

pair_done : {settings : Parameters} {table : List (Option Entry)} {meaning : Meaning} (over : Over settings table meaning)
    (node : ℕ) (made_for : Parameters) (way : Way) (to : ℕ)
    (pieces : List Piece) (pairs : List Pair) (number : ℕ) (one : Pair) (place index : ℕ) (piece : Piece) (operation : ℕ)
    → pairs_of_pieces pieces ≡ pairs → LiesAt pieces number one place index piece
    → IsDone (job_of settings table meaning) over.stretch node operation
    (transfer_of (record { settings = made_for; way = way; to = to; pieces = pieces }) piece)
    → PairDone way (job_of settings table meaning) over.stretch node (chunk_at (transfer_of (record {
      settings = made_for;
      way = way;
      to = to;
      pieces = pieces;
    }) piece) operation index) pairs one
pair_done {settings} {table} {meaning} over node made_for Put to pieces pairs number one place index piece operation spells lies done =
    let transfer = transfer_of (record { settings = made_for; way = Put; to = to; pieces = pieces }) piece in
    let fits = fits_of over node operation transfer done in
    let below : chunk_start index < piece.len = omega (arith, lies.inside, lies.chunk.first) in
    let it = done.each index lies.chunk.is in
    put_done (job_of settings table meaning) over.stretch node made_for to pieces pairs number one place index piece
    operation spells lies it
    (put_full over (chunk_of node transfer operation index piece.remote piece.local piece.len) it
    (chunk_inside piece.local piece.len index settings.segment fits.own below))
pair_done {settings} {table} {meaning} over node made_for Get to pieces pairs number one place index piece operation spells lies done =
    let transfer = transfer_of (record { settings = made_for; way = Get; to = to; pieces = pieces }) piece in
    let fits = fits_of over node operation transfer done in
    let below : chunk_start index < piece.len = omega (arith, lies.inside, lies.chunk.first) in
    let it = done.each index lies.chunk.is in
    get_done (job_of settings table meaning) over.stretch node made_for to pieces pairs number one place index piece
    operation spells lies it
    (get_full over (chunk_of node transfer operation index piece.remote piece.local piece.len) it
    (chunk_inside piece.remote piece.len index settings.segment fits.remote below))

pub pairs_are_done : (settings : Parameters) (table : List (Option Entry)) (meaning : Meaning) → AreInRange settings
    → IsLawfulMeaning meaning → PairsAreDone (job_of settings table meaning)
pairs_are_done settings table meaning range lawful run plan pairs node cut synced number one at =
    let job = job_of settings table meaning in
    let holds = transfers_hold settings table meaning range lawful in
    let once = lies_once holds.cover plan.pieces number one (ap (λ ps. slice_get ps number) cut.spells ∙ at) in
    let it = synced once.0 once.2 once.3.there in
    let over = over_stretch settings table meaning range (rules_sound settings table meaning range lawful)
    (opening_kept settings) it.beginning it.events it.among in
    let done = holds.synchronised it.beginning it.events it.sync it.among it.synchronises in
    let P : Transfer → ℕ → Type 0 = λ t n. IsDone job (stretch_of it) n it.beginning.number t in (
      once.0,
      once.1,
      once.2,
      once.3,
      once.4,
      pair_done over node plan.settings plan.way plan.to plan.pieces pairs number one once.0 once.1 once.2
          it.beginning.number cut.spells once.3
          (subst (P (transfer_of plan once.2)) it.node_is
          (subst (λ t. P t it.beginning.node) it.transfer_is done)),
    )
