-- A result that was written piece by piece stands at its place.
use Rattle.std.proofs.Common.{◌≡◌, ℕ, ◌+◌, ◌<◌, ◌≤◌, List, [], ◌∷◌, ◌++◌, Option, length, take, drop}
use Rattle.std.proofs.Common.{refl, sym, ap, ◌∙◌, arith, length-append, append-nil}
use Rattle.std.proofs.lemmas.Bool.{le-ltb}
use Rattle.std.proofs.lemmas.List.{append_assoc, drop-drop, drop_at, take_at, length-take-le}
use Rattle.wire_message.specs.Parameters.{Parameters}
use Rattle.part_segment.specs.Bytes.{part, with_part}
use Rattle.part_segment.specs.Image.{Write, image, written_by}
use Rattle.part_segment.proofs.Images.{image-append, length-image}
use Rattle.part_segment.proofs.Lists.{with_none}
use Rattle.part_handlers.specs.declared.table.Entry.{Entry}
use Rattle.part_handlers.specs.Runs.{Meaning}
use Rattle.base_lists.proofs.Put.{put_same}
use Rattle.spec_network.specs.Plain.{Plain, plain_of}
use Rattle.spec_network.specs.Invariant.{Holds}
use Rattle.spec_network.specs.World.{world_after, world_answer}
use Rattle.spec_network.proofs.PlainSteps.{step_plain}
use Rattle.spec_network.proofs.Worlds.{step_keeps}
use Rattle.node_core.specs.Kept.{segment_of}
use Rattle.node_rules.specs.CoreCalls.{OnSegment}
use Rattle.node_rules.specs.Memory.{Set, segment_does}
use Rattle.node_rules.specs.EndpointLocal.{EndpointLocal, IsEndpointKept}
use Rattle.node_rules.specs.EndpointRules.{OnCore, Records, job_of}
use Rattle.law_transfers.specs.Chunks.{segment_at, writes_at}
use Rattle.law_transfers.proofs.Stretches.{AreSound}
use Rattle.node_collectives.specs.Progress.{writes_from}
use Rattle.law_collectives.specs.Groups.{after_writes, write_event}
use Rattle.part_collective_area.proofs.Bytes.{part_written}
use Rattle.law_collectives.proofs.Called.{does_step}
use Rattle.node_collectives.proofs.Sizes.{flat}

-- ---- writes that follow one another are one

two_as_one : (bytes first second : List ℕ) (dest : ℕ) → dest + length first + length second ≤ length bytes
    → with_part (with_part bytes dest first) (dest + length first) second ≡ with_part bytes dest (first ++ second)
two_as_one bytes first second dest inside =
    let prefix = take dest bytes in
    let rest = drop (dest + length first) bytes in
    let whole = with_part bytes dest first in
    let low : length prefix ≡ dest = length-take-le dest bytes (omega (arith, inside)) in
    let both : length (prefix ++ first) ≡ dest + length first =
    length-append prefix first ∙ ap (λ (n : ℕ). n + length first) low in
    let same : whole ≡ (prefix ++ first) ++ rest = sym (append_assoc prefix first rest) in
    let head : take (dest + length first) whole ≡ prefix ++ first =
    ap (take (dest + length first)) same ∙ take_at (prefix ++ first) rest (dest + length first) both in
    let behind : drop (dest + length first) whole ≡ rest =
    ap (drop (dest + length first)) same ∙ drop_at (prefix ++ first) rest (dest + length first) both in
    let tail : drop (dest + length first + length second) whole ≡ drop (dest + length first + length second) bytes =
    sym (drop-drop (length second) (dest + length first) whole)
    ∙ (ap (drop (length second)) behind ∙ drop-drop (length second) (dest + length first) bytes) in
    let count : dest + length first + length second ≡ dest + length (first ++ second) =
    (let many = length-append first second in omega (arith, many)) in
    ap (λ (xs : List ℕ). xs ++ (second ++ drop (dest + length first + length second) whole)) head
    ∙ (ap (λ (xs : List ℕ). (prefix ++ first) ++ (second ++ xs))
    (tail ∙ ap (λ (n : ℕ). drop n bytes) count)
    ∙ (append_assoc prefix first (second ++ drop (dest + length (first ++ second)) bytes)
    ∙ ap (λ (xs : List ℕ). prefix ++ xs)
    (sym (append_assoc first second (drop (dest + length (first ++ second)) bytes)))))

all_as_one : (bytes : List ℕ) (dest : ℕ) (first : List ℕ) (pieces : List (List ℕ))
    → dest + length first + length (flat pieces) ≤ length bytes
    → written_by (with_part bytes dest first) (writes_from (dest + length first) pieces)
    ≡ with_part bytes dest (first ++ flat pieces)
all_as_one bytes dest first [] inside = ap (with_part bytes dest) (sym (append-nil first))
all_as_one bytes dest first (next ∷ later) inside =
    let many = length-append next (flat later) in
    let long = length-append first next in
    let count : dest + length first + length next ≡ dest + length (first ++ next) = omega (arith, long) in
    let joined = two_as_one bytes first next dest (omega (arith, many, inside)) in
    ap (λ (xs : List ℕ). written_by xs (writes_from (dest + length first + length next) later)) joined
    ∙ (ap (λ (n : ℕ). written_by (with_part bytes dest (first ++ next)) (writes_from n later)) count
    ∙ (all_as_one bytes dest (first ++ next) later (omega (arith, many, long, inside))
    ∙ ap (with_part bytes dest) (append_assoc first next (flat later))))

written_as_one : (bytes : List ℕ) (dest : ℕ) (pieces : List (List ℕ)) → dest + length (flat pieces) ≤ length bytes
    → written_by bytes (writes_from dest pieces) ≡ with_part bytes dest (flat pieces)
written_as_one bytes dest [] inside = sym (with_none bytes dest)
written_as_one bytes dest (first ∷ later) inside =
    let many = length-append first (flat later) in
    all_as_one bytes dest first later (omega (arith, many, inside))

-- ---- the calls that write them

-- the call writes what lies inside
set_writes : (settings : Parameters) (table : List (Option Entry)) (meaning : Meaning) (records : Records)
    (now node thread : ℕ) (write : Write) → AreSound settings table meaning
    → Holds (job_of settings table meaning) (IsEndpointKept settings) records
    → write.offset + length write.bytes ≤ settings.segment
    → writes_at (world_after (job_of settings table meaning) records (write_event now node thread write)) node
    ≡ writes_at records node ++ write ∷ []
set_writes settings table meaning records now node thread write sound holds inside =
    let job = job_of settings table meaning in
    let event = write_event now node thread write in
    let next = world_after job records event in
    let plain = plain_of records in
    let step = does_step job plain (plain_of next) node thread (OnCore (OnSegment (Set write)))
    (world_answer job records event) (step_plain job (IsEndpointKept settings) records event sound holds) in
    let leaves = step.2.1 in
    let bytes = segment_of settings (records node).local.core in
    let long : length bytes ≡ settings.segment =
    length-image settings.segment (writes_at records node) (holds.kept node).core.writes in
    let goes : (segment_does bytes (Set write)).1 ≡ write ∷ [] =
    rw (le-ltb (length bytes) (write.offset + length write.bytes) (omega (arith, long, inside))) refl in
    ap (λ (p : Plain EndpointLocal). (p.local node).core.writes) leaves
    ∙ (ap (λ (local : EndpointLocal). local.core.writes) (put_same plain.local node _)
    ∙ ap (λ (writes : List Write). writes_at records node ++ writes) goes)

-- so do all of them
sets_write : (settings : Parameters) (table : List (Option Entry)) (meaning : Meaning) (records : Records)
    (now node thread dest : ℕ) (pieces : List (List ℕ)) → AreSound settings table meaning
    → Holds (job_of settings table meaning) (IsEndpointKept settings) records → node < settings.nodes
    → dest + length (flat pieces) ≤ settings.segment
    → writes_at (after_writes (job_of settings table meaning) now node thread records (writes_from dest pieces)) node
    ≡ writes_at records node ++ writes_from dest pieces
sets_write settings table meaning records now node thread dest [] sound holds there inside =
    sym (append-nil (writes_at records node))
sets_write settings table meaning records now node thread dest (bytes ∷ later) sound holds there inside =
    let job = job_of settings table meaning in
    let write : Write = record { offset = dest; bytes = bytes } in
    let event = write_event now node thread write in
    let many = length-append bytes (flat later) in
    let next = world_after job records event in
    sets_write settings table meaning next now node thread (dest + length bytes) later sound
    (step_keeps job (IsEndpointKept settings) records event sound holds there) there (omega (arith, many, inside))
    ∙ (ap (λ (writes : List Write). writes ++ writes_from (dest + length bytes) later)
    (set_writes settings table meaning records now node thread write sound holds (omega (arith, many, inside)))
    ∙ append_assoc (writes_at records node) (write ∷ []) (writes_from (dest + length bytes) later))

-- the result stands at its place
pub result_there : (settings : Parameters) (table : List (Option Entry)) (meaning : Meaning) (records : Records)
    (now node thread dest : ℕ) (pieces : List (List ℕ)) → AreSound settings table meaning
    → Holds (job_of settings table meaning) (IsEndpointKept settings) records → node < settings.nodes
    → dest + length (flat pieces) ≤ settings.segment
    → part (segment_at (job_of settings table meaning)
    (after_writes (job_of settings table meaning) now node thread records (writes_from dest pieces)) node) dest
    (length (flat pieces))
    ≡ flat pieces
result_there settings table meaning records now node thread dest pieces sound holds there inside =
    let size = settings.segment in
    let bytes = image size (writes_at records node) in
    let long : length bytes ≡ size = length-image size (writes_at records node) (holds.kept node).core.writes in
    let fits : dest + length (flat pieces) ≤ length bytes = omega (arith, long, inside) in
    let is = ap (image size)
    (sets_write settings table meaning records now node thread dest pieces sound holds there inside)
    ∙ (image-append size (writes_at records node) (writes_from dest pieces) ∙ written_as_one bytes dest pieces fits) in
    ap (λ (now_bytes : List ℕ). part now_bytes dest (length (flat pieces))) is
    ∙ part_written bytes (flat pieces) dest fits
