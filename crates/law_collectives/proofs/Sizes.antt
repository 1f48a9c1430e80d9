-- How long the results of a group are, and that they are written outside of the area.
use Rattle.std.proofs.Common.{◌≡◌, ℕ, ◌%◌, ◌<◌, ◌≤◌, true, false, List, length, Option, sym, subst, arith}
use Rattle.std.proofs.lemmas.Bool.{ltb-true}
use Rattle.wire_message.specs.Parameters.{Parameters}
use Rattle.part_segment.proofs.Images.{length-image}
use Rattle.part_handlers.specs.declared.table.Entry.{Entry}
use Rattle.part_handlers.specs.Runs.{Meaning}
use Rattle.node_rules.specs.EndpointRules.{job_of}
use Rattle.law_transfers.specs.Chunks.{EndpointJob, segment_at, writes_at}
use Rattle.part_collective_area.specs.declared.shape.Shape.{Shape}
use Rattle.part_collective_area.specs.Shapes.{is_reduction}
use Rattle.part_collective_area.specs.Area.{Area, IsArea, SpareArea}
use Rattle.part_collective_area.specs.Results.{result_len}
use Rattle.node_collectives.specs.Progress.{is_bad_dest, is_open, writes_from}
use Rattle.node_collectives.proofs.Sizes.{data_long, data_many, flat, good_spare, is_good, result_long}
use Rattle.law_collectives.specs.Groups.{Group, data_in_parts, result_pieces}
use Rattle.law_collectives.specs.Invariant.{GroupHolds}
use Rattle.law_collectives.proofs.Ending.{got}
use Rattle.law_collectives.proofs.Events.{Setting}

-- a phase is open: its shape is within its limits
record Limits (area : Area) (shape : Shape) : Type 0 where
  pub root : shape.root < area.nodes
  pub few : shape.len ≤ area.room
  pub words : is_reduction shape.kind ≡ true → shape.len % 8 ≡ 0

limits : (job : EndpointJob) (area : Area) (group : Group) (node : ℕ) → GroupHolds job area group
    → node < job.settings.nodes → is_open (group.progress node) ≡ true → Limits area (group.progress node).shape
limits job area group node holds there opened =
    let kept = holds.progress node there in
    let progress = group.progress node in
    let started = kept.started in
    let below = ltb-true progress.ended progress.started opened in
    let low : progress.ended < length (group.given node) = omega (arith, below, started) in
    let own = got (group.given node) progress.ended low in
    let given = kept.given progress.ended own.0 own.1 in
    subst (λ (shape : Shape). Limits area shape) (kept.shape own.0 low own.1)
    (record { root = given.root; few = given.few; words = given.words })

-- a segment has its length
pub segment_long : (job : EndpointJob) (area : Area) (group : Group) (node : ℕ) → GroupHolds job area group
    → length (segment_at job group.records node) ≡ job.settings.segment
segment_long job area group node holds =
    length-image job.settings.segment (writes_at group.records node) (holds.records.kept node).core.writes

pub result_sized : (job : EndpointJob) (area : Area) (group : Group) (node : ℕ) → IsArea job.settings.segment area
    → GroupHolds job area group → node < job.settings.nodes → is_open (group.progress node) ≡ true
    → length (flat (result_pieces job area group node)) ≡ result_len (group.progress node).shape area.nodes node
result_sized job area group node good holds there opened =
    let progress = group.progress node in
    let segment = segment_at job group.records node in
    let shape = progress.shape in
    let it = limits job area group node holds there opened in
    result_long shape.kind shape.root shape.len (data_in_parts job area group node) area.nodes node
    (data_many area progress segment 0 area.nodes)
    (data_long job.settings.segment area progress segment 0 area.nodes good (segment_long job area group node holds)
    it.few (omega arith)) it.root it.words

-- a result is written outside of the area, where its place isn't bad
pub pieces_spare : (settings : Parameters) (table : List (Option Entry)) (meaning : Meaning) (area : Area)
    (group : Group) (node dest : ℕ) → Setting settings table meaning area
    → GroupHolds (job_of settings table meaning) area group → node < settings.nodes
    → is_open (group.progress node) ≡ true
    → is_bad_dest area settings.segment node (group.progress node).shape dest ≡ false
    → SpareArea area (writes_from dest (result_pieces (job_of settings table meaning) area group node))
pieces_spare settings table meaning area group node dest setting holds there opened is =
    let job = job_of settings table meaning in
    let pieces = result_pieces job area group node in
    let long = result_sized job area group node setting.good holds there opened in
    let low : node < area.nodes = subst (λ (n : ℕ). node < n) (sym setting.nodes) there in
    let it = is_good area settings.segment node (group.progress node).shape dest low is in
    good_spare area settings.segment dest _ pieces it long
