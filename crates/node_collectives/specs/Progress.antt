-- How far a node is with its collectives, and what its calls ask of the node. That is the calls that they make, in
-- order, and what these are answered.
-- Origin: this project's profile, over GASNet 1.8.1, core API, active messages.
use Rattle.std.specs.Prelude.{ℕ, zero, suc, ◌+◌, ◌-◌, ◌%◌, ◌^◌, ◌==◌, ◌&&◌, ◌||◌, nat_lt, nat_le, not, Bool}
use Rattle.std.specs.Prelude.{true, false, if◌then◌else◌, List, [], ◌∷◌, length, Option, None, Some}
use Rattle.part_segment.specs.Image.{Write}
use Rattle.base_lists.specs.Put.{put}
use Rattle.spec_node.specs.declared.answer.Asked.{Asked}
use Rattle.spec_node.specs.declared.answer.Asked.TheVariants as asked
use Rattle.spec_node.specs.Behaviour.{Ask, PayloadFrom, Lent, Own}
use Rattle.node_core.specs.ClientRules.{asks_of, long_asking}
use Rattle.part_collective_area.specs.declared.shape.CollectiveKind.TheVariants as kind
use Rattle.part_collective_area.specs.declared.shape.Shape.{Shape}
use Rattle.part_collective_area.specs.Shapes.{shape_word, is_reduction, has_root, has_result, uses}
use Rattle.part_collective_area.specs.Area.{Area, data_place, area_end, stamp_in, word_in, data_in}
use Rattle.part_collective_area.specs.Served.{collective_handler, header_arguments}
use Rattle.part_collective_area.specs.Results.{result_len}
use Rattle.node_collectives.specs.declared.answers.Argument.TheVariants as arguments
use Rattle.node_collectives.specs.declared.answers.StartAnswer.{StartAnswer}
use Rattle.node_collectives.specs.declared.answers.StartAnswer.TheVariants as start_answers
use Rattle.node_collectives.specs.declared.answers.EndAnswer.{EndAnswer}
use Rattle.node_collectives.specs.declared.answers.EndAnswer.TheVariants as end_answers

-- how many phases the node has started, and how many it has ended; the shape of the last one that it started; to which
-- nodes it has sent in that phase, and for which ones no number was left when it tried last
pub record Progress : Type 0 where
  pub started : ℕ
  pub ended : ℕ
  pub shape : Shape
  pub sent : ℕ → Bool
  pub exhausted : ℕ → Bool

-- a node that has started nothing
abbrev pub idle : Progress
idle = record {
  started = 0;
  ended = 0;
  shape = record { kind = kind.Broadcast; root = 0; len = 0 };
  sent = λ to. false;
  exhausted = λ to. false;
}

-- a phase is started and not ended
abbrev pub is_open : Progress → Bool
is_open progress = nat_lt progress.ended progress.started

-- ---- start

-- the first refusal of a start that comes before any call, in segments of so many bytes
abbrev pub start_refusal : Area → (segment : ℕ) → Progress → Shape → (from : ℕ) → Option StartAnswer
start_refusal area segment progress shape from =
    if is_open progress then Some start_answers.Busy
    else (if nat_le area.nodes shape.root || (not (has_root shape.kind) && not (shape.root == 0))
    then Some (start_answers.BadArg arguments.Root)
    else (if nat_lt area.room shape.len || (is_reduction shape.kind && not (shape.len % 8 == 0))
    then Some (start_answers.BadArg arguments.Length)
    else (if nat_lt segment (from + shape.len) then Some (start_answers.BadArg arguments.Source)
    else (if nat_le (2 ^ 64 - 1) progress.started then Some start_answers.Exhausted
    else None))))

-- the message of the phase that is started, from the node `me`: its place is the node's own part of the phase
abbrev pub part_ask : Area → (me thread to phase : ℕ) → Shape → PayloadFrom → Ask
part_ask area me thread to phase shape payload =
    asks_of thread to
    (long_asking collective_handler (header_arguments (phase + 1) (shape_word shape)) payload
    (data_place area (phase % 2) me))

-- the call that a start makes: to its own node
abbrev pub start_ask : Area → (me thread : ℕ) → Progress → Shape → (from : ℕ) → Ask
start_ask area me thread progress shape from =
    part_ask area me thread me progress.started shape (Own from shape.len)

-- how a start is answered, by the answer of its call: the phase is started, unless the call was forbidden or waits for
-- a lock. Of other answers only `Ran` comes
abbrev pub start_answer : Asked → StartAnswer
start_answer (asked.Forbidden forbidden) = start_answers.Forbidden forbidden
start_answer (asked.LockBusy lock) = start_answers.LockBusy lock
start_answer other = start_answers.Started

abbrev pub has_started : StartAnswer → Bool
has_started start_answers.Started = true
has_started other = false

-- how far the node is after a start
abbrev pub after_start : Progress → Shape → Progress
after_start progress shape = record {
  started = progress.started + 1;
  ended = progress.ended;
  shape = shape;
  sent = λ to. false;
  exhausted = λ to. false;
}

-- ---- step

-- the call that a step makes to a node: the local part's data goes along where that node's result uses it
abbrev pub step_ask : Area → (me thread to : ℕ) → Progress → Ask
step_ask area me thread to progress =
    part_ask area me thread to progress.ended progress.shape
    (if uses progress.shape me to then Own (data_place area (progress.ended % 2) me) progress.shape.len else Lent [])

-- the node is another one to which the phase wasn't sent
abbrev pub is_left : (me to : ℕ) → Progress → Bool
is_left me to progress = not (to == me) && not (progress.sent to)

abbrev pub with_sent : Progress → (to : ℕ) → Progress
with_sent progress to = record progress { sent = put progress.sent to true }

abbrev pub with_exhausted : Progress → (to : ℕ) → Bool → Progress
with_exhausted progress to exhausted = record progress { exhausted = put progress.exhausted to exhausted }

-- ---- try_end

-- it has sent to all others, and all parts have the stamp of the phase
abbrev pub is_ready_from : (test : ℕ → Bool) → (node many : ℕ) → Bool
is_ready_from test node zero = true
is_ready_from test node (suc many) = test node && is_ready_from test (suc node) many

-- messages of the phase went both ways: the node was sent to, and its part has the stamp
abbrev pub is_exchanged : Area → (me : ℕ) → Progress → (segment : List ℕ) → (node : ℕ) → Bool
is_exchanged area me progress segment node =
    (progress.sent node || (node == me))
    && (stamp_in segment area (progress.ended % 2) node == progress.ended + 1)

abbrev pub is_ready : Area → (me : ℕ) → Progress → (segment : List ℕ) → Bool
is_ready area me progress segment = is_ready_from (is_exchanged area me progress segment) 0 area.nodes

-- the first node from this one on of which the test holds
abbrev pub first_node : (test : ℕ → Bool) → (node many : ℕ) → Option ℕ
first_node test node zero = None
first_node test node (suc many) = if test node then Some node else first_node test (suc node) many

-- the part of the node says another shape
abbrev pub is_other : Area → Progress → (segment : List ℕ) → (node : ℕ) → Bool
is_other area progress segment node =
    not (word_in segment area (progress.ended % 2) node == shape_word progress.shape)

-- the smallest node with another one
abbrev pub other_shape : Area → Progress → (segment : List ℕ) → Option ℕ
other_shape area progress segment = first_node (is_other area progress segment) 0 area.nodes

-- the node wasn't sent to, and no number was left for it
abbrev pub has_exhausted : (me : ℕ) → Progress → (node : ℕ) → Bool
has_exhausted me progress node = is_left me node progress && progress.exhausted node

-- the smallest of these
abbrev pub exhausted_node : Area → (me : ℕ) → Progress → Option ℕ
exhausted_node area me progress = first_node (has_exhausted me progress) 0 area.nodes

-- the data of all nodes, in their order
abbrev pub data_of_all : Area → Progress → (segment : List ℕ) → (node many : ℕ) → List (List ℕ)
data_of_all area progress segment node zero = []
data_of_all area progress segment node (suc many) =
    data_in segment area (progress.ended % 2) node progress.shape.len
    ∷ data_of_all area progress segment (suc node) many

-- two ranges share a byte
abbrev pub share : (offset len other_offset other_len : ℕ) → Bool
share offset len other_offset other_len =
    nat_lt 0 len && (nat_lt 0 other_len
    && (nat_lt other_offset (offset + len) && nat_lt offset (other_offset + other_len)))

-- the local result's range at `dest` is outside, or shares a byte with the area, or for a reduction's result isn't at a
-- multiple of 8
abbrev pub is_bad_dest : Area → (segment me : ℕ) → Shape → (dest : ℕ) → Bool
is_bad_dest area segment me shape dest =
    let len = result_len shape area.nodes me in
    nat_lt segment (dest + len)
    || (share dest len area.base (area_end area - area.base)
    || (is_reduction shape.kind && (has_result shape me && not (dest % 8 == 0))))

-- the refusal of a try that comes before any call
abbrev pub end_refusal : Area → (segment me : ℕ) → Progress → (dest : ℕ) → Option EndAnswer
end_refusal area segment me progress dest =
    if not (is_open progress) then Some end_answers.NotStarted
    else (if is_bad_dest area segment me progress.shape dest then Some (end_answers.BadArg arguments.Destination)
    else None)

-- the answer of a try that may poll, where the local segment has these bytes
abbrev pub end_answer : Area → (me : ℕ) → Progress → (segment : List ℕ) → EndAnswer
end_answer area me progress segment =
    if is_ready area me progress segment
    then elim (other_shape area progress segment) [ Some node ↦ end_answers.Mismatch node | None ↦ end_answers.Ended ]
    else elim (exhausted_node area me progress) [ Some node ↦ end_answers.Exhausted node | None ↦ end_answers.NotReady ]

-- how far it is after a phase ended
abbrev pub after_end : Progress → Progress
after_end progress = record progress { ended = progress.ended + 1 }

-- the result is written in pieces that follow one another, from `dest` on
abbrev pub writes_from : (dest : ℕ) → List (List ℕ) → List Write
writes_from dest [] = []
writes_from dest (bytes ∷ later) = record { offset = dest; bytes = bytes } ∷ writes_from (dest + length bytes) later
