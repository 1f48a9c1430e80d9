-- What is asked of handlers and of the calls of scripts, so that each number fits its place in a message.
-- Origin: this project's profile.
use Rattle.std.specs.Prelude.{ℕ, ℤ, ◌<◌, ◌≤◌, ◌^◌, List, Option, None, Some, length, slice_index}
use Rattle.std.specs.List.{AllByRecursion}
use Rattle.std.specs.Int.{w32}
use Rattle.std.specs.Int.RustNames.{FitsSigned}
use Rattle.wire_message.specs.Parameters.{Parameters, AreInRange}
use Rattle.wire_message.specs.Content.{Content}
use Rattle.part_segment.specs.Image.{Write}
use Rattle.part_handlers.specs.declared.table.Entry.{Entry as TableEntry}
use Rattle.part_handlers.specs.Runs.{Frame, Start, Outcome, Meaning, IsLawfulMeaning}
use Rattle.spec_node.specs.Behaviour.{PayloadFrom, Lent, Own}
use Rattle.node_core.specs.Kept.{Local}
use Rattle.node_rules.specs.Called.{Requests, Performs}
use Rattle.node_rules.specs.CoreCalls.{SetCell, OnSegment}
use Rattle.node_rules.specs.EndpointLocal.{EndpointLocal}
use Rattle.node_rules.specs.EndpointRules.{OtherCall, OnCore}
use Rattle.node_rules.specs.Memory.{Set, Fill}
use Rattle.part_collective_area.specs.Shapes.{shape_word}
use Rattle.node_collectives.specs.CollectivesState.{CollectivesState}
use Rattle.law_traces.specs.Scripts.{ThreadCall}
use Rattle.wire_message.specs.declared.limits.TheConstants.{MAX_PAYLOAD}

-- numbers of 32 bits
abbrev pub AreNumbers : List ℤ → Type 0
AreNumbers numbers = AllByRecursion (FitsSigned w32) numbers

abbrev pub AreBytes : List ℕ → Type 0
AreBytes bytes = (place : ℕ) → slice_index bytes place < 2 ^ 8

-- all that was written are bytes
abbrev pub WriteBytes : List Write → Type 0
WriteBytes writes = AllByRecursion (λ (write : Write). AreBytes write.bytes) writes

-- what a core keeps fits its places in messages: its cells are numbers of 32 bits, and the segment has bytes
pub record CoreFits (local : Local) : Type 0 where
  pub cells : AreNumbers local.cells
  pub writes : WriteBytes local.writes

-- so does what an endpoint's node keeps
abbrev pub KeptFits : EndpointLocal → Type 0
KeptFits local = CoreFits local.core

-- so does what a message says
pub record ContentFits (content : Content) : Type 0 where
  pub args : AreNumbers content.args
  pub payload : AreBytes content.payload

-- ---- handlers

-- what a handler finds fits its places
pub record FindsFitting (frame : Frame) (start : Start) : Type 0 where
  pub source : frame.arrival.source < 2 ^ 16
  pub args : AreNumbers frame.arrival.args
  pub payload : AreBytes frame.arrival.payload
  pub cells : AreNumbers start.cells
  pub segment : AreBytes start.segment

-- so does a reply, where there is one
abbrev pub ReplyFits : Option Content → Type 0
ReplyFits None = Unit {0}
ReplyFits (Some content) = ContentFits content

-- so does what a handler leaves and says
pub record LeavesFitting (outcome : Outcome) : Type 0 where
  pub cells : AreNumbers outcome.cells
  pub writes : WriteBytes outcome.writes
  pub reply : ReplyFits outcome.reply

-- where a handler finds what fits, it leaves and says what fits
abbrev pub IsFittingMeaning : Meaning → Type 0
IsFittingMeaning meaning =
    (handler : ℕ) (frame : Frame) (start : Start) → FindsFitting frame start
    → LeavesFitting (meaning handler frame start)

-- ---- calls

-- a payload that is given has bytes
abbrev pub PayloadFits : PayloadFrom → Type 0
PayloadFits (Lent bytes) = AreBytes bytes
PayloadFits (Own offset len) = Unit {0}

-- what a call writes into a cell or the segment fits
abbrev pub OtherFits : OtherCall → Type 0
OtherFits (OnCore (SetCell cell value)) = FitsSigned w32 value
OtherFits (OnCore (OnSegment (Set write))) = AreBytes write.bytes
OtherFits (OnCore (OnSegment (Fill offset len byte))) = byte < 2 ^ 8
OtherFits call = Unit {0}

-- what a call says, where it is a request, and what it writes fits
abbrev pub CallFits : ThreadCall → Type 0
CallFits (Requests to asking) = AreNumbers asking.args × PayloadFits asking.payload
CallFits (Performs call) = OtherFits call

-- how far a node's collectives are fits its places: the numbers of phases and the word of the shape are numbers of 64
-- bits, and so is the word of each shape within the area's limits
pub record CollectivesFit (it : CollectivesState) : Type 0 where
  pub count : it.started < 2 ^ 64
  pub word : shape_word it.shape < 2 ^ 64
  pub nodes : it.area.nodes ≤ 256
  pub room : it.area.room ≤ MAX_PAYLOAD

-- ---- jobs

-- the settings are within their limits, and their numbers fit their places in a message; so do the table's indexes;
-- the handlers are lawful, and what they leave and say fits
pub record IsFittingJob (settings : Parameters) (table : List (Option TableEntry)) (meaning : Meaning) : Type 0 where
  pub range : AreInRange settings
  pub job : settings.job < 2 ^ 64
  pub last : settings.last < 2 ^ 64
  pub indexes : length table ≤ 128
  pub lawful : IsLawfulMeaning meaning
  pub fitting : IsFittingMeaning meaning
