-- Batches of atomic operations in a run of a job: what runs at an event, and what it does.
-- Origin: this project's profile, over GASNet 1.8.1, core API, active messages.
use Rattle.std.specs.Prelude.{ℕ, ◌≡◌, ◌==◌, if◌then◌else◌, List, [], ◌∷◌, ◌++◌, filter, fold, Option, None, Some}
use Rattle.std.specs.Prelude.{◌%◌, ◌^◌, option_and_then, option_map}
use Rattle.wire_message.specs.Content.{Content}
use Rattle.base_lists.specs.Numbered.{element_at}
use Rattle.part_segment.specs.Image.{Write}
use Rattle.spec_node.specs.declared.answer.Asked.TheVariants as asked
use Rattle.spec_node.specs.declared.answer.Delivered.{Delivered}
use Rattle.spec_node.specs.declared.answer.Delivered.TheVariants as delivered
use Rattle.spec_node.specs.NodeStep.{site_of, OfRequest, OfDelivery}
use Rattle.spec_network.specs.World.{EventAt, Event, Asks, RequestComes, WorldAnswer, OfNode, world_answer, world_after}
use Rattle.spec_network.specs.Plain.{Plain, PlainRequest, plain_of}
use Rattle.spec_network.specs.PlainStep.{RequestName, plain_said}
use Rattle.node_rules.specs.EndpointLocal.{EndpointLocal}
use Rattle.node_rules.specs.EndpointRules.{OtherCall, Records}
use Rattle.node_rules.specs.declared.answer.Answer.{Answer}
use Rattle.law_transfers.specs.History.{after_in, Runs, ComesBack}
use Rattle.law_transfers.specs.Chunks.{EndpointJob, EndpointMoment, Stretch, HappensIn, HappensOnceIn, Writes}
use Rattle.law_transfers.specs.Chunks.{segment_at, writes_at}
use Rattle.law_messages.specs.Ranges.{SpareRange}
use Rattle.node_atomics.specs.declared.word.WordOp.{WordOp}
use Rattle.node_atomics.specs.Words.{applied_by}
use Rattle.node_atomics.specs.Asking.{batch_of}
use Rattle.node_atomics.specs.BatchRequests.{BatchRequest}
use Rattle.node_atomics.specs.Served.{changes_of, olds_of, block_of}

-- ---- what runs at an event

-- the operations of a batch, and none where there is no batch
abbrev pub ops_of : Option BatchRequest → List WordOp
ops_of None = []
ops_of (Some request) = request.ops

-- what is found, where the answer says that a request ran
abbrev pub if_ran : {X : Type 0} → Delivered → Option X → Option X
if_ran (delivered.Ran at) found = found
if_ran (delivered.Notified at notification) found = found
if_ran answer found = None

-- the request that runs at the node by an event with this answer: one that came, or one of a thread to its own node
abbrev pub content_run : EndpointJob → Plain EndpointLocal → (node : ℕ) → Event OtherCall → WorldAnswer Answer
    → Option Content
content_run job plain node (RequestComes from to number) (OfNode (OfDelivery answer)) =
    if to == node
    then if_ran answer
    (option_map (λ (request : PlainRequest). request.content) (element_at (plain.requests from to) number))
    else None
content_run job plain node (Asks from ask) (OfNode (OfRequest asked.Ran)) =
    if from == node then Some (plain_said (site_of job from) plain ask) else None
content_run job plain node event answer = None

-- the operations of the batch that runs at this node by an event, in their order; none where no batch runs there
abbrev pub ops_at : EndpointJob → Records → EventAt OtherCall → (node : ℕ) → List WordOp
ops_at job world timed node =
    ops_of (option_and_then (batch_of job.settings)
    (content_run job (plain_of world) node timed.event (world_answer job world timed)))

-- the operations of all batches that run at this node, in the order in which they run
abbrev pub ops_in : EndpointJob → List (EventAt OtherCall) → Records → (node : ℕ) → List WordOp
ops_in job [] world node = []
ops_in job (timed ∷ later) world node =
    ops_at job world timed node ++ ops_in job later (world_after job world timed) node

-- ---- the history of a word

-- the operations on the word at this offset
abbrev pub on_word : (offset : ℕ) → List WordOp → List WordOp
on_word offset ops = filter (λ word. word.offset == offset) ops

-- the 64 bits that an operation leaves
abbrev pub left_of : (old : ℕ) → WordOp → ℕ
left_of old word = applied_by old word % 2 ^ 64

-- what operations make of a word that was 0, the earliest first
abbrev pub made_by : List WordOp → ℕ
made_by ops = fold left_of 0 ops

-- what an event writes at the node, beside the operations of a batch that runs there, has no byte of the word
pub record OnlyBatches (job : EndpointJob) (node offset : ℕ) (moment : EndpointMoment) : Type 0 where
  pub beside : List Write
  pub writes : writes_at (after_in job moment) node
      ≡ (writes_at moment.before node
      ++ changes_of (segment_at job moment.before node) (ops_at job moment.before moment.timed node)) ++ beside
  pub spare : SpareRange beside offset 8

-- ---- what a batch does

-- its request runs, where the words are these; all of its operations act, and they are those that run at this event
pub record Acts (job : EndpointJob) (name : RequestName) (request : BatchRequest) (olds : List ℕ)
    (moment : EndpointMoment)
    : Type 0 where
  pub runs : Runs job name moment
  pub found : olds ≡ olds_of (segment_at job moment.before name.to) request.ops
  pub ops : ops_at job moment.before moment.timed name.to ≡ request.ops
  pub writes : writes_at (after_in job moment) name.to
      ≡ writes_at moment.before name.to ++ changes_of (segment_at job moment.before name.to) request.ops

-- its reply comes back, and writes these words and the tag into the requester's block, and nothing else
abbrev pub BlockComes : EndpointJob → RequestName → BatchRequest → (olds : List ℕ) → EndpointMoment → Type 0
BlockComes job name request olds moment =
    ComesBack job name moment
    × Writes job name.from (record { offset = request.local; bytes = block_of olds request.tag }) moment

-- it acted exactly once, at one moment; its reply came back exactly once, with what the words were at that moment
pub record BatchDone (job : EndpointJob) (stretch : Stretch) (name : RequestName) (request : BatchRequest)
    : Type 0 where
  pub olds : List ℕ
  pub once : HappensOnceIn job stretch (Runs job name)
  pub acts : HappensIn job stretch (Acts job name request olds)
  pub back : HappensOnceIn job stretch (ComesBack job name)
  pub block : HappensIn job stretch (BlockComes job name request olds)
