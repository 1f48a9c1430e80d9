-- What a client may rely on of batches of atomic operations.
-- Origin: this project's profile, over GASNet 1.8.1, core API, active messages.
use Rattle.std.specs.Prelude.{ℕ, ◌≡◌, ◌+◌, ◌%◌, ◌≤◌, ◌⊎◌, true, List, [], ◌∷◌, ◌++◌, take, Option, Some, slice_get}
use Rattle.wire_message.specs.Parameters.{Parameters, AreInRange}
use Rattle.part_segment.specs.Image.{Write}
use Rattle.part_handlers.specs.declared.table.Entry.{Entry}
use Rattle.part_handlers.specs.Runs.{Meaning, IsLawfulMeaning}
use Rattle.spec_node.specs.declared.answer.Asked.TheVariants as asked
use Rattle.spec_node.specs.Behaviour.{Ask}
use Rattle.spec_node.specs.NodeStep.{site_of, OfRequest}
use Rattle.spec_network.specs.World.{EventAt, Asks, OfNode, world_answer, world_after}
use Rattle.spec_network.specs.Plain.{PlainRequest, IsRequest, plain_of}
use Rattle.spec_network.specs.PlainStep.{RequestName, request_name, plain_said}
use Rattle.node_rules.specs.EndpointRules.{OtherCall, at_the_opening, job_of, timed_event}
use Rattle.law_transfers.specs.History.{Runs}
use Rattle.law_transfers.specs.Chunks.{EndpointJob, EndpointMoment, HappensIn, HappensOnceIn, segment_at, writes_at}
use Rattle.law_transfers.specs.TransferLaws.{AreAmong}
use Rattle.law_messages.specs.Events.{after_all, whole_stretch, Always}
use Rattle.law_messages.specs.Requests.{AcceptedName, IsAccepted}
use Rattle.node_atomics.specs.declared.word.WordOp.{WordOp}
use Rattle.node_atomics.specs.Asking.{batch_of}
use Rattle.node_atomics.specs.BatchRequests.{BatchRequest, batch_content}
use Rattle.node_atomics.specs.Batches.{BatchState, IsBatch}
use Rattle.node_atomics.specs.Served.{HasBatches, ServesBatches, word_in, olds_of, changes_of, block_of}
use Rattle.law_atomics.specs.Batches.{ops_at, ops_in, on_word, made_by, OnlyBatches, Acts, BatchDone}

-- ---- what is asked

-- the request that a batch makes asks that batch
abbrev pub BatchesAreSaid : Parameters → Type 0
BatchesAreSaid settings =
    (batch : BatchState) → IsBatch batch → batch.settings ≡ settings
    → batch_of settings (batch_content batch.request) ≡ Some batch.request

-- ---- a batch to another node

-- among the requests after these events is one of a batch
pub record IsAsked (job : EndpointJob) (events : List (EventAt OtherCall)) (name : RequestName) : Type 0 where
  pub request : PlainRequest
  pub accepted : IsRequest (plain_of (after_all job events)) name.from name.to name.number request
  pub batch : BatchRequest
  pub asks : batch_of job.settings request.content ≡ Some batch

-- whenever the request runs, the batch acts
abbrev pub ActsThen : EndpointJob → RequestName → BatchRequest → EndpointMoment → Type 0
ActsThen job name batch moment = Runs job name moment → (olds : List ℕ) × Acts job name batch olds moment

-- what becomes of it
pub record BatchGoes (job : EndpointJob) (events : List (EventAt OtherCall)) (name : RequestName) (batch : BatchRequest)
    : Type 0 where
  pub acts : Always job (ActsThen job name batch) events
  -- its request runs once, or not at all
  pub at_most : HappensOnceIn job (whole_stretch job events) (Runs job name)
      ⊎ (HappensIn job (whole_stretch job events) (Runs job name) → ⊥)
  -- where its credit came back, it is done
  pub done : (plain_of (after_all job events)).back name.from name.to name.number ≡ true
      → BatchDone job (whole_stretch job events) name batch

abbrev pub BatchesGo : EndpointJob → Type 0
BatchesGo job =
    (events : List (EventAt OtherCall)) (name : RequestName) → AreAmong job events
    → (it : IsAsked job events name) → BatchGoes job events name it.batch

-- a thread asks it after these events, and is answered that it is accepted: so it goes in each run from there
abbrev pub AcceptedBatchesGo : EndpointJob → Type 0
AcceptedBatchesGo job =
    (before later : List (EventAt OtherCall)) (event : EventAt OtherCall) (name : AcceptedName) (batch : BatchRequest)
    → AreAmong job (before ++ event ∷ later) → IsAccepted job before event name
    → batch_of job.settings (plain_said (site_of job name.from) (plain_of (after_all job before)) name.ask)
    ≡ Some batch
    → BatchGoes job (before ++ event ∷ later) (request_name name.from name.to name.number) batch

-- ---- a batch to the local node

-- all of its operations act, and then what the words were and the tag are written into the block
pub record ActsHere (job : EndpointJob) (events : List (EventAt OtherCall)) (event : EventAt OtherCall) (node : ℕ)
    (batch : BatchRequest) : Type 0 where
  pub ops : ops_at job (after_all job events) event node ≡ batch.ops
  pub writes :
      let segment = segment_at job (after_all job events) node in
      let block : Write = record {
        offset = batch.local;
        bytes = block_of (olds_of segment batch.ops) batch.tag;
      } in
      writes_at (world_after job (after_all job events) event) node
      ≡ (writes_at (after_all job events) node ++ changes_of segment batch.ops) ++ block ∷ []

-- so it is in the call, where a thread asks it of its own node, and is answered that it ran
abbrev pub OwnBatchesAct : EndpointJob → Type 0
OwnBatchesAct job =
    (events : List (EventAt OtherCall)) (now node : ℕ) (ask : Ask) (batch : BatchRequest) → AreAmong job events
    → let world = after_all job events in
    batch_of job.settings (plain_said (site_of job node) (plain_of world) ask) ≡ Some batch
    → world_answer job world (timed_event now (Asks node ask)) ≡ OfNode (OfRequest asked.Ran)
    → ActsHere job events (timed_event now (Asks node ask)) node batch

-- ---- the history of a word

-- a place of a word, which only operations of batches write in this run
pub record IsWord (job : EndpointJob) (events : List (EventAt OtherCall)) (node offset : ℕ) : Type 0 where
  pub inside : offset + 8 ≤ job.settings.segment
  pub aligned : offset % 8 ≡ 0
  pub only : Always job (OnlyBatches job node offset) events

-- the operations of all batches that ran at the node in this run, in the order in which they ran
abbrev pub all_ops_at : EndpointJob → List (EventAt OtherCall) → (node : ℕ) → List WordOp
all_ops_at job events node = ops_in job events (at_the_opening job.settings) node

-- the word is what all operations on it made of 0, in the order in which their batches ran
abbrev pub WordsAreMade : EndpointJob → Type 0
WordsAreMade job =
    (events : List (EventAt OtherCall)) (node offset : ℕ) → AreAmong job events → IsWord job events node offset
    → word_in (segment_at job (after_all job events) node) offset
    ≡ made_by (on_word offset (all_ops_at job events node))

-- each operation of a batch that runs then finds what all earlier ones made of the word: those of the batches before,
-- and those before it in its own batch
abbrev pub OldsAreMade : EndpointJob → Type 0
OldsAreMade job =
    (events : List (EventAt OtherCall)) (next : EventAt OtherCall) (node offset place : ℕ) (word : WordOp)
    → AreAmong job events → IsWord job events node offset
    → let world = after_all job events in
    let ops = ops_at job world next node in
    slice_get ops place ≡ Some word → word.offset ≡ offset
    → slice_get (olds_of (segment_at job world node) ops) place
    ≡ Some (made_by (on_word offset (all_ops_at job events node ++ take place ops)))

-- ---- all of them

-- the laws of batches hold in every run of the job of these settings, this table and these handlers
pub record AtomicsHold (settings : Parameters) (table : List (Option Entry)) (meaning : Meaning) : Type 0 where
  pub said : BatchesAreSaid settings
  pub goes : BatchesGo (job_of settings table meaning)
  pub accepted : AcceptedBatchesGo (job_of settings table meaning)
  pub own : OwnBatchesAct (job_of settings table meaning)
  pub word : WordsAreMade (job_of settings table meaning)
  pub olds : OldsAreMade (job_of settings table meaning)

-- so it is of each job with settings in range and lawful handlers that has batches: both handlers are registered, and
-- run as `serve` does
abbrev pub InEveryServingJob : (Parameters → List (Option Entry) → Meaning → Type 0) → Type 0
InEveryServingJob law =
    (settings : Parameters) (table : List (Option Entry)) (meaning : Meaning)
    → AreInRange settings → IsLawfulMeaning meaning → HasBatches table → ServesBatches meaning
    → law settings table meaning
