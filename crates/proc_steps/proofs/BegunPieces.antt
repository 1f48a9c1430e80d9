-- The try of a step that begins the pieces of a plan: its calls are those of the beginning, and none of them sends.
use Rattle.std.proofs.Common.{◌≡◌, ℕ, ◌≤◌, length, List, [], ◌∷◌, ◌++◌, map, None, Some, refl, sym, ap, ◌∙◌, subst}
use Rattle.std.specs.List.{AllByRecursion}
use Rattle.wire_message.specs.Parameters.{Parameters}
use Rattle.part_handlers.specs.Runs.{Meaning, IsLawfulMeaning}
use Rattle.spec_node.specs.Invariant.{NodeInvariant}
use Rattle.spec_node.specs.NodeStep.{Does, IsAllSound}
use Rattle.spec_node.specs.Record.{Node}
use Rattle.spec_node.proofs.NodeEvents.{event_keeps}
use Rattle.node_rules.specs.EndpointLocal.{EndpointLocal, IsEndpointKept}
use Rattle.node_rules.specs.EndpointRules.{OnTransfers, RecordEvent, job_of}
use Rattle.node_rules.specs.TransferCalls.{TransferCall, BeginImplicit, RegionBegin, RegionEnd}
use Rattle.node_rules.specs.Called.{Meant, Performs}
use Rattle.node_rules.proofs.Sound.{rules_sound}
use Rattle.node_endpoint.specs.EndpointState.{EndpointState, EndpointStands, job_here}
use Rattle.node_vis.specs.Beginning.{BeginCall, beginnings, calls_made, in_region, on_transfers}
use Rattle.node_vis.specs.Beginning.{transfer_of, vis_answer}
use Rattle.node_vis.specs.Plans.{PlanState}
use Rattle.node_vis.specs.declared.shapes.Piece.{Piece}
use Rattle.node_vis.specs.declared.shapes.Vis.{Vis}
use Rattle.node_vis.specs.declared.shapes.Vis.TheVariants as vis
use Rattle.text_steps.specs.Scripts.{IsStep}
use Rattle.text_steps.specs.declared.steps.ScriptStep.{ScriptStep}
use Rattle.text_steps.specs.declared.steps.ScriptStep.TheVariants as step
use Rattle.text_vis.specs.declared.vis.VisText.{VisText}
use Rattle.text_steps.proofs.VisLaws.{vis_from, vis_settings}
use Rattle.node_endpoint.specs.Sites.{ThreadCall, node_in_the_end, node_then}
use Rattle.std.specs.Prelude.{false, is_none, is_some}
use Rattle.law_traces.specs.Actions.{FormMay, Part, step_part_of}
use Rattle.law_traces.specs.Outgoing.{slot_of_packet, StaysWell}
use Rattle.law_traces.specs.Scripts.{TryContext}
use Rattle.law_traces.specs.Turn.{events_of, first_answer, node_run, node_sends}
use Rattle.law_traces.specs.declared.script_answer.ScriptAnswer.TheVariants as said
use Rattle.proc_steps.specs.Forms.{IsJobStep, in_one_try, site_of, calls_of_all, plan_form}
use Rattle.proc_steps.specs.Tries.{FormTrial, HasBegun, begun_by, TriesForm, context_here, read_as}
use Rattle.proc_steps.specs.declared.trial.Trial.{Trial}
use Rattle.proc_steps.specs.declared.trial.Tried.{Tried}
use Rattle.proc_steps.proofs.OneTry.{DoesPart, none_begun, one_part}
use Rattle.proc_steps.proofs.Trying.{goes_so, well_of}

-- ---- calls on transfers, one after another

-- those of a thread
abbrev pub all_on : (thread : ℕ) → List TransferCall → List ThreadCall
all_on thread calls = map (on_transfers thread) calls

-- the events that they are
abbrev pub events_on : (thread : ℕ) → List TransferCall → List RecordEvent
events_on thread calls = events_of thread (calls_of_all (all_on thread calls))

-- the record that they leave
end_is : (at : TryContext) (node : Node EndpointLocal) (calls : List TransferCall)
    → node_in_the_end (site_of at) node (all_on at.thread calls)
    ≡ node_run (job_of at.settings at.table at.meaning) at.me at.now (events_on at.thread calls) node
end_is at node [] = refl
end_is at node (call ∷ calls) = end_is at (node_then (site_of at) node (on_transfers at.thread call)) calls

-- they send nothing
none_sent : (at : TryContext) (node : Node EndpointLocal) (calls : List TransferCall)
    → node_sends (job_of at.settings at.table at.meaning) at.me at.now (events_on at.thread calls) node ≡ []
none_sent at node [] = refl
none_sent at node (call ∷ calls) = none_sent at (node_then (site_of at) node (on_transfers at.thread call)) calls

-- the invariant holds between them
all_well : (at : TryContext) (node : Node EndpointLocal) (calls : List TransferCall)
    → IsAllSound (job_of at.settings at.table at.meaning).behaviour (IsEndpointKept at.settings)
    → NodeInvariant at.settings (IsEndpointKept at.settings) at.me node
    → StaysWell (job_of at.settings at.table at.meaning) (IsEndpointKept at.settings) at.me at.now
    (events_on at.thread calls) node
all_well at node [] sound well = well
all_well at node (call ∷ calls) sound well = (
  well,
  all_well at (node_then (site_of at) node (on_transfers at.thread call)) calls sound
      (event_keeps (job_of at.settings at.table at.meaning) (IsEndpointKept at.settings) at.me node at.now
      (Does at.thread (OnTransfers call)) sound well tt),
)

-- ---- the calls of a beginning

-- the pieces, and the end of the region
abbrev pieces_then : PlanState → (register : ℕ) → List Piece → List TransferCall
pieces_then plan register [] = RegionEnd register ∷ []
pieces_then plan register (piece ∷ pieces) =
    BeginImplicit (transfer_of plan piece) ∷ pieces_then plan register pieces

pieces_are : (plan : PlanState) (thread register : ℕ) (pieces : List Piece)
    → beginnings plan thread pieces ++ on_transfers thread (RegionEnd register) ∷ []
    ≡ all_on thread (pieces_then plan register pieces)
pieces_are plan thread register [] = refl
pieces_are plan thread register (piece ∷ pieces) =
    ap (λ (later : List ThreadCall). on_transfers thread (BeginImplicit (transfer_of plan piece)) ∷ later)
    (pieces_are plan thread register pieces)

-- each call is one on transfers
abbrev pub AreOnTransfers : (thread : ℕ) → List ThreadCall → Type 0
AreOnTransfers thread calls = (on : List TransferCall) × (calls ≡ all_on thread on)

region_are : (asked : BeginCall) (pieces : List Piece) → AreOnTransfers asked.thread (in_region asked pieces)
region_are asked pieces = (
  RegionBegin ∷ pieces_then asked.plan asked.register pieces,
  ap (λ (later : List ThreadCall). on_transfers asked.thread RegionBegin ∷ later)
      (pieces_are asked.plan asked.thread asked.register pieces),
)

made_are : (asked : BeginCall) (answer : Vis) → AreOnTransfers asked.thread (calls_made asked answer)
made_are asked vis.Whole = region_are asked _
made_are asked (vis.Part next) = region_are asked _
made_are asked vis.TooMany = region_are asked _
made_are asked vis.Nested = (RegionBegin ∷ [], refl)
made_are asked (vis.Forbidden why) = (RegionBegin ∷ [], refl)
made_are asked vis.NoMemory = ([], refl)

-- what may be said of each call on transfers may be said of these
made_may : (May : Meant → Type 0) → ((call : TransferCall) → May (Performs (OnTransfers call)))
    → (asked : BeginCall) (answer : Vis) → AllByRecursion May (calls_of_all (calls_made asked answer))
made_may May each asked answer =
    let are = made_are asked answer in
    subst (λ (calls : List ThreadCall). AllByRecursion May (calls_of_all calls)) (sym are.1) (of_all are.0)
  where
    of_all : (on : List TransferCall) → AllByRecursion May (calls_of_all (all_on asked.thread on))
    of_all [] = tt
    of_all (call ∷ later) = (each call, of_all later)

pub plan_may : (May : Meant → Type 0) → ((call : TransferCall) → May (Performs (OnTransfers call)))
    → (plan : PlanState) (from register : ℕ) (at : TryContext) (node : Node EndpointLocal)
    → FormMay May (plan_form plan from register at node)
plan_may May each plan from register at node =
    let asked : BeginCall = record { plan = plan; thread = at.thread; from = from; register = register } in
    let may = made_may May each asked (vis_answer (site_of at) node asked) in
    (may, may)

-- what such calls do to a node, as the events of a try
pub record DoAsEvents (at : TryContext) (node : Node EndpointLocal) (calls : List ThreadCall) : Type 0 where
  pub leaves : node_in_the_end (site_of at) node calls
      ≡ node_run (job_of at.settings at.table at.meaning) at.me at.now
      (events_of at.thread (calls_of_all calls)) node
  pub sends : node_sends (job_of at.settings at.table at.meaning) at.me at.now
      (events_of at.thread (calls_of_all calls)) node
      ≡ []
  pub well : StaysWell (job_of at.settings at.table at.meaning) (IsEndpointKept at.settings) at.me at.now
      (events_of at.thread (calls_of_all calls)) node

pub made_do : (at : TryContext) (node : Node EndpointLocal) (asked : BeginCall) (answer : Vis)
    → asked.thread ≡ at.thread
    → IsAllSound (job_of at.settings at.table at.meaning).behaviour (IsEndpointKept at.settings)
    → NodeInvariant at.settings (IsEndpointKept at.settings) at.me node
    → DoAsEvents at node (calls_made asked answer)
made_do at node asked answer same sound well =
    let are = subst (λ (thread : ℕ). AreOnTransfers thread (calls_made asked answer)) same (made_are asked answer) in
    subst (DoAsEvents at node) (sym are.1) (record {
      leaves = end_is at node are.0;
      sends = none_sent at node are.0;
      well = all_well at node are.0 sound well;
    })

-- ---- the step

-- what a beginning asks of the plan of a step of a job, and of the piece to begin from
pub may_begin : (settings : Parameters) (one : ScriptStep) (vis found : VisText) → IsJobStep settings one
    → one ≡ step.Vis vis → found ≡ vis
    → (found.words.from ≤ length found.plan.pieces) × (found.plan.settings ≡ settings)
may_begin settings one vis found is_step is same =
    let scope = is_step.0 in
    let text = subst (IsStep scope) is is_step.2 in
    subst (λ (these : VisText). (these.words.from ≤ length these.plan.pieces) × (these.plan.settings ≡ settings))
    (sym same) (vis_from scope vis text, vis_settings scope vis text ∙ is_step.1)

-- ---- the try

-- the endpoint that was lent is the one that the caller leaves
pub pieces_tried : (meaning : Meaning) (old new last : EndpointState) (trial : Trial) (plan : PlanState)
    (from register : ℕ) (answer : Vis) → IsLawfulMeaning meaning
    → HasBegun old (context_here meaning old trial.thread trial.time)
    (record { plan = plan; thread = trial.thread; from = from; register = register }) answer new
    → last ≡ new
    → TriesForm meaning old
    (read_as trial (plan_form plan from register (context_here meaning old trial.thread trial.time)))
    (record { sent = None; ended = Some (said.Vis answer); began = None }) last
pieces_tried meaning old new last trial plan from register answer lawful B is =
    subst (TriesForm meaning old form tried) (sym is)
    (goes_so meaning old new form tried (record { settings = B.settings; me_is = B.me_is; table = B.table })
    (λ node stands.
    let does = made_do at node asked answer refl
    (rules_sound old.core.settings old.core.table meaning stands.core.range lawful) (well_of old node stands) in
    subst (DoesPart meaning old trial node tried (begun_by (form.form node) trial.began tried.ended) new)
    (sym (one_part (part_at (vis_answer (site_of at) node asked)) trial.began))
    (subst (λ (one : Vis). DoesPart meaning old trial node tried
    (begun_by (in_one_try (part_at one)) trial.began tried.ended) new (part_at one)) (B.answered node stands) (
      subst (EndpointStands new) does.leaves (B.leaves node stands),
      sym (ap (map slot_of_packet) does.sends),
      does.well,
      refl,
      none_begun false (is_none trial.began) (is_some (step_part_of (part_at answer) (part_at answer) trial.began).next)
          (first_answer (job_here meaning old) old.core.me trial.thread trial.time (part_at answer).calls node)
          trial.began tried.ended refl,
    ))))
  where
    at : TryContext
    at = context_here meaning old trial.thread trial.time

    asked : BeginCall
    asked = record { plan = plan; thread = trial.thread; from = from; register = register }

    form : FormTrial
    form = read_as trial (plan_form plan from register at)

    tried : Tried
    tried = record { sent = None; ended = Some (said.Vis answer); began = None }

    part_at : Vis → Part
    part_at one = record { calls = calls_of_all (calls_made asked one); ended = Some (said.Vis one); next = None }
