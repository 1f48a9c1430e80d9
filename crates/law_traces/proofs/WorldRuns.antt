-- Entries of endpoints' nodes that can go in an order are a run of the world, with all that holds of every run.
use Rattle.std.proofs.Common.{sym, ◌≡◌, ℕ, ◌≤◌, List, [], Option, Some, refl, ap, ◌∙◌, subst, arith, length, map}
use Rattle.std.proofs.Common.{subst₂}
use Rattle.std.specs.List.{slice_get}
use Rattle.wire_message.specs.Parameters.{Parameters}
use Rattle.part_handlers.specs.declared.table.Entry.{Entry as TableEntry}
use Rattle.part_handlers.specs.Runs.{Meaning}
use Rattle.spec_node.specs.Held.{held_buffers}
use Rattle.spec_node.proofs.Holding.{held_nothing}
use Rattle.spec_network.specs.World.{EventAt}
use Rattle.spec_network.specs.Headline.{IsGreatest}
use Rattle.spec_network.proofs.Headline.{headline, run_greatest}
use Rattle.node_rules.specs.EndpointLocal.{EndpointLocal, IsEndpointKept, nothing_begun}
use Rattle.node_rules.specs.EndpointRules.{OtherCall, at_the_opening, job_of}
use Rattle.node_rules.proofs.Kept.{opening_kept}
use Rattle.node_rules.proofs.Sound.{rules_sound}
use Rattle.law_transfers.proofs.Laws.{transfers_hold}
use Rattle.law_barrier.proofs.Laws.{barrier_holds}
use Rattle.base_turns.specs.declared.entry.Entry.{Entry}
use Rattle.base_turns.specs.Prefixes.{start, full, GoesOn}
use Rattle.base_turns.specs.Replay.{Steps}
use Rattle.law_traces.specs.Scripts.{Scripts}
use Rattle.law_traces.specs.Actions.{Reading, OwnScripts, scripts_of, ActionsMay}
use Rattle.law_traces.specs.Turn.{MachineState}
use Rattle.law_traces.specs.Order.{RankedMachine, NodeEntry, own_entries, job_steps, GoInOrder}
use Rattle.law_traces.specs.Merged.{nodes_from, order_of, Carries, with_machine_of}
use Rattle.law_traces.specs.Fitting.{KeptFits, CallFits, CollectivesFit, IsFittingJob}
use Rattle.law_traces.specs.WorldRun.{IsWorldRun, endpoint_job, opening_machines, joined_events}
use Rattle.law_traces.proofs.Turns.{AreWritten}
use Rattle.law_traces.proofs.Runs.{run_from_opening}
use Rattle.law_traces.proofs.Acting.{are_written}
use Rattle.law_traces.proofs.Carrying.{goes_back, start_same, full_same, order_same}
use Rattle.law_traces.proofs.Prefixing.{after_own, merged_order, merged_own}
use Rattle.law_traces.proofs.Mosts.{run_most}
use Rattle.law_traces.proofs.Speaking.{EventFits, are_spoken, call_event_fits, opening_fits}

-- the entries are a run of the world
world_run : {Own : Type 0} (settings : Parameters) (table : List (Option TableEntry)) (meaning : Meaning)
    (scripts : Scripts EndpointLocal Own) (Written : Own → Type 0) (own : ℕ → Own) (items : List NodeEntry)
    → IsFittingJob settings table meaning
    → AreWritten (endpoint_job settings table meaning scripts) KeptFits EventFits Written
    → ((node : ℕ) → Written (own node))
    → GoInOrder (endpoint_job settings table meaning scripts) (opening_machines settings own) [] items
    → (turns : List (List (EventAt OtherCall))) × IsWorldRun settings table meaning scripts own items turns
world_run {Own} settings table meaning scripts Written own items fitting calls written go =
    let job = endpoint_job settings table meaning scripts in
    let sound = rules_sound settings table meaning fitting.range fitting.lawful in
    let kept : (node : ℕ) → IsEndpointKept settings node (nothing_begun settings) =
    λ node. opening_kept settings node in
    let it = run_from_opening job (IsEndpointKept settings) KeptFits EventFits Written (λ node. nothing_begun settings)
    own items
    (record { sound = sound; spoken = are_spoken settings table meaning fitting; written = calls })
    kept (λ node. opening_fits settings) written go in
    let R = it.1 in (
      it.0,
      record {
        turns_are = R.turns_are;
        among = R.among;
        nodes = λ node. R.nodes node
            ∙ ap (λ (m : MachineState EndpointLocal Own). m.node)
            (after_own job items (opening_machines settings own) node);
        most = λ node. subst
            (IsGreatest (job_of settings table meaning) (joined_events it.0) (at_the_opening settings) node)
            (run_most job node items it.0 (opening_machines settings own) (at_the_opening settings) (λ other. 0)
            R.turns_are (λ other. refl) (none node))
            (run_greatest (job_of settings table meaning) (λ other. nothing_begun settings) (joined_events it.0) node);
        answers = R.answers;
        sent_is = R.sent_is;
        headline = headline (job_of settings table meaning) (IsEndpointKept settings) (λ node. nothing_begun settings)
            (joined_events it.0) sound kept R.among;
        transfers = transfers_hold settings table meaning fitting.range fitting.lawful;
        barrier = barrier_holds settings table meaning fitting.range fitting.lawful;
      },
    )
  where
    none : (node : ℕ) → held_buffers settings node (at_the_opening settings node) ≤ 0
    none node = let e = held_nothing settings node (nothing_begun settings) in omega (arith, e)

-- of scripts whose actions are read as forms
pub scripts_run : {Action : Type 0} (settings : Parameters) (table : List (Option TableEntry)) (meaning : Meaning)
    (form : Reading EndpointLocal Action) (own : ℕ → OwnScripts Action) (items : List NodeEntry)
    → IsFittingJob settings table meaning
    → ((node : ℕ) → ActionsMay KeptFits CallFits CollectivesFit form (own node))
    → GoInOrder (endpoint_job settings table meaning (scripts_of form)) (opening_machines settings own) [] items
    → (turns : List (List (EventAt OtherCall)))
    × IsWorldRun settings table meaning (scripts_of form) own items turns
scripts_run settings table meaning form own items fitting acts go =
    world_run settings table meaning (scripts_of form) (ActionsMay KeptFits CallFits CollectivesFit form) own items fitting
    (are_written (endpoint_job settings table meaning (scripts_of form)) KeptFits CallFits CollectivesFit EventFits form refl
    call_event_fits) acts go

-- of the order of a merge
pub merged_run : {Action : Type 0} (settings : Parameters) (table : List (Option TableEntry)) (meaning : Meaning)
    (form : Reading EndpointLocal Action) (own : ℕ → OwnScripts Action) (traces : List (List Entry)) (list : List ℕ)
    → IsFittingJob settings table meaning
    → ((node : ℕ) → ActionsMay KeptFits CallFits CollectivesFit form (own node))
    → length traces ≤ settings.nodes
    → let nodes = nodes_from (opening_machines settings own) 0 traces in
    GoesOn (job_steps (endpoint_job settings table meaning (scripts_of form))) nodes (start nodes) list (full nodes)
    → (turns : List (List (EventAt OtherCall)))
    × IsWorldRun settings table meaning (scripts_of form) own (order_of nodes (start nodes) list) turns
    × ((node : ℕ) (trace : List Entry) → slice_get traces node ≡ Some trace
    → own_entries node (order_of nodes (start nodes) list) ≡ trace)
merged_run settings table meaning form own traces list fitting acts few go =
    let job = endpoint_job settings table meaning (scripts_of form) in
    let machines = opening_machines settings own in
    let nodes = nodes_from machines 0 traces in
    let it = scripts_run settings table meaning form own (order_of nodes (start nodes) list) fitting acts
    (merged_order job machines traces list few go) in
    (it.0, it.1, λ node trace there. merged_own job machines traces list node trace there go)

-- of states with more in them
pub states_run : {Action State : Type 0} (settings : Parameters) (table : List (Option TableEntry)) (meaning : Meaning)
    (form : Reading EndpointLocal Action) (become : RankedMachine EndpointLocal (OwnScripts Action) → State)
    (steps : Steps State) (own : ℕ → OwnScripts Action) (traces : List (List Entry)) (list : List ℕ)
    → IsFittingJob settings table meaning
    → ((node : ℕ) → ActionsMay KeptFits CallFits CollectivesFit form (own node))
    → length traces ≤ settings.nodes
    → Carries become (job_steps (endpoint_job settings table meaning (scripts_of form))) steps
    → let nodes = map (with_machine_of become) (nodes_from (opening_machines settings own) 0 traces) in
    GoesOn steps nodes (start nodes) list (full nodes)
    → (turns : List (List (EventAt OtherCall)))
    × IsWorldRun settings table meaning (scripts_of form) own (order_of nodes (start nodes) list) turns
    × ((node : ℕ) (trace : List Entry) → slice_get traces node ≡ Some trace
    → own_entries node (order_of nodes (start nodes) list) ≡ trace)
states_run settings table meaning form become steps own traces list fitting acts few carries go =
    let nodes = nodes_from (opening_machines settings own) 0 traces in
    let same : order_of (map (with_machine_of become) nodes) (start (map (with_machine_of become) nodes)) list
    ≡ order_of nodes (start nodes) list =
    order_same become nodes (start (map (with_machine_of become) nodes)) list
    ∙ ap (λ (prefix : List ℕ). order_of nodes prefix list) (start_same become nodes) in
    let gone = subst₂ (λ (prefix to : List ℕ). GoesOn steps (map (with_machine_of become) nodes) prefix list to)
    (start_same become nodes) (full_same become nodes) go in
    let it = merged_run settings table meaning form own traces list fitting acts few
    (goes_back become (job_steps (endpoint_job settings table meaning (scripts_of form))) steps carries nodes list
    (start nodes) (full nodes) gone) in (
      it.0,
      subst (λ (items : List NodeEntry). IsWorldRun settings table meaning (scripts_of form) own items it.0) (sym same)
          it.1,
      λ node trace there. ap (own_entries node) same ∙ it.2 node trace there,
    )
