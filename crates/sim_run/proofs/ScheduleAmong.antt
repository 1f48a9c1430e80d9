-- Each event of a schedule whose nodes are there is one of the world.
use Rattle.std.proofs.Common.{◌≡◌, ℕ, suc, ◌<◌, List, [], ◌∷◌, Some, refl, subst}
use Rattle.std.proofs.lemmas.Option.{same_Some}
use Rattle.wire_message.specs.Parameters.{Parameters}
use Rattle.spec_network.specs.World.{Asks, Does, RequestComes, ReplyComes, Ticks, IsAmong}
use Rattle.node_rules.specs.EndpointRules.{Records, RecordsEvent}
use Rattle.text_script.specs.ScriptInvariant.{IsWithin, AreWithin}
use Rattle.sim_world.specs.Settling.{WorldJob}
use Rattle.sim_world.proofs.Among.{AreAmong, both_among, settle_among}
use Rattle.node_vis.specs.Beginning.{calls_made}
use Rattle.node_endpoint.specs.Sites.{ThreadCall}
use Rattle.sim_run.specs.Schedules.{Nodes, scheduled_event, line_events, nodes_after, schedule_events, begin_answer}
use Rattle.sim_run.specs.Schedules.{begin_asked}
use Rattle.sim_run.specs.Schedules.{call_events}
use Rattle.text_script.specs.ScheduledCalls.{meant_by}
use Rattle.sim_run.proofs.CallsAmong.{call_among}
use Rattle.sim_run.proofs.CollectivesAmong.{collective_among}
use Rattle.text_steps.specs.declared.steps.ScheduledEvent.{ScheduledEvent}
use Rattle.text_steps.specs.declared.steps.ScheduledEvent.TheVariants as scheduled
use Rattle.text_steps.specs.declared.steps.TimedEvent.{TimedEvent}
use Rattle.sim_run.specs.RunText.{node_of_event}

-- ---- one event

-- the one event of a line that is no `settle`
pub event_among : (s : Parameters) (w : Records) (e : ScheduledEvent) (x : RecordsEvent) → IsWithin s e
    → scheduled_event w e ≡ Some x → IsAmong s x
event_among s w (scheduled.Call node thread c) x h is =
    subst (IsAmong s) (same_Some _ x is) (call_among s node thread (meant_by (w node).local.core.cells c) h.0)
event_among s w (scheduled.Request from to number) x h is = subst (IsAmong s) (same_Some _ x is) h
event_among s w (scheduled.Reply from to number) x h is = subst (IsAmong s) (same_Some _ x is) h
event_among s w (scheduled.Tick node) x h is = subst (IsAmong s) (same_Some _ x is) h
event_among s w (scheduled.Vis node thread vis) x h is = absurd (cc)
event_among s w (scheduled.Collective node thread call) x h is = absurd (cc)
event_among s w (scheduled.Settle rounds) x h is = absurd (cc)

-- the node on which an event of the world falls is there
pub node_among : (s : Parameters) (e : RecordsEvent) → IsAmong s e → node_of_event e < s.nodes
node_among s (Asks node ask) h = h
node_among s (Does node thread c) h = h
node_among s (RequestComes from to number) h = h.1
node_among s (ReplyComes from to number) h = h.0
node_among s (Ticks node) h = h

-- ---- lines

-- calls of a node that is there
pub calls_among : (s : Parameters) (now node : ℕ) (calls : List ThreadCall) → node < s.nodes
    → AreAmong s (call_events now node calls)
calls_among s now node [] low = tt
calls_among s now node (one ∷ calls) low =
    (call_among s node one.thread one.call low, calls_among s now node calls low)

-- of a line
line_among : (job : WorldJob) (nodes : Nodes) (now : ℕ) (e : ScheduledEvent) → IsWithin job.settings e
    → AreAmong job.settings (line_events job nodes now e)
line_among job nodes now (scheduled.Call node thread c) h =
    (call_among job.settings node thread (meant_by (nodes.group.records node).local.core.cells c) h.0, tt)
line_among job nodes now (scheduled.Request from to number) h = (h, tt)
line_among job nodes now (scheduled.Reply from to number) h = (h, tt)
line_among job nodes now (scheduled.Tick node) h = (h, tt)
line_among job nodes now (scheduled.Vis node thread vis) h =
    let asked = begin_asked thread vis in
    calls_among job.settings now node (calls_made asked (begin_answer job nodes.group.records now node asked)) h.0
line_among job nodes now (scheduled.Collective node thread call) h = collective_among job nodes now node thread call h.0
line_among job nodes now (scheduled.Settle rounds) h = settle_among job now rounds nodes.group.records

-- of the lines of a schedule
pub lines_among : (job : WorldJob) (es : List TimedEvent) (nodes : Nodes) → AreWithin job.settings es
    → AreAmong job.settings (schedule_events job es nodes)
lines_among job [] nodes h = tt
lines_among job (e ∷ es) nodes h =
    both_among job.settings (line_events job nodes e.time e.event) _ (line_among job nodes e.time e.event (h 0 e refl))
    (lines_among job es (nodes_after job nodes e) (λ i x at. h (suc i) x at))
