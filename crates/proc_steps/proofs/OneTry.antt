-- A try that ends its step by one part.
use Rattle.std.proofs.Common.{◌≡◌, Bool, true, false, true≢false, cond, ◌&&◌, map, Option, None, Some, refl}
use Rattle.std.specs.Prelude.{is_none}
use Rattle.std.specs.Option.{option_to_list}
use Rattle.part_handlers.specs.Runs.{Meaning}
use Rattle.spec_node.specs.Record.{Node}
use Rattle.node_rules.specs.EndpointLocal.{EndpointLocal, IsEndpointKept}
use Rattle.node_rules.specs.declared.answer.Answer.{Answer}
use Rattle.node_endpoint.specs.EndpointState.{EndpointState, EndpointStands, job_here}
use Rattle.law_traces.specs.Actions.{Part, step_part_of}
use Rattle.law_traces.specs.Outgoing.{slot_of_packet, StaysWell}
use Rattle.law_traces.specs.Turn.{events_of, first_answer, node_run, node_sends}
use Rattle.law_traces.specs.declared.script_answer.ScriptAnswer.{ScriptAnswer}
use Rattle.proc_steps.specs.declared.trial.Trial.{Trial}
use Rattle.proc_steps.specs.declared.trial.Tried.{Tried}

pub one_part : (part : Part) (began : Option Answer) → step_part_of part part began ≡ part
one_part part None = refl
one_part part (Some answer) = refl

pub none_begun : (starts first moved : Bool) (answer began : Option Answer) (ended : Option ScriptAnswer)
    → is_none ended ≡ false
    → None ≡ cond {A = Option Answer} (starts && first && is_none ended) answer
    (cond {A = Option Answer} (moved && is_none ended) began None)
none_begun starts first moved answer began None e = absurd (true≢false e)
none_begun true true true answer began (Some end) e = refl
none_begun true true false answer began (Some end) e = refl
none_begun true false true answer began (Some end) e = refl
none_begun true false false answer began (Some end) e = refl
none_begun false first true answer began (Some end) e = refl
none_begun false first false answer began (Some end) e = refl

pub never_begun : (moved : Bool) (ended : Option ScriptAnswer) → is_none ended ≡ false
    → cond {A = Option Answer} (moved && is_none ended) None None ≡ None
never_begun true None e = refl
never_begun false None e = refl
never_begun true (Some end) e = refl
never_begun false (Some end) e = refl

-- what a try did that makes the calls of this part
abbrev pub DoesPart : (meaning : Meaning) (old : EndpointState) (trial : Trial) (node : Node EndpointLocal) (tried : Tried)
    (begun : Option Answer → Option Answer) (new : EndpointState) → Part → Type 0
DoesPart meaning old trial node tried begun new part =
    let job = job_here meaning old in
    let events = events_of trial.thread part.calls in
    EndpointStands new (node_run job old.core.me trial.time events node)
    × (option_to_list tried.sent ≡ map slot_of_packet (node_sends job old.core.me trial.time events node))
    × StaysWell job (IsEndpointKept job.settings) old.core.me trial.time events node
    × (tried.ended ≡ part.ended)
    × (tried.began ≡ begun (first_answer job old.core.me trial.thread trial.time part.calls node))
