use Rattle.std.proofs.Common.{◌≡◌, inl, true, false, sym, ap, subst, ◌∙◌, ltb-true, nat_lt, nat_le, ◌+◌}
use Rattle.std.proofs.lemmas.Bool.{and_parts}
use Rattle.text_job.specs.JobText.{IsJob}
use Rattle.text_job.specs.declared.job.Job.{Job as JobState}
use Rattle.cli_commands.specs.JobReads.{GivesJob}
use Rattle.cli_commands.specs.NodeCommand.{has_node_place}
use Rattle.cli_commands.specs.declared.ending.CommandEnd.TheVariants as ends
use Rattle.cli_commands.proofs.LastLine.{alone, says_alone}
use Rattle.cli_commands.proofs.NodeCommand.{no_node_told, node_told, weak_node}
use Rattle.cli_commands.proofs.node.run_read.Goals as goal

pub returns-then-not-has_node_place : goal.returns-then-not-has_node_place
returns-then-not-has_node_place g c = λ reading read.
    let address = c.args.address in
    let none : has_node_place address.rank address.port c.args.job.settings.nodes ≡ false =
    ap (has_node_place address.rank address.port) (sym c.nodes.ensures.nodes)
    ∙ (sym c.has_node_place.ensures ∙ c.if-not-has_node_place.true) in
    no_node_told address.rank address.port _ c.args.job _ _ c.say_unrun.result.ended read none
    c.say_unrun.ensures.says

pub returns-in-Ok : goal.returns-in-Ok
returns-in-Ok g c = λ reading read.
    let address = c.args.address in
    let given = subst (λ (j : JobState). GivesJob reading j) (sym c.in-Ok.ensures) read in
    let nodes = c.nodes.ensures.nodes ∙ ap (λ (j : JobState). j.settings.nodes) (sym c.in-Ok.ensures) in
    let place : has_node_place address.rank address.port c.in-Ok.script.settings.nodes ≡ true =
    ap (has_node_place address.rank address.port) (sym nodes) ∙ (sym c.has_node_place.ensures ∙ c.if-not-has_node_place.false) in
    node_told address.rank address.port _ c.in-Ok.script given place _ _ _
    c.run_job_node-end.result.end c.run_job_node-end.result.violated c.run_job_node-end.result.node
    c.say_node-ended.result c.run_job_node-end.ensures c.say_node-ended.ensures

pub returns-in-Err : goal.returns-in-Err
returns-in-Err g c = λ reading read.
    says_alone _ _ _ ends.NoMemory c.say_unrun-in-Err.result.ended (weak_node _ _ _) tt (inl (alone ends.NoMemory))
    c.say_unrun-in-Err.ensures.says

pub run_job_node-end-requires-clause-job : goal.run_job_node-end-requires-clause-job
run_job_node-end-requires-clause-job g c = λ lifetimes outlive. subst IsJob (sym c.in-Ok.ensures) c.requires

-- the node is one of the job's
pub run_job_node-end-requires-clause-rank : goal.run_job_node-end-requires-clause-rank
run_job_node-end-requires-clause-rank g c = λ lifetimes outlive.
    let address = c.args.address in
    let nodes = c.nodes.ensures.nodes ∙ ap (λ (j : JobState). j.settings.nodes) (sym c.in-Ok.ensures) in
    let place : has_node_place address.rank address.port c.in-Ok.script.settings.nodes ≡ true =
    ap (has_node_place address.rank address.port) (sym nodes) ∙ (sym c.has_node_place.ensures ∙ c.if-not-has_node_place.false) in
    ltb-true address.rank c.in-Ok.script.settings.nodes
    (and_parts (nat_lt address.rank c.in-Ok.script.settings.nodes)
    (nat_le (address.port + c.in-Ok.script.settings.nodes) 65536) place).0
