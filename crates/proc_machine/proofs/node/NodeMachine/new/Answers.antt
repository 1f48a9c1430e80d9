-- A machine that did nothing.
use Rattle.std.proofs.Common.{List, ◌∙◌, subst, sym}
use Rattle.wire_message.specs.Parameters.{Parameters}
use Rattle.spec_node.specs.Record.{opening_node}
use Rattle.spec_node.specs.declared.answer.SlotRef.{SlotRef}
use Rattle.node_rules.specs.EndpointLocal.{nothing_begun}
use Rattle.node_endpoint.specs.EndpointState.{EndpointStands}
use Rattle.proc_machine.specs.Cursors.{progress_of_all}
use Rattle.proc_machine.specs.Kept.{IsMachine}
use Rattle.proc_machine.specs.NodeState.{NodeStands, opening_state}
use Rattle.proc_machine.proofs.Opening.{opened, opened_is, opened_stands}
use Rattle.proc_machine.proofs.node.NodeMachine.new.Goals as goal

pub invariant_of-result : goal.invariant_of-result
invariant_of-result c =
    subst (λ (slots : List SlotRef). IsMachine (record (opened c.args.job.now c.in_ok-endpoint.endpoint
    c.collectives_of.result (progress_of_all c.in_ok-cursors.cursors.items)) { outgoing = slots })) (sym c.none.ensures)
    (opened_is c.args.job.now c.args.me c.in_ok-endpoint.endpoint c.collectives_of.result
    (progress_of_all c.in_ok-cursors.cursors.items)
    c.requires.job (record {
      settings_are = c.in_ok-endpoint.ensures.node.settings_are ∙ c.settings.ensures;
      me_is = c.in_ok-endpoint.ensures.node.me_is;
      table_is = c.in_ok-endpoint.ensures.node.table_is ∙ c.table.ensures;
    })
    (subst (λ (settings : Parameters).
    EndpointStands c.in_ok-endpoint.endpoint (opening_node (nothing_begun settings))) c.settings.ensures
    c.in_ok-endpoint.ensures.stands) c.in_ok-cursors.ensures c.collectives_of.ensures)

pub returns : goal.returns
returns c =
    subst (λ (slots : List SlotRef). NodeStands (record (opened c.args.job.now c.in_ok-endpoint.endpoint
    c.collectives_of.result (progress_of_all c.in_ok-cursors.cursors.items)) { outgoing = slots })
    (opening_state c.args.job.now c.args.me)) (sym c.none.ensures)
    (opened_stands c.args.job.now c.args.me c.in_ok-endpoint.endpoint c.collectives_of.result
    (progress_of_all c.in_ok-cursors.cursors.items)
    c.requires.job (record {
      settings_are = c.in_ok-endpoint.ensures.node.settings_are ∙ c.settings.ensures;
      me_is = c.in_ok-endpoint.ensures.node.me_is;
      table_is = c.in_ok-endpoint.ensures.node.table_is ∙ c.table.ensures;
    })
    (subst (λ (settings : Parameters).
    EndpointStands c.in_ok-endpoint.endpoint (opening_node (nothing_begun settings))) c.settings.ensures
    c.in_ok-endpoint.ensures.stands) c.in_ok-cursors.ensures c.collectives_of.ensures)
