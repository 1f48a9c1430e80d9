-- A delivery and a tick, or nothing.
use Rattle.std.proofs.Common.{◌++◌, List, ap, ◌∙◌, option_copied, option_to_list}
use Rattle.spec_node.specs.declared.answer.SlotRef.{SlotRef}
use Rattle.proc_machine.proofs.Happening.{both_happen, still_happens, none_got}
use Rattle.proc_machine.proofs.parts.before_try.Goals as goal

pub returns-then-polls-clause-happen : goal.returns-then-polls-clause-happen
returns-then-polls-clause-happen g c =
    both_happen (g.H.Handlers.meaning c.args.handlers.now) c.args.endpoint.now c.deliver.new.endpoint
    c.tick.new.endpoint c.args.now c.args.endpoint.now.core.settings.version c.args.polls
    (option_copied c.args.got) c.deliver.result c.tick.result c.add-then-polls.new.self c.if-polls.true
    (c.add-then-polls.ensures.slots ∙ ap (λ (l : List SlotRef). l ++ option_to_list c.tick.result)
    (c.add.ensures.slots ∙ ap (λ (l : List SlotRef). l ++ option_to_list c.deliver.result) c.none-outgoing.ensures))
    c.deliver.ensures.happen c.tick.ensures

pub returns-else-polls-clause-happen : goal.returns-else-polls-clause-happen
returns-else-polls-clause-happen g c =
    still_happens (g.H.Handlers.meaning c.args.handlers.now) c.args.endpoint.now c.args.now
    c.args.endpoint.now.core.settings.version c.args.polls (option_copied c.args.got) c.none-outgoing.result
    c.if-polls.false c.none-outgoing.ensures

pub returns-else-polls-clause-bytes : goal.returns-else-polls-clause-bytes
returns-else-polls-clause-bytes g c = none_got c.args.got c.args.polls c.if-polls.false c.requires
