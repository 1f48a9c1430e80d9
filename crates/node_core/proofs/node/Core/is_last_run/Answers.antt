use Rattle.std.proofs.Common.{subst, ◌<◌}
use Rattle.part_window.specs.declared.replies.Judged.TheVariants as judged
use Rattle.node_core.proofs.Knowing.{last_found}
use Rattle.node_core.proofs.node.Core.is_last_run.Goals as goal

pub returns-in-Duplicate : goal.returns-in-Duplicate
returns-in-Duplicate c =
    last_found c.args.self.now _ c.args.from c.args.slot c.args.number judged.Duplicate c.judge.result c.self.view_is
    c.in-Duplicate.is (subst (λ nodes. c.args.from < nodes) c.nodes.ensures.nodes c.if-from-nodes.false)
    c.if-from-self.false
    (subst (λ slots. c.args.slot < slots) c.slots_of.ensures c.if-slot-slots_of.false) c.judge.ensures

pub returns-in-New : goal.returns-in-New
returns-in-New c =
    last_found c.args.self.now _ c.args.from c.args.slot c.args.number judged.New c.judge.result c.self.view_is
    c.in-New.is (subst (λ nodes. c.args.from < nodes) c.nodes.ensures.nodes c.if-from-nodes.false) c.if-from-self.false
    (subst (λ slots. c.args.slot < slots) c.slots_of.ensures c.if-slot-slots_of.false) c.judge.ensures

pub returns-in-Stale : goal.returns-in-Stale
returns-in-Stale c =
    last_found c.args.self.now _ c.args.from c.args.slot c.args.number judged.Stale c.judge.result c.self.view_is
    c.in-Stale.is (subst (λ nodes. c.args.from < nodes) c.nodes.ensures.nodes c.if-from-nodes.false)
    c.if-from-self.false
    (subst (λ slots. c.args.slot < slots) c.slots_of.ensures c.if-slot-slots_of.false) c.judge.ensures
