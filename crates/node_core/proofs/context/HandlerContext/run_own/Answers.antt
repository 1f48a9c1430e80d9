use Rattle.std.proofs.Common.{◌≡◌, Bor, List, Option, refl, ap}
use Rattle.wire_message.specs.Parameters.{Parameters}
use Rattle.part_handlers.specs.declared.table.Entry.{Entry}
use Rattle.part_handlers.specs.Tokens.{arrival_of}
use Rattle.node_core.specs.HandlerContextRuns.{context_run}
use Rattle.node_core.proofs.OwnRuns.{can_run_own, replied_ran, unreplied_ran}
use Rattle.node_core.proofs.context.HandlerContext.run_own.Goals as goal

pub run_own_reply-requires : goal.run_own_reply-requires
run_own_reply-requires g c =
    let same = c.run.ensures.same in
    can_run_own (context_run (g.H.Handlers.meaning c.args.handlers.now) c.args.handler c.args.self.now
    (arrival_of c.args.request)) _ c.in-Some.reply _ _ _ c.requires.own (rw c.in-Some.is at c.run.ensures.ran)
    refl (ap (λ (settings : Bor Parameters). settings.now) same.settings_same)
    (ap (λ (table : Bor (List (Option Entry))). table.now) same.table_same)
    c.requires.ready.sized c.requires.ready.free.unheld c.requires.replies

pub returns-in-Some-clause-ran : goal.returns-in-Some-clause-ran
returns-in-Some-clause-ran g c =
    let meaning = g.H.Handlers.meaning c.args.handlers.now in
    let run = context_run meaning c.args.handler c.args.self.now (arrival_of c.args.request) in
    let same = c.run.ensures.same in
    let settings_is : c.run.new.self.settings.now ≡ c.args.self.now.settings.now =
    ap (λ (settings : Bor Parameters). settings.now) same.settings_same in
    let table_is : c.run.new.self.table.now ≡ c.args.self.now.table.now =
    ap (λ (table : Bor (List (Option Entry))). table.now) same.table_same in
    replied_ran meaning run _ _ c.in-Some.reply _ _ c.requires.own (rw c.in-Some.is at c.run.ensures.ran)
    (rw (settings_is, table_is) at c.run_own_reply.ensures.ran)

pub returns-in_default-clause-ran : goal.returns-in_default-clause-ran
returns-in_default-clause-ran g c =
    unreplied_ran (g.H.Handlers.meaning c.args.handlers.now) (context_run (g.H.Handlers.meaning c.args.handlers.now)
    c.args.handler c.args.self.now (arrival_of c.args.request)) _ c.run.result _ _ c.run.ensures.ran
    c.in_default.not-Some
