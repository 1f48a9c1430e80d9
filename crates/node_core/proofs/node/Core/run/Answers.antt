use Rattle.std.proofs.Common.{rules, arith, ◌≡◌, None}
use Rattle.wire_message.specs.Reading.{viewed_message}
use Rattle.node_core.specs.CoreStep.{IsNewRequest, lock_at}
use Rattle.node_core.specs.InPlace.{meant_in}
use Rattle.node_core.proofs.LibraryLaws.{client_runs_new}
use Rattle.node_core.proofs.node.Core.run.Goals as goal

pub returns-in-None-2 : goal.returns-in-None-2
returns-in-None-2 g c =
    let message = viewed_message c.args.message.now in
    let request : IsNewRequest c.args.self.now message = search rules in
    let free : lock_at c.args.self.now message ≡ None = search rules in
    client_runs_new (meant_in c.args.landing c.args.self.now.segment (g.H.Handlers.meaning c.args.handlers.now))
    c.args.self.now message c.run_client.new.self request free (omega (arith, c.if-message-le-LAST_OWN.false))
    c.run_client.ensures
