use Rattle.std.proofs.Common.{◌≡◌, rules}
use Rattle.wire_message.specs.Reading.{viewed_message}
use Rattle.node_core.proofs.Deliveries.{bytes_answered}
use Rattle.node_core.proofs.node.Core.would_deliver.Goals as goal

pub returns-in-Ok : goal.returns-in-Ok
returns-in-Ok c =
    let same : c.version.result ≡ c.args.self.now.settings.version = search rules in
    bytes_answered c.args.self.now c.version.result c.args.bytes.now (viewed_message c.in-Ok.message)
    c.would_receive.result same c.in-Ok.ensures.only c.in-Ok.ensures.refused c.would_receive.ensures
