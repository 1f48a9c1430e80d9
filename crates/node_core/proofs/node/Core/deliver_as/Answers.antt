use Rattle.std.proofs.Common.{◌≡◌, rules}
use Rattle.wire_message.specs.Reading.{viewed_message}
use Rattle.node_core.specs.InPlace.{meant_in}
use Rattle.node_core.proofs.Deliveries.{delivers_step, refused_step}
use Rattle.node_core.proofs.InPlace.{lawful_meant}
use Rattle.node_core.proofs.node.Core.deliver_as.Goals as goal

pub returns-in-Ok : goal.returns-in-Ok
returns-in-Ok g c =
    let same : c.version.result ≡ c.args.self.now.settings.version = search rules in
    delivers_step (meant_in c.args.landing c.args.self.now.segment (g.H.Handlers.meaning c.args.handlers.now)) c.args.self.now c.version.result c.args.bytes.now
    (viewed_message c.in-Ok.message) c.receive.result c.receive.new.self
    (lawful_meant c.args.landing c.args.self.now.segment (g.H.Handlers.meaning c.args.handlers.now)
    (g.met.H.Handlers.is_lawful c.args.handlers.now)) c.requires.segment same c.in-Ok.ensures.only c.in-Ok.ensures.refused
    c.receive.ensures

pub returns-in-Err : goal.returns-in-Err
returns-in-Err g c =
    let same : c.version.result ≡ c.args.self.now.settings.version = search rules in
    refused_step (meant_in c.args.landing c.args.self.now.segment (g.H.Handlers.meaning c.args.handlers.now)) c.args.self.now c.version.result c.args.bytes.now
    c.in-Err.refused same c.in-Err.ensures.only c.in-Err.ensures.refused
