use Rattle.std.proofs.Common.{rules, sym, ◌∙◌, ◌≡◌, true}
use Rattle.wire_message.specs.Content.{is_version}
use Rattle.wire_message.specs.Reading.{outgoing_message}
use Rattle.wire_message.proofs.Ranges.{well_formed_is}
use Rattle.wire_message.proofs.outgoing.Outgoing.well_formed.Goals as goal

pub returns : goal.returns
returns c =
    let message = outgoing_message c.args.self.now in
    let known : is_version message.version ≡ true = search rules in
    let tells = well_formed_is message known in
    (λ t. tells.0 (sym c.is_clean.ensures ∙ t), λ x. c.is_clean.ensures ∙ tells.1 x)
