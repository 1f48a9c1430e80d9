use Rattle.std.proofs.Common.{ℕ, ap, ◌∙◌, Option}
use Rattle.std.specs.Prelude.{unwrap_or}
use Rattle.wire_message.specs.Parameters.{Parameters, credits_of}
use Rattle.wire_message.proofs.settings.Settings.credits.Goals as goal

pub returns : goal.returns
unfolding credits_of
returns c =
    c.unwrap_or.ensures
    ∙ (ap (λ (own : Option ℕ). unwrap_or own c.self.inside.credits) c.own_credits.ensures
    ∙ ap (λ (settings : Parameters). credits_of settings c.args.from c.args.to) c.self.view_is)
