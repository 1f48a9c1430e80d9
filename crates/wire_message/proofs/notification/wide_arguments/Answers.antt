use Rattle.std.proofs.Common.{rules, ◌∙◌, [], ◌∷◌}
use Rattle.std.specs.Int.{w32}
use Rattle.std.specs.Int.RustNames.{FitsSigned}
use Rattle.std.proofs.lemmas.Int.{to_z-of_z}
use Rattle.wire_message.proofs.notification.wide_arguments.Goals as goal

pub returns : goal.returns
returns c =
    let id : FitsSigned w32 c.args.notification.now.id = search rules in
    let fits0 : FitsSigned w32 c.high_half.result = search rules in
    let fits1 : FitsSigned w32 c.low_half.result = search rules in
    let fits2 : FitsSigned w32 c.low_half-2.result = search rules in
    let fits3 : FitsSigned w32 c.high_half-2.result = search rules in
    let fits4 : FitsSigned w32 c.low_half-3.result = search rules in
    let fits5 : FitsSigned w32 c.high_half-3.result = search rules in
    let fits6 : FitsSigned w32 c.low_half-4.result = search rules in
    let fits7 : FitsSigned w32 c.high_half-4.result = search rules in
    let fits8 : FitsSigned w32 c.low_half-5.result = search rules in
    let fits9 : FitsSigned w32 c.high_half-5.result = search rules in
    let fits10 : FitsSigned w32 c.from.result = search rules in
    λ i.
    (to_z-of_z w32 c.high_half.result fits0 ∙ c.high_half.ensures) i
    ∷ (to_z-of_z w32 c.low_half.result fits1 ∙ c.low_half.ensures) i
    ∷ (to_z-of_z w32 c.low_half-2.result fits2 ∙ c.low_half-2.ensures) i
    ∷ (to_z-of_z w32 c.high_half-2.result fits3 ∙ c.high_half-2.ensures) i
    ∷ (to_z-of_z w32 c.low_half-3.result fits4 ∙ c.low_half-3.ensures) i
    ∷ (to_z-of_z w32 c.high_half-3.result fits5 ∙ c.high_half-3.ensures) i
    ∷ (to_z-of_z w32 c.low_half-4.result fits6 ∙ c.low_half-4.ensures) i
    ∷ (to_z-of_z w32 c.high_half-4.result fits7 ∙ c.high_half-4.ensures) i
    ∷ (to_z-of_z w32 c.low_half-5.result fits8 ∙ c.low_half-5.ensures) i
    ∷ (to_z-of_z w32 c.high_half-5.result fits9 ∙ c.high_half-5.ensures) i
    ∷ to_z-of_z w32 c.args.notification.now.id id i
    ∷ (to_z-of_z w32 c.from.result fits10 ∙ c.from.ensures) i
    ∷ []
