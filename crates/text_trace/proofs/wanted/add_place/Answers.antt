use Rattle.std.proofs.Common.{◌≡◌, ℕ, List, Some, cond, subst}
use Rattle.std.specs.Str.{bytes_eq}
use Rattle.text_trace.specs.Noted.{place_in}
use Rattle.text_trace.proofs.wanted.add_place.Goals as goal

pub returns : goal.returns
returns c b = subst (λ (bytes : List ℕ). place_in c.insert.new.self b
    ≡ cond (bytes_eq bytes b) (Some c.args.i) (place_in c.args.places.now b)) c.new.ensures
    (c.in_ok-insert.ensures.updates.0 (record { bytes = record c.args.bytes { now = b } }))
