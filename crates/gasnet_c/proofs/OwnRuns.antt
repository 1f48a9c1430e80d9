-- What the library's own handlers leave, by the handler.
use Rattle.std.proofs.Common.{◌≡◌, ◌≢◌, ℕ, Bool, sym, subst}
use Rattle.std.specs.Prelude.{if◌then◌else◌}
use Rattle.std.proofs.lemmas.Bool.{eq-eqb, ne_eqb}
use Rattle.part_handlers.specs.Tokens.{At, Stage, frame_of, start_of}
use Rattle.part_handlers.specs.Runs.{nothing_done}
use Rattle.node_atomics.specs.Served.{outcome_of_batch}
use Rattle.part_collective_area.specs.Served.{outcome_of_piece}
use Rattle.gasnet_c.specs.OwnHandlers.{serving}

-- that of collectives
pub runs_collective : (handler : ℕ) (opening new : Stage) → handler ≡ 254
    → At opening (outcome_of_piece (frame_of opening.token) (start_of opening) (nothing_done (start_of opening))) new
    → At opening (serving handler (frame_of opening.token) (start_of opening)) new
runs_collective handler opening new is at =
    subst (λ (test : Bool). At opening
    (if test then outcome_of_piece (frame_of opening.token) (start_of opening) (nothing_done (start_of opening))
    else outcome_of_batch handler (frame_of opening.token) (start_of opening) (nothing_done (start_of opening))) new)
    (sym (eq-eqb handler 254 is)) at

-- another one
pub runs_batch : (handler : ℕ) (opening new : Stage) → handler ≢ 254
    → At opening (outcome_of_batch handler (frame_of opening.token) (start_of opening) (nothing_done (start_of opening))) new
    → At opening (serving handler (frame_of opening.token) (start_of opening)) new
runs_batch handler opening new apart at =
    subst (λ (test : Bool). At opening
    (if test then outcome_of_piece (frame_of opening.token) (start_of opening) (nothing_done (start_of opening))
    else outcome_of_batch handler (frame_of opening.token) (start_of opening) (nothing_done (start_of opening))) new)
    (sym (ne_eqb handler 254 apart)) at
