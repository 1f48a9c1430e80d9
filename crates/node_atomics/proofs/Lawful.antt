-- What the handlers of batches do keeps a run lawful: for whoever proves the law of the trait of handlers.
use Rattle.std.proofs.Common.{◌≡◌, ℕ, ◌+◌, Bool, true, false, List, [], ◌∷◌, ◌++◌, length, Option, Some, None}
use Rattle.std.proofs.Common.{refl, ◌∙◌}
use Rattle.std.specs.Prelude.{if◌then◌else◌, ◌==◌, nat_le, is_none}
use Rattle.std.proofs.lemmas.Bool.{leb-true, and_parts}
use Rattle.part_segment.specs.Image.{FitsIn, AllFit, overwritten, written_by}
use Rattle.part_segment.proofs.Images.{all_fit_none, all_fit-append, length-overwritten, length-written_by}
use Rattle.std.proofs.lemmas.List.Elements.{All-cons}
use Rattle.wire_message.specs.Content.{long_reply}
use Rattle.part_handlers.specs.Runs.{Frame, Start, Outcome, IsLawfulRun}
use Rattle.part_handlers.proofs.Lawful.{lawful-replying, long_reply-content}
use Rattle.node_atomics.specs.declared.word.WordOp.{WordOp}
use Rattle.node_atomics.specs.BatchRequests.{BatchRequest, are_inside, place_fault, batch_handler, block_handler}
use Rattle.node_atomics.specs.BatchRequests.{request_said}
use Rattle.node_atomics.specs.Served.{after_request, block_of, change_of, changes_of, after_batch, if_placed, olds_of}
use Rattle.node_atomics.specs.Served.{outcome_of_batch}

-- operations inside a segment write inside it
changes_fit : (len : ℕ) (bytes : List ℕ) (ops : List WordOp) → length bytes ≡ len → are_inside len ops ≡ true
    → AllFit len (changes_of bytes ops)
changes_fit len bytes [] long inside = all_fit_none len
changes_fit len bytes (word ∷ ops) long inside =
    let parts = and_parts (nat_le (word.offset + 8) len) (are_inside len ops) inside in
    let fits : FitsIn len (change_of bytes word) = leb-true (word.offset + 8) len parts.0 in
    let fits_now : FitsIn (length bytes) (change_of bytes word) = rw long fits in
    All-cons (FitsIn len) (change_of bytes word) _ fits
    (changes_fit len (overwritten bytes (change_of bytes word)) ops
    (length-overwritten bytes (change_of bytes word) fits_now ∙ long) parts.1)

-- words of a request whose places are good lie inside
inside_by : (inside far unaligned : Bool) (segment : ℕ) (request : BatchRequest)
    → are_inside segment request.ops ≡ inside
    → is_none (place_fault segment request.local request.ops) ≡ true → are_inside segment request.ops ≡ true
inside_by true far unaligned segment request is good = is
inside_by false far unaligned segment request is good = absurd (cc_on (rw is at good))
  where
    cc_on : false ≡ true → ⊥
    cc_on wrong = cc

-- a request keeps a run lawful
lawful-after_batch : (frame : Frame) (start : Start) (outcome : Outcome) (said : Option BatchRequest)
    → IsLawfulRun frame start outcome
    → IsLawfulRun frame start
    (after_batch frame (written_by start.segment outcome.writes) (if_placed (length start.segment) said) outcome)
lawful-after_batch frame start outcome None lawful = lawful
lawful-after_batch frame start outcome (Some request) lawful =
    by_placed (is_none (place_fault (length start.segment) request.local request.ops)) refl
  where
    by_placed : (good : Bool) → is_none (place_fault (length start.segment) request.local request.ops) ≡ good
        → IsLawfulRun frame start
        (after_batch frame (written_by start.segment outcome.writes) (if good then Some request else None) outcome)
    by_placed false is = lawful
    by_placed true is =
        let segment = written_by start.segment outcome.writes in
        lawful-replying frame start
        (long_reply block_handler [] request.local (block_of (olds_of segment request.ops) request.tag))
        (record outcome { writes = outcome.writes ++ changes_of segment request.ops })
        (long_reply-content block_handler [] request.local (block_of (olds_of segment request.ops) request.tag))
        (record {
          reply = lawful.reply;
          writes = all_fit-append (length start.segment) outcome.writes (changes_of segment request.ops) lawful.writes
              (changes_fit (length start.segment) segment request.ops
              (length-written_by (length start.segment) start.segment outcome.writes refl lawful.writes)
              (inside_by (are_inside (length start.segment) request.ops) true true (length start.segment) request refl
              is));
          locks = lawful.locks;
        })

-- so do both handlers
pub lawful-served : (handler : ℕ) (frame : Frame) (start : Start) (outcome : Outcome)
    → IsLawfulRun frame start outcome → IsLawfulRun frame start (outcome_of_batch handler frame start outcome)
lawful-served handler frame start outcome lawful = by_handler (handler == batch_handler)
  where
    by_handler : (request : Bool)
        → IsLawfulRun frame start (if request then after_request frame start outcome else outcome)
    by_handler false = lawful
    by_handler true =
        lawful-after_batch frame start outcome (request_said frame.arrival.args frame.arrival.payload) lawful
