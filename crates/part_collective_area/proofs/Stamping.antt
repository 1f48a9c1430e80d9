-- What the handler of collectives leaves, told of outcomes; and that it is lawful.
use Rattle.std.proofs.Common.{◌≡◌, ℕ, ℤ, ◌-◌, ◌%◌, ◌≤◌, Bool, true, false, List, [], ◌∷◌, ◌++◌, length, Option, Some}
use Rattle.std.proofs.Common.{None, refl, sym, ap, ◌∙◌, arith}
use Rattle.std.specs.Prelude.{◌==◌, ◌&&◌, nat_le, if◌then◌else◌}
use Rattle.std.specs.Int.{w64, to_le_bytes}
use Rattle.std.proofs.lemmas.Bool.{eq-eqb, le-leb, leb-true, and_parts}
use Rattle.part_segment.specs.Image.{Write, FitsIn, AllFit, written_by}
use Rattle.part_segment.proofs.Images.{written_by-append, all_fit_none, all_fit-append, all_fit_one}
use Rattle.std.proofs.lemmas.List.Elements.{All-cons}
use Rattle.part_handlers.specs.declared.token.Token.{Token}
use Rattle.part_handlers.specs.Tokens.{At, Stage, token_arrival, frame_of, stage, start_of}
use Rattle.part_handlers.specs.Runs.{Frame, Start, Outcome, IsLawfulRun}
use Rattle.part_collective_area.specs.Served.{header_at, header_behind, header_for, number_at, outcome_of_piece}

-- the segment after the header of the message
pub stamped_at : (opening : Stage) (outcome : Outcome) (segment later : List ℕ) (cells : List ℤ) (token : Token)
    → At opening outcome (stage segment cells token)
    → later ≡ written_by segment (header_for (length segment) (token_arrival token).args (token_arrival token).place)
    → length later ≡ length segment
    → At opening (outcome_of_piece (frame_of opening.token) (start_of opening) outcome) (stage later cells token)
stamped_at opening outcome segment later cells token at written same =
    let header = λ (len : ℕ) (now : Token). header_for len (token_arrival now).args (token_arrival now).place in
    record {
      segment_is = written
          ∙ (ap (λ (bytes : List ℕ). written_by bytes (header (length segment) token)) at.segment_is
          ∙ (sym (written_by-append opening.segment outcome.writes (header (length segment) token))
          ∙ (ap (λ (now : Token). written_by opening.segment (outcome.writes ++ header (length segment) now))
          at.token_is
          ∙ ap (λ (len : ℕ). written_by opening.segment (outcome.writes ++ header len opening.token))
          at.same_length)));
      same_length = same ∙ at.same_length;
      cells_are = at.cells_are;
      token_is = at.token_is;
      spelled = at.spelled;
    }

-- the message has a header
pub header_is : (segment : ℕ) (args : List ℤ) (offset : ℕ) → length args ≡ 4 → 16 ≤ offset → offset % 8 ≡ 0
    → offset ≤ segment
    → header_behind segment args offset ≡ header_at offset (number_at args 0) (number_at args 2)
header_is segment args offset four room aligned inside =
    rw (eq-eqb _ _ four) (rw (le-leb 16 offset room) (rw (eq-eqb _ _ aligned) (rw (le-leb offset segment inside) refl)))

-- the message has the header that its parts say
pub header_told : (segment : ℕ) (args : List ℤ) (place : Option (ℕ × ℕ)) (offset len : ℕ) → place ≡ Some (offset, len)
    → ((length args == 4) && (nat_le 16 offset && ((offset % 8 == 0) && nat_le offset segment))) ≡ true
    → header_for segment args place ≡ header_at offset (number_at args 0) (number_at args 2)
header_told segment args place offset len is good = rw is (rw good refl)

-- ---- lawful

header_fits : (segment : ℕ) (args : List ℤ) (place : Option (ℕ × ℕ)) → AllFit segment (header_for segment args place)
header_fits segment args None = all_fit_none segment
header_fits segment args (Some place) =
    by_test ((length args == 4) && (nat_le 16 place.0 && ((place.0 % 8 == 0) && nat_le place.0 segment))) refl
  where
    by_test : (good : Bool)
        → ((length args == 4) && (nat_le 16 place.0 && ((place.0 % 8 == 0) && nat_le place.0 segment))) ≡ good
        → AllFit segment (if good then header_at place.0 (number_at args 0) (number_at args 2) else [])
    by_test false is = all_fit_none segment
    by_test true is =
        let first = and_parts (length args == 4) _ is in
        let second = and_parts (nat_le 16 place.0) _ first.1 in
        let third = and_parts (place.0 % 8 == 0) _ second.1 in
        let room = leb-true 16 place.0 second.0 in
        let inside = leb-true place.0 segment third.1 in
        let stamp : Write = record { offset = place.0 - 16; bytes = to_le_bytes w64 (number_at args 0) } in
        let shape : Write = record { offset = place.0 - 8; bytes = to_le_bytes w64 (number_at args 2) } in
        let first_fits : FitsIn segment stamp = omega (arith, room, inside) in
        let second_fits : FitsIn segment shape = omega (arith, room, inside) in
        All-cons (FitsIn segment) stamp (shape ∷ []) first_fits (all_fit_one segment shape second_fits)

-- what the handler does keeps a run lawful: for whoever proves the law of the trait of handlers
pub lawful-stamped : (frame : Frame) (start : Start) (outcome : Outcome) → IsLawfulRun frame start outcome
    → IsLawfulRun frame start (outcome_of_piece frame start outcome)
lawful-stamped frame start outcome lawful = record {
  reply = lawful.reply;
  writes = all_fit-append (length start.segment) outcome.writes _ lawful.writes
      (header_fits (length start.segment) frame.arrival.args frame.arrival.place);
  locks = lawful.locks;
}
