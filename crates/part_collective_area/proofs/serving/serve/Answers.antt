-- The handler of collectives, at a message with a header.
use Rattle.std.proofs.Common.{◌≡◌, ℕ, ℤ, ◌%◌, true, List, length, Some, sym, ap, ap₂, ◌∙◌}
use Rattle.std.specs.Prelude.{◌==◌, ◌&&◌, nat_le}
use Rattle.part_segment.specs.Image.{written_by}
use Rattle.part_handlers.specs.Tokens.{token_arrival}
use Rattle.part_collective_area.specs.Served.{header_at, number_at}
use Rattle.part_collective_area.proofs.Stamping.{header_told, stamped_at}
use Rattle.part_collective_area.proofs.serving.serve.Goals as goal

pub returns-clause-served : goal.returns-clause-served
returns-clause-served c = λ cells opening outcome at.
    let token = c.args.token.now in
    let segment = c.args.segment.now in
    let args : List ℤ = (token_arrival token).args in
    let offset = c.in-Some.offset in
    let place : (token_arrival token).place ≡ Some (offset, c.in-Some.field-0-1) =
    sym c.place.ensures ∙ c.in-Some.is in
    let good : ((length args == 4) && (nat_le 16 offset && ((offset % 8 == 0) && nat_le offset (length segment))))
    ≡ true =
    ap₂ (λ (words : List ℤ) (size : ℕ).
    (length words == 4) && (nat_le 16 offset && ((offset % 8 == 0) && nat_le offset size)))
    (sym c.args-2.ensures) (sym c.len.ensures)
    ∙ (sym c.has_header.ensures ∙ c.if-not-has_header.false) in
    let stamp : c.number_at-stamp.result ≡ number_at args 0 =
    c.number_at-stamp.ensures ∙ ap (λ (words : List ℤ). number_at words 0) c.args-3.ensures in
    let shape : c.number_at-shape.result ≡ number_at args 2 =
    c.number_at-shape.ensures ∙ ap (λ (words : List ℤ). number_at words 2) c.args-4.ensures in
    stamped_at opening outcome segment c.write_header.new.segment cells token at
    (c.write_header.ensures.written
    ∙ (ap₂ (λ (one word : ℕ). written_by segment (header_at offset one word)) stamp shape
    ∙ ap (written_by segment)
    (sym (header_told (length segment) args (token_arrival token).place offset c.in-Some.field-0-1 place good))))
    c.write_header.ensures.same_length
