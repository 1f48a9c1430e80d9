use Rattle.std.proofs.Common.{ℕ, ◌∙◌, sym, ap, arith, rules, Some, List, to_z, w32, FitsSigned}
use Rattle.std.proofs.lemmas.Int.{to_z-of_z}
use Rattle.wire_message.proofs.Words.{four_of, integer_none, integer_some}
use Rattle.wire_message.proofs.viewed.View.arg.Goals as goal

pub returns-then-i-self : goal.returns-then-i-self
returns-then-i-self c = sym (integer_none c.args.i c.args.self.now.words.now (omega arith))

pub returns : goal.returns
returns c =
    let e = integer_some c.args.i c.args.self.now.words.now (omega arith) in
    let f : FitsSigned w32 c.from_be_bytes.result = search rules in
    ap Some (
    to_z-of_z w32 c.from_be_bytes.result f
    ∙ c.from_be_bytes.ensures
    ∙ ap (λ (bytes : List ℕ). to_z w32 (four_of bytes)) c.split_at.ensures.back
    ) ∙ sym e
