use Rattle.std.proofs.Common.{Ok, sym, ap, ◌∙◌, arith}
use Rattle.text_trace.proofs.GotLaws.{few_digits, many_digits}
use Rattle.text_trace.proofs.words.decoded_bytes.Goals as goal

pub returns-then-word-gt-MAX_GOT : goal.returns-then-word-gt-MAX_GOT
returns-then-word-gt-MAX_GOT c = many_digits c.args.word.now (let many = c.if-word-gt-MAX_GOT.true in omega arith)

pub returns-in-Ok : goal.returns-in-Ok
returns-in-Ok c =
    few_digits c.args.word.now c.in-Ok.bytes.items c.in-Ok.ensures (let few = c.if-word-gt-MAX_GOT.false in omega arith)
    ∙ ap Ok (sym c.of.ensures)
