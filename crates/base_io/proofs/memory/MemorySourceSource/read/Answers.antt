use Rattle.std.proofs.Common.{◌≡◌, ◌≤◌, drop, length, arith, ap, ◌∙◌, length-drop}
use Rattle.base_io.proofs.Whole.{given_prefix}
use Rattle.base_io.proofs.memory.MemorySourceSource.read.Goals as goal

pub returns-clause-bytes : goal.returns-clause-bytes
returns-clause-bytes c =
    let rest : c.split_at.result.1.now ≡ drop c.self.inside.given c.self.inside.bytes.items = c.split_at.ensures.back
    ∙ ap (drop c.self.inside.given) c.deref-2.ensures.value in
    let lens = simp length-drop at (ap length rest) in
    let fits : c.copy_prefix-n.result ≤ length (drop c.self.inside.given c.self.inside.bytes.items) =
    rw (← rest) (omega arith) in
    let prefix =
    given_prefix c.self.inside.bytes.items c.args.buf.now c.copy_prefix-n.new.buf c.self.inside.given
    c.copy_prefix-n.result fits (rw rest at c.copy_prefix-n.ensures.copied) in
    (rw (← c.self.view_is) prefix, λ zero some. absurd (omega arith))
