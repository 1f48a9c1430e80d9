-- An output has few lines.
use Rattle.std.proofs.Common.{◌≡◌, ℕ, ◌+◌, ◌<◌, List, length, length-append, Ok, ap, ◌∙◌, arith}
use Rattle.base_turns.specs.declared.entry.Entry.{Entry}
use Rattle.text_trace.specs.TraceReading.{entries_at}
use Rattle.text_trace.proofs.TraceLaws.{entries_take, entries_short, entries_text}
use Rattle.text_trace.proofs.output.output_at.Goals as goal

-- fewer entries were read than there are bytes
fewer : (threads : ℕ) (bytes : List ℕ) (x : List Entry × List ℕ)
    → entries_at (length bytes + 1) threads 4 bytes ≡ Ok x → length x.0 < length bytes
fewer threads bytes x e =
    let k = entries_take (length bytes + 1) threads 4 bytes x e in
    let size = ap length k.text ∙ length-append (entries_text x.0) x.1 in
    let short = entries_short x.0 in
    omega arith

pub overflow_cast-line : goal.overflow_cast-line
overflow_cast-line c =
    let few = fewer c.args.wanted.threads c.in-Ok-setting_at-2.rest.now
    (c.in-Ok-entries_at.read.0.items, c.in-Ok-entries_at.read.1.now) c.in-Ok-entries_at.ensures.value in
    let one = c.in-Ok.ensures.shorter in
    let two = c.in-Ok-setting_at.ensures.shorter in
    let three = c.in-Ok-setting_at-2.ensures.shorter in
    let len = c.len.ensures in
    let limit = c.requires in
    omega arith

pub overflow_add-line : goal.overflow_add-line
overflow_add-line c =
    let few = fewer c.args.wanted.threads c.in-Ok-setting_at-2.rest.now
    (c.in-Ok-entries_at.read.0.items, c.in-Ok-entries_at.read.1.now) c.in-Ok-entries_at.ensures.value in
    let one = c.in-Ok.ensures.shorter in
    let two = c.in-Ok-setting_at.ensures.shorter in
    let three = c.in-Ok-setting_at-2.ensures.shorter in
    let len = c.len.ensures in
    let limit = c.requires in
    omega arith
