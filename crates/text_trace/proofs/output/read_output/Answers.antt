-- An output is read exactly where the bytes begin with its text.
use Rattle.std.proofs.Common.{◌≡◌, ℕ, ◌+◌, ◌<◌, ◌^◌, List, length, Ok, Err, Result, sym, ap, ◌∙◌, arith, length-append}
use Rattle.text_trace.specs.declared.fault.TraceFault.{TraceFault}
use Rattle.text_trace.specs.declared.fault.TraceFault.TheVariants as faults
use Rattle.text_trace.specs.declared.output.Output.{Output}
use Rattle.text_trace.specs.declared.output.Wanted.{Wanted}
use Rattle.text_trace.specs.OutputText.{OutputBegins, output_text}
use Rattle.text_trace.specs.OutputReading.{GivesOutput, IsNear, output_at}
use Rattle.text_trace.specs.TraceReading.{BadLine}
use Rattle.text_trace.specs.TraceRead.{FailsAt}
use Rattle.text_trace.proofs.LineLaws.{ok_is}
use Rattle.text_trace.proofs.TraceLaws.{threads_below}
use Rattle.text_trace.proofs.OutputLaws.{bad_line_low, few_in_output, output_takes, output_again}
use Rattle.text_trace.specs.OutputRefusals.{output_kind}
use Rattle.text_trace.proofs.LineRefused.{means_no_text, told_by}
use Rattle.text_trace.proofs.OutputRefused.{output_fault_means, output_has}
use Rattle.text_trace.proofs.output.read_output.Goals as goal

-- reading gives the output with whose text the bytes begin
again : (wanted : Wanted) (bytes : List ℕ) (output : Output) (len : ℕ) → wanted.version < 2 ^ 64
    → (b : OutputBegins wanted bytes output len) → output_at wanted bytes ≡ Ok (output, b.rest)
again wanted bytes output len fits b =
    ap (output_at wanted) b.text ∙ output_again wanted output b.rest fits b.is_output

ok_not_err : (x : Output × List ℕ) (bad : BadLine) → ◌≡◌ {A = Result (Output × List ℕ) BadLine} (Ok x) (Err bad) → ⊥
ok_not_err x bad e = cc

no_fault : (fault : TraceFault) (read : Result (Output × List ℕ) BadLine) (x : Output × List ℕ) (output : Output)
    (len : ℕ) → FailsAt fault read → read ≡ Ok x → GivesOutput output len (Err fault)
no_fault faults.NoMemory read x output len h e = tt
no_fault (faults.Bad line why) read x output len h e = ok_not_err x _ (sym e ∙ h)

pub returns-in-Ok-clause-found : goal.returns-in-Ok-clause-found
returns-in-Ok-clause-found c =
    let wanted = c.args.wanted in
    let k = output_takes wanted c.args.bytes.now (c.in-Ok.output, c.in-Ok.rest.now) (omega arith) c.in-Ok.ensures.value in
    let size : length c.args.bytes.now ≡ length (output_text wanted.version c.in-Ok.output) + length c.in-Ok.rest.now =
    ap length k.text ∙ length-append (output_text wanted.version c.in-Ok.output) c.in-Ok.rest.now in
    record { is_output = k.is_output; rest = c.in-Ok.rest.now; text = k.text; size = omega arith }

pub returns-in-Ok-clause-only : goal.returns-in-Ok-clause-only
returns-in-Ok-clause-only c = λ output len b.
    let wanted = c.args.wanted in
    let made : Output × List ℕ = (c.in-Ok.output, c.in-Ok.rest.now) in
    let other : Output × List ℕ = (output, b.rest) in
    let same : made ≡ other =
    ok_is made other (sym c.in-Ok.ensures.value ∙ again wanted c.args.bytes.now output len (omega arith) b) in
    let rest : length c.in-Ok.rest.now ≡ length b.rest = ap (λ (x : Output × List ℕ). length x.1) same in
    let size : length c.args.bytes.now ≡ length (output_text wanted.version output) + length b.rest =
    ap length b.text ∙ length-append (output_text wanted.version output) b.rest in
    let len_is = b.size in
    (ap (λ (x : Output × List ℕ). x.0) same, omega arith)

pub returns-in-Err-clause-only : goal.returns-in-Err-clause-only
returns-in-Err-clause-only c = λ output len b.
    no_fault c.in-Err.fault (output_at c.args.wanted c.args.bytes.now) (output, b.rest) output len
    c.in-Err.ensures.value (again c.args.wanted c.args.bytes.now output len (omega arith) b)

pub returns-in-Ok-clause-threads : goal.returns-in-Ok-clause-threads
returns-in-Ok-clause-threads c =
    let k = output_takes c.args.wanted c.args.bytes.now (c.in-Ok.output, c.in-Ok.rest.now) (omega arith)
    c.in-Ok.ensures.value in
    threads_below c.args.wanted.threads (c.in-Ok.output).trace.entries k.is_output.is_trace.entries

pub returns-in-Ok-clause-few : goal.returns-in-Ok-clause-few
returns-in-Ok-clause-few c =
    let k = output_takes c.args.wanted c.args.bytes.now (c.in-Ok.output, c.in-Ok.rest.now) (omega arith)
    c.in-Ok.ensures.value in
    let wanted = c.args.wanted in
    let size : length c.args.bytes.now ≡ length (output_text wanted.version c.in-Ok.output) + length c.in-Ok.rest.now =
    ap length k.text ∙ length-append (output_text wanted.version c.in-Ok.output) c.in-Ok.rest.now in
    let few = few_in_output wanted.version c.in-Ok.output in
    omega arith

near : (wanted : Wanted) (bytes : List ℕ) (fault : TraceFault) → FailsAt fault (output_at wanted bytes)
    → IsNear (length bytes) fault
near wanted bytes faults.NoMemory fails = tt
near wanted bytes (faults.Bad line why) fails = bad_line_low wanted bytes (record { line = line; why = why }) fails

pub returns-in-Err-clause-near : goal.returns-in-Err-clause-near
returns-in-Err-clause-near c = near c.args.wanted c.args.bytes.now c.in-Err.fault c.in-Err.ensures.value

pub returns-in-Err-clause-meant : goal.returns-in-Err-clause-meant
returns-in-Err-clause-meant c =
    output_fault_means c.args.wanted c.args.bytes.now c.in-Err.fault (omega arith) (omega arith) (omega arith)
    c.in-Err.ensures.value

pub returns-in-Ok-clause-told : goal.returns-in-Ok-clause-told
returns-in-Ok-clause-told c = λ line why means.
    let wanted = c.args.wanted in
    let k = output_takes wanted c.args.bytes.now (c.in-Ok.output, c.in-Ok.rest.now) (omega arith) c.in-Ok.ensures.value in
    means_no_text (output_kind wanted) (output_has wanted (omega arith)) c.args.bytes.now line why c.in-Ok.output
    c.in-Ok.rest.now means k.is_output k.text

pub returns-in-Err-clause-told : goal.returns-in-Err-clause-told
returns-in-Err-clause-told c = λ line why means.
    let wanted = c.args.wanted in
    told_by (output_kind wanted) (output_has wanted (omega arith)) c.args.bytes.now c.in-Err.fault line why
    (output_fault_means wanted c.args.bytes.now c.in-Err.fault (omega arith) (omega arith) (omega arith)
    c.in-Err.ensures.value) means
