use Rattle.std.proofs.Common.{◌≡◌, ◌+◌, ◌-◌, ◌*◌, ◌/◌, ◌%◌, ◌≤◌, ◌∙◌, refl, List, length, take, drop, ap, sym, arith}
use Rattle.std.specs.Prelude.{◌≢◌}
use Rattle.std.proofs.lemmas.Bool.{eq-eqb, le-leb, lt-ltb}
use Rattle.std.proofs.Common.{ℕ}
use Rattle.node_atomics.specs.declared.word.WordOp.{WordOp}
use Rattle.node_atomics.specs.BatchRequests.{op_in, ops_in, ops_said}
use Rattle.node_atomics.proofs.Reading.{behind, read_more, read_none}
use Rattle.node_atomics.proofs.request.ops_said.Goals as goal

-- 32 bytes
chunk : (at : ℕ) (bytes : List ℕ) → op_in (take (at + 32 - at) (drop at bytes)) ≡ op_in (take 32 (drop at bytes))
chunk at bytes =
    let len : at + 32 - at ≡ 32 = omega arith in
    ap (λ (count : ℕ). op_in (take count (drop at bytes))) len

-- the count is good
said_by : (bytes : List ℕ) → length bytes % 32 ≡ 0 → length bytes / 32 ≢ 0 → length bytes / 32 ≤ 64
    → ops_said bytes ≡ ops_in (length bytes / 32) bytes
said_by bytes even some few =
    rw (eq-eqb _ _ even) (rw (lt-ltb 0 (length bytes / 32) (omega (arith, some)))
    (rw (le-leb (length bytes / 32) 64 few) refl))

pub loop-k-preserved : goal.loop-k-preserved
loop-k-preserved c = record {
  read = omega (arith, c.push.ensures.len, c.loop-k.invariant.read);
  rest = c.loop-k.invariant.rest
      ∙ (read_more _ c.loop-k.k c.args.payload.now c.loop-k.ops.items c.in_ok-word.word c.loop-k-test.true
      (sym (chunk (32 * c.loop-k.k) c.args.payload.now) ∙ (sym c.op_in.ensures ∙ c.in_ok-word.was))
      ∙ ap (λ (ops : List WordOp). behind ops
      (ops_in (length c.args.payload.now / 32 - (c.loop-k.k + 1)) (drop (32 * (c.loop-k.k + 1)) c.args.payload.now)))
      (sym c.push.ensures.items));
}

pub returns-in_err-word-clause-none : goal.returns-in_err-word-clause-none
returns-in_err-word-clause-none c =
    rw c.from_residual.ensures
    (rw (said_by c.args.payload.now c.if-payload-ne0.false c.if-count-eq0.false c.if-count-gt-MOST.false)
    (c.loop-k.invariant.rest
    ∙ read_none _ c.loop-k.k c.args.payload.now c.loop-k.ops.items c.loop-k-test.true
    (sym (chunk (32 * c.loop-k.k) c.args.payload.now) ∙ (sym c.op_in.ensures ∙ c.in_err-word.was))))
