-- What a batch's message says is what the batch asks.
use Rattle.std.proofs.Common.{◌≡◌, ℕ, ◌*◌, ◌/◌, ◌%◌, ◌^◌, ◌<◌, Bool, true, false, List, [], ◌∷◌}
use Rattle.std.proofs.Common.{◌++◌, length, take, drop, Option, Some, None, refl, sym, ap, ◌∙◌, arith, length-append}
use Rattle.std.specs.Prelude.{nat_le, not}
use Rattle.std.proofs.Math.Seq.{take-append_seam, drop-append_seam}
use Rattle.std.proofs.lemmas.Nat.{from_be_bytes-to_be_bytes_8}
use Rattle.std.proofs.lemmas.Bool.{eq-eqb}
use Rattle.base_lists.proofs.Cases.{none_some}
use Rattle.wire_message.proofs.Notified.{joined_again}
use Rattle.node_atomics.specs.declared.word.Op.{Op}
use Rattle.node_atomics.specs.declared.word.Op.TheVariants as op
use Rattle.node_atomics.specs.declared.word.WordOp.{WordOp}
use Rattle.node_atomics.specs.declared.batch.BatchFault.{BatchFault}
use Rattle.node_atomics.specs.declared.batch.BatchFault.TheVariants as fault
use Rattle.node_atomics.specs.Words.{code_of, op_of, AllHave64Bits, Has64Bits}
use Rattle.node_atomics.specs.BatchRequests.{BatchRequest, batch_arguments, request_said, is_count, op_in, ops_in}
use Rattle.node_atomics.specs.BatchRequests.{ops_said, spelled_op, spelled_ops, with_first, first_of_faults, place_faults}
use Rattle.node_atomics.specs.Batches.{BatchState, IsBatch}
use Rattle.node_atomics.specs.Served.{if_placed}

-- the operation of its own number
op_again : (op : Op) → op_of (code_of op) ≡ Some op
op_again op.Get = refl
op_again op.Swap = refl
op_again op.CompareSwap = refl
op_again op.Add = refl
op_again op.Sub = refl
op_again op.And = refl
op_again op.Or = refl
op_again op.Xor = refl
op_again op.Min = refl
op_again op.Max = refl

code_small : (op : Op) → code_of op < 2 ^ 64
code_small op.Get = omega arith
code_small op.Swap = omega arith
code_small op.CompareSwap = omega arith
code_small op.Add = omega arith
code_small op.Sub = omega arith
code_small op.And = omega arith
code_small op.Or = omega arith
code_small op.Xor = omega arith
code_small op.Min = omega arith
code_small op.Max = omega arith

-- one operation
op_said : (word : WordOp) → Has64Bits word → op_in (spelled_op word) ≡ Some word
op_said word small =
    rw (from_be_bytes-to_be_bytes_8 (code_of word.op) (code_small word.op))
    (rw (op_again word.op)
    (rw (from_be_bytes-to_be_bytes_8 word.offset small.offset)
    (rw (from_be_bytes-to_be_bytes_8 word.a small.a) (rw (from_be_bytes-to_be_bytes_8 word.b small.b) refl))))

length-op : (word : WordOp) → length (spelled_op word) ≡ 32
length-op word = refl

take_op : (word : WordOp) (later : List ℕ) → take 32 (spelled_op word ++ later) ≡ spelled_op word
take_op word later = take-append_seam (spelled_op word) later

drop_op : (word : WordOp) (later : List ℕ) → drop 32 (spelled_op word ++ later) ≡ later
drop_op word later = drop-append_seam (spelled_op word) later

-- operations
ops_again : (ops : List WordOp) → AllHave64Bits ops → ops_in (length ops) (spelled_ops ops) ≡ Some ops
ops_again [] small = refl
ops_again (word ∷ ops) small =
    ap (λ (bytes : List ℕ). with_first (op_in bytes) (ops_in (length ops) (drop 32 (spelled_op word ++ spelled_ops ops))))
    (take_op word (spelled_ops ops))
    ∙ (ap (λ (bytes : List ℕ). with_first (op_in (spelled_op word)) (ops_in (length ops) bytes))
    (drop_op word (spelled_ops ops))
    ∙ (ap (λ (first : Option WordOp). with_first first (ops_in (length ops) (spelled_ops ops))) (op_said word small.0)
    ∙ ap (with_first (Some word)) (ops_again ops small.1)))

length-spelled : (ops : List WordOp) → length (spelled_ops ops) ≡ 32 * length ops
length-spelled [] = refl
length-spelled (word ∷ ops) =
    let more = length-append (spelled_op word) (spelled_ops ops) in
    let one = length-op word in
    more ∙ omega (arith, one, length-spelled ops)

pub ops_said_again : (ops : List WordOp) → is_count (length ops) ≡ true → AllHave64Bits ops
    → ops_said (spelled_ops ops) ≡ Some ops
ops_said_again ops count small =
    let len = length-spelled ops in
    let many : length (spelled_ops ops) / 32 ≡ length ops = omega (arith, len) in
    let even : length (spelled_ops ops) % 32 ≡ 0 = omega (arith, len) in
    rw (eq-eqb _ _ even) (rw many (rw count (ops_again ops small)))

-- a batch
pub request_again : (request : BatchRequest) → request.local < 2 ^ 64 → request.tag < 2 ^ 64
    → is_count (length request.ops) ≡ true → AllHave64Bits request.ops
    → request_said (batch_arguments request.local request.tag) (spelled_ops request.ops) ≡ Some request
request_again request local tag count small =
    rw (ops_said_again request.ops count small) (rw (joined_again request.local local) (rw (joined_again request.tag tag) refl))

-- ---- a batch with which nothing is wrong

-- one operation more
pub all_push : (ops : List WordOp) (word : WordOp) → AllHave64Bits ops → Has64Bits word
    → AllHave64Bits (ops ++ word ∷ [])
all_push [] word wide one = (one, tt)
all_push (first ∷ ops) word wide one = (wide.0, all_push ops word wide.1 one)

-- neither target nor count nor a place is wrong
pub no_fault : (node few : Bool) (places : List (Bool × BatchFault))
    → first_of_faults ((node, fault.Node) ∷ (not few, fault.Count) ∷ places) ≡ None
    → (few ≡ true) × (first_of_faults places ≡ None)
no_fault true few places is = absurd (none_some (sym is))
no_fault false false places is = absurd (none_some (sym is))
no_fault false true places is = (refl, is)

-- the message of a batch says what the batch asks
pub batch_again : (batch : BatchState) → IsBatch batch
    → if_placed batch.settings.segment
    (request_said (batch_arguments batch.request.local batch.request.tag) (spelled_ops batch.request.ops))
    ≡ Some batch.request
batch_again batch good =
    let request = batch.request in
    let parts = no_fault (nat_le batch.settings.nodes batch.to) (is_count (length request.ops))
    (place_faults batch.settings.segment request.local request.ops) good.faultless in
    ap (if_placed batch.settings.segment) (request_again request good.local good.tag parts.0 good.ops)
    ∙ rw parts.1 refl
