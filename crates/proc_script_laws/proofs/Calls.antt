-- What a call of a schedule says and writes fits, where the cells of its node do.
use Rattle.std.proofs.Common.{ℕ, zero, suc, ◌<◌, ◌^◌, ◌++◌, List, [], ◌∷◌, map, arith, ℤ}
use Rattle.std.specs.List.{AllByRecursion}
use Rattle.std.specs.Int.{w32, w64, to_be_bytes}
use Rattle.std.specs.Int.RustNames.{FitsSigned}
use Rattle.node_atomics.specs.declared.word.WordOp.{WordOp}
use Rattle.node_atomics.specs.BatchRequests.{batch_arguments, spelled_op, spelled_ops}
use Rattle.node_atomics.specs.Words.{code_of}
use Rattle.text_calls.specs.Calls.{IsCall}
use Rattle.text_calls.specs.Payloads.{IsPayload}
use Rattle.text_calls.specs.Kinds.{IsOperand}
use Rattle.text_calls.specs.declared.operands.NumberPlace.TheVariants.{Schedule}
use Rattle.text_calls.specs.declared.values.Operand.{Operand}
use Rattle.text_calls.specs.declared.values.Operand.TheVariants as operand
use Rattle.text_calls.specs.declared.values.Payload.{Payload}
use Rattle.text_calls.specs.declared.values.Payload.TheVariants as payload
use Rattle.text_calls.specs.declared.scheduled.ScheduledCall.{ScheduledCall}
use Rattle.text_calls.specs.declared.scheduled.ScheduledCall.TheVariants as call
use Rattle.text_calls.specs.declared.scope.Scope.{Scope}
use Rattle.text_script.specs.Bodies.{operand_value}
use Rattle.text_script.specs.ScheduledCalls.{meant_by, given_from}
use Rattle.law_traces.specs.Fitting.{AreBytes, AreNumbers, CallFits, PayloadFits}
use Rattle.law_traces.proofs.Bytes.{bytes_append, bytes_none, high_fits, low_fits}
use Rattle.proc_script_laws.proofs.Bodies.{number_at, said_bytes}

-- a number of a schedule
operand_fits : (cells : List ℤ) (one : Operand) → AreNumbers cells → IsOperand Schedule one
    → FitsSigned w32 (operand_value cells [] one)
operand_fits cells (operand.Number number) all is = is
operand_fits cells (operand.Cell cell) all is = number_at cells cell all
operand_fits cells (operand.Argument place) all is = absurd is

operands_fit : (cells : List ℤ) (operands : List Operand) → AreNumbers cells
    → AllByRecursion (IsOperand Schedule) operands → AreNumbers (map (operand_value cells []) operands)
operands_fit cells [] all is = tt
operands_fit cells (one ∷ operands) all is =
    (operand_fits cells one all is.0, operands_fit cells operands all is.1)

-- a payload of a schedule
payload_fits : (load : Payload) → IsPayload load → PayloadFits (given_from load)
payload_fits (payload.Bytes bytes) is = said_bytes bytes is.1
payload_fits (payload.Range offset len) is = tt
payload_fits payload.Message is = absurd is

-- the arguments of a batch's request
arguments_fit : (local tag : ℕ) → local < 2 ^ 64 → tag < 2 ^ 64 → AreNumbers (batch_arguments local tag)
arguments_fit local tag low small =
    (high_fits local low, (low_fits local, (high_fits tag small, (low_fits tag, tt))))

-- its payload
big_bytes : (value : ℕ) → AreBytes (to_be_bytes w64 value)
big_bytes value zero = omega arith
big_bytes value (suc zero) = omega arith
big_bytes value (suc (suc zero)) = omega arith
big_bytes value (suc (suc (suc zero))) = omega arith
big_bytes value (suc (suc (suc (suc zero)))) = omega arith
big_bytes value (suc (suc (suc (suc (suc zero))))) = omega arith
big_bytes value (suc (suc (suc (suc (suc (suc zero)))))) = omega arith
big_bytes value (suc (suc (suc (suc (suc (suc (suc zero))))))) = omega arith
big_bytes value (suc (suc (suc (suc (suc (suc (suc (suc place)))))))) = omega arith

op_fits : (word : WordOp) → AreBytes (spelled_op word)
op_fits word =
    let operands = to_be_bytes w64 word.a ++ to_be_bytes w64 word.b in
    bytes_append (to_be_bytes w64 (code_of word.op)) (to_be_bytes w64 word.offset ++ operands)
    (big_bytes (code_of word.op))
    (bytes_append (to_be_bytes w64 word.offset) operands (big_bytes word.offset)
    (bytes_append (to_be_bytes w64 word.a) (to_be_bytes w64 word.b) (big_bytes word.a) (big_bytes word.b)))

spelled_fit : (ops : List WordOp) → AreBytes (spelled_ops ops)
spelled_fit [] = bytes_none
spelled_fit (word ∷ ops) = bytes_append (spelled_op word) (spelled_ops ops) (op_fits word) (spelled_fit ops)

pub calls_fit : (scope : Scope) (cells : List ℤ) (one : ScheduledCall) → AreNumbers cells → IsCall scope one
    → CallFits (meant_by cells one)
calls_fit scope cells (call.Short to handler operands) all is = (operands_fit cells operands all is.0.1.1.2, bytes_none)
calls_fit scope cells (call.Medium text) all is =
    (operands_fit cells text.operands all is.0.1.1.1.2, payload_fits text.payload is.0.1.1.0)
calls_fit scope cells (call.Long text) all is =
    (operands_fit cells text.operands all is.0.1.1.1.1.2, payload_fits text.payload is.0.1.1.0)
calls_fit scope cells (call.LongAsync text) all is =
    (operands_fit cells text.operands all is.0.1.1.1.1.2, payload_fits text.payload is.0.1.1.0)
calls_fit scope cells (call.Atomic batch) all is =
    let low = is.0.1.0.1 in
    let small = is.0.1.1.0.1 in (
      arguments_fit batch.request.local batch.request.tag (omega (arith, low)) (omega (arith, small)),
      spelled_fit batch.request.ops,
    )
calls_fit scope cells (call.SetCell cell number) all is = operand_fits cells number all is.0.1.0
calls_fit scope cells (call.Set offset bytes) all is = said_bytes bytes is.0.1.0.1
calls_fit scope cells (call.Fill offset len byte) all is = let low = is.0.1.1.0.1 in omega (arith, low)
calls_fit scope cells _ all is = tt
