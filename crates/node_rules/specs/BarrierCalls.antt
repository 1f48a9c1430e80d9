-- The calls of threads on the barrier: their answers, and what they leave.
-- Origin: GASNet 1.8.1, extended API, barriers. Which exhausted numbers are told is this project's profile.
use Rattle.std.specs.Prelude.{ℕ, zero, suc, ◌^◌, nat_lt, ℤ, Bool, ◌&&◌, if◌then◌else◌, Option, None, Some}
use Rattle.std.specs.List.{list_all}
use Rattle.std.specs.Ordering.{int_eq}
use Rattle.std.specs.Int.{w32, cast_signed, cast_unsigned}
use Rattle.wire_message.specs.declared.notification.BarrierNotification.{BarrierNotification}
use Rattle.part_barrier.specs.Record.{BarrierRecord, Try, notify_answer, notify_after, try_answer, try_after, owes}
use Rattle.node_rules.specs.TransferCalls.{Caller}
use Rattle.node_rules.specs.declared.answer.Answer.{Answer}
use Rattle.node_rules.specs.declared.answer.Answer.TheVariants as answers

pub data BarrierCall : Type 0 where
  Notify : (id : ℤ) → (flags : ℕ) → BarrierCall
  TryBarrier : (id : ℤ) → (flags : ℕ) → BarrierCall

-- an identifier as its 32 bits tell it
abbrev pub identifier : ℤ → ℤ
identifier id = cast_signed w32 (cast_unsigned w32 id)

-- the numbers of a notification are in the ranges of their types. Those of each notification that was sent are
abbrev pub has_ranges : BarrierNotification → Bool
has_ranges notification =
    nat_lt notification.phase (2 ^ 64)
    && (list_all (λ word. nat_lt word (2 ^ 64)) notification.mask
    && int_eq (identifier notification.id) notification.id)

-- the least node from this one on, among so many, of which the test holds
abbrev pub first_where : (test : ℕ → Bool) → (node many : ℕ) → Option ℕ
first_where test node zero = None
first_where test node (suc many) = if test node then Some node else first_where test (suc node) many

-- the least node to which a notification of the present phase must go, and for which no number is left
abbrev pub exhausted_for : Caller → BarrierRecord → Option ℕ
exhausted_for caller barrier =
    first_where (λ to. caller.exhausted to && owes caller.settings.nodes caller.me barrier to) 0 caller.settings.nodes

-- the answer of a call that the rule table allows, and what it leaves
abbrev pub barrier_does : Caller → BarrierCall → BarrierRecord → Answer × BarrierRecord
barrier_does caller (Notify id flags) barrier =
    let says = notify_answer barrier (identifier id) flags in
    (answers.Notified says, notify_after barrier (identifier id) flags says)
barrier_does caller (TryBarrier id flags) barrier =
    let try : Try = record { id = identifier id; flags = flags; exhausted = exhausted_for caller barrier } in
    let says = try_answer caller.settings.nodes caller.me barrier try in
    (answers.Barrier says, try_after barrier says)
