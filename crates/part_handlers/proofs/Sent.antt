-- What it tells of a reply that it was sent.
use Rattle.std.proofs.Common.{◌≡◌, ◌+◌, List, [], ◌∷◌, Option, Some, None, Bool, true, false, not}
use Rattle.std.proofs.Common.{refl, length, is_some, nat_lt}
use Rattle.std.proofs.lemmas.Bool.{ltb-false}
use Rattle.part_handlers.specs.declared.lock_answer.Owner.TheVariants as owner
use Rattle.part_handlers.specs.Locks.{holds}
use Rattle.wire_message.specs.Content.{Content}
use Rattle.wire_message.specs.Message.{code, is_long}
use Rattle.part_handlers.specs.declared.rules.Role.{Role}
use Rattle.part_handlers.specs.declared.rules.Role.TheVariants as role
use Rattle.part_handlers.specs.declared.rules.CallKind.TheVariants as call
use Rattle.part_handlers.specs.declared.message.Replied.TheVariants as replied
use Rattle.part_handlers.specs.declared.message.Which.{Which}
use Rattle.part_handlers.specs.declared.message.Which.TheVariants as which
use Rattle.part_handlers.specs.Rules.{rule, context_of}
use Rattle.part_handlers.specs.Registered.{entry_at, is_for_replies}
use Rattle.part_handlers.specs.Runs.{Frame, Outcome, IsGood, IsReplyContent, answer, answer_by, first_fault, passes_end}
use Rattle.part_handlers.specs.Runs.{reply_faults}
use Rattle.std.proofs.lemmas.Bool.{not-false}
use Rattle.base_lists.proofs.Tests.{second_false}

-- the rule table lets a reply through
record IsAllowed (r : Role) (is_holding : Bool) (reply : Option Content) : Type 0 where
  for_request : r ≡ role.Request
  first : reply ≡ None
  unlocked : is_holding ≡ false

allowed_reply : (r : Role) (is_holding : Bool) (reply : Option Content) (faults : List (Bool × Which))
    → answer_by (rule (context_of r) is_holding (is_some reply) call.Reply) faults ≡ replied.Sent
    → IsAllowed r is_holding reply × (first_fault faults ≡ replied.Sent)
allowed_reply role.Request false None faults sent = (record { for_request = refl; first = refl; unlocked = refl }, sent)
allowed_reply role.Request true None faults sent = cc
allowed_reply role.Request false (Some content) faults sent = cc
allowed_reply role.Request true (Some content) faults sent = cc
allowed_reply role.Reply is_holding reply faults sent = cc

-- no part is wrong
record AreRight (is_unknown has_too_many is_too_long is_past : Bool) : Type 0 where
  registered : is_unknown ≡ false
  few : has_too_many ≡ false
  small : is_too_long ≡ false
  inside : is_past ≡ false

right_parts : (is_unknown has_too_many is_too_long is_past : Bool) →
    first_fault ((is_unknown, which.Handler) ∷ (has_too_many, which.Count) ∷ (is_too_long, which.Payload)
    ∷ (is_past, which.Offset) ∷ []) ≡ replied.Sent
    → AreRight is_unknown has_too_many is_too_long is_past
right_parts true has_too_many is_too_long is_past sent = cc
right_parts false true is_too_long is_past sent = cc
right_parts false false true is_past sent = cc
right_parts false false false true sent = cc
right_parts false false false false sent = record { registered = refl; few = refl; small = refl; inside = refl }

-- a reply that is sent has no fault, and is the first
pub record WasSent (frame : Frame) (content : Content) (outcome : Outcome) : Type 0 where
  pub first : outcome.reply ≡ None
  pub good : IsReplyContent content → IsGood frame content

pub was_sent : (frame : Frame) (content : Content) (outcome : Outcome) → answer frame content outcome ≡ replied.Sent
    → WasSent frame content outcome
was_sent frame content outcome sent =
    let judged = allowed_reply frame.arrival.role (holds owner.Handler outcome.locks) outcome.reply
    (reply_faults frame.settings frame.table content) sent in
    let right = right_parts (not (is_for_replies (entry_at frame.table content.handler)))
    (nat_lt 16 (length content.args)) (nat_lt 8192 (length content.payload))
    (passes_end frame.settings.segment content) judged.1 in
    record {
      first = judged.0.first;
      good = λ is_reply. record {
        for_request = judged.0.for_request;
        registered = not-false (is_for_replies (entry_at frame.table content.handler)) right.registered;
        few = ltb-false 16 (length content.args) right.few;
        small = ltb-false 8192 (length content.payload) right.small;
        inside = λ is_placed.
            ltb-false frame.settings.segment (content.offset + length content.payload)
            (second_false (is_long (code content.kind))
            (nat_lt frame.settings.segment (content.offset + length content.payload)) right.inside is_placed);
        reply = is_reply;
      };
    }
