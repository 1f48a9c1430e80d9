-- What a reply call of the token leaves, told of outcomes.
use Rattle.std.proofs.Common.{◌≡◌, ◌∙◌, ap, sym, subst, map, ℕ, ℤ, List, Some}
use Rattle.wire_message.specs.Content.{Content, short_reply, medium_reply, long_reply}
use Rattle.part_handlers.specs.declared.token.Token.{Token}
use Rattle.part_handlers.specs.declared.message.Replied.{Replied}
use Rattle.part_handlers.specs.declared.message.Replied.TheVariants as answers
use Rattle.part_handlers.specs.Tokens.{At, Stage, answer_with_token, token_after_reply, token_arrival, frame_of, leaving, stage}
use Rattle.part_handlers.specs.Tokens.{start_of}
use Rattle.part_handlers.specs.Runs.{Outcome, IsSpelled, replying}
use Rattle.part_handlers.proofs.Laws.{replying-leaving, cells-replying, writes-replying, IsSpelled-replying}
use Rattle.part_segment.specs.Image.{Write, written_by}
use Rattle.text_calls.specs.declared.values.Operand.{Operand}
use Rattle.text_calls.specs.declared.values.Payload.{Payload}
use Rattle.text_steps.specs.declared.steps.ReplyAction.TheVariants as reply
use Rattle.text_script.specs.ActionResult.{AsksReply}
use Rattle.text_script.specs.Bodies.{operand_at, operand_value, payload_bytes, after_reply, segment_at}

-- what a reply call of the token ensures
pub reply_asked : (old new : Token) (content : Content) (result : Replied) → result ≡ answer_with_token old content
    → new ≡ token_after_reply old content result → (result ≡ answers.Sent → IsSpelled (frame_of old) (Some content))
    → AsksReply content old new
reply_asked old new content result judge after spelled = λ token outcome is before. record {
  token_is = replying-leaving token old new outcome content result is judge after;
  spelled = IsSpelled-replying token old content outcome result is judge
      (λ sent. subst (λ (at : Token). IsSpelled (frame_of at) (Some content)) is (spelled sent)) before;
}

-- a call of the token that changes the token alone
pub token_at : (opening : Stage) (outcome next : Outcome) (segment : List ℕ) (cells : List ℤ) (old new : Token)
    → At opening outcome (stage segment cells old) → next.writes ≡ outcome.writes → next.cells ≡ outcome.cells
    → next.reply ≡ outcome.reply → new ≡ leaving next opening.token → At opening next (stage segment cells new)
token_at opening outcome next segment cells old new at writes_are cells_are reply_is token_is = record {
  segment_is = at.segment_is ∙ ap (λ (writes : List Write). written_by opening.segment writes) (sym writes_are);
  same_length = at.same_length;
  cells_are = at.cells_are ∙ sym cells_are;
  token_is = token_is;
  spelled = subst (IsSpelled (frame_of opening.token)) (sym reply_is) at.spelled;
}

-- a reply changes no byte of the segment and no cell
pub reply_at : (opening : Stage) (outcome : Outcome) (segment : List ℕ) (cells : List ℤ) (old new : Token)
    (content : Content) → At opening outcome (stage segment cells old) → AsksReply content old new
    → At opening (replying (frame_of opening.token) content outcome) (stage segment cells new)
reply_at opening outcome segment cells old new content at asks =
    let left = asks opening.token outcome at.token_is at.spelled in
    record {
      segment_is = at.segment_is
          ∙ ap (λ (writes : List Write). written_by opening.segment writes)
          (sym (writes-replying (frame_of opening.token) content outcome));
      same_length = at.same_length;
      cells_are = at.cells_are ∙ sym (cells-replying (frame_of opening.token) content outcome);
      token_is = left.token_is;
      spelled = left.spelled;
    }

-- the numbers of the operands are those at the outcome so far
values_at : (opening : Stage) (outcome : Outcome) (segment : List ℕ) (cells : List ℤ) (old : Token)
    (operands items : List Operand) → At opening outcome (stage segment cells old) → items ≡ operands
    → map (operand_value cells (token_arrival old).args) items
    ≡ map (operand_at (frame_of opening.token) outcome) operands
values_at opening outcome segment cells old operands items at same =
    ap (map (operand_value cells (token_arrival old).args)) same
    ∙ (ap (λ (numbers : List ℤ). map (operand_value numbers (token_arrival old).args) operands) at.cells_are
    ∙ ap (λ (token : Token). map (operand_value outcome.cells (token_arrival token).args) operands) at.token_is)

-- the bytes of a payload are those at the outcome so far
load_at : (opening : Stage) (outcome : Outcome) (segment : List ℕ) (cells : List ℤ) (old : Token) (load : Payload)
    (bytes : List ℕ) → At opening outcome (stage segment cells old)
    → Some bytes ≡ payload_bytes (token_arrival old) segment load
    → payload_bytes (frame_of opening.token).arrival (segment_at (start_of opening) outcome) load ≡ Some bytes
load_at opening outcome segment cells old load bytes at told =
    sym (told ∙ (ap (λ (token : Token). payload_bytes (token_arrival token) segment load) at.token_is
    ∙ ap (λ (now : List ℕ). payload_bytes (token_arrival opening.token) now load) at.segment_is))

-- a Short reply of a body
pub short_at : (opening : Stage) (outcome : Outcome) (segment : List ℕ) (cells : List ℤ) (old new : Token)
    (handler : ℕ) (operands items : List Operand) → At opening outcome (stage segment cells old) → items ≡ operands
    → AsksReply (short_reply handler (map (operand_value cells (token_arrival old).args) items)) old new
    → At opening (after_reply (frame_of opening.token) (start_of opening) outcome (reply.Short handler operands))
    (stage segment cells new)
short_at opening outcome segment cells old new handler operands items at same asks =
    subst (λ (values : List ℤ). At opening (replying (frame_of opening.token) (short_reply handler values) outcome)
    (stage segment cells new)) (values_at opening outcome segment cells old operands items at same)
    (reply_at opening outcome segment cells old new _ at asks)

-- a Medium reply of a body
pub medium_at : (opening : Stage) (outcome : Outcome) (segment : List ℕ) (cells : List ℤ) (old new : Token)
    (handler : ℕ) (load : Payload) (bytes : List ℕ) (operands items : List Operand)
    → At opening outcome (stage segment cells old) → items ≡ operands
    → Some bytes ≡ payload_bytes (token_arrival old) segment load
    → AsksReply (medium_reply handler (map (operand_value cells (token_arrival old).args) items) bytes) old new
    → At opening (after_reply (frame_of opening.token) (start_of opening) outcome (reply.Medium handler load operands))
    (stage segment cells new)
medium_at opening outcome segment cells old new handler load bytes operands items at same told asks =
    rw (load_at opening outcome segment cells old load bytes at told)
    (subst
    (λ (values : List ℤ). At opening (replying (frame_of opening.token) (medium_reply handler values bytes) outcome)
    (stage segment cells new)) (values_at opening outcome segment cells old operands items at same)
    (reply_at opening outcome segment cells old new _ at asks))

-- a Long reply of a body
pub long_at : (opening : Stage) (outcome : Outcome) (segment : List ℕ) (cells : List ℤ) (old new : Token)
    (handler offset : ℕ) (load : Payload) (bytes : List ℕ) (operands items : List Operand)
    → At opening outcome (stage segment cells old) → items ≡ operands
    → Some bytes ≡ payload_bytes (token_arrival old) segment load
    → AsksReply (long_reply handler (map (operand_value cells (token_arrival old).args) items) offset bytes) old new
    → At opening (after_reply (frame_of opening.token) (start_of opening) outcome (reply.Long handler load offset operands))
    (stage segment cells new)
long_at opening outcome segment cells old new handler offset load bytes operands items at same told asks =
    rw (load_at opening outcome segment cells old load bytes at told)
    (subst
    (λ (values : List ℤ).
    At opening (replying (frame_of opening.token) (long_reply handler values offset bytes) outcome)
    (stage segment cells new)) (values_at opening outcome segment cells old operands items at same)
    (reply_at opening outcome segment cells old new _ at asks))
