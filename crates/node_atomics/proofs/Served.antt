-- What the token's call of the reply leaves, told of outcomes.
use Rattle.std.proofs.Common.{◌≡◌, ◌∙◌, ℕ, ℤ, List, ◌++◌, length, Option, None, Some, refl, ap, sym, subst}
use Rattle.wire_message.specs.Content.{Content}
use Rattle.part_segment.specs.Image.{Write, written_by}
use Rattle.part_segment.proofs.Images.{written_by-append}
use Rattle.part_handlers.specs.declared.token.Token.{Token}
use Rattle.part_handlers.specs.declared.message.Replied.{Replied}
use Rattle.part_handlers.specs.declared.message.Replied.TheVariants as answers
use Rattle.part_handlers.specs.Tokens.{At, Stage, answer_with_token, token_after_reply, token_arrival, frame_of, stage, start_of}
use Rattle.part_handlers.specs.Runs.{Outcome, IsSpelled, replying}
use Rattle.part_handlers.proofs.Laws.{replying-leaving, cells-replying, writes-replying, IsSpelled-replying}
use Rattle.std.proofs.lemmas.Bool.{eq-eqb}
use Rattle.node_atomics.specs.BatchRequests.{BatchRequest, request_said, number_of_halves, ops_said, place_fault}
use Rattle.node_atomics.specs.Served.{after_request, after_batch, request_for, if_placed}

-- what the call of the token said and left
pub record Replies (content : Content) (old new : Token) (result : Replied) : Type 0 where
  pub answer : result ≡ answer_with_token old content
  pub answered_so : new ≡ token_after_reply old content result
  pub spelled : result ≡ answers.Sent → IsSpelled (frame_of old) (Some content)

-- operations were done, and then a reply was asked for
pub replied_at : (opening : Stage) (outcome : Outcome) (segment later : List ℕ) (cells : List ℤ) (old new : Token)
    (writes : List Write) (content : Content) (result : Replied) → At opening outcome (stage segment cells old)
    → later ≡ written_by segment writes → length later ≡ length segment → Replies content old new result
    → At opening (replying (frame_of opening.token) content (record outcome { writes = outcome.writes ++ writes }))
    (stage later cells new)
replied_at opening outcome segment later cells old new writes content result at written same reply =
    let next : Outcome = record outcome { writes = outcome.writes ++ writes } in
    let frame = frame_of opening.token in
    record {
      segment_is = written
          ∙ (ap (λ (bytes : List ℕ). written_by bytes writes) at.segment_is
          ∙ (sym (written_by-append opening.segment outcome.writes writes)
          ∙ ap (written_by opening.segment) (sym (writes-replying frame content next))));
      same_length = same ∙ at.same_length;
      cells_are = at.cells_are ∙ sym (cells-replying frame content next);
      token_is = replying-leaving opening.token old new next content result at.token_is reply.answer reply.answered_so;
      spelled = IsSpelled-replying opening.token old content next result at.token_is reply.answer
          (λ sent. subst (λ (token : Token). IsSpelled (frame_of token) (Some content)) at.token_is (reply.spelled sent))
          at.spelled;
    }

-- the message asks a request of a batch
pub after_request_is : (opening : Stage) (outcome : Outcome) (segment : List ℕ) (cells : List ℤ) (old : Token)
    (request : BatchRequest) → At opening outcome (stage segment cells old)
    → request_for (length segment) (token_arrival old) ≡ Some request
    → after_batch (frame_of opening.token) segment (Some request) outcome
    ≡ after_request (frame_of opening.token) (start_of opening) outcome
after_request_is opening outcome segment cells old request at says =
    let frame = frame_of opening.token in
    ap (λ (found : Option BatchRequest). after_batch frame segment found outcome) (sym says)
    ∙ (ap (λ (token : Token). after_batch frame segment (request_for (length segment) (token_arrival token)) outcome) at.token_is
    ∙ (ap (λ (len : ℕ). after_batch frame segment (request_for len (token_arrival opening.token)) outcome) at.same_length
    ∙ ap (λ (bytes : List ℕ). after_batch frame bytes (request_for (length opening.segment) (token_arrival opening.token))
    outcome) at.segment_is))

-- the message asks this request
pub record Says (segment : ℕ) (args : List ℤ) (payload : List ℕ) (request : BatchRequest) : Type 0 where
  pub four : length args ≡ 4
  pub local : request.local ≡ number_of_halves args 0
  pub tag : request.tag ≡ number_of_halves args 2
  pub ops : ops_said payload ≡ Some request.ops
  pub placed : place_fault segment request.local request.ops ≡ None

pub request_said_so : (segment : ℕ) (args : List ℤ) (payload : List ℕ) (request : BatchRequest)
    → Says segment args payload request → if_placed segment (request_said args payload) ≡ Some request
request_said_so segment args payload request says =
    rw (eq-eqb _ _ says.four) (rw says.ops (rw (sym says.local) (rw (sym says.tag) (rw says.placed refl))))
