-- What the code of a body of a handler ensures of each action.
use Rattle.std.specs.Prelude.{◌≡◌}
use Rattle.wire_message.specs.Content.{Content}
use Rattle.part_handlers.specs.declared.token.Token.{Token}
use Rattle.part_handlers.specs.Tokens.{At, Stage, frame_of, leaving, start_of}
use Rattle.part_handlers.specs.Runs.{IsSpelled, Outcome, replying}
use Rattle.text_steps.specs.declared.steps.Action.{Action}
use Rattle.text_steps.specs.declared.steps.ReplyAction.{ReplyAction}
use Rattle.text_script.specs.Bodies.{act, after_reply}

-- an action goes from any outcome so far to the next, wherever the run began
abbrev pub AtAction : Action → (old new : Stage) → Type 0
AtAction action old new =
    (opening : Stage) (outcome : Outcome) → At opening outcome old
    → At opening (act (frame_of opening.token) (start_of opening) outcome action) new

-- so does a reply
abbrev pub AtReply : ReplyAction → (old new : Stage) → Type 0
AtReply asked old new =
    (opening : Stage) (outcome : Outcome) → At opening outcome old
    → At opening (after_reply (frame_of opening.token) (start_of opening) outcome asked) new

-- a token that was left so is left with this reply asked for
pub record LeavesReply (content : Content) (token : Token) (outcome : Outcome) (new : Token) : Type 0 where
  pub token_is : new ≡ leaving (replying (frame_of token) content outcome) token
  pub spelled : IsSpelled (frame_of token) (replying (frame_of token) content outcome).reply

-- a token goes from any outcome so far to that with this reply
abbrev pub AsksReply : Content → (old new : Token) → Type 0
AsksReply content old new =
    (token : Token) (outcome : Outcome) → old ≡ leaving outcome token → IsSpelled (frame_of token) outcome.reply
    → LeavesReply content token outcome new
