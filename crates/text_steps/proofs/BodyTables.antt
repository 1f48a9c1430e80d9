-- The tables of actions and of replies in code.
use Rattle.std.proofs.Common.{◌≡◌, refl, ap, ◌∙◌, false, ℕ, List, map}
use Rattle.base_text.specs.Lines.{◌>>=◌}
use Rattle.text_calls.specs.Forms.{none_at, Row, named_at}
use Rattle.text_calls.specs.FormTests.{named_form}
use Rattle.text_calls.proofs.TableLaws.{found_form, read_named, test_named}
use Rattle.text_steps.specs.Bodies.{action_form_row, action_forms, action_named, action_words_at, actions, token_actions}
use Rattle.text_steps.specs.Bodies.{all_replies, replies, reply_at, reply_form, reply_form_row, reply_named}
use Rattle.text_steps.specs.Bodies.{reply_words_at}
use Rattle.text_steps.specs.declared.steps.Action.{Action}
use Rattle.text_steps.specs.declared.steps.ReplyAction.{ReplyAction}

-- the forms have the rows of the tables
replies_are : replies ≡ map reply_form_row all_replies
unfolding all_replies
replies_are = refl

actions_are : actions ≡ map action_form_row action_forms
unfolding actions token_actions action_forms
actions_are = refl

-- reading a line is reading the words of the form of its name
pub read_replies : (name bytes : List ℕ) → named_at none_at replies name bytes
    ≡ (reply_named name >>= λ form. reply_words_at form bytes)
unfolding reply_named reply_words_at
read_replies name bytes =
    ap (λ (rows : List (Row ⊥ ReplyAction)). named_at none_at rows name bytes) replies_are
    ∙ read_named none_at reply_form_row all_replies name bytes

pub read_actions : (name bytes : List ℕ) → named_at reply_at actions name bytes
    ≡ (action_named name >>= λ form. action_words_at form bytes)
unfolding action_named action_words_at
read_actions name bytes =
    ap (λ (rows : List (Row ReplyAction Action)). named_at reply_at rows name bytes) actions_are
    ∙ read_named reply_at action_form_row action_forms name bytes

-- and it has the form of one by the words of that form
pub test_replies : (name bytes : List ℕ) → named_form (λ bytes. false) replies name bytes
    ≡ found_form (λ bytes. false) reply_form_row (reply_named name) bytes
unfolding reply_named
test_replies name bytes =
    ap (λ (rows : List (Row ⊥ ReplyAction)). named_form (λ bytes. false) rows name bytes) replies_are
    ∙ test_named (λ bytes. false) reply_form_row all_replies name bytes

pub test_actions : (name bytes : List ℕ) → named_form reply_form actions name bytes
    ≡ found_form reply_form action_form_row (action_named name) bytes
unfolding action_named
test_actions name bytes =
    ap (λ (rows : List (Row ReplyAction Action)). named_form reply_form rows name bytes) actions_are
    ∙ test_named reply_form action_form_row action_forms name bytes
