-- The forms of actions in a handler's body.
use Rattle.std.specs.Prelude.{ℕ, List, [], ◌∷◌, Option, Bool, true, false, codes}
use Rattle.base_text.specs.Lines.{Word}
use Rattle.text_calls.specs.Forms.{BodyValue, BodyPayload, Kind, Shape, End, ◌▸◌, Many, Inner, Maker, Values}
use Rattle.text_calls.specs.Forms.{Row, Entry}
use Rattle.text_calls.specs.Forms.{row_at, table_at, entry_text, IsOf, none_at, none_text, none_fits, U64, U8}
use Rattle.text_calls.specs.FormTests.{table_form}
use Rattle.text_calls.specs.Tables.{first_named}
use Rattle.text_steps.specs.declared.action_forms.ActionForm.{ActionForm}
use Rattle.text_steps.specs.declared.action_forms.ActionForm.TheVariants as forms
use Rattle.text_steps.specs.declared.reply_forms.ReplyForm.{ReplyForm}
use Rattle.text_steps.specs.declared.reply_forms.ReplyForm.TheVariants as reply_forms
use Rattle.text_steps.specs.declared.steps.ReplyAction.{ReplyAction}
use Rattle.text_steps.specs.declared.steps.ReplyAction.TheVariants as reply
use Rattle.text_steps.specs.declared.steps.Action.{Action}
use Rattle.text_steps.specs.declared.steps.Action.TheVariants as action

-- ---- what follows `reply`

abbrev pub short_reply : Row ⊥ ReplyAction
short_reply = record { name = codes "short"; shape = U8 ▸ Many 0 17 BodyValue; make = reply.Short }

abbrev pub medium_reply : Row ⊥ ReplyAction
medium_reply = record {
  name = codes "medium";
  shape = U8 ▸ BodyPayload ▸ Many 0 17 BodyValue;
  make = reply.Medium;
}

abbrev pub long_reply : Row ⊥ ReplyAction
long_reply = record {
  name = codes "long";
  shape = U8 ▸ BodyPayload ▸ U64 ▸ Many 0 17 BodyValue;
  make = reply.Long;
}

-- the forms of replies
abbrev pub replies : List (Row ⊥ ReplyAction)
replies = short_reply ∷ medium_reply ∷ long_reply ∷ []

-- the row of a form of the code's table
abbrev pub reply_form_row : ReplyForm → Row ⊥ ReplyAction
reply_form_row reply_forms.Short = short_reply
reply_form_row reply_forms.Medium = medium_reply
reply_form_row reply_forms.Long = long_reply

-- the forms, in the order of the rows
unfoldable pub all_replies : List ReplyForm
all_replies = reply_forms.Short ∷ reply_forms.Medium ∷ reply_forms.Long ∷ []

-- the form of this name
unfoldable pub reply_named : Word → Option ReplyForm
reply_named name = first_named (λ form. (reply_form_row form).name) all_replies name

-- what reads the words of a form behind its name
unfoldable pub reply_words_at : ReplyForm → List ℕ → Option (ReplyAction × List ℕ)
reply_words_at form bytes = row_at none_at (reply_form_row form) bytes

-- how a reply is written
abbrev pub reply_entry : ReplyAction → Entry ⊥ ReplyAction
reply_entry (reply.Short handler operands) = record { row = short_reply; values = (handler, operands) }
reply_entry (reply.Medium handler payload operands) =
    record { row = medium_reply; values = (handler, (payload, operands)) }
reply_entry (reply.Long handler payload offset operands) =
    record { row = long_reply; values = (handler, (payload, (offset, operands))) }

-- what reads a reply
unfoldable pub reply_at : List ℕ → Option (ReplyAction × List ℕ)
reply_at bytes = table_at none_at replies (λ reply. true) bytes

-- whether bytes have the form of a reply
unfoldable pub reply_form : List ℕ → Bool
reply_form bytes = table_form (λ bytes. false) replies bytes

-- the text of a reply
abbrev pub reply_text : ReplyAction → List ℕ
reply_text reply = entry_text none_text (reply_entry reply)

-- a reply whose words can be said
abbrev pub IsReply : ReplyAction → Type 0
IsReply reply = IsOf none_fits reply_entry (λ reply. true) reply

-- ---- actions

abbrev pub row_of_action : Word → (shape : Shape) → Maker ReplyAction shape Action → Row ReplyAction Action
row_of_action name shape make = record { name = name; shape = shape; make = make }

abbrev pub add_row : Row ReplyAction Action
add_row = row_of_action (codes "add") (U8 ▸ BodyValue ▸ End) action.Add

abbrev pub set_cell_row : Row ReplyAction Action
set_cell_row = row_of_action (codes "set-cell") (U8 ▸ BodyValue ▸ End) action.SetCell

abbrev pub source_row : Row ReplyAction Action
source_row = row_of_action (codes "source") (U8 ▸ End) action.Source

abbrev pub sum_row : Row ReplyAction Action
sum_row = row_of_action (codes "sum") (U8 ▸ End) action.Sum

abbrev pub keep_row : Row ReplyAction Action
keep_row = row_of_action (codes "keep") (U64 ▸ End) action.Keep

abbrev pub lock_row : Row ReplyAction Action
lock_row = row_of_action (codes "lock") (U8 ▸ End) action.Lock

abbrev pub unlock_row : Row ReplyAction Action
unlock_row = row_of_action (codes "unlock") (U8 ▸ End) action.Unlock

abbrev pub attempt_row : Row ReplyAction Action
attempt_row = row_of_action (codes "attempt") (Kind ▸ End) action.Attempt

abbrev pub reply_row : Row ReplyAction Action
reply_row = row_of_action (codes "reply") Inner action.Reply

-- the forms of actions from `lock` on
unfoldable pub token_actions : List (Row ReplyAction Action)
token_actions = lock_row ∷ unlock_row ∷ attempt_row ∷ reply_row ∷ []

-- the forms of actions
unfoldable pub actions : List (Row ReplyAction Action)
actions = add_row ∷ set_cell_row ∷ source_row ∷ sum_row ∷ keep_row ∷ token_actions

-- the row of a form of the code's table
abbrev pub action_form_row : ActionForm → Row ReplyAction Action
action_form_row forms.Add = add_row
action_form_row forms.SetCell = set_cell_row
action_form_row forms.Source = source_row
action_form_row forms.Sum = sum_row
action_form_row forms.Keep = keep_row
action_form_row forms.Lock = lock_row
action_form_row forms.Unlock = unlock_row
action_form_row forms.Attempt = attempt_row
action_form_row forms.Reply = reply_row

-- the forms, in the order of the rows
unfoldable pub action_forms : List ActionForm
action_forms =
    forms.Add ∷ forms.SetCell ∷ forms.Source ∷ forms.Sum ∷ forms.Keep ∷ forms.Lock ∷ forms.Unlock ∷ forms.Attempt
    ∷ forms.Reply ∷ []

-- the form of this name
unfoldable pub action_named : Word → Option ActionForm
action_named name = first_named (λ form. (action_form_row form).name) action_forms name

-- what reads the words of a form behind its name
unfoldable pub action_words_at : ActionForm → List ℕ → Option (Action × List ℕ)
action_words_at form bytes = row_at reply_at (action_form_row form) bytes

-- the words of an action
abbrev pub words : (row : Row ReplyAction Action) → Values ReplyAction row.shape → Entry ReplyAction Action
words row values = record { row = row; values = values }

-- how an action is written
abbrev pub action_entry : Action → Entry ReplyAction Action
action_entry (action.Add cell operand) = words add_row (cell, (operand, tt))
action_entry (action.SetCell cell operand) = words set_cell_row (cell, (operand, tt))
action_entry (action.Source cell) = words source_row (cell, tt)
action_entry (action.Sum cell) = words sum_row (cell, tt)
action_entry (action.Keep offset) = words keep_row (offset, tt)
action_entry (action.Lock lock) = words lock_row (lock, tt)
action_entry (action.Unlock lock) = words unlock_row (lock, tt)
action_entry (action.Attempt kind) = words attempt_row (kind, tt)
action_entry (action.Reply reply) = words reply_row reply

-- what reads an action
unfoldable pub action_at : List ℕ → Option (Action × List ℕ)
action_at bytes = table_at reply_at actions (λ action. true) bytes

-- whether bytes have the form of an action
unfoldable pub action_form : List ℕ → Bool
action_form bytes = table_form reply_form actions bytes

-- the text of an action
abbrev pub action_text : Action → List ℕ
action_text action = entry_text reply_text (action_entry action)

-- an action whose words can be said
abbrev pub IsAction : Action → Type 0
IsAction action = IsOf IsReply action_entry (λ action. true) action
