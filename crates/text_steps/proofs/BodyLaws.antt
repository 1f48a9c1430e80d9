-- The tables of a handler's body.
use Rattle.std.proofs.Common.{refl, true}
use Rattle.text_steps.specs.declared.steps.ReplyAction.{ReplyAction}
use Rattle.text_steps.specs.declared.steps.ReplyAction.TheVariants as reply
use Rattle.text_steps.specs.declared.steps.Action.{Action}
use Rattle.text_steps.specs.declared.steps.Action.TheVariants as action
use Rattle.text_calls.specs.Forms.{none_at, none_text, none_fits}
use Rattle.text_steps.specs.Bodies.{replies, reply_entry, reply_at, reply_text, IsReply}
use Rattle.text_steps.specs.Bodies.{actions, token_actions, action_entry, action_at, action_text, IsAction}
use Rattle.text_calls.proofs.FormLaws.{IsExact, IsTable, IsEntryOf, entry_of, table_exact, none_exact}

reply_again : (r : ReplyAction) → IsEntryOf replies reply_entry r
reply_again (reply.Short handler operands) = entry_of refl refl refl
reply_again (reply.Medium handler payload operands) = entry_of refl refl refl
reply_again (reply.Long handler payload offset operands) = entry_of refl refl refl

replies_are : IsTable replies reply_entry (λ r. true)
replies_are = record { makes = (λ v. refl, (λ v. refl, (λ v. refl, tt))); again = λ r h. reply_again r }

-- reading a reply is the inverse of writing it
pub replies_exact : IsExact reply_at reply_text IsReply
unfolding reply_at
replies_exact = table_exact none_at none_text none_fits replies reply_entry (λ r. true) none_exact replies_are

action_again : (a : Action) → IsEntryOf actions action_entry a
unfolding actions token_actions
action_again (action.Add cell operand) = entry_of refl refl refl
action_again (action.SetCell cell operand) = entry_of refl refl refl
action_again (action.Source cell) = entry_of refl refl refl
action_again (action.Sum cell) = entry_of refl refl refl
action_again (action.Keep offset) = entry_of refl refl refl
action_again (action.Lock lock) = entry_of refl refl refl
action_again (action.Unlock lock) = entry_of refl refl refl
action_again (action.Attempt kind) = entry_of refl refl refl
action_again (action.Reply r) = entry_of refl refl refl

actions_are : IsTable actions action_entry (λ a. true)
unfolding actions token_actions
actions_are = record {
  makes = (
    λ v. refl,
    (
      λ v. refl,
      (
        λ v. refl,
        (
          λ v. refl,
          (
            λ v. refl,
            (
              λ v. refl,
              (
                λ v. refl,
                (
                  λ v. refl,
                  (λ v. refl, tt),
                ),
              ),
            ),
          ),
        ),
      ),
    ),
  );
  again = λ a h. action_again a;
}

-- reading an action is the inverse of writing it
pub actions_exact : IsExact action_at action_text IsAction
unfolding action_at
actions_exact = table_exact reply_at reply_text IsReply actions action_entry (λ a. true) replies_exact actions_are
