-- Plain answers: those that refer to nothing of their node.
use Rattle.std.specs.Prelude.{◌≡◌, Bool, true, false}
use Rattle.spec_node.specs.Behaviour.{Behaviour}
use Rattle.node_core.specs.Kept.{Local}
use Rattle.node_rules.specs.EndpointLocal.{EndpointLocal}
use Rattle.node_rules.specs.CoreCalls.{OnSegment}
use Rattle.node_rules.specs.Memory.{Show}
use Rattle.node_rules.specs.TransferCalls.{Caller}
use Rattle.node_rules.specs.EndpointRules.{OtherCall, OnCore, does_call}
use Rattle.node_rules.specs.declared.answer.Answer.{Answer}
use Rattle.node_rules.specs.declared.answer.Answer.TheVariants as answers
use Rattle.node_rules.specs.declared.answer.Local.TheVariants as local

-- the answer is plain: it refers to no message in a slot of the node, and to no range of its segment
abbrev pub is_plain_answer : Answer → Bool
is_plain_answer (answers.Asked answer) = false
is_plain_answer (answers.Delivered answer) = false
is_plain_answer (answers.Ticked answer) = false
is_plain_answer (answers.Local (local.Shown offset len)) = false
is_plain_answer _ = true

-- the call whose answer refers to a range of the segment
abbrev pub shows : OtherCall → Bool
shows (OnCore (OnSegment (Show offset len))) = true
shows _ = false

-- every other call that makes no request has a plain answer
abbrev pub AnswersArePlain : Type 0
AnswersArePlain =
    (behaviour : Behaviour EndpointLocal) (own : Behaviour Local) (caller : Caller) (call : OtherCall)
    (local : EndpointLocal)
    → shows call ≡ false → is_plain_answer (does_call behaviour own caller call local).0 ≡ true
