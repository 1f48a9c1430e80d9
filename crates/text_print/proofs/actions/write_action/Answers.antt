use Rattle.text_print.proofs.actions.write_action.Goals as goal

pub returns-in-Add : goal.returns-in-Add
returns-in-Add g c = rw c.in-Add.is c.write.ensures

pub returns-in-SetCell : goal.returns-in-SetCell
returns-in-SetCell g c = rw c.in-SetCell.is c.write-in-SetCell.ensures

pub returns-in-Source : goal.returns-in-Source
returns-in-Source g c = rw c.in-Source.is c.write-in-Source.ensures

pub returns-in-Sum : goal.returns-in-Sum
returns-in-Sum g c = rw c.in-Sum.is c.write-in-Sum.ensures

pub returns-in-Keep : goal.returns-in-Keep
returns-in-Keep g c = rw c.in-Keep.is c.write-in-Keep.ensures

pub returns-in-Lock : goal.returns-in-Lock
returns-in-Lock g c = rw c.in-Lock.is c.write-in-Lock.ensures

pub returns-in-Unlock : goal.returns-in-Unlock
returns-in-Unlock g c = rw c.in-Unlock.is c.write-in-Unlock.ensures

pub returns-in-Attempt : goal.returns-in-Attempt
returns-in-Attempt g c = rw c.in-Attempt.is c.write-in-Attempt.ensures

pub returns-in-Reply : goal.returns-in-Reply
returns-in-Reply g c = rw c.in-Reply.is c.write_replying.ensures
