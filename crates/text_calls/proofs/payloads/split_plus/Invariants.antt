use Rattle.std.proofs.Common.{◌≡◌, ◌≤◌, ◌++◌, ◌-◌, length, drop, take}
use Rattle.text_calls.specs.Payloads.{before_plus, behind_plus}
use Rattle.text_calls.proofs.payloads.split_plus.Given as goal

abbrev pub invariant-loop-end : goal.invariant-loop-end
invariant-loop-end l = record {
  within : l.end ≤ length l.word;
  prefix : before_plus l.word ≡ take l.end l.word ++ before_plus (drop l.end l.word);
  back : behind_plus l.word ≡ behind_plus (drop l.end l.word);
}

abbrev pub decreases-loop-end : goal.decreases-loop-end
decreases-loop-end l = length l.word - l.end
