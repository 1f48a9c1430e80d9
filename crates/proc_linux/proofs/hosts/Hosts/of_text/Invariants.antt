use Rattle.std.proofs.Common.{ℕ, List}
use Rattle.std.proofs.lemmas.Iterator.{YieldsList}
use Rattle.proc_linux.proofs.HostReading.{AreRead}
use Rattle.proc_linux.proofs.hosts.Hosts.of_text.Given as goal

abbrev pub invariant-loop-word : goal.invariant-loop-word
invariant-loop-word l = (left : List (List ℕ)) × YieldsList goal.iterator-loop-word.next_gives (λ w. w.now) l.word-iterator left
    × AreRead l.text l.addresses.items left
