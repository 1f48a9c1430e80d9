-- What a sieve makes of the datagrams that are handed to it.
use Rattle.std.specs.Prelude.{◌≡◌, ℕ, ◌<◌, ◌≤◌, ◌%◌, ◌==◌, nat_lt, nat_le, Bool, not, ◌&&◌, if◌then◌else◌, List, []}
use Rattle.std.specs.Prelude.{◌∷◌, ◌++◌, length, take, Option, Some, None, option_to_list}
use Rattle.base_io.specs.Faults.{one_more, Rose}
use Rattle.base_io.specs.Told.{and_all}
use Rattle.base_io.specs.declared.link.Link.{Ghosts}
use Rattle.base_io.specs.declared.link.LinkAnswer.{LinkAnswer}
use Rattle.base_io.specs.declared.link.LinkAnswer.TheVariants as answer
use Rattle.base_io.specs.declared.sieve_rule.SieveRule.{SieveRule}
use Rattle.base_io.specs.declared.sieve_rule.SieveRule.TheVariants as rule
use Rattle.base_io.specs.declared.link.TheConstants.{MAX_DATAGRAM}

-- a sieve: the link behind it, its three numbers, the number of the datagram that was handed to it last, and the
-- datagram that it holds back, with its node
pub record Sieving (L : Type 0) : Type 0 where
  pub inner : L
  pub lose : ℕ
  pub repeat : ℕ
  pub swap : ℕ
  pub number : ℕ
  pub held : Option (ℕ × List ℕ)

-- the three numbers are 0
abbrev pub is_plain_sieve : {L : Type 0} → Sieving L → Bool
is_plain_sieve sieve = (sieve.lose == 0) && (sieve.repeat == 0) && (sieve.swap == 0)

-- the step isn't 0, and divides the number
abbrev pub divides : (step number : ℕ) → Bool
divides step number = not (step == 0) && (number % step == 0)

-- what is done with the datagram of this number, which has so many bytes: the first rule that applies decides
abbrev pub rule_for : {L : Type 0} → Sieving L → (number len : ℕ) → SieveRule
rule_for sieve number len =
    if divides sieve.lose number
    then rule.Lose
    else (if divides sieve.repeat number
    then rule.Repeat
    else (if divides sieve.swap number && nat_le len MAX_DATAGRAM then rule.HoldBack else rule.Pass))

-- what is to be done: the datagram itself is sent as often as it is `own`, then the `freed` one that was held back, and
-- then this one is held back
pub record Plan : Type 0 where
  pub own : List (ℕ × List ℕ)
  pub freed : List (ℕ × List ℕ)
  pub held : Option (ℕ × List ℕ)

-- by the rule that decides
abbrev pub plan_of : SieveRule → (held : Option (ℕ × List ℕ)) → (datagram : ℕ × List ℕ) → Plan
plan_of rule.Lose held datagram = record { own = []; freed = []; held = held }
plan_of rule.Repeat held datagram = record { own = datagram ∷ datagram ∷ []; freed = option_to_list held; held = None }
plan_of rule.HoldBack held datagram = record { own = []; freed = option_to_list held; held = Some datagram }
plan_of rule.Pass held datagram = record { own = datagram ∷ []; freed = option_to_list held; held = None }

-- the plan for the next datagram
abbrev pub next_plan : {L : Type 0} → Sieving L → ℕ × List ℕ → Plan
next_plan sieve datagram =
    plan_of (rule_for sieve (one_more sieve.number) (length datagram.1)) sieve.held datagram

-- one more datagram was handed in
abbrev pub with_next_number : {L : Type 0} → Sieving L → Sieving L
with_next_number sieve = record sieve { number = one_more sieve.number }

-- the link behind was sent all of it
pub record SentAll {L : Type 0} (link : Ghosts L) (plan : Plan) (old new : Sieving L) : Type 0 where
  pub sent : link.sent new.inner ≡ and_all (link.sent old.inner) (plan.own ++ plan.freed)
  pub rest : new ≡ record old { inner = new.inner; held = plan.held }

-- the link behind was sent so many of them, and failed at the next one, which is dropped; what was held back stays so
-- unless it was that one, and nothing else is
pub record SentSome {L : Type 0} (link : Ghosts L) (plan : Plan) (old new : Sieving L) : Type 0 where
  pub count : ℕ
  pub fewer : count < length (plan.own ++ plan.freed)
  pub sent : link.sent new.inner ≡ and_all (link.sent old.inner) (take count (plan.own ++ plan.freed))
  pub rest : new ≡ record old { inner = new.inner; held = if nat_lt count (length plan.own) then old.held else None }
  pub rose : Rose (link.faults old.inner) (link.faults new.inner)

-- a sieve follows a plan, or fails at the first send that fails
abbrev pub Follows : {L : Type 0} → Ghosts L → Plan → Sieving L → LinkAnswer → Sieving L → Type 0
Follows link plan old answer.Done new = SentAll link plan old new
Follows link plan old answer.Failed new = SentSome link plan old new

-- the link behind is bound to the same, and received and lets wait the same; its faults aren't forgotten
pub record KeepsInner {L : Type 0} (link : Ghosts L) (old new : L) : Type 0 where
  pub bound : link.bound new ≡ link.bound old
  pub received : link.received new ≡ link.received old
  pub waiting : link.waiting new ≡ link.waiting old
  pub later : link.faults old ≤ link.faults new
