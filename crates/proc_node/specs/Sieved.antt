-- What a sieve sends of the datagrams that are handed to it.
use Rattle.std.specs.Prelude.{◌≡◌, ℕ, ◌≤◌, true, List, [], ◌∷◌, ◌++◌, fold, length, Option, None, Some, unwrap_or}
use Rattle.base_io.specs.Faults.{one_more, Rose}
use Rattle.base_io.specs.Sieve.{Sieving, is_plain_sieve, next_plan}
use Rattle.base_io.specs.Told.{and_all}
use Rattle.text_job.specs.declared.job.SieveRule.{SieveRule}
use Rattle.base_io.specs.declared.link.Link.{Ghosts as LinkGhosts}

-- datagrams, each with its node
abbrev pub Datagrams : Type 0
Datagrams = List (ℕ × List ℕ)

-- a sieve of this rule before a link, to which nothing was handed yet
abbrev pub before_all : {L : Type 0} → SieveRule → L → Sieving L
before_all rule link = record {
  inner = link;
  lose = rule.lose;
  repeat = rule.repeat;
  swap = rule.swap;
  number = 0;
  held = None;
}

-- that sieve, where a list stands for the link: what it is sent is appended
abbrev pub first_of : SieveRule → Sieving Datagrams
first_of rule = before_all rule []

-- the rule of a sieve
abbrev pub rule_of : {L : Type 0} → Sieving L → SieveRule
rule_of sieve = record { lose = sieve.lose; repeat = sieve.repeat; swap = sieve.swap }

-- one more datagram was handed to it: what is to be done with it was done
abbrev pub sift : Sieving Datagrams → ℕ × List ℕ → Sieving Datagrams
sift sieve datagram =
    let plan = next_plan sieve datagram in
    record sieve {
      inner = sieve.inner ++ (plan.own ++ plan.freed);
      number = one_more sieve.number;
      held = plan.held;
    }

-- these were handed to it, in order
abbrev pub sieve_after : {L : Type 0} → Sieving L → Datagrams → Sieving Datagrams
sieve_after sieve handed = fold sift (first_of (rule_of sieve)) handed

-- since the link behind the sieve was as it was at first, these were handed to the sieve: the link was sent what the
-- sieve makes of them, and number and held datagram are as they make them
pub record HasSifted {L : Type 0} (links : LinkGhosts L) (first : L) (handed : Datagrams) (sieve : Sieving L)
    : Type 0 where
  pub sent : links.sent sieve.inner ≡ and_all (links.sent first) (sieve_after sieve handed).inner
  pub number : sieve.number ≡ (sieve_after sieve handed).number
  pub held : sieve.held ≡ (sieve_after sieve handed).held

-- what holds of it since then: unless the link failed, that; and where the numbers are 0, the link was sent all of them
pub record IsSieved {L : Type 0} (links : LinkGhosts L) (first : L) (handed : Datagrams) (sieve : Sieving L)
    : Type 0 where
  pub later : links.faults first ≤ links.faults sieve.inner
  pub plain : is_plain_sieve sieve ≡ true → links.sent sieve.inner ≡ and_all (links.sent first) handed
  pub sifts : (Rose (links.faults first) (links.faults sieve.inner) → ⊥) → HasSifted links first handed sieve

-- nothing was handed yet to this sieve, which has this rule and stands before this link
pub record IsFreshSieve {L : Type 0} (rule : SieveRule) (link : L) (sieve : Sieving L) (first : L) (handed : Datagrams)
    : Type 0 where
  pub sieve_is : sieve ≡ before_all rule link
  pub first_is : first ≡ link
  pub handed_is : handed ≡ []

-- ---- what tells two openings apart

-- 1 where it is told
abbrev pub one_if_told : Option Datagrams → ℕ
one_if_told None = 0
one_if_told (Some told) = 1

-- the numbers of the sieve, the count of faults of the link at first, and how many datagrams it had sent, where it
-- tells them
abbrev pub mark : {L : Type 0} → LinkGhosts L → (first : L) → Sieving L → ℕ × List ℕ
mark links first sieve = (
  links.faults first,
  sieve.lose ∷ sieve.repeat ∷ sieve.swap ∷ one_if_told (links.sent first)
      ∷ length (unwrap_or (links.sent first) []) ∷ [],
)

-- that, and what had been sent at first
abbrev pub heading : {L : Type 0} → LinkGhosts L → (first : L) → Sieving L → Datagrams
heading links first sieve = mark links first sieve ∷ unwrap_or (links.sent first) []
