-- What a sieve sends, one send after the other.
use Rattle.std.proofs.Common.{◌≡◌, ◌≤◌, ℕ, suc, List, [], ◌∷◌, ◌++◌, length, take, Option, Some, None, Bool, true}
use Rattle.std.proofs.Common.{false, nat_lt, ◌==◌, ◌&&◌, refl, sym, ap, ◌∙◌, subst, arith, append_assoc, append-nil}
use Rattle.std.proofs.Common.{option_to_list}
use Rattle.std.specs.Prelude.{if◌then◌else◌}
use Rattle.std.proofs.lemmas.Bool.Decides.{nat_tests}
use Rattle.base_io.specs.Faults.{one_more, Rose}
use Rattle.base_io.specs.Told.{and_all, and_then}
use Rattle.base_io.specs.Link.{SentTold}
use Rattle.base_io.specs.Sieve.{Sieving, Plan, Follows, rule_for, plan_of, next_plan, with_next_number, is_plain_sieve}
use Rattle.base_io.specs.declared.link.Link.{Ghosts}
use Rattle.base_io.specs.declared.link.LinkAnswer.{LinkAnswer}
use Rattle.base_io.specs.declared.link.LinkAnswer.TheVariants as answer
use Rattle.base_io.specs.declared.sieve_rule.SieveRule.{SieveRule}
use Rattle.base_io.specs.declared.sieve_rule.SieveRule.TheVariants as rule

-- some more, and then others
pub and_all-twice : {A : Type 0} (told : Option (List A)) (first second : List A)
    → and_all (and_all told first) second ≡ and_all told (first ++ second)
and_all-twice None first second = refl
and_all-twice (Some list) first second = ap Some (append_assoc list first second)

-- none more
pub and_all-nil : {A : Type 0} (told : Option (List A)) → and_all told [] ≡ told
and_all-nil None = refl
and_all-nil (Some list) = ap Some (append-nil list)

first_fewer : (b : ℕ) → nat_lt 0 (suc b) ≡ true
first_fewer b = grind (arith, nat_tests)

fewer_next : (a b : ℕ) → nat_lt (suc a) (suc b) ≡ nat_lt a b
fewer_next a b = grind (arith, nat_tests)

-- the datagram itself was sent once, and then the rest of the plan was followed
pub own_sent : {L : Type 0} (link : Ghosts L) (datagram : ℕ × List ℕ) (own freed : List (ℕ × List ℕ))
    (held : Option (ℕ × List ℕ)) (old mid new : Sieving L) (said : LinkAnswer)
    → link.sent mid.inner ≡ and_then (link.sent old.inner) datagram → mid ≡ record old { inner = mid.inner }
    → link.faults old.inner ≤ link.faults mid.inner
    → Follows link (record { own = own; freed = freed; held = held }) mid said new
    → Follows link (record { own = datagram ∷ own; freed = freed; held = held }) old said new
own_sent {L = L} link datagram own freed held old mid new answer.Done sent same later h = record {
  sent = h.sent ∙ ap (λ told. and_all told (own ++ freed)) sent
      ∙ and_all-twice (link.sent old.inner) (datagram ∷ []) (own ++ freed);
  rest = h.rest ∙ ap {A = Sieving L} (λ sieve. record sieve { inner = new.inner; held = held }) same;
}
own_sent {L = L} link datagram own freed held old mid new answer.Failed sent same later h = record {
  count = suc h.count;
  fewer = let fewer = h.fewer in omega arith;
  sent = h.sent ∙ ap (λ told. and_all told (take h.count (own ++ freed))) sent
      ∙ and_all-twice (link.sent old.inner) (datagram ∷ []) (take h.count (own ++ freed));
  rest =
      h.rest ∙ ap {A =
      Sieving L} (λ sieve. record sieve {
        inner = new.inner;
        held =
            if nat_lt h.count (length own) then sieve.held else None;
      }) same
      ∙ ap {B = Sieving L} (λ (fewer : Bool). record old { inner = new.inner; held = if fewer then old.held else None })
      (sym (fewer_next h.count (length own)));
  rose = let rose = h.rose in omega arith;
}

-- the first send failed
pub own_failed : {L : Type 0} (link : Ghosts L) (datagram : ℕ × List ℕ) (own freed : List (ℕ × List ℕ))
    (held : Option (ℕ × List ℕ)) (old new : Sieving L)
    → link.sent new.inner ≡ link.sent old.inner → new ≡ record old { inner = new.inner }
    → Rose (link.faults old.inner) (link.faults new.inner)
    → Follows link (record { own = datagram ∷ own; freed = freed; held = held }) old answer.Failed new
own_failed {L = L} link datagram own freed held old new sent same rose = record {
  count = 0;
  fewer = omega arith;
  sent = sent ∙ sym (and_all-nil (link.sent old.inner));
  rest = same
      ∙ ap {B = Sieving L} (λ (fewer : Bool). record old { inner = new.inner; held = if fewer then old.held else None })
      (sym (first_fewer (length own)));
  rose = rose;
}

-- the plan by the rule that decides
pub plan_by : {L : Type 0} (sieve : Sieving L) (datagram : ℕ × List ℕ) (decided : SieveRule)
    → rule_for sieve (one_more sieve.number) (length datagram.1) ≡ decided
    → next_plan sieve datagram ≡ plan_of decided sieve.held datagram
plan_by sieve datagram decided e = ap (λ r. plan_of r sieve.held datagram) e

-- a datagram is to be sent twice, and the first send failed
pub repeat_failed : {L : Type 0} (link : Ghosts L) (datagram : ℕ × List ℕ) (old new : Sieving L) (number : ℕ)
    → number ≡ one_more old.number → rule_for old number (length datagram.1) ≡ rule.Repeat
    → link.sent new.inner ≡ link.sent old.inner → new ≡ record old { inner = new.inner; number = number }
    → Rose (link.faults old.inner) (link.faults new.inner)
    → Follows link (next_plan old datagram) (with_next_number old) answer.Failed new
repeat_failed {L = L} link datagram old new number next decided sent same rose =
    let this : rule_for old (one_more old.number) (length datagram.1) ≡ rule.Repeat =
    subst (λ n. rule_for old n (length datagram.1) ≡ rule.Repeat) next decided in
    subst (λ plan. Follows link plan (with_next_number old) answer.Failed new) (sym (plan_by old datagram rule.Repeat this))
    (own_failed link datagram (datagram ∷ []) (option_to_list old.held) None (with_next_number old) new sent
    (same ∙ ap {B = Sieving L} (λ (n : ℕ). record old { inner = new.inner; number = n }) next) rose)

-- it was sent once, and then as one that is sent once
pub repeat_sent : {L : Type 0} (link : Ghosts L) (datagram : ℕ × List ℕ) (old mid new : Sieving L) (number : ℕ)
    (said : LinkAnswer)
    → number ≡ one_more old.number → rule_for old number (length datagram.1) ≡ rule.Repeat
    → link.sent mid.inner ≡ and_then (link.sent old.inner) datagram
    → mid ≡ record old { inner = mid.inner; number = number } → link.faults old.inner ≤ link.faults mid.inner
    → Follows link (record { own = datagram ∷ []; freed = option_to_list old.held; held = None }) mid said new
    → Follows link (next_plan old datagram) (with_next_number old) said new
repeat_sent {L = L} link datagram old mid new number said next decided sent same later h =
    let this : rule_for old (one_more old.number) (length datagram.1) ≡ rule.Repeat =
    subst (λ n. rule_for old n (length datagram.1) ≡ rule.Repeat) next decided in
    subst (λ plan. Follows link plan (with_next_number old) said new) (sym (plan_by old datagram rule.Repeat this))
    (own_sent link datagram (datagram ∷ []) (option_to_list old.held) None (with_next_number old) mid new said sent
    (same ∙ ap {B = Sieving L} (λ (n : ℕ). record old { inner = mid.inner; number = n }) next) later h)

-- ---- where the three numbers are 0

zeros : (a b c : ℕ) → ((a == 0) && (b == 0) && (c == 0)) ≡ true → (a ≡ 0) × (b ≡ 0) × (c ≡ 0)
zeros a b c e = grind (arith, nat_tests)

-- then each datagram is sent once
plain_plan : {L : Type 0} (sieve : Sieving L) (datagram : ℕ × List ℕ) → is_plain_sieve sieve ≡ true
    → (sieve.swap ≡ 0 → sieve.held ≡ None)
    → next_plan sieve datagram ≡ record { own = datagram ∷ []; freed = []; held = None }
plain_plan sieve datagram plain none =
    let z = zeros sieve.lose sieve.repeat sieve.swap plain in
    let decided : rule_for sieve (one_more sieve.number) (length datagram.1) ≡ rule.Pass = rw (z.0, z.1, z.2) in
    plan_by sieve datagram rule.Pass decided ∙ ap (λ held. plan_of rule.Pass held datagram) (none z.2)

sent_once : {L : Type 0} (link : Ghosts L) (datagram : ℕ × List ℕ) (old new : Sieving L) (said : LinkAnswer)
    → Follows link (record { own = datagram ∷ []; freed = []; held = None }) (with_next_number old) said new
    → SentTold said datagram (link.sent old.inner) (link.sent new.inner)
sent_once link datagram old new answer.Done h = h.sent
sent_once link datagram old new answer.Failed h =
    let none : h.count ≡ 0 = (let fewer = h.fewer in omega arith) in
    h.sent ∙ ap (λ count. and_all (link.sent old.inner) (take count (datagram ∷ []))) none
    ∙ and_all-nil (link.sent old.inner)

untold : (datagram : ℕ × List ℕ) (said : LinkAnswer) → SentTold said datagram None None
untold datagram answer.Done = refl
untold datagram answer.Failed = refl

same_plain : {L : Type 0} (link : Ghosts L) (plan : Plan) (old new : Sieving L) (said : LinkAnswer)
    → Follows link plan old said new → is_plain_sieve new ≡ is_plain_sieve old
same_plain link plan old new answer.Done h = ap is_plain_sieve h.rest
same_plain link plan old new answer.Failed h = ap is_plain_sieve h.rest

plain_cases : {L : Type 0} (link : Ghosts L) (datagram : ℕ × List ℕ) (old new : Sieving L) (said : LinkAnswer)
    (plain : Bool) → is_plain_sieve old ≡ plain
    → (old.swap ≡ 0 → old.held ≡ None) → Follows link (next_plan old datagram) (with_next_number old) said new
    → SentTold said datagram (if plain then link.sent old.inner else None) (if plain then link.sent new.inner else None)
plain_cases link datagram old new said false e none h = untold datagram said
plain_cases link datagram old new said true e none h =
    sent_once link datagram old new said
    (subst (λ plan. Follows link plan (with_next_number old) said new) (plain_plan old datagram e none) h)

-- what a sieve tells as sent
pub told_sent : {L : Type 0} (link : Ghosts L) (datagram : ℕ × List ℕ) (old new : Sieving L) (said : LinkAnswer)
    → (old.swap ≡ 0 → old.held ≡ None) → Follows link (next_plan old datagram) (with_next_number old) said new
    → SentTold said datagram (if is_plain_sieve old then link.sent old.inner else None)
    (if is_plain_sieve new then link.sent new.inner else None)
told_sent link datagram old new said none h =
    subst (λ plain. SentTold said datagram (if is_plain_sieve old then link.sent old.inner else None)
    (if plain then link.sent new.inner else None))
    (sym (same_plain link (next_plan old datagram) (with_next_number old) new said h))
    (plain_cases link datagram old new said (is_plain_sieve old) refl none h)
