-- A sieve, and what was handed to it.
use Rattle.std.proofs.Common.{◌≡◌, ◌≤◌, ℕ, List, [], ◌∷◌, ◌++◌, append-nil, drop, get_or, length, take, Option, Some}
use Rattle.std.proofs.Common.{None, true, refl, sym, ap, ◌∙◌, subst, arith}
use Rattle.std.specs.Prelude.{if◌then◌else◌, fold, unwrap_or}
use lib.Seq.{drop_at, take_at}
use Rattle.std.proofs.lemmas.List.Sums.{fold-append}
use Rattle.base_io.specs.Faults.{one_more, Rose}
use Rattle.base_io.specs.Told.{and_all, and_then}
use Rattle.base_io.specs.Link.{SentTold}
use Rattle.base_io.specs.Sieve.{Sieving, Follows, KeepsInner, is_plain_sieve, next_plan, with_next_number}
use Rattle.base_io.specs.declared.link.Link.{Ghosts as LinkGhosts}
use Rattle.base_io.specs.declared.link.LinkAnswer.{LinkAnswer}
use Rattle.base_io.specs.declared.link.LinkAnswer.TheVariants as answer
use Rattle.base_io.proofs.SievePlans.{and_all-twice, told_sent}
use Rattle.proc_node.specs.Sieved.{Datagrams, IsSieved, first_of, heading, mark, one_if_told, rule_of, sift, sieve_after}

-- ---- faults

rose_later : (a b c : ℕ) → b ≤ c → Rose a b → Rose a c
rose_later a b c later rose = omega arith

rose_since : (a b c : ℕ) → a ≤ b → Rose b c → Rose a c
rose_since a b c since rose = omega arith

more_later : (a b c : ℕ) → a ≤ b → b ≤ c → a ≤ c
more_later a b c first second = omega arith

-- ---- the numbers of a sieve

same_lose : (sieve : Sieving Datagrams) (handed : Datagrams) → (fold sift sieve handed).lose ≡ sieve.lose
same_lose sieve [] = refl
same_lose sieve (datagram ∷ handed) = same_lose (sift sieve datagram) handed

same_repeat : (sieve : Sieving Datagrams) (handed : Datagrams) → (fold sift sieve handed).repeat ≡ sieve.repeat
same_repeat sieve [] = refl
same_repeat sieve (datagram ∷ handed) = same_repeat (sift sieve datagram) handed

same_swap : (sieve : Sieving Datagrams) (handed : Datagrams) → (fold sift sieve handed).swap ≡ sieve.swap
same_swap sieve [] = refl
same_swap sieve (datagram ∷ handed) = same_swap (sift sieve datagram) handed

-- sieves of the same numbers make the same of a datagram
same_plan : {A B : Type 0} (first : Sieving A) (second : Sieving B) (datagram : ℕ × List ℕ)
    → first.lose ≡ second.lose → first.repeat ≡ second.repeat → first.swap ≡ second.swap
    → first.number ≡ second.number → first.held ≡ second.held → next_plan first datagram ≡ next_plan second datagram
same_plan first second datagram lose repeat swap number held = rw (lose, repeat, swap, number, held) refl

module _ {L : Type 0} (links : LinkGhosts L) (first : L) (handed : Datagrams) (old : Sieving L)
    (told : IsSieved links first handed old) where
  -- the sieve did nothing
  pub stays : (new : Sieving L) → new ≡ record old { inner = new.inner }
      → links.sent new.inner ≡ links.sent old.inner → links.faults old.inner ≤ links.faults new.inner
      → IsSieved links first handed new
  stays new same sent later =
      let now : IsSieved links first handed (record old { inner = new.inner }) = record {
        later = more_later _ _ _ told.later later;
        plain = λ plain. sent ∙ told.plain plain;
        sifts = λ none.
            let so = told.sifts (λ rose. none (rose_later _ _ _ later rose)) in
            record { sent = sent ∙ so.sent; number = so.number; held = so.held };
      } in
      subst (IsSieved links first handed) (sym same) now

  module _ (datagram : ℕ × List ℕ) (new : Sieving L) (kept : KeepsInner links old.inner new.inner)
      (unheld : old.swap ≡ 0 → old.held ≡ None) where
    -- where the numbers are 0 the link was sent the datagram
    plain_sent : (said : LinkAnswer) → Follows links (next_plan old datagram) (with_next_number old) said new
        → is_plain_sieve old ≡ true → is_plain_sieve new ≡ true
        → SentTold said datagram (links.sent old.inner) (links.sent new.inner)
    plain_sent said follows was is =
        let told_so = told_sent links datagram old new said unheld follows in
        subst (λ plain. SentTold said datagram (links.sent old.inner) (if plain then links.sent new.inner else None)) is
        (subst (λ plain. SentTold said datagram (if plain then links.sent old.inner else None)
        (if is_plain_sieve new then links.sent new.inner else None)) was told_so)

    -- it did what its plan says
    pub hands : Follows links (next_plan old datagram) (with_next_number old) answer.Done new
        → IsSieved links first (handed ++ datagram ∷ []) new
    hands follows =
        let plan = next_plan old datagram in
        let after : Sieving L = record old { inner = new.inner; number = one_more old.number; held = plan.held } in
        let plain_too : is_plain_sieve after ≡ is_plain_sieve new = sym (ap is_plain_sieve follows.rest) in
        let now : IsSieved links first (handed ++ datagram ∷ []) after = record {
          later = more_later _ _ _ told.later kept.later;
          plain = λ plain.
              plain_sent answer.Done follows plain (sym plain_too ∙ plain)
              ∙ ap (λ sent. and_then sent datagram) (told.plain plain)
              ∙ and_all-twice (links.sent first) handed (datagram ∷ []);
          sifts = λ none.
              let so = told.sifts (λ rose. none (rose_later _ _ _ kept.later rose)) in
              let before = sieve_after old handed in
              let more : sieve_after after (handed ++ datagram ∷ []) ≡ sift before datagram =
              fold-append sift (first_of (rule_of old)) handed (datagram ∷ []) in
              let same : plan ≡ next_plan before datagram =
              same_plan old before datagram (sym (same_lose (first_of (rule_of old)) handed))
              (sym (same_repeat (first_of (rule_of old)) handed)) (sym (same_swap (first_of (rule_of old)) handed)) so.number so.held in
              record {
                sent = follows.sent
                    ∙ ap (λ p. and_all (links.sent old.inner) (p.own ++ p.freed)) same
                    ∙ ap (λ sent. and_all sent ((next_plan before datagram).own ++ (next_plan before datagram).freed))
                    so.sent
                    ∙ and_all-twice (links.sent first) before.inner
                    ((next_plan before datagram).own ++ (next_plan before datagram).freed)
                    ∙ ap (λ (s : Sieving Datagrams). and_all (links.sent first) s.inner) (sym more);
                number = ap one_more so.number ∙ ap (λ (s : Sieving Datagrams). s.number) (sym more);
                held = ap (λ p. p.held) same ∙ ap (λ (s : Sieving Datagrams). s.held) (sym more);
              };
        } in
        subst (IsSieved links first (handed ++ datagram ∷ [])) (sym follows.rest) now

    -- the link failed at it
    pub fails : Follows links (next_plan old datagram) (with_next_number old) answer.Failed new
        → IsSieved links first handed new
    fails follows = record {
      later = more_later _ _ _ told.later kept.later;
      plain = λ plain.
          plain_sent answer.Failed follows (sym (ap is_plain_sieve follows.rest) ∙ plain) plain
          ∙ told.plain (sym (ap is_plain_sieve follows.rest) ∙ plain);
      sifts = λ none. absurd (none (rose_since _ _ _ told.later follows.rose));
    }

-- the sieve did nothing, so it tells its opening as before
pub same_first : {L : Type 0} (links : LinkGhosts L) (first : L) (old new : Sieving L)
    → new ≡ record old { inner = new.inner } → heading links first new ≡ heading links first old
same_first links first old new same = ap (heading links first) same

-- nor did it forget that when a datagram was handed to it
pub same_after : {L : Type 0} (links : LinkGhosts L) (first : L) (old new : Sieving L) (datagram : ℕ × List ℕ)
    (said : LinkAnswer)
    → Follows links (next_plan old datagram) (with_next_number old) said new → heading links first new ≡ heading links first old
same_after links first old new datagram answer.Done follows = ap (heading links first) follows.rest
same_after links first old new datagram answer.Failed follows = ap (heading links first) follows.rest

-- ---- two openings

told_same : (one two : Option Datagrams) → one_if_told one ≡ one_if_told two
    → unwrap_or one [] ≡ unwrap_or two [] → one ≡ two
told_same None None flag same = refl
told_same None (Some two) flag same = absurd (cc flag)
told_same (Some one) None flag same = absurd (cc flag)
told_same (Some one) (Some two) flag same = ap Some same

-- what the same is told of is of the same opening
pub record SameOpening {L : Type 0} (links : LinkGhosts L) (first second : L) (one two : Sieving L) : Type 0 where
  pub faults : links.faults second ≡ links.faults first
  pub sent : links.sent second ≡ links.sent first
  pub lose : two.lose ≡ one.lose
  pub repeat : two.repeat ≡ one.repeat
  pub swap : two.swap ≡ one.swap

pub some_same : {A : Type 0} (one two : A) → Some one ≡ Some two → one ≡ two
some_same one two same = cc same

pub same_opening : {L : Type 0} (links : LinkGhosts L) (first second : L) (one two : Sieving L) (handed more : Datagrams)
    → Some (heading links second two ++ handed) ≡ and_all (Some (heading links first one ++ [])) more
    → SameOpening links first second one two × (handed ≡ more)
same_opening links first second one two handed more same =
    let list = some_same _ _ same in
    let marks : mark links second two ≡ mark links first one = ap (λ (l : Datagrams). get_or l 0 (0, [])) list in
    let numbers = ap (λ (m : ℕ × List ℕ). m.1) marks in
    let was = unwrap_or (links.sent first) [] in
    let is = unwrap_or (links.sent second) [] in
    let long : length is ≡ length was = ap (λ (l : List ℕ). get_or l 4 0) numbers in
    let rests : is ++ handed ≡ was ++ more =
    ap (λ (l : Datagrams). drop 1 l) list ∙ ap (λ l. l ++ more) (append-nil was) in
    let sames : is ≡ was =
    sym (take_at is handed (length is) refl) ∙ ap (take (length is)) rests ∙ take_at was more (length is) (sym long) in (
      record {
        faults = ap (λ (m : ℕ × List ℕ). m.0) marks;
        sent = told_same (links.sent second) (links.sent first) (ap (λ (l : List ℕ). get_or l 3 0) numbers) sames;
        lose = ap (λ (l : List ℕ). get_or l 0 0) numbers;
        repeat = ap (λ (l : List ℕ). get_or l 1 0) numbers;
        swap = ap (λ (l : List ℕ). get_or l 2 0) numbers;
      },
      sym (drop_at is handed (length is) refl) ∙ ap (drop (length is)) rests ∙ drop_at was more (length is) (sym long),
    )
