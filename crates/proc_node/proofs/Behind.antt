-- The link behind a sieve, after a run.
use Rattle.std.proofs.Common.{◌≡◌, ℕ, List, [], ◌++◌, append-nil, drop, length, Option, Some, Bool, true, refl, sym}
use Rattle.std.proofs.Common.{ap, ◌∙◌, subst}
use Rattle.std.specs.Prelude.{option_map}
use lib.Seq.{drop_at}
use Rattle.base_io.specs.Faults.{Rose}
use Rattle.base_io.specs.Sieve.{is_plain_sieve as lets_all_pass}
use Rattle.base_io.specs.Told.{and_all}
use Rattle.base_io.specs.declared.link.Link.{Ghosts as LinkGhosts}
use Rattle.proc_runner.specs.Facts.{WentOn}
use Rattle.text_job.specs.declared.job.SieveRule.{SieveRule}
use Rattle.proc_node.specs.Seen.{IsBehind, LinkSeen, is_plain_rule, link_seen, sieved_by}
use Rattle.proc_node.specs.Sieved.{Datagrams, IsFreshSieve, heading, rule_of}
use Rattle.proc_node.specs.declared.sieved.Sieved.{Sieved}
use Rattle.proc_node.proofs.Sifting.{same_opening, some_same}
use Rattle.proc_node.proofs.Skipping.{since}

-- what sieves before such links tell, with what was handed to them
abbrev pub sieved_links : {L : Type 0} (l : LinkGhosts L) → LinkGhosts (Sieved L l)
sieved_links l = record {
  bound = λ s. l.bound s.sieve.inner;
  sent = λ s. Some (heading l s.first.value s.sieve ++ s.handed.datagrams);
  received = λ s. l.received s.sieve.inner;
  waiting = λ s. l.waiting s.sieve.inner;
  faults = λ s. l.faults s.sieve.inner;
}

same_rule : (one two : SieveRule) → one.lose ≡ two.lose → one.repeat ≡ two.repeat → one.swap ≡ two.swap → one ≡ two
same_rule one two lose repeat swap = rw (lose, repeat, swap) refl

-- what is told as sent of a sieve to which nothing was handed yet
abbrev pub told_first : {L : Type 0} (l : LinkGhosts L) → Sieved L l → Datagrams
told_first l s = heading l s.first.value s.sieve ++ []

pub is_first : {L : Type 0} (l : LinkGhosts L) (first : Sieved L l) → first.handed.datagrams ≡ []
    → (sieved_links l).sent first ≡ Some (told_first l first)
is_first l first none = ap (λ handed. Some (heading l first.first.value first.sieve ++ handed)) none

module _ {L : Type 0} (l : LinkGhosts L) (rule : SieveRule) (link : L) (first last : Sieved L l)
    (fresh : IsFreshSieve rule link first.sieve first.first.value first.handed.datagrams) (more : Datagrams)
    (went : WentOn ((sieved_links l).sent first) more ((sieved_links l).sent last)) where
  told_since : option_map (drop (length (told_first l first))) ((sieved_links l).sent last) ≡ Some more
  told_since =
      let told = told_first l first in
      ap (option_map (drop (length told))) (went ∙ ap (λ sent. and_all sent more) (is_first l first fresh.handed_is))
      ∙ ap Some (drop_at told more (length told) refl)

  -- what is seen of the sieve, and of the link behind
  pub is_behind : IsBehind rule (link_seen l link) (link_seen (since (told_first l first) (sieved_links l)) last)
      (link_seen l last.sieve.inner)
  is_behind =
      let same = same_opening l first.first.value last.first.value first.sieve last.sieve last.handed.datagrams more
      (went ∙ ap (λ sent. and_all sent more) (is_first l first fresh.handed_is)) in
      let opening = same.0 in
      let faults : l.faults last.first.value ≡ l.faults link = opening.faults ∙ ap l.faults fresh.first_is in
      let sent : l.sent last.first.value ≡ l.sent link = opening.sent ∙ ap l.sent fresh.first_is in
      let rules : rule_of last.sieve ≡ rule =
      same_rule (rule_of last.sieve) rule (opening.lose ∙ ap (λ s. s.lose) fresh.sieve_is)
      (opening.repeat ∙ ap (λ s. s.repeat) fresh.sieve_is) (opening.swap ∙ ap (λ s. s.swap) fresh.sieve_is) in
      record {
        bound = refl;
        sent = λ none handed is.
            let all : last.handed.datagrams ≡ handed = same.1 ∙ some_same more handed (sym told_since ∙ is) in
            let sifts = last.told.sifts (subst (λ n. Rose n (l.faults last.sieve.inner) → ⊥) (sym faults) none) in
            sifts.sent ∙ ap (λ told. and_all told (sieved_by (rule_of last.sieve) last.handed.datagrams)) sent
            ∙ ap (λ r. and_all (l.sent link) (sieved_by r last.handed.datagrams)) rules
            ∙ ap (λ h. and_all (l.sent link) (sieved_by rule h)) all;
        plain = λ plain handed is.
            let all : last.handed.datagrams ≡ handed = same.1 ∙ some_same more handed (sym told_since ∙ is) in
            let passes : lets_all_pass last.sieve ≡ true = ap is_plain_rule rules ∙ plain in
            last.told.plain passes ∙ ap (λ told. and_all told last.handed.datagrams) sent
            ∙ ap (and_all (l.sent link)) all;
        received = refl;
        waiting = refl;
        faults = refl;
      }
