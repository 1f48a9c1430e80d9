-- What is seen of a node's link, clock and sink.
-- Origin: this project's profile.
use Rattle.std.specs.Prelude.{◌≡◌, ℕ, ◌==◌, ◌&&◌, Bool, true, List, [], fold, Option, Some}
use Rattle.std.specs.Option.{ForSome}
use Rattle.base_io.specs.Buffered.{Outbox}
use Rattle.base_io.specs.Faults.{Rose}
use Rattle.base_io.specs.Told.{and_all}
use Rattle.base_io.specs.declared.link.Link.{Ghosts as LinkGhosts}
use Rattle.base_io.specs.declared.clock.Clock.{Ghosts as ClockGhosts}
use Rattle.proc_runner.specs.declared.recorder.Recorder.{Ghosts as RecorderGhosts}
use Rattle.base_text.specs.LineTexts.{line_text}
use Rattle.text_trace.specs.TraceText.{entry_line}
use Rattle.text_job.specs.declared.job.SieveRule.{SieveRule}
use Rattle.proc_node.specs.Sieved.{Datagrams, first_of, sift}

-- a link: what it was bound to last; the datagrams sent, received and waiting, where it tells them; its count of faults
pub record LinkSeen : Type 0 where
  pub bound : Option (ℕ × ℕ × ℕ)
  pub sent : Option (List (ℕ × List ℕ))
  pub received : Option (List (List ℕ))
  pub waiting : Option (List (List ℕ))
  pub faults : ℕ

-- a clock: how often it was asked, what it said last, and the one value that it always says, where it tells that
pub record ClockSeen : Type 0 where
  pub asked : ℕ
  pub said : ℕ
  pub fixed : Option ℕ

-- what is seen of this link
abbrev pub link_seen : {L : Type 0} → LinkGhosts L → L → LinkSeen
link_seen links link = record {
  bound = links.bound link;
  sent = links.sent link;
  received = links.received link;
  waiting = links.waiting link;
  faults = links.faults link;
}

-- what is seen of this clock
abbrev pub clock_seen : {C : Type 0} → ClockGhosts C → C → ClockSeen
clock_seen clocks clock = record { asked = clocks.asked clock; said = clocks.said clock; fixed = clocks.fixed clock }

-- the devices of a node
pub record DevicesSeen : Type 0 where
  pub link : LinkSeen
  pub clock : ClockSeen

abbrev pub devices_seen : {L C : Type 0} → LinkGhosts L → ClockGhosts C → L → C → DevicesSeen
devices_seen links clocks link clock = record { link = link_seen links link; clock = clock_seen clocks clock }

-- ---- what is seen, read as a link, as a clock, and as what takes the entries of a journal

abbrev pub seen_links : LinkGhosts LinkSeen
seen_links = record {
  bound = λ link. link.bound;
  sent = λ link. link.sent;
  received = λ link. link.received;
  waiting = λ link. link.waiting;
  faults = λ link. link.faults;
}

abbrev pub seen_clocks : ClockGhosts ClockSeen
seen_clocks = record {
  asked = λ clock. clock.asked;
  said = λ clock. clock.said;
  fixed = λ clock. clock.fixed;
}

abbrev pub seen_recorders : RecorderGhosts Outbox
seen_recorders = record { outbox = λ outbox. outbox; text = λ entry. line_text (entry_line entry) }

-- ---- a link behind a sieve

-- the sieve lets everything pass: its numbers are 0 0 0
abbrev pub is_plain_rule : SieveRule → Bool
is_plain_rule rule = (rule.lose == 0) && (rule.repeat == 0) && (rule.swap == 0)

-- a sieve before the link, to which nothing was handed yet: what it tells as sent is what was handed to it
abbrev pub behind_sieve : LinkSeen → LinkSeen
behind_sieve link = record link { sent = Some [] }

-- what the sieve of this rule sends of the datagrams that are handed to it, in order
abbrev pub sieved_by : SieveRule → Datagrams → Datagrams
sieved_by rule handed = (fold sift (first_of rule) handed).inner

-- the link behind a sieve of this rule, before and after a run: where it tells them and didn't fail, it was sent what
-- the sieve sends of what was handed to it; where the sieve lets everything pass, that itself, also where it failed
pub record IsBehind (rule : SieveRule) (before : LinkSeen) (sieve after : LinkSeen) : Type 0 where
  pub bound : sieve.bound ≡ after.bound
  pub sent : (Rose before.faults after.faults → ⊥)
      → ForSome sieve.sent (λ handed. after.sent ≡ and_all before.sent (sieved_by rule handed))
  pub plain : is_plain_rule rule ≡ true → ForSome sieve.sent (λ handed. after.sent ≡ and_all before.sent handed)
  pub received : sieve.received ≡ after.received
  pub waiting : sieve.waiting ≡ after.waiting
  pub faults : sieve.faults ≡ after.faults
