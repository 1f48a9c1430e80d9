-- Settings are in range where their numbers are.
use Rattle.std.proofs.Common.{◌≡◌, ◌≢◌, ℕ, zero, suc, ◌*◌, ◌-◌, ◌%◌, ◌<◌, ◌≤◌, ◌||◌, ◌&&◌, Bool, true, false, eqb}
use Rattle.std.proofs.Common.{ltb, leb, not, List, [], ◌∷◌, length, None, refl, arith, length-append}
use Rattle.std.specs.List.{list_any}
use Rattle.std.proofs.lemmas.Bool.{eqb-true, eqb-false, and_parts, or_parts, leb-true, ltb-true}
use Rattle.wire_message.specs.declared.pairs.PairCredits.{PairCredits}
use Rattle.wire_message.specs.Message.{is_version}
use Rattle.wire_message.specs.Parameters.{Parameters, AreInRange, IsPair, ArePairs, own_credits, credits_of}
use Rattle.wire_message.specs.Parameters.{credits_in_all, with_pair}
use Rattle.wire_message.proofs.Credits.{even_sum, sum_with_pair, pairs_added}
use Rattle.text_job.specs.Places.{Setting, Version, Nodes, Credits, Threads, Segment, Last, Resend}
use Rattle.text_job.specs.Places.{least, greatest, setting_fits, in_place, pair_fits}
use Rattle.text_job.specs.JobReading.{has_pair}
use Rattle.text_job.specs.JobText.{setting_number}
use Rattle.text_job.specs.declared.job.Job.{Job}
use Rattle.text_job.proofs.PairSums.{sum_in_place}

-- a number is one that the setting may have
pub record IsNumber (setting : Setting) (settings : Parameters) (number : ℕ) : Type 0 where
  pub low : least setting ≤ number
  pub high : number ≤ greatest setting
  pub fits : setting_fits setting settings number ≡ true

-- so are all numbers of a job
abbrev pub AreNumbers : Job → Type 0
AreNumbers job = (setting : Setting) → IsNumber setting job.settings (setting_number setting job)

version_is : (version : ℕ) → 1 ≤ version → version ≤ 2 → is_version version ≡ true
version_is zero low high = absurd (omega arith)
version_is (suc zero) low high = refl
version_is (suc (suc zero)) low high = refl
version_is (suc (suc (suc n))) low high = absurd (omega arith)

-- nodes of the first version are few
few_by : (few second : Bool) (nodes version : ℕ) → leb nodes 64 ≡ few → eqb version 2 ≡ second → (few || second)
    ≡ true → version ≡ 1 → nodes ≤ 64
few_by true second nodes version e f h one = leb-true nodes 64 e
few_by false true nodes version e f h one = let two = eqb-true version 2 f in absurd (omega arith)
few_by false false nodes version e f h one = absurd (cc)

-- no pair
no_pairs : (nodes : ℕ) (pairs : List PairCredits) → pairs ≡ [] → ArePairs nodes pairs
no_pairs nodes [] e = tt
no_pairs nodes (pair ∷ pairs) e = absurd (cc)

few_none : (pairs : List PairCredits) → pairs ≡ [] → length pairs ≤ 64
few_none [] e = omega arith
few_none (pair ∷ pairs) e = absurd (cc)

-- settings without pairs are in range where their numbers are
pub settings_range : (job : Job) → job.settings.pairs ≡ [] → AreNumbers job → AreInRange job.settings
settings_range job none all =
    let s = job.settings in
    let pages = and_parts (eqb (s.segment % 4096) 0) (leb (s.nodes * s.segment) 268435456) (all Segment).fits in
    record {
      version = version_is s.version (all Version).low (all Version).high;
      some_node = (all Nodes).low;
      nodes = (all Nodes).high;
      nodes_at_first = few_by (leb s.nodes 64) (eqb s.version 2) s.nodes s.version refl refl (all Nodes).fits;
      some_credit = (all Credits).low;
      credits = (all Credits).high;
      pairs = no_pairs s.nodes s.pairs none;
      few_pairs = few_none s.pairs none;
      some_thread = (all Threads).low;
      threads = (all Threads).high;
      pages = eqb-true (s.segment % 4096) 0 pages.0;
      some_page = (all Segment).low;
      segment = (let low = (all Segment).high in omega arith);
      last = (all Last).low;
      some_time = (all Resend).low;
      resend = (all Resend).high;
    }

-- and their segments have at most 256 MiB in all
pub segments_few : (job : Job) → AreNumbers job → job.settings.nodes * job.settings.segment ≤ 268435456
segments_few job all =
    let s = job.settings in
    leb-true (s.nodes * s.segment) 268435456
    (and_parts (eqb (s.segment % 4096) 0) (leb (s.nodes * s.segment) 268435456) (all Segment).fits).1

-- ---- one more pair

-- two nodes that are there and differ, and the sum with this pair
pub record IsFitting (settings : Parameters) (pair : PairCredits) : Type 0 where
  pub from : pair.from < settings.nodes
  pub to : pair.to < settings.nodes
  pub apart : pair.from ≢ pair.to
  pub sum : credits_in_all (in_place settings pair) ≤ 65536

not_equal : (a b : ℕ) (t : Bool) → eqb a b ≡ t → not t ≡ true → a ≢ b
not_equal a b true e h same = absurd (cc)
not_equal a b false e h same = eqb-false a b e same

pub fitting : (settings : Parameters) (pair : PairCredits) → pair_fits settings pair ≡ true → IsFitting settings pair
fitting settings pair h =
    let a = and_parts (ltb pair.from settings.nodes) _ h in
    let b = and_parts (ltb pair.to settings.nodes) _ a.1 in
    let c = and_parts (not (eqb pair.from pair.to)) (leb (credits_in_all (in_place settings pair)) 65536) b.1 in
    record {
      from = ltb-true pair.from settings.nodes a.0;
      to = ltb-true pair.to settings.nodes b.0;
      apart = not_equal pair.from pair.to (eqb pair.from pair.to) refl c.0;
      sum = leb-true (credits_in_all (in_place settings pair)) 65536 c.1;
    }

-- a pair that isn't among these has no credits of its own
pub not_own : (pairs : List PairCredits) (pair : PairCredits) → has_pair pairs pair ≡ false
    → own_credits pairs pair.from pair.to ≡ None
not_own [] pair h = refl
not_own (first ∷ pairs) pair h =
    let parts = or_parts (eqb first.from pair.from && eqb first.to pair.to) (list_any
    (λ other. eqb other.from pair.from && eqb other.to pair.to) pairs) h in
    rw parts.0 (not_own pairs pair parts.1)

-- the sum where the pair comes behind the others is that where it comes before them
pub sum_beside : (settings : Parameters) (pair : PairCredits) → IsPair settings.nodes pair
    → own_credits settings.pairs pair.from pair.to ≡ None
    → credits_in_all (with_pair settings pair) ≡ credits_in_all (in_place settings pair)
unfolding credits_of
sum_beside settings pair is none =
    let behind = sum_with_pair settings pair is none in
    let before = sum_in_place settings pair is.from is.to is.apart in
    let own : credits_of settings pair.from pair.to ≡ settings.credits = rw none refl in
    omega (arith, behind, before, own)

pub sum_behind : (settings : Parameters) (pair : PairCredits) → IsFitting settings pair → IsPair settings.nodes pair
    → own_credits settings.pairs pair.from pair.to ≡ None
    → credits_in_all (with_pair settings pair) ≡ credits_in_all (in_place settings pair)
sum_behind settings pair fit is none = sum_beside settings pair is none

-- credits of its own
pub is_pair : (settings : Parameters) (pair : PairCredits) → IsFitting settings pair → 1 ≤ pair.credits
    → pair.credits ≤ 32 → IsPair settings.nodes pair
is_pair settings pair fit low high = record {
  from = fit.from;
  to = fit.to;
  apart = fit.apart;
  some_credit = low;
  credits = high;
}

-- settings with one more pair are in range
pub pair_range : (settings : Parameters) (pair : PairCredits) → AreInRange settings → IsFitting settings pair
    → IsPair settings.nodes pair → has_pair settings.pairs pair ≡ false → length settings.pairs < 64 → AreInRange
    (with_pair settings pair)
pair_range settings pair range fit is new few =
    let none = not_own settings.pairs pair new in
    record {
      version = range.version;
      some_node = range.some_node;
      nodes = range.nodes;
      nodes_at_first = range.nodes_at_first;
      some_credit = range.some_credit;
      credits = range.credits;
      pairs = pairs_added settings.nodes settings.pairs pair range.pairs is none;
      few_pairs = simp length-append (omega arith);
      some_thread = range.some_thread;
      threads = range.threads;
      pages = range.pages;
      some_page = range.some_page;
      segment = range.segment;
      last = range.last;
      some_time = range.some_time;
      resend = range.resend;
    }
