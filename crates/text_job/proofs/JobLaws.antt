-- What was read so far is in range.
use Rattle.std.proofs.Common.{◌≡◌, ℕ, zero, suc, ◌+◌, ◌*◌, ◌-◌, ◌%◌, ◌<◌, ◌≤◌, ◌^◌, ◌&&◌, Bool, true, false, eqb, leb}
use Rattle.std.proofs.Common.{cond, List, [], ◌∷◌, ◌++◌, length, take, Option, Some, None, refl, ap, ◌∙◌, arith}
use Rattle.std.proofs.Common.{length-append}
use Rattle.std.specs.List.{AllByRecursion}
use Rattle.std.proofs.lemmas.Bool.{leb-true, le-leb, leb-false}
use Rattle.std.proofs.lemmas.List.{take-append-le}
use Rattle.wire_message.specs.Parameters.{Parameters, AreInRange, credits_in_all, with_pair}
use Rattle.wire_message.specs.declared.pairs.PairCredits.{PairCredits}
use Rattle.wire_message.proofs.Credits.{even_sum}
use Rattle.text_steps.specs.Events.{IsTimed}
use Rattle.text_job.specs.Places.{Setting, Version, Nodes, Credits, Threads, Segment, Last, Resend, Patience}
use Rattle.text_job.specs.Places as places
use Rattle.text_job.specs.Places.{setting_fits, pair_fits}
use Rattle.text_job.specs.JobReading.{with_number, with_own, with_handler, with_script, with_line, lines_of}
use Rattle.text_job.specs.Scopes.{scope_of}
use Rattle.text_calls.specs.declared.scope.Scope.{Scope}
use Rattle.text_job.specs.JobReading.{with_atomics, with_collect, is_reserved, most_handlers}
use Rattle.text_job.specs.CollectAreas.{IsCollect, IsCollectOrNone}
use Rattle.text_job.specs.JobText.{AreUnreserved}
use Rattle.text_job.specs.JobReading.{amounts_of, has_index, has_pair, has_thread, line_why, is_full}
use Rattle.text_job.specs.PlanPieces.{most_pieces, schedule_pieces, scripts_pieces}
use Rattle.text_job.specs.StepPieces.{steps_pieces}
use Rattle.text_job.specs.JobText.{IsHandler, IsNodeScript, AreThreads, IsSchedule, IsScheduleOrNone, IsSieve}
use Rattle.text_job.specs.JobText.{with_first_pairs, all_pieces, IsJob}
use Rattle.base_text.specs.declared.why.LineWhy.{LineWhy}
use Rattle.text_job.specs.declared.job.CollectArea.{CollectArea}
use Rattle.text_job.specs.declared.job.HandlerText.{HandlerText}
use Rattle.text_job.specs.declared.job.Job.{Job}
use Rattle.text_job.specs.declared.job.NodeScript.{NodeScript}
use Rattle.text_steps.specs.declared.steps.TimedEvent.{TimedEvent}
use Rattle.text_job.proofs.Freshness.{AreFresh, fresh_apart, fresh_more, fresh_from}
use Rattle.text_job.proofs.HandlerRuns.{few_full, rounds_more}
use Rattle.text_job.proofs.PlanPieces.{schedule_more as pieces_more, scripts_more}
use Rattle.text_job.proofs.Threads.{threads_more}
use Rattle.text_job.proofs.Ranges.{IsNumber, AreNumbers, settings_range, segments_few, fitting, is_pair}
use Rattle.text_job.proofs.Ranges.{pair_range, sum_behind, not_own}

-- ---- the head

-- the settings behind one are as small as can be, where it bears on them
abbrev pub AreLeast : Setting → Parameters → Type 0
AreLeast Version settings = (settings.nodes ≡ 1) × (settings.credits ≡ 1) × (settings.segment ≡ 4096)
AreLeast places.Job settings = (settings.nodes ≡ 1) × (settings.credits ≡ 1) × (settings.segment ≡ 4096)
AreLeast Nodes settings = (settings.nodes ≡ 1) × (settings.credits ≡ 1) × (settings.segment ≡ 4096)
AreLeast setting settings = Unit {0}

-- few credits
few_credits : (nodes credits : ℕ) → 1 ≤ nodes → nodes ≤ 256 → credits ≡ 1 → leb (nodes * (nodes - 1) * credits) 65536
    ≡ true
few_credits nodes credits low high one = le-leb (nodes * (nodes - 1) * credits) 65536 (few_of nodes low high one)
  where
    few_of : (n : ℕ) → 1 ≤ n → n ≤ 256 → credits ≡ 1 → n * (n - 1) * credits ≤ 65536
    few_of n l h e = grind arith

few_bytes : (nodes segment : ℕ) → nodes ≤ 256 → segment ≡ 4096 → (eqb (segment % 4096) 0
    && leb (nodes * segment) 268435456) ≡ true
few_bytes nodes segment high e = rw e (le-leb (nodes * 4096) 268435456 (omega arith))

-- the numbers with one more
pub numbers_more : (setting : Setting) (number : ℕ) (job : Job) → AreNumbers job → AreLeast setting job.settings
    → IsNumber setting job.settings number → AreNumbers (with_number setting number job)
numbers_more Version number job all least is Version = record { low = is.low; high = is.high; fits = refl }
numbers_more Version number job all least is Nodes = record {
  low = (all Nodes).low;
  high = (all Nodes).high;
  fits = rw least.0 refl;
}
numbers_more Version number job all least is x = record { low = (all x).low; high = (all x).high; fits = (all x).fits }
numbers_more places.Job number job all least is places.Job = record { low = is.low; high = is.high; fits = refl }
numbers_more places.Job number job all least is x = record {
  low = (all x).low;
  high = (all x).high;
  fits =
      (all x).fits;
}
numbers_more Nodes number job all least is Nodes = record { low = is.low; high = is.high; fits = is.fits }
numbers_more Nodes number job all least is Credits = record {
  low = (all Credits).low;
  high = (all Credits).high;
  fits = few_credits number job.settings.credits is.low is.high least.1;
}
numbers_more Nodes number job all least is Segment = record {
  low = (all Segment).low;
  high = (all Segment).high;
  fits = few_bytes number job.settings.segment is.high least.2;
}
numbers_more Nodes number job all least is x = record { low = (all x).low; high = (all x).high; fits = (all x).fits }
numbers_more Credits number job all least is Credits = record { low = is.low; high = is.high; fits = is.fits }
numbers_more Credits number job all least is x = record { low = (all x).low; high = (all x).high; fits = (all x).fits }
numbers_more Threads number job all least is Threads = record { low = is.low; high = is.high; fits = refl }
numbers_more Threads number job all least is x = record { low = (all x).low; high = (all x).high; fits = (all x).fits }
numbers_more Segment number job all least is Segment = record { low = is.low; high = is.high; fits = is.fits }
numbers_more Segment number job all least is x = record { low = (all x).low; high = (all x).high; fits = (all x).fits }
numbers_more Last number job all least is Last = record { low = is.low; high = is.high; fits = refl }
numbers_more Last number job all least is x = record { low = (all x).low; high = (all x).high; fits = (all x).fits }
numbers_more Resend number job all least is Resend = record { low = is.low; high = is.high; fits = refl }
numbers_more Resend number job all least is x = record { low = (all x).low; high = (all x).high; fits = (all x).fits }
numbers_more Patience number job all least is Patience = record { low = is.low; high = is.high; fits = refl }
numbers_more Patience number job all least is x = record { low = (all x).low; high = (all x).high; fits = (all x).fits }

-- a head so far
pub record IsHead (job : Job) : Type 0 where
  pub numbers : AreNumbers job
  pub sieve : IsSieve job.sieve
  pub pairs : job.settings.pairs ≡ []
  pub atomics : job.atomics ≡ false
  pub collect : job.collect ≡ None
  pub handlers : job.handlers ≡ []
  pub scripts : job.scripts ≡ []
  pub schedule : job.schedule ≡ None

-- no pair, none of the first ones
no_first : (count : ℕ) (pairs : List PairCredits) → pairs ≡ [] → take count pairs ≡ []
no_first count pairs e = ap (take count) e ∙ take_nil count
  where
    take_nil : (n : ℕ) → take {A = PairCredits} n [] ≡ []
    take_nil zero = refl
    take_nil (suc n) = refl

-- no handler
no_handler : (scope : Scope) (hs : List HandlerText) → hs ≡ [] → (length hs ≤ most_handlers scope)
    × AllByRecursion IsHandler hs × AreFresh [] hs × AreUnreserved scope hs
no_handler scope [] e = (omega arith, tt, tt, tt)
no_handler scope (h ∷ hs) e = absurd (cc)

-- no script
no_script : (scope : Scope) (ss : List NodeScript) → ss ≡ [] → AllByRecursion (IsNodeScript scope) ss × AreThreads ss
no_script scope [] e = (tt, tt)
no_script scope (s ∷ ss) e = absurd (cc)

none_is : (scope : Scope) (schedule : Option (List TimedEvent)) → schedule ≡ None → IsScheduleOrNone scope schedule
none_is scope None e = tt
none_is scope (Some lines) e = absurd (cc)

-- no batches
no_batches : (atomics : Bool) (version : ℕ) → atomics ≡ false → atomics ≡ true → version ≡ 2
no_batches true version h k = absurd (cc)
no_batches false version h k = absurd (cc)

-- no area of collectives
no_collect : (settings : Parameters) (collect : Option CollectArea) → collect ≡ None → IsCollectOrNone settings collect
no_collect settings None e = tt
no_collect settings (Some area) e = absurd (cc)

-- a job so far, whose handlers have each a fresh index
pub record IsSound (job : Job) : Type 0 where
  pub settings : AreInRange job.settings
  pub segment : job.settings.segment ≤ 67108864
  pub segments : job.settings.nodes * job.settings.segment ≤ 268435456
  pub job_fits : job.settings.job < 2 ^ 64
  pub last_fits : job.settings.last < 2 ^ 64
  pub sums : (count : ℕ) → credits_in_all (with_first_pairs count job.settings) ≤ 65536
  pub some_patience : 1 ≤ job.patience
  pub patience : job.patience ≤ 1000000
  pub sieve : IsSieve job.sieve
  pub atomics : job.atomics ≡ true → job.settings.version ≡ 2
  pub collect : IsCollectOrNone job.settings job.collect
  pub few_handlers : length job.handlers ≤ most_handlers (scope_of job)
  pub handlers : AllByRecursion IsHandler job.handlers
  pub fresh : AreFresh [] job.handlers
  pub unreserved : AreUnreserved (scope_of job) job.handlers
  pub scripts : AllByRecursion (IsNodeScript (scope_of job)) job.scripts
  pub threads : AreThreads job.scripts
  pub schedule : IsScheduleOrNone (scope_of job) job.schedule
  pub pieces : all_pieces job ≤ most_pieces

-- it is a job
pub sound_job : (job : Job) → IsSound job → IsJob job
sound_job job is = record {
  settings = is.settings;
  segment = is.segment;
  segments = is.segments;
  job_fits = is.job_fits;
  last_fits = is.last_fits;
  sums = is.sums;
  some_patience = is.some_patience;
  patience = is.patience;
  sieve = is.sieve;
  atomics = is.atomics;
  collect = is.collect;
  few_handlers = is.few_handlers;
  handlers = is.handlers;
  apart = fresh_apart [] job.handlers is.fresh;
  unreserved = is.unreserved;
  scripts = is.scripts;
  threads = is.threads;
  schedule = is.schedule;
  pieces = is.pieces;
}

-- no pieces
no_pieces : (scripts : List NodeScript) (schedule : Option (List TimedEvent)) → scripts ≡ [] → schedule ≡ None
    → scripts_pieces scripts + schedule_pieces (lines_of schedule) ≤ most_pieces
no_pieces [] None e f = omega arith
no_pieces (s ∷ ss) schedule e f = absurd (cc)
no_pieces [] (Some lines) e f = absurd (cc)

-- a head is a job
pub head_sound : (job : Job) → IsHead job → IsSound job
head_sound job is =
    let all = is.numbers in
    let none = no_handler (scope_of job) job.handlers is.handlers in
    let scripts = no_script (scope_of job) job.scripts is.scripts in
    record {
      settings = settings_range job is.pairs all;
      segment = (all Segment).high;
      segments = segments_few job all;
      job_fits = (let high = (all places.Job).high in omega arith);
      last_fits = (let high = (all Last).high in omega arith);
      sums = λ count. rw (even_sum (with_first_pairs count job.settings)
          (no_first count job.settings.pairs is.pairs)) (leb-true (job.settings.nodes *
          (job.settings.nodes - 1) * job.settings.credits) 65536 (all Credits).fits);
      some_patience = (all Patience).low;
      patience = (all Patience).high;
      sieve = is.sieve;
      atomics = no_batches job.atomics job.settings.version is.atomics;
      collect = no_collect job.settings job.collect is.collect;
      few_handlers = none.0;
      handlers = none.1;
      fresh = none.2;
      unreserved = none.3;
      scripts = scripts.0;
      threads = scripts.1;
      schedule = none_is (scope_of job) job.schedule is.schedule;
      pieces = no_pieces job.scripts job.schedule is.scripts is.schedule;
    }

-- ---- pairs

-- the first so many of some and one more
sums_by : (settings : Parameters) (pair : PairCredits) (count : ℕ) (t : Bool) → leb count (length settings.pairs) ≡ t
    → ((k : ℕ) → credits_in_all (with_first_pairs k settings) ≤ 65536) → credits_in_all
    (with_pair settings pair) ≤ 65536
    → credits_in_all (with_first_pairs count (with_pair settings pair)) ≤ 65536
sums_by settings pair count true e old new =
    rw (take-append-le count settings.pairs (pair ∷ []) (leb-true count (length settings.pairs) e)) (old count)
sums_by settings pair count false e old new =
    let gt = leb-false count (length settings.pairs) e in
    rw (take_all count (settings.pairs ++ pair ∷ []) (simp length-append (omega arith))) new
  where
    take_all : (n : ℕ) (xs : List PairCredits) → length xs ≤ n → take n xs ≡ xs
    take_all zero [] le = refl
    take_all zero (x ∷ xs) le = absurd (omega arith)
    take_all (suc n) [] le = refl
    take_all (suc n) (x ∷ xs) le = ap (λ (ys : List PairCredits). x ∷ ys) (take_all n xs (omega arith))

-- no reason against a pair
pub pair_free_by : (t u : Bool) (a b : LineWhy) → cond t (Some a) (cond u (Some b) None) ≡ None → (t ≡ false) × (u
    ≡ false)
pair_free_by true u a b h = absurd (cc)
pair_free_by false true a b h = absurd (cc)
pair_free_by false false a b h = (refl, refl)

-- one more pair
pub pair_sound : (job : Job) (pair : PairCredits) → IsSound job → pair_fits job.settings pair ≡ true
    → 1 ≤ pair.credits → pair.credits ≤ 32 → has_pair job.settings.pairs pair ≡ false
    → length job.settings.pairs < 64 → job.collect ≡ None → job.scripts ≡ [] → job.schedule ≡ None
    → IsSound (with_own pair job)
pair_sound job pair is fits low high new few uncollected unscripted none =
    let s = job.settings in
    let fit = fitting s pair fits in
    let one = is_pair s pair fit low high in
    let range = pair_range s pair is.settings fit one new few in
    let sum : credits_in_all (with_pair s pair) ≤ 65536 = rw (sum_behind s pair fit one (not_own s.pairs pair new)) fit.sum
    in
    record {
      settings = range;
      segment = is.segment;
      segments = is.segments;
      job_fits = is.job_fits;
      last_fits = is.last_fits;
      sums = λ count. sums_by s pair count (leb count (length s.pairs)) refl is.sums sum;
      some_patience = is.some_patience;
      patience = is.patience;
      sieve = is.sieve;
      atomics = is.atomics;
      collect = no_collect (with_pair s pair) job.collect uncollected;
      few_handlers = is.few_handlers;
      handlers = is.handlers;
      fresh = is.fresh;
      unreserved = is.unreserved;
      scripts = (no_script (scope_of (with_own pair job)) job.scripts unscripted).0;
      threads = is.threads;
      schedule = none_is (scope_of (with_own pair job)) job.schedule none;
      pieces = is.pieces;
    }

-- ---- handlers

-- all of some and one more
pub all_more : {A : Type 0} (P : A → Type 0) (xs : List A) (x : A) → AllByRecursion P xs → P x → AllByRecursion P (xs
    ++ x ∷ [])
all_more P [] x h p = (p, tt)
all_more P (y ∷ ys) x h p = (h.0, all_more P ys x h.1 p)

-- the line of atomics, behind which there is nothing yet
pub atomics_sound : (job : Job) → IsSound job → job.settings.version ≡ 2 → job.handlers ≡ [] → job.scripts ≡ []
    → job.schedule ≡ None → IsSound (with_atomics job)
atomics_sound job is second unhandled unscripted none =
    let scope = scope_of (with_atomics job) in
    let handlers = no_handler scope job.handlers unhandled in
    record {
      settings = is.settings;
      segment = is.segment;
      segments = is.segments;
      job_fits = is.job_fits;
      last_fits = is.last_fits;
      sums = is.sums;
      some_patience = is.some_patience;
      patience = is.patience;
      sieve = is.sieve;
      atomics = λ h. second;
      collect = is.collect;
      few_handlers = handlers.0;
      handlers = is.handlers;
      fresh = is.fresh;
      unreserved = handlers.3;
      scripts = (no_script scope job.scripts unscripted).0;
      threads = is.threads;
      schedule = none_is scope job.schedule none;
      pieces = is.pieces;
    }

-- the line of collectives, behind which there is nothing yet
pub collect_sound : (job : Job) (area : CollectArea) → IsSound job → IsCollect job.settings area → job.handlers ≡ []
    → job.scripts ≡ [] → job.schedule ≡ None → IsSound (with_collect area job)
collect_sound job area is there unhandled unscripted none =
    let scope = scope_of (with_collect area job) in
    let handlers = no_handler scope job.handlers unhandled in
    record {
      settings = is.settings;
      segment = is.segment;
      segments = is.segments;
      job_fits = is.job_fits;
      last_fits = is.last_fits;
      sums = is.sums;
      some_patience = is.some_patience;
      patience = is.patience;
      sieve = is.sieve;
      atomics = is.atomics;
      collect = there;
      few_handlers = handlers.0;
      handlers = is.handlers;
      fresh = is.fresh;
      unreserved = handlers.3;
      scripts = (no_script scope job.scripts unscripted).0;
      threads = is.threads;
      schedule = none_is scope job.schedule none;
      pieces = is.pieces;
    }

pub handler_sound : (job : Job) (handler : HandlerText) → IsSound job → IsHandler handler
    → has_index job.handlers handler.index ≡ false → is_reserved (scope_of job) handler.index ≡ false
    → length job.handlers < most_handlers (scope_of job) → IsSound (with_handler handler job)
handler_sound job handler is one new free few = record {
  settings = is.settings;
  segment = is.segment;
  segments = is.segments;
  job_fits = is.job_fits;
  last_fits = is.last_fits;
  sums = is.sums;
  some_patience = is.some_patience;
  patience = is.patience;
  sieve = is.sieve;
  atomics = is.atomics;
  collect = is.collect;
  few_handlers = simp length-append (omega arith);
  handlers = all_more IsHandler job.handlers handler is.handlers one;
  fresh = fresh_more [] job.handlers handler is.fresh (fresh_from job.handlers handler.index new);
  unreserved = all_more (λ (h : HandlerText). is_reserved (scope_of job) h.index ≡ false) job.handlers handler
      is.unreserved free;
  scripts = is.scripts;
  threads = is.threads;
  schedule = is.schedule;
  pieces = is.pieces;
}

-- ---- scripts

pub script_sound : (job : Job) (script : NodeScript) → IsSound job
    → IsNodeScript (scope_of job) script
    → has_thread job.scripts script.node script.thread ≡ false → job.schedule ≡ None
    → scripts_pieces job.scripts + steps_pieces script.steps ≤ most_pieces → IsSound (with_script script job)
script_sound job script is one new none room =
    let more = scripts_more job.scripts script in
    let pieces : scripts_pieces (job.scripts ++ script ∷ []) + 0 ≤ most_pieces = omega (arith, more, room) in
    record {
      settings = is.settings;
      segment = is.segment;
      segments = is.segments;
      job_fits = is.job_fits;
      last_fits = is.last_fits;
      sums = is.sums;
      some_patience = is.some_patience;
      patience = is.patience;
      sieve = is.sieve;
      atomics = is.atomics;
      collect = is.collect;
      few_handlers = is.few_handlers;
      handlers = is.handlers;
      fresh = is.fresh;
      unreserved = is.unreserved;
      scripts = all_more (IsNodeScript (scope_of job)) job.scripts script is.scripts one;
      threads = threads_more job.scripts script is.threads new;
      schedule = is.schedule;
      pieces = rw none pieces;
    }

-- ---- the schedule

-- a schedule of no line
pub empty_sound : (job : Job) → IsSound job → IsSound (record job { schedule = Some [] })
empty_sound job is =
    let few = is.pieces in
    record {
      settings = is.settings;
      segment = is.segment;
      segments = is.segments;
      job_fits = is.job_fits;
      last_fits = is.last_fits;
      sums = is.sums;
      some_patience = is.some_patience;
      patience = is.patience;
      sieve = is.sieve;
      atomics = is.atomics;
      collect = is.collect;
      few_handlers = is.few_handlers;
      handlers = is.handlers;
      fresh = is.fresh;
      unreserved = is.unreserved;
      scripts = is.scripts;
      threads = is.threads;
      schedule = record { count = omega arith; rounds = omega arith; rounds_of_nodes = omega arith; events_are = tt };
      pieces = omega (arith, few);
    }

-- one more line
schedule_more : (scope : Scope) (lines : List TimedEvent) (t : TimedEvent) → IsSchedule scope lines
    → IsTimed scope t → (before : ℕ) → is_full scope.settings.nodes (amounts_of before lines) t.event ≡ false
    → IsSchedule scope (lines ++ t ∷ [])
schedule_more scope lines t is one before room =
    let few = few_full scope.settings.nodes (amounts_of before lines) t.event room in
    let more = rounds_more lines t in
    record {
      count = simp length-append (omega (arith, few.0));
      rounds = rw more few.1;
      rounds_of_nodes = rw more few.2;
      events_are = all_more (IsTimed scope) lines t is.events_are one;
    }

some_is : (scope : Scope) (schedule : Option (List TimedEvent)) → (lines : List TimedEvent) × (schedule
    ≡ Some lines) → IsScheduleOrNone scope schedule → IsSchedule scope (lines_of schedule)
some_is scope None some is = absurd (cc)
some_is scope (Some lines) some is = is

full_by : (b : Bool) (w : LineWhy) → cond b (Some w) None ≡ None → b ≡ false
full_by true w h = absurd (cc)
full_by false w h = refl

pub line_sound : (job : Job) (t : TimedEvent) → IsSound job → (lines : List TimedEvent) × (job.schedule ≡ Some lines)
    → IsTimed (scope_of job) t
    → line_why job.settings.nodes (scripts_pieces job.scripts) (lines_of job.schedule) t ≡ None
    → IsSound (with_line t job)
line_sound job t is some one free =
    let lines = lines_of job.schedule in
    let amounts = amounts_of (scripts_pieces job.scripts) lines in
    let room = full_by (is_full job.settings.nodes amounts t.event) _ free in
    let few = (few_full job.settings.nodes amounts t.event room).3 in
    let more = pieces_more lines t in
    record {
      settings = is.settings;
      segment = is.segment;
      segments = is.segments;
      job_fits = is.job_fits;
      last_fits = is.last_fits;
      sums = is.sums;
      some_patience = is.some_patience;
      patience = is.patience;
      sieve = is.sieve;
      atomics = is.atomics;
      collect = is.collect;
      few_handlers = is.few_handlers;
      handlers = is.handlers;
      fresh = is.fresh;
      unreserved = is.unreserved;
      scripts = is.scripts;
      threads = is.threads;
      schedule = schedule_more (scope_of job) lines t (some_is (scope_of job) job.schedule some is.schedule) one
          (scripts_pieces job.scripts) room;
      pieces = omega (arith, more, few);
    }
