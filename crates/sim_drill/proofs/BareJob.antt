-- The text of the drill's job, without its schedule.
use Rattle.std.proofs.Common.{◌≡◌, ◌≢◌, ℕ, zero, suc, ◌≤◌, List, [], ◌∷◌, ◌⊎◌, refl, ap, subst, inl, inr, lit<, lit≤}
use Rattle.std.proofs.Common.{arith}
use Rattle.std.proofs.lemmas.Bool.{false≢true}
use Rattle.std.specs.Fmt.{digits}
use Rattle.std.proofs.lemmas.Option.{same_Some}
use Rattle.wire_message.specs.Parameters.{AreInRange, credits_of, credits_in_all}
use Rattle.text_job.specs.Refusals.{IsNoMemory}
use Rattle.text_job.specs.declared.fault.JobFault.{JobFault}
use Rattle.text_job.specs.declared.fault.JobFault.TheVariants as faults
use Rattle.base_text.specs.declared.why.LineWhy.{LineWhy}
use Rattle.text_job.specs.declared.job.HandlerText.{HandlerText}
use Rattle.text_job.specs.declared.job.Job.{Job as JobState}
use Rattle.text_job.specs.JobText.{AreApart, IsHandler, IsJob, JobText, job_text, with_first_pairs}
use Rattle.sim_drill.specs.Rounds.{bare_job, drill_settings, request_handler, reply_handler}

-- its settings are in range
pub settings_in_range : AreInRange drill_settings
settings_in_range = record {
  version = refl;
  some_node = lit≤ tt;
  nodes = lit≤ tt;
  nodes_at_first = λ first. lit≤ tt;
  some_credit = lit≤ tt;
  credits = lit≤ tt;
  pairs = tt;
  few_pairs = lit≤ tt;
  some_thread = lit≤ tt;
  threads = lit≤ tt;
  pages = refl;
  some_page = lit≤ tt;
  segment = lit≤ tt;
  last = lit≤ tt;
  some_time = lit≤ tt;
  resend = lit≤ tt;
}

-- so are the sums of its credits
few_credits : (count : ℕ) → credits_in_all (with_first_pairs count drill_settings) ≤ 65536
unfolding credits_in_all credits_of
few_credits zero = lit≤ tt
few_credits (suc count) = lit≤ tt

-- its handlers are in range
request_is : IsHandler request_handler
request_is = record {
  index = inr (lit≤ tt, lit< tt);
  locks = refl;
  count = lit≤ tt;
  actions = (
    (((lit≤ tt, lit≤ tt, lit< tt), (lit< tt, tt)), refl),
    (((((lit≤ tt, lit≤ tt, lit< tt), (lit≤ tt, lit≤ tt, (lit< tt, tt))), refl), refl), tt),
  );
}

reply_is : IsHandler reply_handler
reply_is = record {
  index = inr (lit≤ tt, lit< tt);
  locks = refl;
  count = lit≤ tt;
  actions = ((((lit≤ tt, lit≤ tt, lit< tt), (lit< tt, tt)), refl), tt);
}

-- and their indexes differ
are_apart : AreApart (request_handler ∷ reply_handler ∷ [])
are_apart zero zero one other a b some same = refl
are_apart zero (suc zero) one other a b some same =
    let first = ap (λ (h : HandlerText). h.index) (same_Some _ _ a) in
    let second = ap (λ (h : HandlerText). h.index) (same_Some _ _ b) in
    absurd (omega (arith, first, second, same))
are_apart zero (suc (suc l)) one other a b some same = absurd (cc)
are_apart (suc zero) zero one other a b some same =
    let first = ap (λ (h : HandlerText). h.index) (same_Some _ _ a) in
    let second = ap (λ (h : HandlerText). h.index) (same_Some _ _ b) in
    absurd (omega (arith, first, second, same))
are_apart (suc zero) (suc zero) one other a b some same = refl
are_apart (suc zero) (suc (suc l)) one other a b some same = absurd (cc)
are_apart (suc (suc k)) l one other a b some same = absurd (cc)

-- it is a job
bare_is : IsJob bare_job
bare_is = record {
  settings = settings_in_range;
  segment = lit≤ tt;
  segments = lit≤ tt;
  job_fits = lit< tt;
  last_fits = lit< tt;
  sums = few_credits;
  some_patience = lit≤ tt;
  patience = lit≤ tt;
  sieve = record { lose = lit≤ tt; repeat = lit≤ tt; swap = lit≤ tt };
  atomics = λ has. absurd (false≢true has);
  collect = tt;
  few_handlers = lit≤ tt;
  handlers = (request_is, (reply_is, tt));
  apart = are_apart;
  unreserved = (refl, (refl, tt));
  scripts = tt;
  threads = tt;
  schedule = tt;
  pieces = lit≤ tt;
}

-- with this text
pub bare_text : JobText bare_job (job_text bare_job)
unfolding digits
bare_text = record { is_job = bare_is; text = refl; within = lit≤ tt }

-- so it is never bad
pub never_bad : (fault : JobFault) (line : ℕ) (why : LineWhy) (bytes : List ℕ) → fault ≡ faults.Bad line why
    → JobText bare_job bytes → IsNoMemory fault ⊎ ((job : JobState) → JobText job bytes → ⊥) → ⊥
never_bad fault line why bytes is text (inl memory) = subst IsNoMemory is memory
never_bad fault line why bytes is text (inr none) = none bare_job text
