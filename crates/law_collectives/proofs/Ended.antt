-- A phase is ended: the invariant holds then.
use Rattle.std.proofs.Common.{◌≡◌, inl, inr, ℕ, ◌+◌, ◌<◌, Bool, false, length, refl, sym, ap, ◌∙◌, subst, arith}
use Rattle.std.specs.Prelude.{◌==◌, ◌&&◌, nat_lt, if◌then◌else◌}
use Rattle.std.proofs.lemmas.Bool.{cases_eq, eq-eqb, le-ltb, ne_eqb}
use Rattle.base_lists.specs.Put.{put}
use Rattle.base_lists.proofs.Put.{put_same, put_other}
use Rattle.law_transfers.specs.Chunks.{EndpointJob}
use Rattle.part_collective_area.specs.Area.{Area}
use Rattle.law_collectives.specs.Phases.{Ends, SameSent}
use Rattle.node_collectives.specs.Progress.{Progress, after_end}
use Rattle.law_collectives.specs.Groups.{Group, with_progress}
use Rattle.law_collectives.specs.CollectiveLaws.{Gave}
use Rattle.law_collectives.specs.Invariant.{GroupHolds, ProgressHolds, phases_of, sent_count}
use Rattle.law_collectives.proofs.Phases.{kept}
use Rattle.law_collectives.proofs.Ending.{Ready, is_ready_then}

-- how many phases the node has started
count_ready : (job : EndpointJob) (area : Area) (group : Group) (node : ℕ) → Ready job area group node
    → (group.progress node).started ≡ (group.progress node).ended + 1
count_ready job area group node it =
    let ready = is_ready_then job area group node it in
    (it.holds.progress node it.there).started ∙ ready.started

-- it has sent as much as before
ends_sent : (job : EndpointJob) (area : Area) (group : Group) (node : ℕ) → Ready job area group node
    → SameSent job.settings.nodes (phases_of job area group)
    (phases_of job area (with_progress group node (after_end (group.progress node))))
ends_sent job area group node it one other has has_other = elim (cases_eq other one) [
  | inl same ↦ rw (eq-eqb other one same) refl
  | inr apart ↦ rw (ne_eqb other one apart) (elim (cases_eq one node) [
    | inr differs ↦ ap (λ (progress : Progress). sent_count progress other) (put_other group.progress node _ one differs)
    | inl here ↦ (
        let progress = group.progress node in
        let ready = is_ready_then job area group node it in
        let many = count_ready job area group node it in
        let off : (other == node) ≡ false = ne_eqb other node (λ same. apart (same ∙ sym here)) in
        let was : sent_count progress other ≡ progress.ended + 1 =
        sym (ap (λ (test : Bool). if test then length (group.given node) else sent_count progress other) off)
        ∙ (ready.sent other has_other ∙ ready.started) in
        let shut : nat_lt (progress.ended + 1) progress.started ≡ false =
        le-ltb (progress.ended + 1) progress.started (omega (arith, many)) in
        let now : sent_count (after_end progress) other ≡ progress.ended + 1 =
        ap (λ (opened : Bool). progress.ended + 1 + (if opened && progress.sent other then 1 else 0)) shut
        ∙ omega arith in
        ap (λ (at : ℕ). sent_count (put group.progress node (after_end progress) at) other) here
        ∙ (ap (λ (it_then : Progress). sent_count it_then other) (put_same group.progress node (after_end progress))
        ∙ (now ∙ (sym was ∙ ap (λ (at : ℕ). sent_count (group.progress at) other) (sym here)))))
  ])
]

-- the shape that is kept is the one that the node gave
progress_ended : (job : EndpointJob) (area : Area) (group : Group) (node : ℕ) → Ready job area group node
    → (one : ℕ) → one < job.settings.nodes
    → ProgressHolds area (with_progress group node (after_end (group.progress node))) one
progress_ended job area group node it one has =
    let old = it.holds.progress one has in
    let progress = group.progress node in
    elim (cases_eq one node) [
      | inl here ↦ (
          let progress_is : put group.progress node (after_end progress) one ≡ after_end progress =
          ap (put group.progress node (after_end progress)) here
          ∙ put_same group.progress node (after_end progress) in
          let same : (group.progress one).started ≡ progress.started =
          ap (λ (at : ℕ). (group.progress at).started) here in
          record {
            started = ap (λ (m : Progress). m.started) progress_is ∙ (sym same ∙ old.started);
            shape = λ given low gave. absurd (
                let ended = ap (λ (m : Progress). m.ended) progress_is in
                let many = count_ready job area group node it in
                let count = old.started in
                omega (arith, low, ended, many, count, same));
            given = old.given;
            small = old.small;
          })
      | inr apart ↦ (
          let progress_is : put group.progress node (after_end progress) one ≡ group.progress one =
          put_other group.progress node (after_end progress) one apart in
          record {
            started = ap (λ (m : Progress). m.started) progress_is ∙ old.started;
            shape = λ given low gave.
                old.shape given
                (subst (λ (m : Progress). m.ended < length (group.given one)) progress_is low)
                (subst (λ (m : Progress). Gave group one m.ended given) progress_is gave)
                ∙ sym (ap (λ (m : Progress). m.shape) progress_is);
            given = old.given;
            small = old.small;
          })
    ]

pub phase_ended : (job : EndpointJob) (area : Area) (group : Group) (node : ℕ) → Ready job area group node
    → GroupHolds job area (with_progress group node (after_end (group.progress node)))
phase_ended job area group node it =
    let holds = it.holds in
    record {
      records = holds.records;
      phases = kept job.settings.nodes (phases_of job area group)
          (phases_of job area (with_progress group node (after_end (group.progress node)))) (Ends node)
          holds.phases (it.there, is_ready_then job area group node it) (
            (λ one. refl),
            record {
              here = ap (λ (m : Progress). m.ended) (put_same group.progress node _);
              others = λ other apart. ap (λ (m : Progress). m.ended) (put_other group.progress node _ other apart);
            },
            ends_sent job area group node it,
            record { ran = λ one other phase. refl; stands = λ at parity one has low has_one. refl },
          );
      progress = progress_ended job area group node it;
      messages = λ one other number request has has_other there handler.
          let old = holds.messages one other number request has has_other there handler in
          record {
            phase = old.phase;
            given = old.given;
            gave = old.gave;
            sent = subst (λ (n : ℕ). old.phase < n) (sym (ends_sent job area group node it one other has has_other))
                old.sent;
            content_is = old.content_is;
          };
      once = holds.once;
      parts = λ at one phase given has has_one stands gave.
          let old = holds.parts at one phase given has has_one stands gave in
          record { shape = old.shape; bytes = old.bytes };
    }
