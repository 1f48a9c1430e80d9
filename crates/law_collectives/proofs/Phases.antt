-- Why two parts suffice.
use Rattle.std.proofs.Common.{◌≡◌, ◌⊎◌, inl, inr, ℕ, ◌+◌, ◌-◌, ◌%◌, ◌<◌, ◌≤◌, true, false, true≢false, List, [], ◌∷◌}
use Rattle.std.proofs.Common.{sym, ap, ◌∙◌, subst, arith}
use Rattle.std.specs.Prelude.{◌≢◌}
use Rattle.std.proofs.lemmas.Bool.{cases_eq, cases_lt, cases_Bool}
use Rattle.law_collectives.specs.Phases.{Phases, IsNothing, PhaseEvent, Nothing, Starts, Sends, Runs, Ends, IsReady}
use Rattle.law_collectives.specs.Phases.{MayHappen, RunsOne, RisesOne, Leaves, EventAndNext, IsRun, last_of}
use Rattle.law_collectives.specs.Phases.{PairHolds, AllHold, IsSafe, ComesInTime, PhasesAreSafe}

-- ---- the heart of it

-- a message that hasn't run was passed by no later one of its part: who sent a phase two behind it has ended the phase
-- between, so the other one has started that, and ended this one, so it had this one's message
pub not_passed : (nodes : ℕ) (now : Phases) (from to phase later : ℕ) → AllHold nodes now → from < nodes
    → to < nodes → now.ran from to phase ≡ false → now.ran from to later ≡ true → later % 2 ≡ phase % 2
    → phase < later → ⊥
not_passed nodes now from to phase later all has_from has_to fresh ran same behind =
    let pair = all.pair from to has_from has_to in
    let back = all.pair to from has_to has_from in
    let one = all.node from has_from in
    let other = all.node to has_to in
    let two : phase + 2 ≤ later = omega (arith, same, behind) in
    let was_sent = pair.ran later ran in
    let between : phase + 1 < now.ended from = omega (arith, two, was_sent, pair.sent, one.started) in
    let there = back.ended (phase + 1) between in
    let had_sent = back.ran (phase + 1) there in
    let over : phase < now.ended to = omega (arith, had_sent, back.sent, other.started) in
    true≢false (sym (pair.ended phase over) ∙ fresh)

-- what stands in the part of a message that hasn't run is of an earlier phase
pub comes_in_time : (nodes : ℕ) (now : Phases) (from to phase : ℕ) → AllHold nodes now → from < nodes
    → to < nodes → now.ran from to phase ≡ false → now.stands to (phase % 2) from ≤ phase
comes_in_time nodes now from to phase all has_from has_to fresh =
    let pair = all.pair from to has_from has_to in
    let stamp = now.stands to (phase % 2) from in
    elim (cases_lt phase stamp) [
      | inl behind ↦ elim (pair.parity (phase % 2) (omega arith)) [
        | inl none ↦ absurd (omega (arith, none, behind))
        | inr parity ↦ (
            let later = stamp - 1 in
            let same : later % 2 ≡ phase % 2 = omega (arith, parity, behind) in
            let is : stamp ≡ later + 1 = omega (arith, behind) in
            let ran = pair.stands later (ap (λ (part : ℕ). now.stands to part from) same ∙ is) in
            elim (cases_eq later phase) [
              | inl here ↦ absurd (true≢false (sym (subst (λ (one : ℕ). now.ran from to one ≡ true) here ran) ∙ fresh))
              | inr other ↦ absurd (not_passed nodes now from to phase later all has_from has_to fresh ran same
                  (omega (arith, behind, other)))
            ])
      ]
      | inr fine ↦ fine
    ]

-- ---- two nodes whose messages didn't run

pub record Still (now next : Phases) (from to : ℕ) : Type 0 where
  pub before : next.ended from ≤ next.sent from to
  pub sent : next.sent from to ≤ next.started from
  pub more : now.sent from to ≤ next.sent from to
  pub ended : (phase : ℕ) → phase < next.ended to → now.ran from to phase ≡ true
  pub ran : (phase : ℕ) → next.ran from to phase ≡ now.ran from to phase
  pub stands : (parity : ℕ) → parity < 2 → next.stands to parity from ≡ now.stands to parity from

pub still : (now next : Phases) (from to : ℕ) → PairHolds now from to → Still now next from to
    → PairHolds next from to
still now next from to pair same = record {
  before = same.before;
  sent = same.sent;
  ran = λ phase ran.
      let low = pair.ran phase (sym (same.ran phase) ∙ ran) in
      let more = same.more in
      omega (arith, low, more);
  ended = λ phase low. same.ran phase ∙ same.ended phase low;
  stands = λ phase is. same.ran phase ∙ pair.stands phase (sym (same.stands (phase % 2) (omega arith)) ∙ is);
  latest = λ phase ran.
      let low = pair.latest phase (sym (same.ran phase) ∙ ran) in
      let is = same.stands (phase % 2) (omega arith) in
      omega (arith, low, is);
  parity = λ parity low. elim (pair.parity parity low) [
    | inl none ↦ inl (same.stands parity low ∙ none)
    | inr is ↦ inr (ap (λ (stamp : ℕ). (stamp + 1) % 2) (same.stands parity low) ∙ is)
  ];
}

-- ---- two nodes one of whose messages ran

pub record Moved (nodes : ℕ) (now next : Phases) (from to phase : ℕ) : Type 0 where
  pub has_from : from < nodes
  pub has_to : to < nodes
  pub before : next.ended from ≤ next.sent from to
  pub sent : next.sent from to ≤ next.started from
  pub more : now.sent from to ≤ next.sent from to
  pub low : phase < next.sent from to
  pub ended : next.ended to ≡ now.ended to
  pub runs : RunsOne nodes now next from to phase
  pub in_time : now.stands to (phase % 2) from ≤ phase

pub moved : (nodes : ℕ) (now next : Phases) (from to phase : ℕ) → PairHolds now from to
    → Moved nodes now next from to phase
    → PairHolds next from to
moved nodes now next from to phase pair it = record {
  before = it.before;
  sent = it.sent;
  ran = λ one ran. elim (cases_eq one phase) [
    | inl here ↦ subst (λ (p : ℕ). p < next.sent from to) (sym here) it.low
    | inr other ↦ (
        let low = pair.ran one (sym (kept one other) ∙ ran) in
        let more = it.more in
        omega (arith, low, more))
  ];
  ended = λ one low. elim (cases_eq one phase) [
    | inl here ↦ ap (next.ran from to) here ∙ it.runs.ran
    | inr other ↦ kept one other ∙ pair.ended one (subst (λ (n : ℕ). one < n) it.ended low)
  ];
  stands = λ one is. elim (cases_eq (one % 2) (phase % 2)) [
    | inl same ↦ (
        let stamp : one + 1 ≡ phase + 1 =
        sym is ∙ (ap (λ (part : ℕ). next.stands to part from) same ∙ it.runs.stands) in
        let here : one ≡ phase = omega (arith, stamp) in
        ap (next.ran from to) here ∙ it.runs.ran)
    | inr apart ↦ kept one (λ here. apart (ap (λ (p : ℕ). p % 2) here))
        ∙ pair.stands one (sym (it.runs.stands_others to (one % 2) from it.has_to (omega arith) it.has_from (inr (inl apart))) ∙ is)
  ];
  latest = λ one ran. elim (cases_eq one phase) [
    | inl here ↦ (
        let stamp : next.stands to (one % 2) from ≡ phase + 1 =
        ap (λ (p : ℕ). next.stands to (p % 2) from) here ∙ it.runs.stands in
        omega (arith, stamp, here))
    | inr other ↦ latest_other one other (sym (kept one other) ∙ ran)
  ];
  parity = λ parity low. elim (cases_eq parity (phase % 2)) [
    | inl same ↦ inr (
        let stamp : next.stands to parity from ≡ phase + 1 =
        ap (λ (part : ℕ). next.stands to part from) same ∙ it.runs.stands in
        omega (arith, stamp, same))
    | inr apart ↦ (
        let is = it.runs.stands_others to parity from it.has_to low it.has_from (inr (inl apart)) in
        elim (pair.parity parity low) [
          | inl none ↦ inl (is ∙ none)
          | inr right ↦ inr (ap (λ (stamp : ℕ). (stamp + 1) % 2) is ∙ right)
        ])
  ];
}
  where
    kept : (one : ℕ) → one ≢ phase → next.ran from to one ≡ now.ran from to one
    kept one other = it.runs.ran_others from to one (inr (inr other))

    latest_other : (one : ℕ) → one ≢ phase → now.ran from to one ≡ true → one < next.stands to (one % 2) from
    latest_other one other ran = elim (cases_eq (one % 2) (phase % 2)) [
      | inl same ↦ (
          let stamp : next.stands to (one % 2) from ≡ phase + 1 =
          ap (λ (part : ℕ). next.stands to part from) same ∙ it.runs.stands in
          let was : now.stands to (one % 2) from ≡ now.stands to (phase % 2) from =
          ap (λ (part : ℕ). now.stands to part from) same in
          let low = pair.latest one ran in
          let early = it.in_time in
          omega (arith, stamp, was, low, early))
      | inr apart ↦ (
          let is = it.runs.stands_others to (one % 2) from it.has_to (omega arith) it.has_from (inr (inl apart)) in
          let low = pair.latest one ran in
          omega (arith, is, low))
    ]

-- ---- a number that rises at one node

pub risen : (now next : ℕ → ℕ) (node other : ℕ) → RisesOne now next node
    → (next other ≡ now other) ⊎ ((other ≡ node) × (next other ≡ now other + 1))
risen now next node other rises = elim (cases_eq other node) [
  | inl here ↦ inr (here, ap next here ∙ (rises.here ∙ ap (λ (it : ℕ). now it + 1) (sym here)))
  | inr apart ↦ inl (rises.others other apart)
]

-- one of two differs, or none does
pub cases_two : (one other from to : ℕ) → ((one ≡ from) × (other ≡ to)) ⊎ ((one ≢ from) ⊎ (other ≢ to))
cases_two one other from to = elim (cases_eq one from) [
  | inl first ↦ elim (cases_eq other to) [ inl second ↦ inl (first, second) | inr apart ↦ inr (inr apart) ]
  | inr apart ↦ inr (inl apart)
]

-- ---- each event keeps it

kept_nothing : (nodes : ℕ) (now next : Phases) → AllHold nodes now → Leaves nodes now Nothing next
    → AllHold nodes next
kept_nothing nodes now next all left = record {
  node = λ node has.
      let one = all.node node has in
      let started = left.0 node in
      let ended = left.1 node in
      record { ended = omega (arith, one.ended, started, ended); started = omega (arith, one.started, started, ended) };
  pair = λ from to has_from has_to.
      let pair = all.pair from to has_from has_to in
      let started = left.0 from in
      let ended = left.1 from in
      let sent = left.2 from to has_from has_to in
      still now next from to pair (record {
        before = omega (arith, pair.before, ended, sent);
        sent = omega (arith, pair.sent, started, sent);
        more = omega (arith, sent);
        ended = λ phase low. pair.ended phase (subst (λ (n : ℕ). phase < n) (left.1 to) low);
        ran = λ phase. left.3.ran from to phase;
        stands = λ parity low. left.3.stands to parity from has_to low has_from;
      });
}

kept_sends : (nodes : ℕ) (now next : Phases) (sender receiver : ℕ) → AllHold nodes now
    → MayHappen nodes now (Sends sender receiver) → Leaves nodes now (Sends sender receiver) next → AllHold nodes next
kept_sends nodes now next sender receiver all may left = record {
  node = λ node has.
      let one = all.node node has in
      let started = left.0 node in
      let ended = left.1 node in
      record { ended = omega (arith, one.ended, started, ended); started = omega (arith, one.started, started, ended) };
  pair = λ from to has_from has_to.
      let pair = all.pair from to has_from has_to in
      let one = all.node from has_from in
      let started = left.0 from in
      let ended = left.1 from in
      let sent : (next.sent from to ≡ now.sent from to) ⊎ (next.sent from to ≡ now.started from) =
      elim (cases_two from to sender receiver) [
        | inl both ↦ inr (ap (λ (f : ℕ). next.sent f to) both.0 ∙ (ap (next.sent sender) both.1
            ∙ (left.2.here ∙ ap now.started (sym both.0))))
        | inr apart ↦ inl (left.2.others from to apart)
      ] in
      still now next from to pair (record {
        before = elim sent [
          | inl same ↦ omega (arith, pair.before, ended, same)
          | inr new ↦ omega (arith, one.ended, ended, new)
        ];
        sent = elim sent [
          | inl same ↦ omega (arith, pair.sent, started, same)
          | inr new ↦ omega (arith, started, new)
        ];
        more = elim sent [ inl same ↦ omega (arith, same) | inr new ↦ omega (arith, pair.sent, new) ];
        ended = λ phase low. pair.ended phase (subst (λ (n : ℕ). phase < n) (left.1 to) low);
        ran = λ phase. left.3.ran from to phase;
        stands = λ parity low. left.3.stands to parity from has_to low has_from;
      });
}

-- the messages of other nodes stay as they were
ran_apart : (nodes : ℕ) (now next : Phases) (sender receiver phase from to : ℕ) → RunsOne nodes now next sender receiver phase
    → (from ≢ sender) ⊎ (to ≢ receiver) → (one : ℕ) → next.ran from to one ≡ now.ran from to one
ran_apart nodes now next sender receiver phase from to runs apart one = elim apart [
  | inl first ↦ runs.ran_others from to one (inl first)
  | inr second ↦ runs.ran_others from to one (inr (inl second))
]

stands_apart : (nodes : ℕ) (now next : Phases) (sender receiver phase from to : ℕ) → RunsOne nodes now next sender receiver phase
    → from < nodes → to < nodes → (from ≢ sender) ⊎ (to ≢ receiver) → (parity : ℕ) → parity < 2
    → next.stands to parity from ≡ now.stands to parity from
stands_apart nodes now next sender receiver phase from to runs has_from has_to apart parity low = elim apart [
  | inl first ↦ runs.stands_others to parity from has_to low has_from (inr (inr first))
  | inr second ↦ runs.stands_others to parity from has_to low has_from (inl second)
]

kept_runs : (nodes : ℕ) (now next : Phases) (sender receiver phase : ℕ) → AllHold nodes now
    → MayHappen nodes now (Runs sender receiver phase) → Leaves nodes now (Runs sender receiver phase) next
    → AllHold nodes next
kept_runs nodes now next sender receiver phase all may left = record {
  node = λ node has.
      let one = all.node node has in
      let started = left.0 node in
      let ended = left.1 node in
      record { ended = omega (arith, one.ended, started, ended); started = omega (arith, one.started, started, ended) };
  pair = λ from to has_from has_to.
      let pair = all.pair from to has_from has_to in
      let started = left.0 from in
      let ended = left.1 from in
      let sent = left.2 from to has_from has_to in
      elim (cases_two from to sender receiver) [
        | inl both ↦ subst (λ (one : ℕ). PairHolds next one to) (sym both.0)
            (subst (λ (other : ℕ). PairHolds next sender other) (sym both.1) here)
        | inr apart ↦ still now next from to pair (record {
          before = omega (arith, pair.before, ended, sent);
          sent = omega (arith, pair.sent, started, sent);
          more = omega (arith, sent);
          ended = λ one low. pair.ended one (subst (λ (n : ℕ). one < n) (left.1 to) low);
          ran = ran_apart nodes now next sender receiver phase from to left.3 apart;
          stands = stands_apart nodes now next sender receiver phase from to left.3 has_from has_to apart;
        })
      ];
}
  where
    here : PairHolds next sender receiver
    here =
        let pair = all.pair sender receiver may.0 may.1 in
        let started = left.0 sender in
        let ended = left.1 sender in
        let sent = left.2 sender receiver may.0 may.1 in
        let low = may.3 in
        moved nodes now next sender receiver phase pair (record {
          has_from = may.0;
          has_to = may.1;
          before = omega (arith, pair.before, ended, sent);
          sent = omega (arith, pair.sent, started, sent);
          more = omega (arith, sent);
          low = omega (arith, low, sent);
          ended = left.1 receiver;
          runs = left.3;
          in_time = comes_in_time nodes now sender receiver phase all may.0 may.1 may.4;
        })

kept_starts : (nodes : ℕ) (now next : Phases) (starter : ℕ) → AllHold nodes now
    → MayHappen nodes now (Starts starter) → Leaves nodes now (Starts starter) next → AllHold nodes next
kept_starts nodes now next starter all may left = record {
  node = λ node has.
      let one = all.node node has in
      let ended = left.1 node in
      let idle = may.1 in
      elim (risen now.started next.started starter node left.0) [
        | inl same ↦ record {
          ended = omega (arith, one.ended, same, ended);
          started = omega (arith, one.started, same, ended);
        }
        | inr here ↦ (
            let was : now.started node ≡ now.ended node =
            ap now.started here.0 ∙ (idle ∙ ap now.ended (sym here.0)) in
            let more = here.1 in
            record { ended = omega (arith, was, more, ended); started = omega (arith, was, more, ended) })
      ];
  pair = λ from to has_from has_to.
      let pair = all.pair from to has_from has_to in
      let ended = left.1 from in
      elim (cases_two from to starter starter) [
        | inl both ↦ subst (λ (one : ℕ). PairHolds next one to) (sym both.0)
            (subst (λ (other : ℕ). PairHolds next starter other) (sym both.1) here)
        | inr apart ↦ (
            let sent = left.2.others from to apart in
            still now next from to pair (record {
              before = omega (arith, pair.before, ended, sent);
              sent = elim (risen now.started next.started starter from left.0) [
                | inl same ↦ omega (arith, pair.sent, same, sent)
                | inr more ↦ (let up = more.1 in omega (arith, pair.sent, up, sent))
              ];
              more = omega (arith, sent);
              ended = λ one low. pair.ended one (subst (λ (n : ℕ). one < n) (left.1 to) low);
              ran = ran_apart nodes now next starter starter (now.started starter) from to left.3 apart;
              stands = stands_apart nodes now next starter starter (now.started starter) from to left.3 has_from
                  has_to apart;
            }))
      ];
}
  where
    here : PairHolds next starter starter
    here =
        let pair = all.pair starter starter may.0 may.0 in
        let node = all.node starter may.0 in
        let started = left.0.here in
        let ended = left.1 starter in
        let sent = left.2.here in
        let phase = now.started starter in
        let fresh : now.ran starter starter phase ≡ false = elim (cases_Bool (now.ran starter starter phase)) [
          | inl ran ↦ absurd (let low = pair.ran phase ran in omega (arith, low, pair.sent))
          | inr not_yet ↦ not_yet
        ] in
        moved nodes now next starter starter phase pair (record {
          has_from = may.0;
          has_to = may.0;
          before = omega (arith, node.ended, ended, sent);
          sent = omega (arith, started, sent);
          more = omega (arith, pair.sent, sent);
          low = omega (arith, sent);
          ended = ended;
          runs = left.3;
          in_time = comes_in_time nodes now starter starter phase all may.0 may.0 fresh;
        })

kept_ends : (nodes : ℕ) (now next : Phases) (ender : ℕ) → AllHold nodes now
    → MayHappen nodes now (Ends ender) → Leaves nodes now (Ends ender) next → AllHold nodes next
kept_ends nodes now next ender all may left = record {
  node = λ node has.
      let one = all.node node has in
      let started = left.0 node in
      elim (risen now.ended next.ended ender node left.1) [
        | inl same ↦ record {
          ended = omega (arith, one.ended, same, started);
          started = omega (arith, one.started, same, started);
        }
        | inr here ↦ (
            let was : now.started node ≡ now.ended node + 1 =
            ap now.started here.0 ∙ (may.1.started ∙ ap (λ (it : ℕ). now.ended it + 1) (sym here.0)) in
            let more = here.1 in
            record { ended = omega (arith, was, more, started); started = omega (arith, was, more, started) })
      ];
  pair = λ from to has_from has_to.
      let pair = all.pair from to has_from has_to in
      let started = left.0 from in
      let sent = left.2 from to has_from has_to in
      still now next from to pair (record {
        before = elim (risen now.ended next.ended ender from left.1) [
          | inl same ↦ omega (arith, pair.before, same, sent)
          | inr here ↦ (
              let was : now.sent from to ≡ now.ended from + 1 =
              ap (λ (it : ℕ). now.sent it to) here.0 ∙ (may.1.sent to has_to ∙ (may.1.started
              ∙ ap (λ (it : ℕ). now.ended it + 1) (sym here.0))) in
              let more = here.1 in
              omega (arith, was, more, sent))
        ];
        sent = omega (arith, pair.sent, started, sent);
        more = omega (arith, sent);
        ended = λ phase low. elim (risen now.ended next.ended ender to left.1) [
          | inl same ↦ pair.ended phase (subst (λ (n : ℕ). phase < n) same low)
          | inr here ↦ elim (cases_lt phase (now.ended to)) [
            | inl earlier ↦ pair.ended phase earlier
            | inr not_earlier ↦ (
                let more = here.1 in
                let is : phase ≡ now.ended to = omega (arith, low, more, not_earlier) in
                let stands : now.stands to (now.ended to % 2) from ≡ now.ended to + 1 =
                subst (λ (it : ℕ). now.stands it (now.ended it % 2) from ≡ now.ended it + 1) (sym here.0)
                (may.1.all from has_from ∙ may.1.started) in
                subst (λ (one : ℕ). now.ran from to one ≡ true) (sym is) (pair.stands (now.ended to) stands))
          ]
        ];
        ran = λ phase. left.3.ran from to phase;
        stands = λ parity low. left.3.stands to parity from has_to low has_from;
      });
}

pub kept : (nodes : ℕ) (now next : Phases) (event : PhaseEvent) → AllHold nodes now → MayHappen nodes now event
    → Leaves nodes now event next → AllHold nodes next
kept nodes now next Nothing all may left = kept_nothing nodes now next all left
kept nodes now next (Starts node) all may left = kept_starts nodes now next node all may left
kept nodes now next (Sends from to) all may left = kept_sends nodes now next from to all may left
kept nodes now next (Runs from to phase) all may left = kept_runs nodes now next from to phase all may left
kept nodes now next (Ends node) all may left = kept_ends nodes now next node all may left

pub kept_all : (nodes : ℕ) (now : Phases) (steps : List EventAndNext) → AllHold nodes now → IsRun nodes now steps
    → AllHold nodes (last_of now steps)
kept_all nodes now [] all it = all
kept_all nodes now (step ∷ later) all it =
    kept_all nodes step.next later (kept nodes now step.next step.event all it.0 it.1) it.2

-- ---- the opening, and the law

pub at_first : (nodes : ℕ) (now : Phases) → IsNothing now → AllHold nodes now
at_first nodes now none = record {
  node = λ node has.
      let started = none.started node in
      let ended = none.ended node in
      record { ended = omega (arith, started, ended); started = omega (arith, started, ended) };
  pair = λ from to has_from has_to.
      let started = none.started from in
      let ended = none.ended from in
      let over = none.ended to in
      let sent = none.sent from to in
      record {
        before = omega (arith, ended, sent);
        sent = omega (arith, started, sent);
        ran = λ phase ran. absurd (true≢false (sym ran ∙ none.ran from to phase));
        ended = λ phase low. absurd (omega (arith, low, over));
        stands = λ phase is. absurd (let stamp = none.stands to (phase % 2) from in omega (arith, is, stamp));
        latest = λ phase ran. absurd (true≢false (sym ran ∙ none.ran from to phase));
        parity = λ parity low. inl (none.stands to parity from);
      };
}

pub ready_safe : (nodes : ℕ) (now : Phases) (node : ℕ) → AllHold nodes now → node < nodes
    → IsReady nodes now node → IsSafe nodes now node
ready_safe nodes now node all has ready = record {
  all = λ from has_from.
      let pair = all.pair from node has_from has in
      let low = pair.ran (now.ended node) (there from has_from) in
      omega (arith, low, pair.sent);
  near = λ from has_from. elim (cases_lt (now.ended node + 1) (now.ended from)) [
    | inl far ↦ absurd (
        let back = all.pair node from has has_from in
        let low = back.ran (now.ended node + 1) (back.ended (now.ended node + 1) far) in
        let started = ready.started in
        omega (arith, low, back.sent, started))
    | inr close ↦ (let one = all.node from has_from in omega (arith, one.started, close))
  ];
  ran = there;
}
  where
    there : (from : ℕ) → from < nodes → now.ran from node (now.ended node) ≡ true
    there from has_from =
        (all.pair from node has_from has).stands (now.ended node) (ready.all from has_from ∙ ready.started)

in_time : (nodes : ℕ) (now : Phases) (event : PhaseEvent) → AllHold nodes now → MayHappen nodes now event
    → ComesInTime now event
in_time nodes now (Runs from to phase) all may = comes_in_time nodes now from to phase all may.0 may.1 may.4
in_time nodes now event all may = tt

pub phases_are_safe : PhasesAreSafe
phases_are_safe nodes opening steps none it =
    let all = kept_all nodes opening steps (at_first nodes opening none) it in
    record {
      ready = λ node has ready. ready_safe nodes (last_of opening steps) node all has ready;
      in_time = λ event may. in_time nodes (last_of opening steps) event all may;
    }
