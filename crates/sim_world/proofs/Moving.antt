-- Lists of events, one after the other.
use Rattle.std.proofs.Common.{◌≡◌, ℕ, zero, suc, ◌+◌, ◌-◌, ◌<◌, ◌≤◌, List, [], ◌∷◌, ◌++◌}
use Rattle.std.proofs.Common.{refl, sym, subst, ◌∙◌, arith}
use Rattle.wire_message.specs.Parameters.{Parameters}
use Rattle.part_handlers.specs.declared.table.Entry.{Entry}
use Rattle.std.specs.Prelude.{Option}
use Rattle.part_handlers.specs.Runs.{Meaning}
use Rattle.spec_network.specs.World.{EventAt, world_after, run}
use Rattle.spec_network.specs.MostHeld.{most_then, most_after}
use Rattle.node_rules.specs.EndpointRules.{OtherCall, Records, RecordsEvent, timed_event, transition, job_of}
use Rattle.sim_world.specs.Events.{ForItsRecords, StepsInWorld, job_in}
use Rattle.sim_world.specs.Stands.{WorldStands}
use Rattle.sim_world.specs.WorldState.{WorldState}
use Rattle.sim_world.specs.Settling.{WorldJob, Moves, in_turn}
use Rattle.sim_world.specs.declared.event.WorldAnswer.{WorldAnswer}
use Rattle.sim_world.specs.declared.event.WorldAnswer.TheVariants as answers

-- a world of the same settings and table has the same job
pub same_job : (P : WorldJob → Type 0) (meaning : Meaning) (first old : WorldState)
    → old.settings ≡ first.settings → old.table ≡ first.table → P (job_in meaning old) → P (job_in meaning first)
same_job P meaning first old settings table h =
    subst (λ (t : List (Option Entry)). P (job_of first.settings t meaning)) table
    (subst (λ (s : Parameters). P (job_of s old.table meaning)) settings h)

-- ---- two lists

-- a run of two lists, one after the other
pub run_append : (job : WorldJob) (xs ys : List (EventAt OtherCall)) (w : Records)
    → run job (xs ++ ys) w ≡ run job ys (run job xs w)
run_append job [] ys w = refl
run_append job (x ∷ xs) ys w = run_append job xs ys (world_after job w x)

-- the most that was held in a run of two lists
pub most_append : (job : WorldJob) (xs ys : List (EventAt OtherCall)) (w : Records) (most : ℕ → ℕ)
    → most_after job (xs ++ ys) w most ≡ most_after job ys (run job xs w) (most_after job xs w most)
most_append job [] ys w most = refl
most_append job (x ∷ xs) ys w most =
    most_append job xs ys (world_after job w x) (most_then job.settings (world_after job w x) most)

-- the world stands for what follows these events
abbrev pub StandsAfter : WorldJob → WorldState → List (EventAt OtherCall) → Records → (ℕ → ℕ) → Type 0
StandsAfter job v events w most = WorldStands v (run job events w) (most_after job events w most)

-- for what follows one list and then another, for what follows both
pub stands_both : (job : WorldJob) (v : WorldState) (xs ys : List (EventAt OtherCall)) (w : Records) (most : ℕ → ℕ)
    → StandsAfter job v ys (run job xs w) (most_after job xs w most) → StandsAfter job v (xs ++ ys) w most
stands_both job v xs ys w most h = rw (run_append job xs ys w, most_append job xs ys w most) h

-- events, and then those that the records after them decide
pub moves_then : (job : WorldJob) (events more : Records → List (EventAt OtherCall)) (old mid new : WorldState)
    → Moves job events old mid → Moves job more mid new
    → Moves job (λ w. events w ++ more (run job (events w) w)) old new
moves_then job events more old mid new h k = λ w most stands.
    stands_both job new (events w) (more (run job (events w) w)) w most
    (k (run job (events w) w) (most_after job (events w) w most) (h w most stands))

-- ---- one event

-- of which an answer tells that it happened
pub step_moves : (meaning : Meaning) (old new : WorldState) (now : ℕ) (e : RecordsEvent) (answer : WorldAnswer)
    → (answer ≡ answers.NoMemory → ⊥) → StepsInWorld meaning old (transition now e answer) new
    → Moves (job_in meaning old) (λ w. timed_event now e ∷ []) old new
step_moves meaning old new now e (answers.Node answer) n steps = λ w most h. (steps w most h).1
step_moves meaning old new now e answers.Unsent n steps = λ w most h. (steps w most h).1
step_moves meaning old new now e answers.NoMemory n steps = absurd (n refl)

-- ---- lists in turn

-- from one world to another those of the numbers below the count happened
pub record Turns (meaning : Meaning) (old : WorldState) (events : WorldJob → ℕ → Records → List (EventAt OtherCall))
    (count : ℕ) (new : WorldState) : Type 0 where
  pub settings : new.settings ≡ old.settings
  pub table : new.table ≡ old.table
  pub moves : Moves (job_in meaning old) (in_turn (job_in meaning old) (events (job_in meaning old)) count) old new

-- nothing happened
pub turns_none : (meaning : Meaning) (old : WorldState) (events : WorldJob → ℕ → Records → List (EventAt OtherCall))
    → Turns meaning old events 0 old
turns_none meaning old events = record { settings = refl; table = refl; moves = λ w most stands. stands }

-- those of the next number happened too
pub turns_next : (meaning : Meaning) (old mid new : WorldState)
    (events : WorldJob → ℕ → Records → List (EventAt OtherCall)) (count : ℕ) → Turns meaning old events count mid
    → new.settings ≡ mid.settings → new.table ≡ mid.table
    → Moves (job_in meaning mid) (events (job_in meaning mid) count) mid new
    → Turns meaning old events (count + 1) new
turns_next meaning old mid new events count T settings table M =
    let job = job_in meaning old in
    let next : suc count ≡ count + 1 = omega arith in
    let more = same_job (λ j. Moves j (events j count) mid new) meaning old mid T.settings T.table M in
    record {
      settings = settings ∙ T.settings;
      table = table ∙ T.table;
      moves = subst (λ n. Moves job (in_turn job (events job) n) old new) next
          (moves_then job (in_turn job (events job) count) (events job count) old mid new T.moves more);
    }

-- those of more numbers happened too, where they are none
turns_more : (meaning : Meaning) (old new : WorldState)
    (events : WorldJob → ℕ → Records → List (EventAt OtherCall)) (count more : ℕ) → Turns meaning old events count new
    → ((k : ℕ) → count ≤ k → k < count + more
    → ForItsRecords new (λ records most. events (job_in meaning new) k records ≡ []))
    → Turns meaning old events (count + more) new
turns_more meaning old new events count zero T none =
    subst (λ n. Turns meaning old events n new) (let e : count ≡ count + 0 = omega arith in e) T
turns_more meaning old new events count (suc more) T none =
    let before = turns_more meaning old new events count more T (λ k low high. none k low (omega (arith, high))) in
    let next : count + more + 1 ≡ count + suc more = omega arith in
    subst (λ n. Turns meaning old events n new) next
    (turns_next meaning old new new events (count + more) before refl refl
    (λ w most stands. subst (λ es. StandsAfter (job_in meaning new) new es w most)
    (sym (none (count + more) (omega arith) (omega arith) w most stands)) stands))

-- up to a number from which on the others are none
pub turns_to : (meaning : Meaning) (old new : WorldState)
    (events : WorldJob → ℕ → Records → List (EventAt OtherCall)) (count next : ℕ) → count ≤ next
    → Turns meaning old events count new
    → ((k : ℕ) → count ≤ k → k < next
    → ForItsRecords new (λ records most. events (job_in meaning new) k records ≡ []))
    → Turns meaning old events next new
turns_to meaning old new events count next le T none =
    let all : count + (next - count) ≡ next = omega (arith, le) in
    subst (λ n. Turns meaning old events n new) all
    (turns_more meaning old new events count (next - count) T (λ k low high. none k low (omega (arith, le, high))))

-- all of them happened
pub turns_all : (meaning : Meaning) (old new : WorldState) (events : WorldJob → ℕ → Records → List (EventAt OtherCall))
    (count all : ℕ) → Turns meaning old events count new → count ≡ all
    → Moves (job_in meaning old) (in_turn (job_in meaning old) (events (job_in meaning old)) all) old new
turns_all meaning old new events count all T is =
    subst (λ n. Moves (job_in meaning old) (in_turn (job_in meaning old) (events (job_in meaning old)) n) old new) is
    T.moves
