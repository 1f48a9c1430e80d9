-- A start: its call, and how it is answered.
use Rattle.std.proofs.Common.{◌≡◌, ℤ, ℕ, ◌+◌, ◌-◌, ◌%◌, ◌^◌, ◌<◌, Bool, true, false, true≢false, cond, List}
use Rattle.std.proofs.Common.{Option, Some, None, refl, sym, subst, arith}
use Rattle.std.specs.Prelude.{◌==◌, ◌&&◌, ◌||◌, nat_le, nat_lt, not}
use Rattle.std.proofs.lemmas.Bool.{eqb-true, le-leb, leb-false, lt-leb, ltb-false, or_parts}
use Rattle.spec_node.specs.Behaviour.{Own}
use Rattle.node_core.specs.ClientRules.{long_asking}
use Rattle.node_rules.specs.Called.{Requests}
use Rattle.node_endpoint.specs.declared.caller.Caller.{Ghosts}
use Rattle.node_endpoint.specs.Sites.{ThreadCall}
use Rattle.part_collective_area.specs.Area.{data_place}
use Rattle.part_collective_area.specs.Served.{collective_handler, header_arguments}
use Rattle.part_collective_area.specs.Shapes.{has_root, is_reduction, shape_word}
use Rattle.part_collective_area.specs.declared.shape.Shape.{Shape}
use Rattle.node_collectives.specs.declared.answers.Argument.TheVariants as arguments
use Rattle.node_collectives.specs.declared.answers.StartAnswer.{StartAnswer}
use Rattle.node_collectives.specs.declared.answers.StartAnswer.TheVariants as start_answers
use Rattle.node_collectives.specs.CollectivesState.{CollectivesState, IsSameNode, IsWithin, Stands, progress_of}
use Rattle.node_collectives.specs.Progress.{is_open, start_refusal}
use Rattle.node_collectives.specs.Starts.{Calls, Passes, Refuses, StartAsked, Starts, start_call, started_then}

-- the call that is made is that of the start
pub start_call_is : (it : CollectivesState) (asked : StartAsked) (to offset : ℕ) (args : List ℤ) → to ≡ it.me
    → args ≡ header_arguments (it.started + 1) (shape_word asked.shape)
    → offset ≡ data_place it.area (it.started % 2) it.me
    → ◌≡◌ {A = ThreadCall} (record {
      thread = asked.thread;
      call = Requests to (long_asking collective_handler args (Own asked.from asked.shape.len) offset);
    }) (start_call it asked)
start_call_is it asked to offset args to_is args_are offset_is = cc

-- ---- the first refusal of a start

-- by its tests
abbrev refusal_by : (busy root length_ source exhausted : Bool) → Option StartAnswer
refusal_by busy root length_ source exhausted =
    cond busy (Some start_answers.Busy)
    (cond root (Some (start_answers.BadArg arguments.Root))
    (cond length_ (Some (start_answers.BadArg arguments.Length))
    (cond source (Some (start_answers.BadArg arguments.Source))
    (cond exhausted (Some start_answers.Exhausted) None))))

-- the tests of the root and of the length
abbrev pub bad_root : Shape → (nodes : ℕ) → Bool
bad_root shape nodes = nat_le nodes shape.root || (not (has_root shape.kind) && not (shape.root == 0))

abbrev pub bad_len : Shape → (room : ℕ) → Bool
bad_len shape room = nat_lt room shape.len || (is_reduction shape.kind && not (shape.len % 8 == 0))

pub refusal_is : (it : CollectivesState) (shape : Shape) (from : ℕ) (busy root length_ source exhausted : Bool)
    → is_open (progress_of it) ≡ busy → bad_root shape it.area.nodes ≡ root → bad_len shape it.area.room ≡ length_
    → nat_lt it.settings.segment (from + shape.len) ≡ source → nat_le (2 ^ 64 - 1) it.started ≡ exhausted
    → refusal_by busy root length_ source exhausted
    ≡ start_refusal it.area it.settings.segment (progress_of it) shape from
refusal_is it shape from busy root length_ source exhausted busy_is root_is length_is source_is exhausted_is = cc

pub all_started : (started : ℕ) → started ≡ 2 ^ 64 - 1 → nat_le (2 ^ 64 - 1) started ≡ true
all_started started is = le-leb (2 ^ 64 - 1) started (omega (arith, is))

pub not_all_started : (started : ℕ) → started < 2 ^ 64 → (started ≡ 2 ^ 64 - 1 → ⊥)
    → nat_le (2 ^ 64 - 1) started ≡ false
not_all_started started few isnt = lt-leb (2 ^ 64 - 1) started (omega (arith, few, isnt))

-- ---- a start that isn't refused

unrefused : (busy root length_ source exhausted : Bool)
    → refusal_by busy root length_ source exhausted ≡ None
    → (busy ≡ false) × (root ≡ false) × (length_ ≡ false) × (source ≡ false) × (exhausted ≡ false)
unrefused true root length_ source exhausted same = absurd (cc)
unrefused false true length_ source exhausted same = absurd (cc)
unrefused false false true source exhausted same = absurd (cc)
unrefused false false false true exhausted same = absurd (cc)
unrefused false false false false true same = absurd (cc)
unrefused false false false false false same = (refl, refl, refl, refl, refl)

true_of : (b : Bool) → not b ≡ false → b ≡ true
true_of true none = refl
true_of false none = absurd (true≢false none)

even_then : (is : Bool) (rest : ℕ) → (is && not (rest == 0)) ≡ false → is ≡ true → rest ≡ 0
even_then false rest none same = absurd (true≢false (sym same))
even_then true rest none same = eqb-true rest 0 (true_of (rest == 0) none)

-- what it has
pub passes_of : (it : CollectivesState) (shape : Shape) (from : ℕ) → Stands it
    → start_refusal it.area it.settings.segment (progress_of it) shape from ≡ None → Passes it shape from
passes_of it shape from good none =
    let all = unrefused (is_open (progress_of it)) _ _ _ _ none in
    let root = or_parts (nat_le it.area.nodes shape.root) _ all.1 in
    let len = or_parts (nat_lt it.area.room shape.len) _ all.2 in
    let shut = ltb-false it.ended it.started all.0 in
    let ended = good.ended in
    record {
      shut = omega (arith, shut, ended);
      shape_good = record {
        root = leb-false it.area.nodes shape.root root.0;
        few = ltb-false it.area.room shape.len len.0;
        words = even_then (is_reduction shape.kind) (shape.len % 8) len.1;
      };
      inside = ltb-false it.settings.segment (from + shape.len) all.3;
      left = leb-false (2 ^ 64 - 1) it.started all.4;
    }

-- its data is short
pub short_of : (it : CollectivesState) (shape : Shape) → Stands it → IsWithin it.area shape → shape.len < 2 ^ 32
short_of it shape good within =
    let room = good.area_good.small in
    let few = within.few in
    omega (arith, room, few)

-- where it isn't refused, that is all
pub starts_called : {K : Type 0} (caller : Ghosts K) (it : CollectivesState) (old : K) (asked : StartAsked)
    (answer : StartAnswer) (next : CollectivesState) (new : K)
    → start_refusal it.area it.settings.segment (progress_of it) asked.shape asked.from ≡ None
    → Calls caller it old asked answer next new → Starts caller it old asked answer next new
starts_called caller it old asked answer next new none calls =
    let P : Option StartAnswer → Type 0 = λ (first : Option StartAnswer). elim first [
      | Some refusal ↦ Refuses it old refusal answer next new
      | None ↦ Calls caller it old asked answer next new
    ] in
    subst P (sym none) calls

-- where it is refused, nothing changed
pub starts_refused : {K : Type 0} (caller : Ghosts K) (it : CollectivesState) (old : K) (asked : StartAsked)
    (refusal : StartAnswer)
    → start_refusal it.area it.settings.segment (progress_of it) asked.shape asked.from ≡ Some refusal
    → Starts caller it old asked refusal it old
starts_refused caller it old asked refusal is =
    let P : Option StartAnswer → Type 0 = λ (first : Option StartAnswer). elim first [
      | Some one ↦ Refuses it old one refusal it old
      | None ↦ Calls caller it old asked refusal it old
    ] in
    let refuses : Refuses it old refusal refusal it old = record { answer_is = refl; next_is = refl; same = refl } in
    subst P (sym is) refuses

-- the node stays the same
pub same_node_started : (it next : CollectivesState) (answer : StartAnswer) (shape : Shape)
    → next ≡ started_then answer it shape → IsSameNode it next
same_node_started it next answer shape is = subst (IsSameNode it) (sym is) (by_answer answer)
  where
    by_answer : (one : StartAnswer) → IsSameNode it (started_then one it shape)
    by_answer start_answers.Started = record { settings_are = refl; me_is = refl; area_is = refl }
    by_answer start_answers.Busy = record { settings_are = refl; me_is = refl; area_is = refl }
    by_answer (start_answers.BadArg argument) = record { settings_are = refl; me_is = refl; area_is = refl }
    by_answer start_answers.Exhausted = record { settings_are = refl; me_is = refl; area_is = refl }
    by_answer (start_answers.Forbidden forbidden) = record { settings_are = refl; me_is = refl; area_is = refl }
    by_answer (start_answers.LockBusy lock) = record { settings_are = refl; me_is = refl; area_is = refl }
    by_answer start_answers.NoMemory = record { settings_are = refl; me_is = refl; area_is = refl }
