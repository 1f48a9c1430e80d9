-- The children of a spawner in memory that were started and not finished yet: who they are, and how many.
use Rattle.std.proofs.Common.{◌≡◌, ◌≢◌, ◌≤◌, ◌<◌, ◌+◌, ℕ, zero, suc, Bool, true, false, not, ◌&&◌, ◌||◌, ◌==◌, List, []}
use Rattle.std.proofs.Common.{◌∷◌, ◌++◌, length, ◌⊎◌, inl, inr, refl, sym, ap, ◌∙◌, subst, arith}
use Rattle.std.specs.Prelude.{if◌then◌else◌}
use Rattle.std.specs.List.{list_any}
use Rattle.std.proofs.lemmas.List.Folds.{list_any-append}
use Rattle.std.proofs.lemmas.Bool.Decides.{nat_tests}
use Rattle.std.proofs.Math.Nat.{eq-or-lt_of_le}
use Rattle.base_io.specs.Spawner.{ToldCall, is_start_of, is_finish_of, was_started, is_pending}
use Rattle.base_io.specs.Spawner.ToldCall.{Start, Finish}
use Rattle.std.specs.Global.{Vec}
use Rattle.std.specs.Prelude.{nat_le, slice_index_or}
use Rattle.std.proofs.lemmas.List.{map-append, get_or-map}
use Rattle.base_io.specs.Memory.{is_listed}
use Rattle.base_io.specs.MemorySpawner.{SpawnerState, told_of, told_calls, children_of, output_of, can_end}
use Rattle.base_io.specs.MemorySpawner.{pending_below, HasRoom}
use Rattle.base_io.specs.declared.spawn_call.SpawnCall.{SpawnCall}
use Rattle.std.proofs.Math.Bool.{or-false, or-true}

-- a test of the calls, of those in vectors
pub any_of_calls : (p : ToldCall → Bool) (calls : List SpawnCall)
    → list_any (λ call. p (told_of call)) calls ≡ list_any p (told_calls calls)
any_of_calls p [] = refl
any_of_calls p (call ∷ calls) = ap (λ b. p (told_of call) || b) (any_of_calls p calls)

one_or_none : (b : Bool) (n ranks : ℕ) → n ≤ ranks → (if b then 1 else 0) + n ≤ suc ranks
one_or_none true n ranks le = omega arith
one_or_none false n ranks le = omega arith

-- no more than there are ranks
pub pending_le : (ranks : ℕ) (calls : List ToldCall) → pending_below ranks calls ≤ ranks
pending_le zero calls = omega arith
pending_le (suc ranks) calls =
    one_or_none (is_pending ranks calls) (pending_below ranks calls) ranks (pending_le ranks calls)

-- the same below a rank where the same are pending
pub pending_same : (ranks : ℕ) (old new : List ToldCall) → ((k : ℕ) → k < ranks → is_pending k new ≡ is_pending k old)
    → pending_below ranks new ≡ pending_below ranks old
pending_same zero old new same = refl
pending_same (suc ranks) old new same =
    let here : is_pending ranks new ≡ is_pending ranks old = same ranks (omega arith) in
    let below : pending_below ranks new ≡ pending_below ranks old =
    pending_same ranks old new (λ k h. same k (omega arith)) in
    ap (λ (b : Bool). (if b then 1 else 0) + pending_below ranks new) here
    ∙ ap (λ n. (if is_pending ranks old then 1 else 0) + n) below

-- one fewer where one isn't any more
pub pending_less : (ranks rank : ℕ) (old new : List ToldCall) → rank < ranks → is_pending rank old ≡ true
    → is_pending rank new ≡ false
    → ((k : ℕ) → k ≢ rank → is_pending k new ≡ is_pending k old)
    → pending_below ranks old ≡ suc (pending_below ranks new)
pending_less zero rank old new within was is others = absurd (omega arith)
pending_less (suc ranks) rank old new within was is others =
    let le : rank ≤ ranks = omega arith in
    elim (eq-or-lt_of_le le) [
      | inl here ↦
          (let below : pending_below ranks new ≡ pending_below ranks old =
          pending_same ranks old new (λ k h. others k (λ e. absurd (omega arith))) in
          let was_here : is_pending ranks old ≡ true = subst (λ k. is_pending k old ≡ true) here was in
          let is_here : is_pending ranks new ≡ false = subst (λ k. is_pending k new ≡ false) here is in
          let first = ap (λ (b : Bool). (if b then 1 else 0) + pending_below ranks old) was_here in
          let second = ap (λ (b : Bool). (if b then 1 else 0) + pending_below ranks new) is_here in
          omega (arith, below, first, second))
      | inr lower ↦
          (let below : pending_below ranks old ≡ suc (pending_below ranks new) =
          pending_less ranks rank old new lower was is others in
          let here : is_pending ranks new ≡ is_pending ranks old = others ranks (λ e. absurd (omega arith)) in
          let second = ap (λ (b : Bool). (if b then 1 else 0) + pending_below ranks new) here in
          omega (arith, below, second))
    ]

same_or_not : (a b : ℕ) → (a ≡ b) ⊎ (a ≢ b)
same_or_not a b = grind arith

started_after : (k : ℕ) (calls : List ToldCall) (call : ToldCall)
    → was_started k (calls ++ call ∷ []) ≡ (was_started k calls || is_start_of k call)
started_after k calls call =
    list_any-append (is_start_of k) calls (call ∷ [])
    ∙ ap (λ b. was_started k calls || b) (or-false (is_start_of k call))

finished_after : (k : ℕ) (calls : List ToldCall) (call : ToldCall)
    → list_any (is_finish_of k) (calls ++ call ∷ []) ≡ (list_any (is_finish_of k) calls || is_finish_of k call)
finished_after k calls call =
    list_any-append (is_finish_of k) calls (call ∷ [])
    ∙ ap (λ b. list_any (is_finish_of k) calls || b) (or-false (is_finish_of k call))

pending_after : (k : ℕ) (calls : List ToldCall) (call : ToldCall)
    → is_pending k (calls ++ call ∷ [])
    ≡ ((was_started k calls || is_start_of k call) && not (list_any (is_finish_of k) calls || is_finish_of k call))
pending_after k calls call =
    ap (λ b. b && not (list_any (is_finish_of k) (calls ++ call ∷ []))) (started_after k calls call)
    ∙ ap (λ b. (was_started k calls || is_start_of k call) && not b) (finished_after k calls call)

other_rank : (a b : ℕ) → b ≢ a → (a == b) ≡ false
other_rank a b ne = grind (arith, nat_tests)

same_rank : (a : ℕ) → (a == a) ≡ true
same_rank a = grind (arith, nat_tests)

-- a call about one rank leaves the others as they are
others_start : (k rank port : ℕ) (input : List ℕ) (calls : List ToldCall) → k ≢ rank
    → is_pending k (calls ++ Start rank port input ∷ []) ≡ is_pending k calls
others_start k rank port input calls ne =
    pending_after k calls (Start rank port input)
    ∙ ap (λ b. (was_started k calls || b) && not (list_any (is_finish_of k) calls || false)) (other_rank rank k ne)
    ∙ ap (λ b. b && not (list_any (is_finish_of k) calls || false)) (or-false (was_started k calls))
    ∙ ap (λ b. was_started k calls && not b) (or-false (list_any (is_finish_of k) calls))

others_finish : (k rank : ℕ) (calls : List ToldCall) → k ≢ rank
    → is_pending k (calls ++ Finish rank ∷ []) ≡ is_pending k calls
others_finish k rank calls ne =
    pending_after k calls (Finish rank)
    ∙ ap (λ b. (was_started k calls || false) && not (list_any (is_finish_of k) calls || b)) (other_rank rank k ne)
    ∙ ap (λ b. b && not (list_any (is_finish_of k) calls || false)) (or-false (was_started k calls))
    ∙ ap (λ b. was_started k calls && not b) (or-false (list_any (is_finish_of k) calls))

and_not_true : (b : Bool) → (b && not true) ≡ false
and_not_true true = refl
and_not_true false = refl

-- one that was finished isn't pending
not_pending : (rank : ℕ) (calls : List ToldCall) → is_pending rank (calls ++ Finish rank ∷ []) ≡ false
not_pending rank calls =
    pending_after rank calls (Finish rank)
    ∙ ap (λ b. (was_started rank calls || false) && not (list_any (is_finish_of rank) calls || b)) (same_rank rank)
    ∙ ap (λ b. (was_started rank calls || false) && not b) (or-true (list_any (is_finish_of rank) calls))
    ∙ and_not_true (was_started rank calls || false)

-- what is pending after a start was so before, or is of its rank; after a finish it was so before
there_start : (k rank port : ℕ) (input : List ℕ) (calls : List ToldCall) (ranks : ℕ) → rank < ranks
    → ((r : ℕ) → is_pending r calls ≡ true → r < ranks)
    → is_pending k (calls ++ Start rank port input ∷ []) ≡ true → k < ranks
there_start k rank port input calls ranks within there h =
    elim (same_or_not k rank) [
      | inl e ↦ omega arith
      | inr ne ↦ there k (sym (others_start k rank port input calls ne) ∙ h)
    ]

there_end : (k rank : ℕ) (calls : List ToldCall) (ranks : ℕ) → ((r : ℕ) → is_pending r calls ≡ true → r < ranks)
    → is_pending k (calls ++ Finish rank ∷ []) ≡ true → k < ranks
there_end k rank calls ranks there h =
    elim (same_or_not k rank) [
      | inl e ↦
          absurd (let gone =
          subst (λ r. is_pending r (calls ++ Finish rank ∷ []) ≡ false) (sym e) (not_pending rank calls) in
          cc (gone, h))
      | inr ne ↦ there k (sym (others_finish k rank calls ne) ∙ h)
    ]

-- ---- the room for the finishes

-- nothing is pending yet
pub room_first : (ranks : ℕ) → HasRoom ranks [] 0 0
room_first ranks = record {
  calls_fit = none ranks;
  ends_fit = none ranks;
  there = λ rank h. absurd (cc h);
}
  where
    none : (n : ℕ) → pending_below n [] ≤ 0
    none zero = omega arith
    none (suc n) = let rest = none n in omega arith

-- more room is enough
pub room_more : (ranks : ℕ) (calls : List ToldCall) (calls_room ends_room more_calls more_ends : ℕ)
    → calls_room ≤ more_calls → ends_room ≤ more_ends
    → HasRoom ranks calls calls_room ends_room → HasRoom ranks calls more_calls more_ends
room_more ranks calls calls_room ends_room more_calls more_ends le_calls le_ends h = record {
  calls_fit = let fits = h.calls_fit in omega arith;
  ends_fit = let fits = h.ends_fit in omega arith;
  there = h.there;
}

-- a child was started, with room for as many as there are ranks
pub room_start : (ranks rank port : ℕ) (input : List ℕ) (calls : List ToldCall) (calls_room ends_room : ℕ)
    → rank < ranks → ranks ≤ calls_room → ranks ≤ ends_room
    → ((k : ℕ) → is_pending k calls ≡ true → k < ranks)
    → HasRoom ranks (calls ++ Start rank port input ∷ []) calls_room ends_room
room_start ranks rank port input calls calls_room ends_room within calls_fit ends_fit there = record {
  calls_fit = let most = pending_le ranks (calls ++ Start rank port input ∷ []) in omega arith;
  ends_fit = let most = pending_le ranks (calls ++ Start rank port input ∷ []) in omega arith;
  there = λ k h. there_start k rank port input calls ranks within there h;
}

-- a child was finished
pub room_end : (ranks rank : ℕ) (calls : List ToldCall) (calls_room ends_room less_calls less_ends : ℕ)
    → is_pending rank calls ≡ true
    → calls_room ≤ less_calls + 1 → ends_room ≤ less_ends + 1
    → HasRoom ranks calls calls_room ends_room → HasRoom ranks (calls ++ Finish rank ∷ []) less_calls less_ends
room_end ranks rank calls calls_room ends_room less_calls less_ends was le_calls le_ends h =
    let less : pending_below ranks calls ≡ suc (pending_below ranks (calls ++ Finish rank ∷ [])) =
    pending_less ranks rank calls (calls ++ Finish rank ∷ []) (h.there rank was) was (not_pending rank calls)
    (λ k ne. others_finish k rank calls ne) in
    record {
      calls_fit = let fits = h.calls_fit in omega arith;
      ends_fit = let fits = h.ends_fit in omega arith;
      there = λ k pending. there_end k rank calls ranks h.there pending;
    }

-- there is room where one is pending
pub room_for_one : (ranks rank : ℕ) (calls : List ToldCall) (calls_room ends_room : ℕ) → is_pending rank calls ≡ true
    → HasRoom ranks calls calls_room ends_room
    → (0 < calls_room) × (0 < ends_room)
room_for_one ranks rank calls calls_room ends_room was h =
    let less : pending_below ranks calls ≡ suc (pending_below ranks (calls ++ Finish rank ∷ [])) =
    pending_less ranks rank calls (calls ++ Finish rank ∷ []) (h.there rank was) was (not_pending rank calls)
    (λ k ne. others_finish k rank calls ne) in
    let calls_fit = h.calls_fit in
    let ends_fit = h.ends_fit in
    (omega arith, omega arith)

-- ---- the calls in vectors

pending_of : (started finished : Bool) (rank : ℕ) (calls : List SpawnCall)
    → started ≡ list_any (λ call. is_start_of rank (told_of call)) calls
    → finished ≡ list_any (λ call. is_finish_of rank (told_of call)) calls
    → (started && not finished) ≡ is_pending rank (told_calls calls)
pending_of started finished rank calls e f =
    ap (λ b. b && not finished) (e ∙ any_of_calls (is_start_of rank) calls)
    ∙ ap (λ b. was_started rank (told_calls calls) && not b) (f ∙ any_of_calls (is_finish_of rank) calls)

-- a child that was started is pending where it wasn't finished
pub pending_started : (started finished : Bool) (rank : ℕ) (calls : List SpawnCall)
    → started ≡ list_any (λ call. is_start_of rank (told_of call)) calls
    → finished ≡ list_any (λ call. is_finish_of rank (told_of call)) calls
    → started ≡ true → not finished ≡ is_pending rank (told_calls calls)
pending_started started finished rank calls e f was =
    ap (λ b. b && not finished) (sym was) ∙ pending_of started finished rank calls e f

-- and one that wasn't started isn't
pub pending_unstarted : (started : Bool) (rank : ℕ) (calls : List SpawnCall)
    → started ≡ list_any (λ call. is_start_of rank (told_of call)) calls → started ≡ false
    → started ≡ is_pending rank (told_calls calls)
pending_unstarted started rank calls e never =
    never ∙ ap (λ b. b && not (list_any (is_finish_of rank) (told_calls calls))) (sym never ∙ e
    ∙ any_of_calls (is_start_of rank) calls)

-- one call more
pub calls_push : (calls new : List SpawnCall) (call : SpawnCall) → new ≡ calls ++ call ∷ []
    → told_calls new ≡ told_calls calls ++ told_of call ∷ []
calls_push calls new call e = ap told_calls e ∙ map-append told_of calls (call ∷ [])

-- ---- the children in vectors

pub child_at : (all : List (Vec ℕ × ℕ)) (child : Vec ℕ × ℕ) (rank : ℕ) → rank < length all
    → child ≡ slice_index_or all rank child
    → slice_index_or (children_of all) rank ([], 0) ≡ (child.0.items, child.1)
child_at all child rank within e =
    get_or-map (λ (one : Vec ℕ × ℕ). (one.0.items, one.1)) all rank child ([], 0) within
    ∙ ap (λ (one : Vec ℕ × ℕ). (one.0.items, one.1)) (sym e)

-- a child can end
pub can_end_by : (state : SpawnerState) (rank : ℕ) → is_listed state.fail state.calls ≡ false
    → is_pending rank state.told.calls ≡ true
    → length (output_of state.children rank) ≤ 67108864 → can_end rank state ≡ true
can_end_by state rank listed pending short =
    let fits : nat_le (length (output_of state.children rank)) 67108864 ≡ true = grind (arith, nat_tests) in
    ap (λ b. not b && is_pending rank state.told.calls && nat_le (length (output_of state.children rank)) 67108864)
    listed
    ∙ ap (λ b. true && b && nat_le (length (output_of state.children rank)) 67108864) pending
    ∙ fits

-- and can't with too long an output
pub cannot_end_by : (state : SpawnerState) (rank : ℕ) → 67108864 < length (output_of state.children rank)
    → can_end rank state ≡ false
cannot_end_by state rank long =
    let over : nat_le (length (output_of state.children rank)) 67108864 ≡ false = grind (arith, nat_tests) in
    ap (λ b. not (is_listed state.fail state.calls) && is_pending rank state.told.calls && b) over
    ∙ and_false (not (is_listed state.fail state.calls) && is_pending rank state.told.calls)
  where
    and_false : (b : Bool) → (b && false) ≡ false
    and_false true = refl
    and_false false = refl
