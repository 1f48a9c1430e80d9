-- The handler-safe locks that are held, in order of locking: what each call answers, and what it leaves. Origin: GASNet
-- 1.8.1, core API, handler-safe locks; that an owner gives them back in the reverse order, and the order of the
-- refusals, are this project's profile.
use Rattle.std.specs.Prelude.{ℕ, Bool, true, false, not, ◌&&◌, ◌==◌, nat_lt, min, List, [], ◌∷◌, ◌++◌}
use Rattle.std.specs.Prelude.{Option, Some, None, option_map, filter, find, map, reverse, count_by, if◌then◌else◌}
use Rattle.std.specs.Int.{bit_at}
use Rattle.std.specs.List.{list_any, reduce}
use Rattle.part_handlers.specs.declared.lock_answer.Owner.{Owner}
use Rattle.part_handlers.specs.declared.lock_answer.Owner.TheVariants.{Thread, Handler}
use Rattle.part_handlers.specs.declared.lock_answer.Held.{Held}
use Rattle.part_handlers.specs.declared.lock_answer.LockFault.{LockFault}
use Rattle.part_handlers.specs.declared.lock_answer.LockFault.TheVariants as fault
use Rattle.part_handlers.specs.declared.lock_answer.LockAnswer.{LockAnswer}
use Rattle.part_handlers.specs.declared.lock_answer.LockAnswer.TheVariants as lock_answers
use Rattle.part_handlers.specs.declared.lock_answer.UnlockAnswer.{UnlockAnswer}
use Rattle.part_handlers.specs.declared.lock_answer.UnlockAnswer.TheVariants as unlock_answers

-- the two are one owner
abbrev pub is_owner : Owner → Owner → Bool
is_owner (Thread thread) (Thread other) = thread == other
is_owner (Thread thread) Handler = false
is_owner Handler (Thread other) = false
is_owner Handler Handler = true

-- a client thread
abbrev pub is_thread : Owner → Bool
is_thread (Thread thread) = true
is_thread Handler = false

-- bit `lock` of `listed` is 1
abbrev pub is_listed : (listed lock : ℕ) → Bool
is_listed listed lock = bit_at listed lock == 1

-- the owner may take the lock, by what its handler's entry lists; threads may take any
abbrev pub may_take : Owner → (listed lock : ℕ) → Bool
may_take (Thread thread) listed lock = true
may_take Handler listed lock = is_listed listed lock

-- ---- what is held

-- the owner has this one
abbrev pub is_of : Owner → Held → Bool
is_of owner one = is_owner one.owner owner

-- who holds the lock
abbrev pub holder : List Held → (lock : ℕ) → Option Owner
holder held lock = option_map (λ one. one.owner) (find (λ one. one.lock == lock) held)

-- the owner is the one who holds it
abbrev pub is_owned_by : Owner → Option Owner → Bool
is_owned_by owner None = false
is_owned_by owner (Some other) = is_owner other owner

-- the owner holds a lock
abbrev pub holds : Owner → List Held → Bool
holds owner held = list_any (is_of owner) held

-- how many locks the owner holds
abbrev pub held_by : List Held → Owner → ℕ
held_by held owner = count_by (is_of owner) held

-- what the others hold
abbrev pub without : Owner → List Held → List Held
without owner held = filter (λ one. not (is_of owner one)) held

-- what is held besides this lock of the owner
abbrev pub without_lock : Owner → (lock : ℕ) → List Held → List Held
without_lock owner lock held = filter (λ one. not (one.lock == lock && is_of owner one)) held

-- the lock that the owner took last, among those that it holds
abbrev pub latest : List Held → Owner → Option ℕ
latest held owner = option_map (λ one. one.lock) (find (is_of owner) (reverse held))

-- a thread holds this one, and it is listed
abbrev pub is_blocking : (listed : ℕ) → Held → Bool
is_blocking listed one = is_thread one.owner && is_listed listed one.lock

-- the smallest of the listed locks that a thread holds
abbrev pub blocking_lock : List Held → (listed : ℕ) → Option ℕ
blocking_lock held listed = reduce min (map (λ one. one.lock) (filter (is_blocking listed) held))

-- ---- taking a lock

-- the answer for a lock that there is, and that the owner may take, by who holds it
abbrev pub answer_by_owner : Option Owner → Owner → LockAnswer
answer_by_owner None owner = lock_answers.Taken
answer_by_owner (Some other) owner =
    if is_owner other owner then lock_answers.Refused fault.Recursive else lock_answers.Held

-- `listed`: the locks that the owner's entry lists, where the owner is a handler
abbrev pub lock_answer : List Held → Owner → (lock listed : ℕ) → LockAnswer
lock_answer held owner lock listed =
    if not (nat_lt lock 64)
    then lock_answers.Refused fault.BadIndex
    else if not (may_take owner listed lock)
    then lock_answers.Refused fault.NotListed
    else answer_by_owner (holder held lock) owner

abbrev pub after_lock : List Held → Owner → (lock listed : ℕ) → List Held
after_lock held owner lock listed = elim (lock_answer held owner lock listed) [
  | lock_answers.Taken ↦ held ++ record { lock = lock; owner = owner } ∷ []
  | lock_answers.Held ↦ held
  | lock_answers.Refused why ↦ held
]

-- ---- giving it back

abbrev pub is_latest : Option ℕ → (lock : ℕ) → Bool
is_latest None lock = false
is_latest (Some last) lock = last == lock

-- what is wrong with it
abbrev pub unlock_fault : List Held → Owner → (lock : ℕ) → Option LockFault
unlock_fault held owner lock =
    if not (nat_lt lock 64)
    then Some fault.BadIndex
    else if not (is_owned_by owner (holder held lock))
    then Some fault.NotHeld
    else if is_latest (latest held owner) lock
    then None
    else Some fault.OutOfOrder

-- the answer, by what is wrong
abbrev pub freed_unless : Option LockFault → UnlockAnswer
freed_unless None = unlock_answers.Freed
freed_unless (Some why) = unlock_answers.Refused why

abbrev pub unlock_answer : List Held → Owner → (lock : ℕ) → UnlockAnswer
unlock_answer held owner lock = freed_unless (unlock_fault held owner lock)

abbrev pub after_unlock : List Held → Owner → (lock : ℕ) → List Held
after_unlock held owner lock = elim (unlock_answer held owner lock) [
  | unlock_answers.Freed ↦ without_lock owner lock held
  | unlock_answers.Refused why ↦ held
]
