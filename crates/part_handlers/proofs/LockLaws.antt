-- What calls on locks leave to the others, and when the locks that a handler lists are free for it.
use Rattle.std.proofs.Common.{◌≡◌, ◌≢◌, inl, inr, ℕ, List, [], ◌∷◌, ◌++◌, Option, Some, None, Bool, true, false, not}
use Rattle.std.proofs.Common.{◌&&◌}
use Rattle.std.proofs.Common.{true≢false, eqb, eqb-true, eq-eqb, refl, sym, ap, ◌∙◌, arith}
use Rattle.std.specs.Prelude.{◌==◌, filter, map, min, bit_or, nat_lt}
use Rattle.std.specs.List.{list_any, reduce}
use Rattle.std.specs.Int.{bit_at}
use Rattle.std.proofs.lemmas.Bool.{cases_Bool, and_parts, not-true}
use Rattle.std.proofs.lemmas.List.{append-nil}
use Rattle.std.proofs.lemmas.List.Elements.{filter-append}
use Rattle.std.proofs.lemmas.Nat.Bits.{bit_at_or}
use Rattle.base_lists.proofs.Cases.{none_some}
use Rattle.part_handlers.specs.declared.lock_answer.Owner.{Owner}
use Rattle.part_handlers.specs.declared.lock_answer.Owner.TheVariants.{Thread, Handler}
use Rattle.part_handlers.specs.declared.lock_answer.Held.{Held}
use Rattle.part_handlers.specs.declared.lock_answer.LockAnswer.{LockAnswer}
use Rattle.part_handlers.specs.declared.lock_answer.LockAnswer.TheVariants as lock_answers
use Rattle.part_handlers.specs.declared.lock_answer.LockFault.{LockFault}
use Rattle.part_handlers.specs.Locks.{is_owner, is_thread, is_listed, is_of, is_blocking, holder, holds, without}
use Rattle.part_handlers.specs.Locks.{without_lock}
use Rattle.part_handlers.specs.Locks.{blocking_lock, lock_answer, answer_by_owner, after_lock, unlock_fault, unlock_answer}
use Rattle.part_handlers.specs.Locks.{after_unlock}
use Rattle.std.proofs.lemmas.Bool.{or_parts}

-- ---- what is left to the others

-- an owner is itself
pub is_owner_self : (owner : Owner) → is_owner owner owner ≡ true
is_owner_self (Thread thread) = eq-eqb thread thread refl
is_owner_self Handler = refl

-- where nothing is wrong, the lock is given back
pub after_freed : (held : List Held) (owner : Owner) (lock : ℕ) → unlock_fault held owner lock ≡ None
    → after_unlock held owner lock ≡ without_lock owner lock held
after_freed held owner lock right = rw (after_unlock, unlock_answer, right) refl

-- who holds nothing leaves all to the others
pub without_nothing : (owner : Owner) (held : List Held) → holds owner held ≡ false → without owner held ≡ held
without_nothing owner [] none = refl
without_nothing owner (one ∷ held) none = elim (cases_Bool (is_of owner one)) [
  | inl own ↦ let some : true ≡ false = rw own at none in absurd (true≢false some)
  | inr other ↦ rw other (ap (λ (rest : List Held). one ∷ rest) (without_nothing owner held (rw other at none)))
]

-- without what the owner holds, it holds nothing
pub holds_without : (owner : Owner) (held : List Held) → holds owner (without owner held) ≡ false
holds_without owner [] = refl
holds_without owner (one ∷ held) = elim (cases_Bool (is_of owner one)) [
  | inl own ↦ rw own (holds_without owner held)
  | inr other ↦ rw (other, other) (holds_without owner held)
]

-- a filter that keeps what passes the test first
filter_within : (test keep : Held → Bool) → ((one : Held) → test one ≡ true → keep one ≡ true)
    → (held : List Held) → filter test (filter keep held) ≡ filter test held
filter_within test keep keeps [] = refl
filter_within test keep keeps (one ∷ held) =
    let rest = filter_within test keep keeps held in elim (cases_Bool (test one)) [
      | inl passes ↦ rw (keeps one passes, passes) (ap (λ (left : List Held). one ∷ left) rest)
      | inr fails ↦ elim (cases_Bool (keep one)) [
        | inl stays ↦ rw (stays, fails) rest
        | inr goes ↦ rw (goes, fails) rest
      ]
    ]

-- a lock that an owner takes is no concern of the others
pub without_after_lock : (held : List Held) (owner : Owner) (lock listed : ℕ)
    → without owner (after_lock held owner lock listed) ≡ without owner held
without_after_lock held owner lock listed = by_answer (lock_answer held owner lock listed) where
  next : Held
  next = record { lock = lock; owner = owner }

  by_answer : (answer : LockAnswer)
      → without owner (elim answer as (λ _. List Held) [
        | lock_answers.Taken ↦ held ++ next ∷ []
        | lock_answers.Held ↦ held
        | lock_answers.Refused why ↦ held
      ]) ≡ without owner held
  by_answer lock_answers.Taken =
      filter-append (λ (one : Held). not (is_of owner one)) held (next ∷ [])
      ∙ rw (is_owner_self owner) (append-nil (without owner held))
  by_answer lock_answers.Held = refl
  by_answer (lock_answers.Refused why) = refl

-- neither is a lock that it gives back
pub without_after_unlock : (held : List Held) (owner : Owner) (lock : ℕ)
    → without owner (after_unlock held owner lock) ≡ without owner held
without_after_unlock held owner lock = by_fault (unlock_fault held owner lock) refl where
  by_fault : (fault : Option LockFault) → unlock_fault held owner lock ≡ fault
      → without owner (after_unlock held owner lock) ≡ without owner held
  by_fault None is =
      ap (λ (rest : List Held). without owner rest) (after_freed held owner lock is)
      ∙ filter_within (λ one. not (is_of owner one)) (λ one. not (one.lock == lock && is_of owner one))
      (λ one other. elim (cases_Bool (one.lock == lock)) [
        | inl same ↦ rw (same, not-true (is_of owner one) other) refl
        | inr apart ↦ rw apart refl
      ])
      held
  by_fault (Some why) is = rw (after_unlock, unlock_answer, is) refl

-- ---- when listed locks are free

-- no thread holds a lock that is listed
pub unblocked_each : (held : List Held) (listed : ℕ) → blocking_lock held listed ≡ None
    → list_any (is_blocking listed) held ≡ false
unblocked_each [] listed free = refl
unblocked_each (one ∷ held) listed free = elim (cases_Bool (is_blocking listed one)) [
  | inl blocks ↦ absurd (none_some (sym (rw blocks at free)))
  | inr lets ↦ rw lets (unblocked_each held listed (rw lets at free))
]

-- and the way back
pub unblocked_by : (held : List Held) (listed : ℕ) → list_any (is_blocking listed) held ≡ false
    → blocking_lock held listed ≡ None
unblocked_by [] listed free = refl
unblocked_by (one ∷ held) listed free = elim (cases_Bool (is_blocking listed one)) [
  | inl blocks ↦ let some : true ≡ false = rw blocks at free in absurd (true≢false some)
  | inr lets ↦ rw lets (unblocked_by held listed (rw lets at free))
]

-- a handler finds no lock that it lists with a thread
pub never_held : (held : List Held) (lock listed : ℕ) → blocking_lock held listed ≡ None
    → lock_answer held Handler lock listed ≢ lock_answers.Held
never_held held lock listed free = elim (cases_Bool (nat_lt lock 64)) [
  | inl there ↦ elim (cases_Bool (is_listed listed lock)) [
    | inl here ↦ rw (there, here) (found held (unblocked_each held listed free) here)
    | inr isnt ↦ rw (there, isnt) (λ same. absurd cc)
  ]
  | inr isnt ↦ rw isnt (λ same. absurd cc)
] where
  own : (other : Owner) → (is_thread other && true) ≡ false → answer_by_owner (Some other) Handler ≢ lock_answers.Held
  own (Thread thread) none = absurd (true≢false none)
  own Handler none = λ same. absurd cc

  found : (held : List Held) → list_any (is_blocking listed) held ≡ false → is_listed listed lock ≡ true
      → answer_by_owner (holder held lock) Handler ≢ lock_answers.Held
  found [] free listed_here = λ same. absurd cc
  found (one ∷ held) free listed_here =
      let told = or_parts (is_blocking listed one) (list_any (is_blocking listed) held) free in
      elim (cases_Bool (eqb one.lock lock)) [
        | inl same ↦
            let here : is_listed listed one.lock ≡ true =
            ap (λ number. is_listed listed number) (eqb-true one.lock lock same) ∙ listed_here in
            rw same (own one.owner (rw here at told.0))
        | inr apart ↦ rw apart (found held told.1 listed_here)
      ]

-- what handlers hold blocks no handler
pub blocked_without : (held : List Held) (listed : ℕ) → blocking_lock (without Handler held) listed ≡ blocking_lock held listed
blocked_without held listed =
    ap (λ (blocking : List Held). reduce min (map (λ (one : Held). one.lock) blocking))
    (filter_within (is_blocking listed) (λ one. not (is_of Handler one))
    (λ one. threads one.owner (is_listed listed one.lock)) held) where
      threads : (owner : Owner) (rest : Bool) → (is_thread owner && rest) ≡ true → not (is_owner owner Handler) ≡ true
      threads (Thread thread) rest blocks = refl
      threads Handler rest blocks = absurd (true≢false (sym blocks))

-- a lock that is listed in one way is listed in both together
listed_first : (first second lock : ℕ) → is_listed first lock ≡ true → is_listed (bit_or first second) lock ≡ true
listed_first first second lock here =
    let first_bit : bit_at first lock ≡ 1 = eqb-true (bit_at first lock) 1 here in
    eq-eqb (bit_at (bit_or first second) lock) 1
    (bit_at_or first second lock ∙ omega (arith, first_bit))

listed_second : (first second lock : ℕ) → is_listed second lock ≡ true → is_listed (bit_or first second) lock ≡ true
listed_second first second lock here =
    let second_bit : bit_at second lock ≡ 1 = eqb-true (bit_at second lock) 1 here in
    eq-eqb (bit_at (bit_or first second) lock) 1
    (bit_at_or first second lock ∙ omega (arith, second_bit))

-- where more is listed and nothing blocks, nothing blocks
unblocked_less : (held : List Held) (less more : ℕ)
    → ((lock : ℕ) → is_listed less lock ≡ true → is_listed more lock ≡ true)
    → list_any (is_blocking more) held ≡ false → list_any (is_blocking less) held ≡ false
unblocked_less [] less more within free = refl
unblocked_less (one ∷ held) less more within free =
    let told = or_parts (is_blocking more one) (list_any (is_blocking more) held) free in
    let rest = unblocked_less held less more within told.1 in
    elim (cases_Bool (is_blocking less one)) [
      | inl blocks ↦
          let both = and_parts (is_thread one.owner) (is_listed less one.lock) blocks in
          let still : is_blocking more one ≡ true = rw (both.0, within one.lock both.1) refl in
          absurd (true≢false (sym still ∙ told.0))
      | inr lets ↦ rw lets rest
    ]

-- of locks that are listed in two ways
pub unblocked_parts : (held : List Held) (first second : ℕ) → blocking_lock held (bit_or first second) ≡ None
    → (blocking_lock held first ≡ None) × (blocking_lock held second ≡ None)
unblocked_parts held first second free =
    let none = unblocked_each held (bit_or first second) free in (
      unblocked_by held first (unblocked_less held first (bit_or first second) (listed_first first second) none),
      unblocked_by held second (unblocked_less held second (bit_or first second) (listed_second first second) none),
    )
