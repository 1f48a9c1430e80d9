-- A notification is read as it was sent.
use Rattle.std.proofs.Common.{◌≡◌, ℕ, zero, suc, ◌-◌, ◌/◌, ◌%◌, ◌^◌, ◌<◌, ◌≤◌, true, false, not, ltb, eqb, ◌||◌}
use Rattle.std.proofs.Common.{List, [], ◌∷◌, ◌++◌, length, get_or, drop, refl, sym, ap, subst, ◌∙◌, arith, inl, inr}
use Rattle.std.proofs.Common.{ℤ, pos, negsuc}
use Rattle.std.specs.Int.{w32, cast_unsigned}
use Rattle.std.specs.Int.RustNames.{FitsSigned}
use Rattle.std.proofs.lemmas.Bool.{or_cases, or_from, eqb-true, lt-ltb, le-ltb, not_from_true}
use Rattle.std.proofs.lemmas.Int.{of_z-to_z}
use Rattle.std.proofs.Math.Pow.{pow_mono}
use Rattle.std.proofs.Math.Bool.{or-true}
use Rattle.std.proofs.Math.ListN.{drop_of_length-le}
use Rattle.wire_message.specs.Content.{is_version}
use Rattle.wire_message.specs.declared.notification.BarrierNotification.{BarrierNotification}
use Rattle.wire_message.specs.Notifications.{IsNotification, IsMask, mask_number, most_nodes, notification_count, notification_arguments, high_half}
use Rattle.wire_message.specs.Notifications.{low_half, joined_halves, argument, arguments_at, middle, mask_of}
use Rattle.wire_message.specs.Notifications.{is_wrong_flags}
use Rattle.wire_message.specs.Notifications.{is_no_notification, mask_arguments}
use Rattle.wire_message.proofs.Masks.{four}

-- ---- the two versions

pub is_second : (version : ℕ) → is_version version ≡ true → (version ≡ 1 → ⊥) → version ≡ 2
is_second version known other =
    elim (or_cases (eqb version 1) (eqb version 2) known) [
      | inl one ↦ absurd (other (eqb-true version 1 one))
      | inr two ↦ eqb-true version 2 two
    ]

-- what holds of both holds of each
pub each_version : (P : ℕ → Type 0) (version : ℕ) → is_version version ≡ true → P 1 → P 2 → P version
each_version P version known first second =
    elim (or_cases (eqb version 1) (eqb version 2) known) [
      | inl one ↦ subst P (sym (eqb-true version 1 one)) first
      | inr two ↦ subst P (sym (eqb-true version 2 two)) second
    ]

-- in version 2 the arguments fill the array
pub all_written : (version : ℕ) (notification : BarrierNotification) (args : List ℤ) → version ≡ 2 → length args ≡ 12
    → notification_arguments 2 notification ≡ notification_arguments version notification ++ drop 12 args
all_written version notification args second e =
    ap (λ rest. notification_arguments 2 notification ++ rest) (sym (drop_of_length-le args {i = 12} (omega (arith, e))))
    ∙ ap (λ other. notification_arguments other notification ++ drop 12 args) (sym second)

-- ---- arguments by their places

shifted : (first : ℤ) (args : List ℤ) (at n : ℕ) → arguments_at (first ∷ args) (suc at) n ≡ arguments_at args at n
shifted first args at zero = refl
shifted first args at (suc n) = ap (λ (rest : List ℤ). argument args at ∷ rest) (shifted first args (suc at) n)

all_places : (args : List ℤ) → arguments_at args 0 (length args) ≡ args
all_places [] = refl
all_places (first ∷ args) =
    ap (λ (rest : List ℤ). first ∷ rest) (shifted first args 0 (length args) ∙ all_places args)

pub parted : (version : ℕ) (args : List ℤ) → is_version version ≡ true → length args ≡ notification_count version
    → args ≡ (argument args 0 ∷ argument args 1 ∷ []) ++ middle version args
    ++ (argument args (notification_count version - 2) ∷ argument args (notification_count version - 1) ∷ [])
parted version args known =
    each_version
    (λ v. length args ≡ notification_count v → args ≡ (argument args 0 ∷ argument args 1 ∷ []) ++ middle v args
    ++ (argument args (notification_count v - 2) ∷ argument args (notification_count v - 1) ∷ [])) version known
    (λ e. sym (all_places args) ∙ ap (arguments_at args 0) e)
    (λ e. sym (all_places args) ∙ ap (arguments_at args 0) e)

-- ---- a notification again

pub joined_again : (number : ℕ) → number < 2 ^ 64 → joined_halves (high_half number) (low_half number) ≡ number
joined_again number low =
    let high : cast_unsigned w32 (high_half number) ≡ number / 2 ^ 32 = of_z-to_z w32 (number / 2 ^ 32) (omega arith) in
    let rest : cast_unsigned w32 (low_half number) ≡ number % 2 ^ 32 = of_z-to_z w32 (number % 2 ^ 32) (omega arith) in
    omega (arith, high, rest)

pub mask_again : (version nodes : ℕ) (notification : BarrierNotification) → is_version version ≡ true → nodes ≤ most_nodes version
    → IsMask nodes notification.mask → mask_of version (notification_arguments version notification) ≡ notification.mask
mask_again version nodes notification known few is =
    let word = λ (i : ℕ). get_or notification.mask i 0 in
    let again = λ (i : ℕ). joined_again (word i) (is.words i) in
    let words = four notification.mask is.four in
    let there : mask_number (word 0 ∷ word 1 ∷ word 2 ∷ word 3 ∷ []) < 2 ^ nodes =
    subst (λ mask. mask_number mask < 2 ^ nodes) (sym words) is.there in
    each_version (λ v. nodes ≤ most_nodes v → mask_of v (notification_arguments v notification) ≡ notification.mask) version known
    (λ narrow.
    let limit : 2 ^ nodes ≤ 2 ^ 64 = pow_mono narrow in
    let second : 0 ≡ word 1 = omega (arith, there, limit) in
    let third : 0 ≡ word 2 = omega (arith, there, limit) in
    let fourth : 0 ≡ word 3 = omega (arith, there, limit) in
    (λ i. again 0 i ∷ second i ∷ third i ∷ fourth i ∷ []) ∙ words)
    (λ wide. (λ i. again 0 i ∷ again 1 i ∷ again 2 i ∷ again 3 i ∷ []) ∙ words)
    few

-- the arguments of a notification among the nodes are refused for no reason
pub not_refused : (version nodes : ℕ) (notification : BarrierNotification) → is_version version ≡ true → nodes ≤ most_nodes version
    → IsNotification nodes notification → is_no_notification version nodes (notification_arguments version notification) ≡ false
not_refused version nodes notification known few is =
    let args = notification_arguments version notification in
    let count : not (eqb (length args) (notification_count version)) ≡ false =
    each_version (λ v. not (eqb (length (notification_arguments v notification)) (notification_count v)) ≡ false) version known refl refl in
    let last : argument args (length args - 1) ≡ pos notification.flags =
    each_version (λ v. argument (notification_arguments v notification) (length (notification_arguments v notification) - 1) ≡ pos notification.flags)
    version known refl refl in
    let flags : is_wrong_flags (argument args (length args - 1)) ≡ false =
    ap is_wrong_flags last ∙ le-ltb 3 notification.flags is.flags in
    let there : ltb (mask_number (mask_of version args)) (2 ^ nodes) ≡ true =
    ap (λ mask. ltb (mask_number mask) (2 ^ nodes)) (mask_again version nodes notification known few is.mask)
    ∙ lt-ltb (mask_number notification.mask) (2 ^ nodes) is.mask.there in
    or_from _ _ (or_from _ _ count flags) (not_from_true _ there)

size : ℤ → ℕ
size (pos n) = n
size (negsuc n) = 0

-- two notifications among the nodes with the same arguments are one
pub one_notification : (version nodes : ℕ) (first second : BarrierNotification) → is_version version ≡ true
    → nodes ≤ most_nodes version → IsNotification nodes first → IsNotification nodes second
    → notification_arguments version first ≡ notification_arguments version second → first ≡ second
unfolding size
one_notification version nodes first second known few one two same =
    let phase : first.phase ≡ second.phase =
    sym (joined_again first.phase one.phase)
    ∙ (ap (λ args. joined_halves (argument args 0) (argument args 1)) same ∙ joined_again second.phase two.phase) in
    let mask : first.mask ≡ second.mask =
    sym (mask_again version nodes first known few one.mask)
    ∙ (ap (mask_of version) same ∙ mask_again version nodes second known few two.mask) in
    let id_at : (notification : BarrierNotification) → argument (notification_arguments version notification) (notification_count version - 2) ≡ notification.id =
    λ notification. each_version (λ v. argument (notification_arguments v notification) (notification_count v - 2) ≡ notification.id) version known refl refl in
    let flags_at
    : (notification : BarrierNotification) → argument (notification_arguments version notification) (notification_count version - 1) ≡ pos notification.flags =
    λ notification.
    each_version (λ v. argument (notification_arguments v notification) (notification_count v - 1) ≡ pos notification.flags) version known refl refl in
    let id : first.id ≡ second.id =
    sym (id_at first) ∙ (ap (λ args. argument args (notification_count version - 2)) same ∙ id_at second) in
    let signed : pos first.flags ≡ pos second.flags =
    sym (flags_at first) ∙ (ap (λ args. argument args (notification_count version - 1)) same ∙ flags_at second) in
    let flags : first.flags ≡ second.flags = ap size signed in
    λ i. record { phase = phase i; mask = mask i; id = id i; flags = flags i }

-- ---- a notification that is read

-- a bit of a node that isn't there
pub is_stray : (version nodes : ℕ) (args : List ℤ)
    → ltb (mask_number (mask_of version args)) (2 ^ nodes) ≡ false → is_no_notification version nodes args ≡ true
is_stray version nodes args stray =
    ap (λ test. not (eqb (length args) (notification_count version)) || is_wrong_flags (argument args (length args - 1))
    || not test)
    stray ∙ or-true _

-- what the code knows of it
pub record Read (version nodes : ℕ) (args : List ℤ) (notification : BarrierNotification) : Type 0 where
  pub count : length args ≡ notification_count version
  pub phase : notification.phase < 2 ^ 64
  pub high : high_half notification.phase ≡ argument args 0
  pub low : low_half notification.phase ≡ argument args 1
  pub mask : IsMask nodes notification.mask
  pub middle : mask_arguments version notification.mask ≡ middle version args
  pub id_fits : FitsSigned w32 notification.id
  pub id : notification.id ≡ argument args (notification_count version - 2)
  pub flags : pos notification.flags ≡ argument args (notification_count version - 1)
  pub low_flags : notification.flags ≤ 3

pub reads : (version nodes : ℕ) (args : List ℤ) (notification : BarrierNotification) → is_version version ≡ true
    → Read version nodes args notification → IsNotification nodes notification × (args ≡ notification_arguments version notification)
reads version nodes args notification known read = (
  record { phase = read.phase; mask = read.mask; id = read.id_fits; flags = read.low_flags },
  parted version args known read.count
      ∙ (λ i. (sym read.high i ∷ sym read.low i ∷ []) ++ sym read.middle i ++ (sym read.id i ∷ sym read.flags i ∷ [])),
)
