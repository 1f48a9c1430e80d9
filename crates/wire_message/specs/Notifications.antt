-- Barrier notifications as arguments of requests (this project's profile).
use Rattle.std.specs.Prelude.{◌≡◌, ℕ, zero, suc, ◌+◌, ◌-◌, ◌*◌, ◌/◌, ◌%◌, ◌^◌, ◌<◌, ◌≤◌, ◌==◌, ◌||◌, ◌&&◌}
use Rattle.std.specs.Prelude.{Bool, true, not, nat_lt}
use Rattle.std.specs.Prelude.{if◌then◌else◌, List, [], ◌∷◌, ◌++◌, length, slice_index, get_or, ℤ, pos, negsuc}
use Rattle.std.specs.Int.{w32, cast_signed, cast_unsigned}
use Rattle.std.specs.Int.RustNames.{FitsSigned}
use Rattle.wire_message.specs.declared.notification.BarrierNotification.{BarrierNotification}

-- ---- masks

-- the words of a mask as one number, the lowest word first: its bit j stands for node j
abbrev pub mask_number : List ℕ → ℕ
mask_number [] = 0
mask_number (word ∷ words) = mask_number words * 2 ^ 64 + word

-- four words of 64 bits, with no bit of a node that isn't there
pub record IsMask (nodes : ℕ) (mask : List ℕ) : Type 0 where
  pub four : length mask ≡ 4
  pub words : (i : ℕ) → slice_index mask i < 2 ^ 64
  pub there : mask_number mask < 2 ^ nodes

-- ---- notifications

-- a notification among so many nodes
pub record IsNotification (nodes : ℕ) (notification : BarrierNotification) : Type 0 where
  pub phase : notification.phase < 2 ^ 64
  pub mask : IsMask nodes notification.mask
  pub id : FitsSigned w32 notification.id
  pub flags : notification.flags ≤ 3

-- how many nodes there may be
abbrev pub most_nodes : (version : ℕ) → ℕ
most_nodes version = if version == 1 then 64 else 256

-- ---- as arguments

-- the upper and the lower half of a number's 64 bits, as arguments
abbrev pub high_half : ℕ → ℤ
high_half number = cast_signed w32 (number / 2 ^ 32)

abbrev pub low_half : ℕ → ℤ
low_half number = cast_signed w32 (number % 2 ^ 32)

-- how many arguments a notification has
abbrev pub notification_count : (version : ℕ) → ℕ
notification_count version = if version == 1 then 6 else 12

-- a word of the mask: its nodes below 32, and the others
abbrev pub halves : List ℕ → (i : ℕ) → List ℤ
halves mask i = low_half (slice_index mask i) ∷ high_half (slice_index mask i) ∷ []

-- the words of the mask that a version has
abbrev pub mask_arguments : (version : ℕ) → List ℕ → List ℤ
mask_arguments version mask =
    if version == 1 then halves mask 0 else halves mask 0 ++ halves mask 1 ++ halves mask 2 ++ halves mask 3

-- the phase, its upper half first; the mask; the identifier; the flags
abbrev pub notification_arguments : (version : ℕ) → BarrierNotification → List ℤ
notification_arguments version notification =
    (high_half notification.phase ∷ low_half notification.phase ∷ [])
    ++ mask_arguments version notification.mask
    ++ (notification.id ∷ pos notification.flags ∷ [])

-- ---- read again

-- the number with these halves
abbrev pub joined_halves : (high low : ℤ) → ℕ
joined_halves high low = cast_unsigned w32 high * 2 ^ 32 + cast_unsigned w32 low

abbrev pub argument : List ℤ → (i : ℕ) → ℤ
argument args i = get_or args i (pos 0)

-- n arguments from a place on
abbrev pub arguments_at : List ℤ → (at n : ℕ) → List ℤ
arguments_at args at zero = []
arguments_at args at (suc n) = argument args at ∷ arguments_at args (suc at) n

-- those between the phase and the identifier
abbrev pub middle : (version : ℕ) → List ℤ → List ℤ
middle version args = arguments_at args 2 (notification_count version - 4)

-- the word of the mask whose halves stand at a place and behind it
abbrev pub word_at : List ℤ → (at : ℕ) → ℕ
word_at args at = joined_halves (argument args (at + 1)) (argument args at)

-- the mask; nodes that a version hasn't are not in it
abbrev pub mask_of : (version : ℕ) → List ℤ → List ℕ
mask_of version args =
    if version == 1 then word_at args 2 ∷ 0 ∷ 0 ∷ 0 ∷ []
    else word_at args 2 ∷ word_at args 4 ∷ word_at args 6 ∷ word_at args 8 ∷ []

-- an argument that is no flags, which are 0 to 3
abbrev pub is_wrong_flags : ℤ → Bool
is_wrong_flags (pos flags) = nat_lt 3 flags
is_wrong_flags (negsuc number) = true

-- another number of arguments, or wrong flags, or a bit of a node that isn't there
abbrev pub is_no_notification : (version nodes : ℕ) → List ℤ → Bool
is_no_notification version nodes args =
    not (length args == notification_count version)
    || is_wrong_flags (argument args (length args - 1))
    || not (nat_lt (mask_number (mask_of version args)) (2 ^ nodes))

-- the word names none but its first nodes
abbrev pub word_fits : (word nodes : ℕ) → Bool
word_fits word nodes = not (nat_lt nodes 64) || nat_lt word (2 ^ nodes)

-- so does each word of the mask
abbrev pub mask_fits : List ℕ → (nodes : ℕ) → Bool
mask_fits mask nodes =
    word_fits (slice_index mask 0) nodes
    && word_fits (slice_index mask 1) (nodes - 64)
    && word_fits (slice_index mask 2) (nodes - 128)
    && word_fits (slice_index mask 3) (nodes - 192)
