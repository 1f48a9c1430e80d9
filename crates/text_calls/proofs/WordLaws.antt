-- Reading a word is the inverse of writing it.
use Rattle.std.proofs.Common.{FitsSigned, ℤ, pos, negsuc, ◌≡◌, ℕ, ◌^◌, ◌<◌, ◌≤◌, List, [], ◌∷◌, drop, get_or}
use Rattle.std.proofs.Common.{Some, true, false, eqb, refl, ap, ◌∙◌, arith, decimal}
use Rattle.std.specs.List.{AllByRecursion}
use Rattle.std.specs.Str.{bytes_eq}
use Rattle.std.specs.Str.Parse.{AllDigits}
use Rattle.std.specs.Int.{w32}
use Rattle.std.specs.Fmt.{signed_decimal}
use Rattle.std.proofs.lemmas.Str.Parse.{digit_from_value}
use Rattle.std.proofs.lemmas.Fmt.{digits_decimal}
use Rattle.std.proofs.lemmas.Slice.Eq.{bytes_eq-Decides}
use Rattle.std.proofs.lemmas.Bool.{and_parts, and_from, leb-true, le-leb, ne_eqb, eqb-true}
use Rattle.part_collective_area.specs.declared.shape.CollectiveKind.{CollectiveKind}
use Rattle.part_collective_area.specs.declared.shape.CollectiveKind.TheVariants as collective
use Rattle.node_atomics.specs.declared.word.Op.{Op}
use Rattle.node_atomics.specs.Words.{all_ops}
use Rattle.node_atomics.specs.declared.word.Op.TheVariants as op
use Rattle.part_handlers.specs.declared.rules.CallKind.{CallKind}
use Rattle.part_handlers.specs.declared.rules.CallKind.TheVariants as kind
use Rattle.part_handlers.specs.declared.rules.Role.{Role as HandlerRole}
use Rattle.part_handlers.specs.declared.rules.Role.TheVariants as role
use Rattle.part_transfers.specs.declared.operation.ImplicitKinds.{ImplicitKinds}
use Rattle.part_transfers.specs.declared.operation.ImplicitKinds.TheVariants as implicit
use Rattle.text_calls.specs.declared.values.Operand.{Operand}
use Rattle.text_calls.specs.declared.values.Operand.TheVariants as operand
use Rattle.base_text.specs.Lines.{Word}
use Rattle.base_text.specs.Words.{number_in}
use Rattle.text_calls.specs.Kinds.{schedule_operand, body_operand, operand_word, IsOperand}
use Rattle.text_calls.specs.Kinds.{kind_word, named_kinds, IsNamed, role_word, all_roles, implicit_word, all_implicit}
use Rattle.text_calls.specs.Kinds.{op_word, collective_word, all_collectives}
use Rattle.text_calls.specs.Names.{first_named}
use Rattle.text_calls.specs.declared.operands.NumberPlace.TheVariants.{Schedule, Body}
use Rattle.text_calls.specs.Forms.{Bytes, Payload, BodyPayload, Integer, Implicit, Operation, Collective}
use Rattle.text_calls.specs.Forms.{Part, Number, NumberOf, Kind, Role, Meaning, word_text, IsSaid, word_says}
use Rattle.base_text.proofs.Prefixes.{cond_yes, cond_no}
use Rattle.base_text.proofs.Decimals.{own, number_of-decimal}
use Rattle.base_text.proofs.Integers.{IsInteger, number_takes, integer_takes, integer_again, first_is}
use Rattle.base_text.proofs.WordRuns.{IsRun, decimal_run, integer_run}
use Rattle.base_text.proofs.ByteLaws.{bytes_take, bytes_again, bytes_run}
use Rattle.text_calls.proofs.PayloadLaws.{payload_takes, payload_again, payload_run, also_in_body}
use Rattle.text_calls.proofs.PayloadLaws.{body_payload_takes, body_payload_again}
use Rattle.base_text.proofs.Takes.{Takes, takes_some, takes_none, takes_then, takes_if, takes_weaker}

-- ---- numbers of a range

-- a number that was read
in_takes : (low high : ℕ) (word : Word) → Takes (λ n. (word ≡ decimal n) × IsSaid (Number low high) n)
    (number_in low high word)
unfolding number_in
in_takes low high word =
    takes_then (λ n. (word ≡ decimal n) × (n < 2 ^ 64)) (number_takes word) (λ n h.
    takes_if (λ b. let q = and_parts _ _ b in takes_some (h.0, (leb-true low n q.0, leb-true n high q.1, h.1)))
    (λ b. takes_none))

-- a number is read again
in_again : (low high n : ℕ) → low ≤ n → n ≤ high → n < 2 ^ 64 → number_in low high (decimal n) ≡ Some n
unfolding number_in
in_again low high n a b c = rw (number_of-decimal n c) (cond_yes _ _ _ (and_from _ _ (le-leb low n a)
    (le-leb n high b)))

-- ---- kinds

-- two words that were found equal
pub same_word : (a b : Word) → bytes_eq a b ≡ true → a ≡ b
same_word a b h = (bytes_eq-Decides a b).0 h

-- a word is equal to itself
pub equal_word : (a : Word) → bytes_eq a a ≡ true
equal_word a = (bytes_eq-Decides a a).1 refl

-- a word that was read as the name of one of several
named_takes : {A : Type 0} {P : A → Type 0} (name_of : A → Word) (all : List A) (word : Word)
    → AllByRecursion P all → Takes (λ x. (word ≡ name_of x) × P x) (first_named name_of all word)
named_takes name_of [] word each = takes_none
named_takes name_of (x ∷ all) word each =
    takes_if (λ b. takes_some (same_word word (name_of x) b, each.0)) (λ b. named_takes name_of all word each.1)

-- nothing more is asked of them
nothing_more : {A : Type 0} (all : List A) → AllByRecursion (λ x. Unit {0}) all
nothing_more [] = tt
nothing_more (x ∷ all) = (tt, nothing_more all)

-- the kinds by which a word is read have words
all_named : AllByRecursion IsNamed named_kinds
all_named = (tt, (tt, (tt, (tt, (tt, (tt, (tt, (tt, tt))))))))

-- a kind is read again
kind_again : (k : CallKind) → IsNamed k → first_named kind_word named_kinds (kind_word k) ≡ Some k
kind_again kind.Request h = refl
kind_again kind.Reply h = refl
kind_again kind.Poll h = refl
kind_again kind.Transfer h = refl
kind_again kind.Sync h = refl
kind_again kind.Region h = refl
kind_again kind.Barrier h = refl
kind_again kind.Source h = refl
kind_again kind.Lock h = absurd h
kind_again kind.Unlock h = absurd h
kind_again kind.Return h = absurd h

-- bytes that end no word, by a test
run_by : (word : Word) → IsRun word → IsRun word
run_by word h = h

-- a kind ends no word
kind_run : (k : CallKind) → IsNamed k → IsRun (kind_word k)
kind_run kind.Request h = (refl, (refl, (refl, (refl, (refl, (refl, (refl, tt)))))))
kind_run kind.Reply h = (refl, (refl, (refl, (refl, (refl, tt)))))
kind_run kind.Poll h = (refl, (refl, (refl, (refl, tt))))
kind_run kind.Transfer h = (refl, (refl, (refl, (refl, (refl, (refl, (refl, (refl, tt))))))))
kind_run kind.Sync h = (refl, (refl, (refl, (refl, tt))))
kind_run kind.Region h = (refl, (refl, (refl, (refl, (refl, (refl, tt))))))
kind_run kind.Barrier h = (refl, (refl, (refl, (refl, (refl, (refl, (refl, tt)))))))
kind_run kind.Source h = (refl, (refl, (refl, (refl, (refl, (refl, tt))))))
kind_run kind.Lock h = absurd h
kind_run kind.Unlock h = absurd h
kind_run kind.Return h = absurd h

-- ---- numbers of an action

-- a word that was read as a number of a schedule
schedule_takes : (word : Word) → Takes (λ v. (word ≡ operand_word v) × IsOperand Schedule v) (schedule_operand word)
unfolding schedule_operand
schedule_takes word =
    takes_if
    (λ b. takes_then (λ n. (drop 1 word ≡ decimal n) × IsSaid (Number 0 255) n) (in_takes 0 255 (drop 1 word))
    (λ n h. takes_some (
      first_is word 98 (eqb-true _ _ b) ∙ ap (λ ds. 99 ∷ ds) h.0,
      let m = h.1.1 in omega arith,
    )))
    (λ b. takes_then (λ z. IsInteger word z) (integer_takes word) (λ z h. takes_some (h.spells, h.fits)))

-- a number of a schedule may stand in a body
wider : (v : Operand) → IsOperand Schedule v → IsOperand Body v
wider (operand.Number z) h = h
wider (operand.Cell n) h = h
wider (operand.Argument n) h = absurd h

-- a word that was read as a number of a body
body_takes : (word : Word) → Takes (λ v. (word ≡ operand_word v) × IsOperand Body v) (body_operand word)
unfolding body_operand
body_takes word =
    takes_if
    (λ b. takes_then (λ n. (drop 1 word ≡ decimal n) × IsSaid (Number 0 15) n) (in_takes 0 15 (drop 1 word))
    (λ n h. takes_some (
      first_is word 96 (eqb-true _ _ b) ∙ ap (λ ds. 97 ∷ ds) h.0,
      let m = h.1.1 in omega arith,
    )))
    (λ b. takes_weaker (λ v. (word ≡ operand_word v) × IsOperand Schedule v) (schedule_takes word) (λ v h.
    (h.0, wider v h.1)))

-- digits begin with a digit
first_digit : (ds : List ℕ) → AllDigits 10 ds → get_or ds 0 0 ≤ 57
first_digit [] h = omega arith
first_digit (d ∷ ds) h = let r = digit_from_value d h.0 in omega arith

-- an integer begins with a digit or a sign
first_low : (z : ℤ) → FitsSigned w32 z → get_or (signed_decimal z) 0 0 ≤ 57
first_low (pos n) h = let lt : n < 2 ^ 31 = h.sfits in first_digit (decimal n) (digits_decimal own n (omega arith))
first_low (negsuc n) h = omega arith

-- an integer begins with no letter
no_letter : (z : ℤ) (letter : ℕ) → FitsSigned w32 z → 57 < letter → eqb (get_or (signed_decimal z) 0 0) letter ≡ false
no_letter z letter h lt = let low = first_low z h in ne_eqb (get_or (signed_decimal z) 0 0) letter (λ e. omega arith)

-- a number of a schedule is read again
schedule_again : (v : Operand) → IsOperand Schedule v → schedule_operand (operand_word v) ≡ Some v
unfolding schedule_operand
schedule_again (operand.Number z) h = cond_no _ _ _ (no_letter z 99 h (omega arith)) ∙ rw (integer_again z h) refl
schedule_again (operand.Cell n) h = rw (in_again 0 255 n (omega arith) (omega arith) (omega arith)) refl
schedule_again (operand.Argument n) h = absurd h

-- a number of a body is read again
body_again : (v : Operand) → IsOperand Body v → body_operand (operand_word v) ≡ Some v
unfolding body_operand
body_again (operand.Number z) h = cond_no _ _ _ (no_letter z 97 h (omega arith)) ∙ schedule_again (operand.Number z) h
body_again (operand.Cell n) h = schedule_again (operand.Cell n) h
body_again (operand.Argument n) h = rw (in_again 0 15 n (omega arith) (omega arith) (omega arith)) refl

-- a number of a body ends no word
body_run : (v : Operand) → IsOperand Body v → IsRun (operand_word v)
body_run (operand.Number z) h = integer_run z h
body_run (operand.Cell n) h = (refl, decimal_run n (omega arith))
body_run (operand.Argument n) h = (refl, decimal_run n (omega arith))

-- ---- roles

-- a role is read again
role_again : (r : HandlerRole) → first_named role_word all_roles (role_word r) ≡ Some r
role_again role.Request = refl
role_again role.Reply = refl

-- a role ends no word
role_run : (r : HandlerRole) → IsRun (role_word r)
role_run role.Request = (refl, (refl, (refl, (refl, (refl, (refl, (refl, tt)))))))
role_run role.Reply = (refl, (refl, (refl, (refl, (refl, tt)))))

-- ---- implicit operations

-- implicit operations are read again
implicit_again : (k : ImplicitKinds) → first_named implicit_word all_implicit (implicit_word k) ≡ Some k
implicit_again implicit.Puts = refl
implicit_again implicit.Gets = refl
implicit_again implicit.All = refl

-- their word ends nowhere within
implicit_run : (k : ImplicitKinds) → IsRun (implicit_word k)
implicit_run implicit.Puts = (refl, (refl, (refl, (refl, tt))))
implicit_run implicit.Gets = (refl, (refl, (refl, (refl, tt))))
implicit_run implicit.All = (refl, (refl, (refl, tt)))

-- ---- operations of remote atomics

-- an operation is read again
op_again : (o : Op) → first_named op_word all_ops (op_word o) ≡ Some o
op_again op.Get = refl
op_again op.Swap = refl
op_again op.CompareSwap = refl
op_again op.Add = refl
op_again op.Sub = refl
op_again op.And = refl
op_again op.Or = refl
op_again op.Xor = refl
op_again op.Min = refl
op_again op.Max = refl

-- its word ends nowhere within
op_run : (o : Op) → IsRun (op_word o)
op_run op.Swap = (refl, (refl, (refl, (refl, tt))))
op_run op.Or = (refl, (refl, tt))
op_run op.Get = (refl, (refl, (refl, tt)))
op_run op.CompareSwap = (refl, (refl, (refl, tt)))
op_run op.Add = (refl, (refl, (refl, tt)))
op_run op.Sub = (refl, (refl, (refl, tt)))
op_run op.And = (refl, (refl, (refl, tt)))
op_run op.Xor = (refl, (refl, (refl, tt)))
op_run op.Min = (refl, (refl, (refl, tt)))
op_run op.Max = (refl, (refl, (refl, tt)))

-- ---- kinds of collectives

-- a kind of collective is read again
collective_again : (k : CollectiveKind) → first_named collective_word all_collectives (collective_word k) ≡ Some k
collective_again collective.Broadcast = refl
collective_again collective.Gather = refl
collective_again collective.AllGather = refl
collective_again collective.Sum = refl
collective_again collective.Min = refl
collective_again collective.Max = refl
collective_again collective.AllSum = refl
collective_again collective.AllMin = refl
collective_again collective.AllMax = refl

-- its word ends nowhere within
collective_run : (k : CollectiveKind) → IsRun (collective_word k)
collective_run collective.Broadcast = (refl, (refl, (refl, (refl, (refl, (refl, (refl, (refl, (refl, tt)))))))))
collective_run collective.Gather = (refl, (refl, (refl, (refl, (refl, (refl, tt))))))
collective_run collective.AllGather = (refl, (refl, (refl, (refl, (refl, (refl, (refl, (refl, (refl, (refl, tt))))))))))
collective_run collective.Sum = (refl, (refl, (refl, tt)))
collective_run collective.Min = (refl, (refl, (refl, tt)))
collective_run collective.Max = (refl, (refl, (refl, tt)))
collective_run collective.AllSum = (refl, (refl, (refl, (refl, (refl, (refl, (refl, tt)))))))
collective_run collective.AllMin = (refl, (refl, (refl, (refl, (refl, (refl, (refl, tt)))))))
collective_run collective.AllMax = (refl, (refl, (refl, (refl, (refl, (refl, (refl, tt)))))))

-- ---- words of each kind

-- a word that was read
pub word_takes : (p : Part) (word : Word) → Takes (λ x. (word ≡ word_text p x) × IsSaid p x) (word_says p word)
word_takes (Number low high) word = in_takes low high word
word_takes (NumberOf Schedule) word = schedule_takes word
word_takes (NumberOf Body) word = body_takes word
word_takes Kind word = named_takes kind_word named_kinds word all_named
word_takes Role word = named_takes role_word all_roles word (nothing_more all_roles)
word_takes Bytes word = bytes_take word
word_takes Payload word = payload_takes word
word_takes BodyPayload word = body_payload_takes word
word_takes Integer word = takes_weaker (IsInteger word) (integer_takes word) (λ z h. (h.spells, h.fits))
word_takes Implicit word = named_takes implicit_word all_implicit word (nothing_more all_implicit)
word_takes Operation word = named_takes op_word all_ops word (nothing_more all_ops)
word_takes Collective word = named_takes collective_word all_collectives word (nothing_more all_collectives)

-- a word is read again
pub word_again : (p : Part) (x : Meaning p) → IsSaid p x → word_says p (word_text p x) ≡ Some x
word_again (Number low high) x h = in_again low high x h.0 h.1 h.2
word_again (NumberOf Schedule) x h = schedule_again x h
word_again (NumberOf Body) x h = body_again x h
word_again Kind x h = kind_again x h
word_again Role x h = role_again x
word_again Bytes x h = bytes_again x h
word_again Payload x h = payload_again x h
word_again BodyPayload x h = body_payload_again x h
word_again Integer x h = integer_again x h
word_again Implicit x h = implicit_again x
word_again Operation x h = op_again x
word_again Collective x h = collective_again x

-- no word ends within it
pub word_run : (p : Part) (x : Meaning p) → IsSaid p x → IsRun (word_text p x)
word_run (Number low high) x h = decimal_run x h.2
word_run (NumberOf Schedule) x h = body_run x (wider x h)
word_run (NumberOf Body) x h = body_run x h
word_run Kind x h = kind_run x h
word_run Role x h = role_run x
word_run Bytes x h = bytes_run x
word_run Payload x h = payload_run x (also_in_body x h)
word_run BodyPayload x h = payload_run x h
word_run Integer x h = integer_run x h
word_run Implicit x h = implicit_run x
word_run Operation x h = op_run x
word_run Collective x h = collective_run x
