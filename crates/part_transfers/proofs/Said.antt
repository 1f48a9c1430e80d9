-- What an entry says stays so, as records are written elsewhere or go.
use Rattle.std.proofs.Common.{◌≡◌, inl, inr, ℕ, Bool, false, List, [], ◌∷◌, Option, None, Some, set}
use Rattle.std.proofs.Common.{refl, sym, ap, ◌∙◌, subst}
use Rattle.std.specs.List.{slice_get}
use Rattle.std.proofs.lemmas.Bool.{cases_eq}
use Rattle.std.proofs.lemmas.Option.{same_Some, slice_get_within}
use Rattle.base_lists.proofs.Indexes.{get-set_same, get-set_other}
use Rattle.part_transfers.specs.declared.table.OperationRecord.{OperationRecord}
use Rattle.part_transfers.specs.declared.slots.Waiting.{Waiting}
use Rattle.part_transfers.specs.declared.transfers.Transfers.{Transfers}
use Rattle.part_transfers.specs.Operation.{Operation}
use Rattle.part_transfers.specs.ChunkSlots.{entry_at}
use Rattle.part_transfers.specs.Outs.{Out, outs}
use Rattle.part_transfers.specs.Table.{AreDropped}
use Rattle.part_transfers.specs.Stands.{Says, Stands}

pub says_blank : (places : List (Option OperationRecord)) (place : ℕ) (new : OperationRecord) (entry : Option Waiting)
    (out : List Out)
    → slice_get places place ≡ Some None → Says places entry out → Says (set places place (Some new)) entry out
says_blank places place new None out blank says = says
says_blank places place new (Some waiting) out blank says = (
  says.0,
  get-set_other places place (Some new) waiting.place
      (λ same. apart says.0 (sym blank ∙ (ap (slice_get places) (sym same) ∙ says.1))) ∙ says.1,
  says.2,
)
  where
    apart : (there : OperationRecord) → ◌≡◌ {A = Option (Option OperationRecord)} (Some None) (Some (Some there)) → ⊥
    apart there is = cc

-- a record with the same number in the place of another
pub says_rewritten : (places : List (Option OperationRecord)) (place : ℕ) (there new : OperationRecord) (entry : Option Waiting)
    (out : List Out)
    → slice_get places place ≡ Some (Some there) → there.number ≡ new.number → Says places entry out
    → Says (set places place (Some new)) entry out
says_rewritten places place there new None out at number says = says
says_rewritten places place there new (Some waiting) out at number says = elim (cases_eq waiting.place place) [
  | inl same ↦ (
      let is : says.0 ≡ there = same_Some _ _ (same_Some _ _ (sym says.1 ∙ (ap (slice_get places) same ∙ at))) in (
        new,
        ap (slice_get (set places place (Some new))) same
            ∙ get-set_same places place (Some new) (slice_get_within places place (Some there) at),
        says.2 ∙ ap (λ n. record {
          operation = n;
          request = waiting.request;
        } ∷ []) (ap (λ (z : OperationRecord). z.number) is ∙ number),
      ))
  | inr apart ↦ (says.0, get-set_other places place (Some new) waiting.place apart ∙ says.1, says.2)
]

-- records that go, where none of which a chunk is out does
pub says_dropped : (old new : List (Option OperationRecord)) (test : OperationRecord → Bool) (entry : Option Waiting) (out : List Out)
    → AreDropped test old new
    → ((place : ℕ) (there : OperationRecord) (request : ℕ) → slice_get old place ≡ Some (Some there) → out ≡ record {
      operation = there.number;
      request = request;
    } ∷ [] → test there ≡ false)
    → Says old entry out → Says new entry out
says_dropped old new test None out D stays says = says
says_dropped old new test (Some waiting) out D stays says = (
  says.0,
  D.each waiting.place (Some says.0) says.1 ∙ rw (stays waiting.place says.0 waiting.request says.1 says.2) refl,
  says.2,
)

-- what an entry says, where there is one, and where there is none
pub said : (table : Transfers) (operations : List Operation) (to slot : ℕ) (waiting : Waiting) → Stands table operations
    → entry_at table.slots to slot ≡ Some waiting → Says table.table (Some waiting) (outs to slot 1 operations)
said table operations to slot waiting S at =
    subst (λ entry. Says table.table entry (outs to slot 1 operations)) at (S.says to slot)

pub said_none : (table : Transfers) (operations : List Operation) (to slot : ℕ) → Stands table operations
    → entry_at table.slots to slot ≡ None → outs to slot 1 operations ≡ []
said_none table operations to slot S at =
    subst (λ entry. Says table.table entry (outs to slot 1 operations)) at (S.says to slot)
