-- The table of a node, entry by entry.
use Rattle.std.proofs.Common.{◌≡◌, ◌<◌, ◌≤◌, ◌+◌, ◌-◌, ◌==◌, ℕ, false, List, length, Option, Some, None, Result}
use Rattle.std.proofs.Common.{Ok, refl, sym, ap, subst, ◌∙◌, arith, nat_lt, inl, inr}
use Rattle.std.specs.Prelude.{slice_get, slice_set}
use Rattle.std.proofs.lemmas.Bool.{cases_Bool}
use Rattle.std.proofs.lemmas.Bool.Decides.{nat_tests}
use Rattle.std.proofs.lemmas.List.{length-set, length-replicate, get_or-replicate}
use Rattle.std.proofs.lemmas.Option.{slice_get_read}
use Rattle.base_lists.proofs.Indexes.{get-set_same, get-set_other}
use Rattle.part_handlers.specs.Registered.{index_for, registering, no_entries}
use Rattle.part_handlers.specs.declared.table.Entry.{Entry}
use Rattle.part_handlers.specs.declared.table.EntryFault.{EntryFault}
use Rattle.gasnet_c.specs.Opening.{ServesAll, client_entry}

-- the first places have the entries of a client's indexes, and the others none
pub record ServesFirst (count : ℕ) (table : List (Option Entry)) : Type 0 where
  pub places : length table ≡ 128
  pub serves : (place : ℕ) → place < count → slice_get table place ≡ Some (Some (client_entry (128 + place)))
  pub free : (place : ℕ) → count ≤ place → place < 128 → slice_get table place ≡ Some None

-- none of them in a new table
pub serves_none : ServesFirst 0 no_entries
serves_none = record {
  places = length-replicate {A = Option Entry} 128 None;
  serves = λ place low. absurd (omega (arith, low));
  free = λ place low high. slice_get_read no_entries 128 place None (sym (length-replicate {A = Option Entry} 128 None)) high
      (sym (get_or-replicate 128 place None None high));
}

-- the index asks for itself, and gets it where its place is free
asks : (table : List (Option Entry)) (index : ℕ) → 128 ≤ index → slice_get table (index - 128) ≡ Some None
    → index_for table index ≡ Ok index
asks table index low free =
    let some : (index == 0) ≡ false = grind (arith, nat_tests) in
    let client : nat_lt index 128 ≡ false = grind (arith, nat_tests) in
    rw some (rw client (rw free refl))

-- one more
pub serves_more : (count : ℕ) (table : List (Option Entry)) → ServesFirst count table → count < 128
    → ServesFirst (count + 1)
    (registering table (client_entry (128 + count)) (index_for table (128 + count)))
serves_more count table before more =
    let place_is : (128 + count) - 128 ≡ count = omega arith in
    let free = before.free count (omega arith) more in
    let asked = asks table (128 + count) (omega arith)
    (subst (λ (place : ℕ). slice_get table place ≡ Some None) (sym place_is) free) in
    subst (λ (asked : Result ℕ EntryFault). ServesFirst (count + 1) (registering table (client_entry (128 + count)) asked))
    (sym asked)
    (subst (λ (place : ℕ). ServesFirst (count + 1) (slice_set table place (Some (client_entry (128 + count)))))
    (sym place_is) (one_more count table before more))
  where
    one_more : (count : ℕ) (table : List (Option Entry)) → ServesFirst count table → count < 128
        → ServesFirst (count + 1) (slice_set table count (Some (client_entry (128 + count))))
    one_more count table before more = record {
      places = length-set table count (Some (client_entry (128 + count))) ∙ before.places;
      serves = λ place low. elim (cases_Bool (place == count)) [
        | inl same ↦
            let is : place ≡ count = grind (arith, nat_tests) in
            subst (λ (here : ℕ). slice_get (slice_set table count (Some (client_entry (128 + count)))) here
            ≡ Some (Some (client_entry (128 + here)))) (sym is)
            (get-set_same table count (Some (client_entry (128 + count))) (omega (arith, more, before.places)))
        | inr apart ↦
            let less : place < count = grind (arith, nat_tests) in
            get-set_other table count (Some (client_entry (128 + count))) place
            (λ is. omega (arith, is, less)) ∙ before.serves place less
      ];
      free = λ place low high.
          get-set_other table count (Some (client_entry (128 + count))) place (λ is. omega (arith, is, low))
          ∙ before.free place (omega (arith, low)) high;
    }

-- all of them
pub serves_all : (table : List (Option Entry)) → ServesFirst 128 table → ServesAll table
serves_all table first index low high =
    let client : nat_lt index 128 ≡ false = grind (arith, nat_tests) in
    let there = first.serves (index - 128) (omega (arith, low, high)) in
    let same : 128 + (index - 128) ≡ index = omega (arith, low) in
    let entry : slice_get table (index - 128) ≡ Some (Some (client_entry index)) =
    there ∙ ap (λ (at : ℕ). Some (Some (client_entry at))) same in
    rw client (rw entry refl)
