-- What is known of a request of a batch.
use Rattle.std.proofs.Common.{◌≡◌, inl, inr, ℕ, zero, suc, ◌+◌, ◌*◌, ◌/◌, ◌%◌, ◌≤◌, Bool, true, false, List, []}
use Rattle.std.proofs.Common.{◌∷◌, ◌++◌, length, take, drop, Option, Some, None, refl, sym, ap, ◌∙◌, subst, arith, length-append}
use Rattle.std.specs.Prelude.{if◌then◌else◌, nat_lt, nat_le, not, ◌==◌, ◌&&◌, option_map, is_none}
use Rattle.std.specs.List.{flat_map}
use Rattle.std.specs.Int.{w64, to_le_bytes}
use Rattle.std.proofs.lemmas.Bool.{cases_Bool, eqb-true, leb-true, ltb-false, and_parts}
use Rattle.std.proofs.lemmas.Option.{same_Some}
use Rattle.base_lists.proofs.Cases.{none_some}
use Rattle.wire_message.specs.Parameters.{Parameters}
use Rattle.wire_message.specs.Content.{Content, code, is_long}
use Rattle.node_core.specs.HandlerRuns.{shown_payload}
use Rattle.node_atomics.specs.declared.word.WordOp.{WordOp}
use Rattle.node_atomics.specs.declared.batch.BatchFault.{BatchFault}
use Rattle.node_atomics.specs.declared.batch.BatchFault.TheVariants as fault
use Rattle.part_segment.specs.Image.{overwritten}
use Rattle.node_atomics.specs.BatchRequests.{BatchRequest, request_said, ops_said, ops_in, op_in, with_first, is_count, place_fault}
use Rattle.node_atomics.specs.BatchRequests.{are_inside, are_aligned, block_size, batch_handler, number_of_halves}
use Rattle.node_atomics.specs.BatchRequests.{first_of_faults}
use Rattle.node_atomics.specs.Served.{if_placed, olds_of, change_of, block_of}
use Rattle.node_atomics.specs.Asking.{batch_of}

-- ---- how many operations there are

first_length : (word : Option WordOp) (later : Option (List WordOp)) (ops : List WordOp)
    → with_first word later ≡ Some ops → (fewer : ℕ)
    → ((rest : List WordOp) → later ≡ Some rest → length rest ≡ fewer) → length ops ≡ suc fewer
first_length None later ops is fewer those = absurd (none_some is)
first_length (Some word) None ops is fewer those = absurd (none_some is)
first_length (Some word) (Some rest) ops is fewer those =
    ap length (sym (same_Some _ _ is)) ∙ ap suc (those rest refl)

length-ops_in : (count : ℕ) (bytes : List ℕ) (ops : List WordOp) → ops_in count bytes ≡ Some ops → length ops ≡ count
length-ops_in zero bytes ops is = ap length (sym (same_Some _ _ is))
length-ops_in (suc count) bytes ops is =
    first_length (op_in (take 32 bytes)) (ops_in count (drop 32 bytes)) ops is count
    (λ rest there. length-ops_in count (drop 32 bytes) rest there)

-- an option that is there only where a test passes
passed : {X : Type 0} (test : Bool) (found : Option X) (x : X) → (if test then found else None) ≡ Some x
    → (test ≡ true) × (found ≡ Some x)
passed true found x is = (refl, is)
passed false found x is = absurd (none_some is)

pub few_ops : (bytes : List ℕ) (ops : List WordOp) → ops_said bytes ≡ Some ops → length ops ≤ 64
few_ops bytes ops is =
    let count = length bytes / 32 in
    let there = passed ((length bytes % 32 == 0) && is_count count) (ops_in count bytes) ops is in
    let good = (and_parts (length bytes % 32 == 0) (is_count count) there.0).1 in
    let few = leb-true count 64 (and_parts (nat_lt 0 count) (nat_le count 64) good).1 in
    let many = length-ops_in count bytes ops there.1 in
    omega (arith, few, many)

-- ---- errands

-- where a batch was said, operations were
request_ops : (found : Option (List WordOp)) (local tag : ℕ) (batch : BatchRequest)
    → option_map (λ ops. record { local = local; tag = tag; ops = ops }) found ≡ Some batch
    → found ≡ Some batch.ops
request_ops None local tag batch is = absurd (none_some is)
request_ops (Some ops) local tag batch is = ap (λ (it : BatchRequest). Some it.ops) (same_Some _ _ is)

-- the places of a batch are good
good_places : (segment : ℕ) (said : Option BatchRequest) (batch : BatchRequest) → if_placed segment said ≡ Some batch
    → (said ≡ Some batch) × (place_fault segment batch.local batch.ops ≡ None)
good_places segment None batch is = absurd (none_some is)
good_places segment (Some other) batch is =
    let there = passed (is_none (place_fault segment other.local other.ops)) (Some other) batch is in
    let same = same_Some _ _ there.1 in (
      there.1,
      subst (λ (it : BatchRequest). place_fault segment it.local it.ops ≡ None) same
          (none_of (place_fault segment other.local other.ops) there.0),
    )
  where
    none_of : (found : Option BatchFault) → is_none found ≡ true → found ≡ None
    none_of None fine = refl
    none_of (Some why) fine = cc

-- none of three faults
no_fault : (first second third : Bool)
    → first_of_faults ((first, fault.Offset) ∷ (second, fault.Local) ∷ (third, fault.Unaligned) ∷ []) ≡ None
    → (first ≡ false) × (second ≡ false) × (third ≡ false)
no_fault true second third is = absurd (none_some (sym is))
no_fault false true third is = absurd (none_some (sym is))
no_fault false false true is = absurd (none_some (sym is))
no_fault false false false is = (refl, refl, refl)

said_no : (test : Bool) → not test ≡ false → test ≡ true
said_no true is = refl
said_no false is = cc

-- what is known of a request of a batch
pub record AsksBatch (settings : Parameters) (content : Content) (batch : BatchRequest) : Type 0 where
  pub handler : content.handler ≡ batch_handler
  pub said : if_placed settings.segment (request_said content.args (shown_payload content)) ≡ Some batch
  pub few : length batch.ops ≤ 64
  pub inside : are_inside settings.segment batch.ops ≡ true
  pub block : batch.local + block_size batch.ops ≤ settings.segment
  pub aligned : are_aligned batch.local batch.ops ≡ true
  pub unplaced : is_long (code content.kind) ≡ false

unlong : (content : Content) (batch : BatchRequest) → request_said content.args (shown_payload content) ≡ Some batch
    → is_long (code content.kind) ≡ false
unlong content batch said = elim (cases_Bool (is_long (code content.kind))) [
  | inl long ↦ absurd (by_long (length content.args == 4) long said)
  | inr other ↦ other
]
  where
    by_long : (four : Bool) → is_long (code content.kind) ≡ true
        → (if four
        then option_map (λ ops. record {
          local = number_of_halves content.args 0;
          tag = number_of_halves content.args 2;
          ops = ops;
        }) (ops_said (shown_payload content)) else None) ≡ Some batch
        → ⊥
    by_long four long is =
        let there = passed four _ batch is in
        let nothing : shown_payload content ≡ [] = rw long refl in
        none_some (subst (λ (bytes : List ℕ). ops_said bytes ≡ Some batch.ops) nothing
        (request_ops (ops_said (shown_payload content)) _ _ batch there.1))

pub asks_batch : (settings : Parameters) (content : Content) (batch : BatchRequest) → batch_of settings content ≡ Some batch
    → AsksBatch settings content batch
asks_batch settings content batch is =
    let there = passed (content.handler == batch_handler) _ batch is in
    let placed = good_places settings.segment (request_said content.args (shown_payload content)) batch there.1 in
    let said = passed (length content.args == 4) _ batch placed.0 in
    let ops = request_ops (ops_said (shown_payload content)) _ _ batch said.1 in
    let good = no_fault (not (are_inside settings.segment batch.ops))
    (nat_lt settings.segment (batch.local + block_size batch.ops)) (not (are_aligned batch.local batch.ops))
    placed.1 in
    record {
      handler = eqb-true content.handler batch_handler there.0;
      said = there.1;
      few = few_ops (shown_payload content) batch.ops ops;
      inside = said_no (are_inside settings.segment batch.ops) good.0;
      block = ltb-false settings.segment (batch.local + block_size batch.ops) good.1;
      aligned = said_no (are_aligned batch.local batch.ops) good.2;
      unplaced = unlong content batch placed.0;
    }

-- ---- the block

pub length-olds : (segment : List ℕ) (ops : List WordOp) → length (olds_of segment ops) ≡ length ops
length-olds segment [] = refl
length-olds segment (word ∷ ops) = ap suc (length-olds (overwritten segment (change_of segment word)) ops)

length-words : (words : List ℕ) → length (flat_map (to_le_bytes w64) words) ≡ 8 * length words
length-words [] = refl
length-words (word ∷ words) = grind (arith, length-words words)

pub length-block : (segment : List ℕ) (batch : BatchRequest)
    → length (block_of (olds_of segment batch.ops) batch.tag) ≡ block_size batch.ops
length-block segment batch =
    let olds = olds_of segment batch.ops in
    let many : length (olds ++ batch.tag ∷ []) ≡ length olds + 1 = length-append olds (batch.tag ∷ []) in
    omega (arith, length-words (olds ++ batch.tag ∷ []), many, length-olds segment batch.ops)
