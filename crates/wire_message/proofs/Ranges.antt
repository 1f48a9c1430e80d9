-- What the tests of the table mean, and the ranges of a message.
use Rattle.std.proofs.Common.{◌≡◌, ◌≢◌, ◌≤◌, Bool, true, false, not, ltb, eqb, ◌&&◌, ◌||◌, ◌↔◌, refl, ap}
use Rattle.std.proofs.Common.{arith}
use Rattle.std.specs.Int.{w32}
use Rattle.std.specs.Int.RustNames.{FitsSigned}
use Rattle.std.specs.List.{AllByRecursion}
use Rattle.std.proofs.lemmas.Bool.{or_parts, and_parts, or_from, ltb-false, le-ltb, eqb-true, eqb-false, eq-eqb, ne_eqb}
use Rattle.std.proofs.lemmas.Bool.{not-true, not-false, not_from_true}
use Rattle.wire_message.specs.Content.{Message, IsMessage, IsWellFormed, HasRanges, is_version, is_kind, is_ack}
use Rattle.wire_message.specs.Content.{is_long, is_bare}
use Rattle.wire_message.specs.Refusals.{HeaderFields, fields_of, is_wrong_count, is_wrong_reserved, is_wrong_length}
use Rattle.wire_message.specs.Refusals.{is_clean}

-- no row but those on the length applies
pub record Clean (fields : HeaderFields) : Type 0 where
  pub kind : is_kind fields.kind ≡ true
  pub count : is_wrong_count fields.kind fields.count ≡ false
  pub reserved : is_wrong_reserved fields.kind fields.reserved fields.handler fields.offset ≡ false
  pub number : eqb fields.number 0 ≡ false
  pub apart : eqb fields.from fields.to ≡ false
  pub len : is_wrong_length fields.kind fields.payload ≡ false

-- the same, told as ranges
pub record Means (fields : HeaderFields) : Type 0 where
  pub kind : is_kind fields.kind ≡ true
  pub count : fields.count ≤ 16
  pub ack_args : is_ack fields.kind ≡ true → fields.count ≡ 0
  pub reserved : fields.reserved ≡ 0
  pub ack_handler : is_ack fields.kind ≡ eqb fields.handler 0
  pub long_offset : is_long fields.kind ≡ false → fields.offset ≡ 0
  pub first : 1 ≤ fields.number
  pub apart : fields.from ≢ fields.to
  pub len : fields.payload ≤ 8192
  pub bare_len : is_bare fields.kind ≡ true → fields.payload ≡ 0

-- ---- what the tests mean

same_test : (a h : Bool) → (a && not h) ≡ false → (not a && h) ≡ false → a ≡ h
same_test true true p q = refl
same_test true false p q = absurd cc
same_test false true p q = absurd cc
same_test false false p q = refl

apart_test : (a h : Bool) → a ≡ h → ((a && not h) ≡ false) × ((not a && h) ≡ false)
apart_test true true e = (refl, refl)
apart_test true false e = absurd cc
apart_test false true e = absurd cc
apart_test false false e = (refl, refl)

implied : (a h : Bool) → (a && not h) ≡ false → a ≡ true → h ≡ true
implied true true p q = refl
implied true false p q = absurd cc
implied false h p q = absurd cc

implied_not : (a h : Bool) → (not a && not h) ≡ false → a ≡ false → h ≡ true
implied_not false true p q = refl
implied_not false false p q = absurd cc
implied_not true h p q = absurd cc

unless : (a h : Bool) → (a ≡ true → h ≡ true) → (a && not h) ≡ false
unless true h f = ap not (f refl)
unless false h f = refl

unless_not : (a h : Bool) → (a ≡ false → h ≡ true) → (not a && not h) ≡ false
unless_not false h f = ap not (f refl)
unless_not true h f = refl

-- the four reasons for which byte 7, the handler or the offset is wrong
wrong_byte : HeaderFields → Bool
wrong_byte fields = not (eqb fields.reserved 0)

ack_with_handler : HeaderFields → Bool
ack_with_handler fields = is_ack fields.kind && not (eqb fields.handler 0)

none_without_handler : HeaderFields → Bool
none_without_handler fields = not (is_ack fields.kind) && eqb fields.handler 0

offset_of_no_long : HeaderFields → Bool
offset_of_no_long fields = not (is_long fields.kind) && not (eqb fields.offset 0)

pub means : (fields : HeaderFields) → Clean fields → Means fields
unfolding wrong_byte ack_with_handler none_without_handler offset_of_no_long
means fields x =
    let count = or_parts (ltb 16 fields.count) (is_ack fields.kind && not (eqb fields.count 0)) x.count in
    let three = or_parts (wrong_byte fields || ack_with_handler fields || none_without_handler fields)
    (offset_of_no_long fields) x.reserved in
    let two = or_parts (wrong_byte fields || ack_with_handler fields) (none_without_handler fields) three.0 in
    let one = or_parts (wrong_byte fields) (ack_with_handler fields) two.0 in
    let len = or_parts (ltb 8192 fields.payload) (is_bare fields.kind && not (eqb fields.payload 0)) x.len in
    let some : fields.number ≢ 0 = eqb-false fields.number 0 x.number in
    record {
      kind = x.kind;
      count = ltb-false 16 fields.count count.0;
      ack_args = λ e. eqb-true fields.count 0 (implied (is_ack fields.kind) (eqb fields.count 0) count.1 e);
      reserved = eqb-true fields.reserved 0 (not-false _ one.0);
      ack_handler = same_test (is_ack fields.kind) (eqb fields.handler 0) one.1 two.1;
      long_offset = λ e. eqb-true fields.offset 0 (implied_not (is_long fields.kind) (eqb fields.offset 0) three.1 e);
      first = omega arith;
      apart = eqb-false fields.from fields.to x.apart;
      len = ltb-false 8192 fields.payload len.0;
      bare_len = λ e. eqb-true fields.payload 0 (implied (is_bare fields.kind) (eqb fields.payload 0) len.1 e);
    }

pub clean_by : (fields : HeaderFields) → Means fields → Clean fields
unfolding wrong_byte ack_with_handler none_without_handler offset_of_no_long
clean_by fields x =
    let ack = apart_test (is_ack fields.kind) (eqb fields.handler 0) x.ack_handler in
    let zero_byte = not_from_true _ (eq-eqb fields.reserved 0 x.reserved) in
    let one = or_from (wrong_byte fields) (ack_with_handler fields) zero_byte ack.0 in
    let two = or_from (wrong_byte fields || ack_with_handler fields) (none_without_handler fields) one ack.1 in
    record {
      kind = x.kind;
      count =
          or_from (ltb 16 fields.count) (is_ack fields.kind && not (eqb fields.count 0))
          (le-ltb 16 fields.count x.count)
          (unless (is_ack fields.kind) (eqb fields.count 0) (λ e. eq-eqb fields.count 0 (x.ack_args e)));
      reserved =
          or_from (wrong_byte fields || ack_with_handler fields || none_without_handler fields)
          (offset_of_no_long fields) two
          (unless_not (is_long fields.kind) (eqb fields.offset 0) (λ e. eq-eqb fields.offset 0 (x.long_offset e)));
      number = ne_eqb fields.number 0 (λ e. omega (arith, e, x.first));
      apart = ne_eqb fields.from fields.to x.apart;
      len =
          or_from (ltb 8192 fields.payload) (is_bare fields.kind && not (eqb fields.payload 0))
          (le-ltb 8192 fields.payload x.len)
          (unless (is_bare fields.kind) (eqb fields.payload 0) (λ e. eq-eqb fields.payload 0 (x.bare_len e)));
    }

-- the test as the code makes it
clean_test : (fields : HeaderFields) → is_clean fields ≡ true → Clean fields
clean_test fields e =
    let kind = is_kind fields.kind in
    let count = not (is_wrong_count fields.kind fields.count) in
    let reserved = not (is_wrong_reserved fields.kind fields.reserved fields.handler fields.offset) in
    let number = not (eqb fields.number 0) in
    let apart = not (eqb fields.from fields.to) in
    let len = not (is_wrong_length fields.kind fields.payload) in
    let five = and_parts (kind && count && reserved && number && apart) len e in
    let four = and_parts (kind && count && reserved && number) apart five.0 in
    let three = and_parts (kind && count && reserved) number four.0 in
    let two = and_parts (kind && count) reserved three.0 in
    let one = and_parts kind count two.0 in
    record {
      kind = one.0;
      count = not-true _ one.1;
      reserved = not-true _ two.1;
      number = not-true _ three.1;
      apart = not-true _ four.1;
      len = not-true _ five.1;
    }

test_clean : (fields : HeaderFields) → Clean fields → is_clean fields ≡ true
test_clean fields x = rw (x.kind, x.count, x.reserved, x.number, x.apart, x.len) refl

-- ---- messages

pub formed_by : (message : Message) → is_version message.version ≡ true → Clean (fields_of message)
    → IsWellFormed message
formed_by message version clean =
    let x = means (fields_of message) clean in
    record {
      version = version;
      kind = x.kind;
      apart = x.apart;
      numbered = x.first;
      ack_handler = x.ack_handler;
      count = x.count;
      ack_args = x.ack_args;
      long_offset = x.long_offset;
      payload_length = x.len;
      bare_payload = x.bare_len;
    }

pub clean_of : (message : Message) → IsWellFormed message → Clean (fields_of message)
clean_of message x = clean_by (fields_of message) (record {
  kind = x.kind;
  count = x.count;
  ack_args = x.ack_args;
  reserved = refl;
  ack_handler = x.ack_handler;
  long_offset = x.long_offset;
  first = x.numbered;
  apart = x.apart;
  len = x.payload_length;
  bare_len = x.bare_payload;
})

-- with the ranges of the fields' types, they are messages
pub is_message : (message : Message) → HasRanges message → AllByRecursion (FitsSigned w32) message.args
    → IsWellFormed message → IsMessage message
is_message message ranges fit x = record {
  version = x.version;
  kind = x.kind;
  job = ranges.job;
  from = ranges.from;
  to = ranges.to;
  apart = x.apart;
  slot = ranges.slot;
  number = ranges.number;
  numbered = x.numbered;
  handler = ranges.handler;
  ack_handler = x.ack_handler;
  args = fit;
  count = x.count;
  ack_args = x.ack_args;
  offset = ranges.offset;
  long_offset = x.long_offset;
  payload = ranges.payload;
  payload_length = x.payload_length;
  bare_payload = x.bare_payload;
}

pub formed : (message : Message) → IsMessage message → IsWellFormed message
formed message x = record {
  version = x.version;
  kind = x.kind;
  apart = x.apart;
  numbered = x.numbered;
  ack_handler = x.ack_handler;
  count = x.count;
  ack_args = x.ack_args;
  long_offset = x.long_offset;
  payload_length = x.payload_length;
  bare_payload = x.bare_payload;
}

-- the code's test tells
pub well_formed_is : (message : Message) → is_version message.version ≡ true
    → (is_clean (fields_of message) ≡ true) ↔ IsWellFormed message
well_formed_is message version = (
  λ e. formed_by message version (clean_test (fields_of message) e),
  λ x. test_clean (fields_of message) (clean_of message x),
)
