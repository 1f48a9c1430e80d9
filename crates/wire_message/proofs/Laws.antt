-- What is read is spelled so, and what is spelled so is read.
use Rattle.std.proofs.Common.{◌≡◌, ℕ, ◌+◌, ◌*◌, ◌≤◌, true, eqb, ◌&&◌, List, [], ◌∷◌, ◌++◌, length, get_or, take, drop}
use Rattle.std.proofs.Common.{Some, None, refl, sym, ap, subst, ◌∙◌, arith, inl, inr}
use Rattle.std.specs.Int.{w16, w64, to_be_bytes}
use Rattle.std.specs.List.{flat_map}
use Rattle.std.proofs.lemmas.Bool.{eqb-true, eq-eqb, and_parts, or_cases, cases_lt}
use Rattle.std.proofs.lemmas.List.{length-append, length-take, length-drop, take-append-drop, take_at, drop_at}
use Rattle.std.proofs.lemmas.List.{get_or-take, get_or-drop, get_or_past}
use Rattle.std.proofs.lemmas.Nat.{from_be_bytes-to_be_bytes_2, from_be_bytes-to_be_bytes_8}
use Rattle.wire_message.specs.declared.refused.Refused.{Refused}
use Rattle.wire_message.specs.Content.{Message, IsMessage, HasRanges, Spells, header, spelling, code, word}
use Rattle.wire_message.specs.Content.{is_version}
use Rattle.wire_message.specs.Refusals.{cells, fields_at, fields_of, number_at, has_magic}
use Rattle.wire_message.specs.Refusals.{first_refusal}
use Rattle.wire_message.specs.Reading.{integers_of, message_at}
use Rattle.wire_message.proofs.Words.{IsBytes, words_are, words_again, length-words}
use Rattle.wire_message.proofs.Places.{cells_drop, two_back, two_below, eight_back, eight_below}
use Rattle.wire_message.proofs.Ranges.{Clean, means, clean_of, formed_by, formed, is_message}
use Rattle.wire_message.proofs.Table.{kind_of-code, code-kind_of, Passes, passes, not_refused}

IsBytes-drop : (n : ℕ) (bytes : List ℕ) → IsBytes bytes → IsBytes (drop n bytes)
IsBytes-drop n bytes h i = rw get_or-drop (h (n + i))

IsBytes-take : (n : ℕ) (bytes : List ℕ) → IsBytes bytes → IsBytes (take n bytes)
IsBytes-take n bytes h i =
    elim (cases_lt i n) [
      | inl lt ↦ rw (get_or-take n bytes i 0 lt) (h i)
      | inr le ↦ rw (get_or_past (take n bytes) i 0 (omega (arith, length-take n bytes))) (omega arith)
    ]

-- ---- the parts of a spelling

-- eight bytes, then seven numbers, the arguments and the payload as bytes
record Shape : Type 0 where
  pub first : ℕ
  pub second : ℕ
  pub third : ℕ
  pub version : ℕ
  pub kind : ℕ
  pub handler : ℕ
  pub count : ℕ
  pub reserved : ℕ
  pub job : List ℕ
  pub from : List ℕ
  pub to : List ℕ
  pub slot : List ℕ
  pub len : List ℕ
  pub number : List ℕ
  pub offset : List ℕ
  pub words : List ℕ
  pub payload : List ℕ

laid : Shape → List ℕ
laid shape =
    (shape.first ∷ shape.second ∷ shape.third ∷ shape.version ∷ [])
    ++ (shape.kind ∷ shape.handler ∷ shape.count ∷ shape.reserved ∷ [])
    ++ shape.job
    ++ shape.from
    ++ shape.to
    ++ shape.slot
    ++ shape.len
    ++ shape.number
    ++ shape.offset
    ++ shape.words
    ++ shape.payload

shape_of : Message → Shape
shape_of message = record {
  first = 71;
  second = 65;
  third = 77;
  version = 48 + message.version;
  kind = code message.kind;
  handler = message.handler;
  count = length message.args;
  reserved = 0;
  job = to_be_bytes w64 message.job;
  from = to_be_bytes w16 message.from;
  to = to_be_bytes w16 message.to;
  slot = to_be_bytes w16 message.slot;
  len = to_be_bytes w16 (length message.payload);
  number = to_be_bytes w64 message.number;
  offset = to_be_bytes w64 message.offset;
  words = flat_map word message.args;
  payload = message.payload;
}

laid_of : (message : Message) → spelling message ≡ laid (shape_of message)
unfolding laid shape_of spelling header
laid_of message = refl

-- with n bytes of arguments
shape_at : List ℕ → (n : ℕ) → Shape
shape_at bytes n = record {
  first = get_or bytes 0 0;
  second = get_or bytes 1 0;
  third = get_or bytes 2 0;
  version = get_or bytes 3 0;
  kind = get_or bytes 4 0;
  handler = get_or bytes 5 0;
  count = get_or bytes 6 0;
  reserved = get_or bytes 7 0;
  job = cells bytes 8 8;
  from = cells bytes 16 2;
  to = cells bytes 18 2;
  slot = cells bytes 20 2;
  len = cells bytes 22 2;
  number = cells bytes 24 8;
  offset = cells bytes 32 8;
  words = take n (drop 40 bytes);
  payload = drop n (drop 40 bytes);
}

laid_at : (bytes : List ℕ) (n : ℕ) → 40 ≤ length bytes → laid (shape_at bytes n) ≡ bytes
unfolding laid shape_at
laid_at bytes n h =
    ap (λ (rest : List ℕ). cells bytes 0 40 ++ rest) (take-append-drop n (drop 40 bytes)) ∙ cells_drop bytes 0 40 h

-- the four bytes of the magic
record HasMagic (version : ℕ) (bytes : List ℕ) : Type 0 where
  pub first : 71 ≡ get_or bytes 0 0
  pub second : 65 ≡ get_or bytes 1 0
  pub third : 77 ≡ get_or bytes 2 0
  pub fourth : 48 + version ≡ get_or bytes 3 0

magic_is : (version : ℕ) (bytes : List ℕ) → has_magic version bytes ≡ true → HasMagic version bytes
magic_is version bytes e =
    let first = eqb (get_or bytes 0 0) 71 in
    let second = eqb (get_or bytes 1 0) 65 in
    let third = eqb (get_or bytes 2 0) 77 in
    let three = and_parts (first && second && third) (eqb (get_or bytes 3 0) (48 + version)) e in
    let two = and_parts (first && second) third three.0 in
    let one = and_parts first second two.0 in
    record {
      first = sym (eqb-true _ _ one.0);
      second = sym (eqb-true _ _ one.1);
      third = sym (eqb-true _ _ two.1);
      fourth = sym (eqb-true _ _ three.1);
    }

-- ---- what is read is spelled so

-- the lengths of what stands behind the header
record Behind (bytes : List ℕ) : Type 0 where
  pub words : length (take (4 * get_or bytes 6 0) (drop 40 bytes)) ≡ 4 * get_or bytes 6 0
  pub payload : length (drop (4 * get_or bytes 6 0) (drop 40 bytes)) ≡ number_at w16 bytes 22

behind : (version : ℕ) (bytes : List ℕ) → Passes version bytes → Behind bytes
behind version bytes p =
    let n = 4 * get_or bytes 6 0 in
    record {
      words = omega (arith, length-take n (drop 40 bytes), length-drop 40 bytes, p.len);
      payload = omega (arith, length-drop n (drop 40 bytes), length-drop 40 bytes, p.len);
    }

spelled : (version : ℕ) (bytes : List ℕ) → Passes version bytes → IsBytes bytes
    → spelling (message_at version bytes) ≡ bytes
unfolding message_at shape_of shape_at
spelled version bytes p are =
    let x = means (fields_at bytes) p.clean in
    let magic = magic_is version bytes p.magic in
    let count = get_or bytes 6 0 in
    let words : List ℕ = take (4 * count) (drop 40 bytes) in
    let length_is = behind version bytes p in
    let w = words_are count words length_is.words
    (IsBytes-take (4 * count) (drop 40 bytes) (IsBytes-drop 40 bytes are)) in
    let same : shape_of (message_at version bytes) ≡ shape_at bytes (4 * count) = λ i. record {
      first = magic.first i;
      second = magic.second i;
      third = magic.third i;
      version = magic.fourth i;
      kind = code-kind_of (get_or bytes 4 0) x.kind i;
      handler = get_or bytes 5 0;
      count = w.count i;
      reserved = sym x.reserved i;
      job = eight_back bytes 8 are i;
      from = two_back bytes 16 are i;
      to = two_back bytes 18 are i;
      slot = two_back bytes 20 are i;
      len = (ap (to_be_bytes w16) length_is.payload ∙ two_back bytes 22 are) i;
      number = eight_back bytes 24 are i;
      offset = eight_back bytes 32 are i;
      words = w.is i;
      payload = drop (4 * count) (drop 40 bytes);
    } in
    laid_of (message_at version bytes) ∙ (ap laid same ∙ laid_at bytes (4 * count) p.header)

pub takes : (version : ℕ) (bytes : List ℕ) → is_version version ≡ true → IsBytes bytes
    → first_refusal version bytes ≡ None → Spells (message_at version bytes) bytes
unfolding message_at
takes version bytes known are e =
    let p = passes version bytes e in
    let x = means (fields_at bytes) p.clean in
    let message = message_at version bytes in
    let count = get_or bytes 6 0 in
    let words : List ℕ = take (4 * count) (drop 40 bytes) in
    let length_is = behind version bytes p in
    let w = words_are count words length_is.words
    (IsBytes-take (4 * count) (drop 40 bytes) (IsBytes-drop 40 bytes are)) in
    let ranges : HasRanges message = record {
      job = eight_below bytes 8 are;
      from = two_below bytes 16 are;
      to = two_below bytes 18 are;
      slot = two_below bytes 20 are;
      number = eight_below bytes 24 are;
      handler = are 5;
      offset = eight_below bytes 32 are;
      payload = IsBytes-drop (4 * count) (drop 40 bytes) (IsBytes-drop 40 bytes are);
    } in
    let same : fields_at bytes ≡ fields_of message = λ i. record {
      kind = sym (code-kind_of (get_or bytes 4 0) x.kind) i;
      count = sym w.count i;
      reserved = x.reserved i;
      handler = get_or bytes 5 0;
      offset = number_at w64 bytes 32;
      number = number_at w64 bytes 24;
      from = number_at w16 bytes 16;
      to = number_at w16 bytes 18;
      payload = sym length_is.payload i;
    } in
    record {
      fits = is_message message ranges w.fit (formed_by message known (subst Clean same p.clean));
      is = sym (spelled version bytes p are);
    }

-- ---- what is spelled so is read

pub record Duplicate (message : Message) : Type 0 where
  pub unrefused : first_refusal message.version (spelling message) ≡ None
  pub same : message_at message.version (spelling message) ≡ message

pub length-header : (message : Message) → length (header message) ≡ 40
unfolding header
length-header message = refl

pub length-spelling : (message : Message)
    → length (spelling message) ≡ 40 + 4 * length message.args + length message.payload
unfolding spelling header
length-spelling message =
    omega (arith, length-append (flat_map word message.args) message.payload, length-words message.args)

pub again : (message : Message) → IsMessage message → Duplicate message
unfolding spelling header message_at
again message x =
    let bytes = spelling message in
    let words : List ℕ = flat_map word message.args in
    let n = 4 * length message.args in
    let from : number_at w16 bytes 16 ≡ message.from = from_be_bytes-to_be_bytes_2 message.from x.from in
    let to : number_at w16 bytes 18 ≡ message.to = from_be_bytes-to_be_bytes_2 message.to x.to in
    let slot : number_at w16 bytes 20 ≡ message.slot = from_be_bytes-to_be_bytes_2 message.slot x.slot in
    let len : number_at w16 bytes 22 ≡ length message.payload =
    from_be_bytes-to_be_bytes_2 (length message.payload) (omega (arith, x.payload_length)) in
    let number : number_at w64 bytes 24 ≡ message.number = from_be_bytes-to_be_bytes_8 message.number x.number in
    let offset : number_at w64 bytes 32 ≡ message.offset = from_be_bytes-to_be_bytes_8 message.offset x.offset in
    let fields : fields_of message ≡ fields_at bytes = λ i. record {
      kind = code message.kind;
      count = length message.args;
      reserved = 0;
      handler = message.handler;
      offset = sym offset i;
      number = sym number i;
      from = sym from i;
      to = sym to i;
      payload = sym len i;
    } in
    let args : integers_of (take n (drop 40 bytes)) ≡ message.args =
    ap integers_of (take_at words message.payload n (length-words message.args)) ∙ words_again message.args x.args in
    let whole = length-spelling message in
    let passed : Passes message.version bytes = record {
      header = omega (arith, whole);
      magic = eq-eqb (48 + message.version) (48 + message.version) refl;
      clean = subst Clean fields (clean_of message (formed message x));
      len = whole ∙ ap (λ (payload : ℕ). 40 + n + payload) (sym len);
    } in
    record {
      unrefused = not_refused message.version bytes passed;
      same = λ i. record {
        version = message.version;
        kind = kind_of-code message.kind i;
        job = from_be_bytes-to_be_bytes_8 message.job x.job i;
        from = from i;
        to = to i;
        slot = slot i;
        number = number i;
        handler = message.handler;
        args = args i;
        offset = offset i;
        payload = drop_at words message.payload n (length-words message.args) i;
      };
    }

-- ---- the code's answers

pub record Fields (bytes : List ℕ) : Type 0 where
  pub header : 40 ≤ length bytes
  pub words : 40 + 4 * get_or bytes 6 0 ≤ length bytes

pub fields : (version : ℕ) (bytes : List ℕ) → first_refusal version bytes ≡ None → Fields bytes
fields version bytes e =
    let p = passes version bytes e in
    record { header = p.header; words = omega (arith, p.len) }

pub never_refused : (version : ℕ) (bytes : List ℕ) (refusal : Refused) (message : Message)
    → first_refusal version bytes ≡ Some refusal → message.version ≡ version → Spells message bytes → ⊥
never_refused version bytes refusal message e same spells =
    let none : first_refusal version bytes ≡ None =
    ap (λ other. first_refusal other bytes) (sym same)
    ∙ (ap (first_refusal message.version) spells.is ∙ (again message spells.fits).unrefused) in
    cc

pub only : (version : ℕ) (bytes : List ℕ) (read message : Message) → read ≡ message_at version bytes
    → message.version ≡ version → Spells message bytes → read ≡ message
only version bytes read message e same spells =
    e
    ∙ (ap (λ other. message_at other bytes) (sym same)
    ∙ (ap (message_at message.version) spells.is ∙ (again message spells.fits).same))

pub version_small : (version : ℕ) → is_version version ≡ true → version ≤ 2
version_small version e =
    elim (or_cases (eqb version 1) (eqb version 2) e) [
      | inl one ↦ omega (arith, eqb-true version 1 one)
      | inr two ↦ omega (arith, eqb-true version 2 two)
    ]
