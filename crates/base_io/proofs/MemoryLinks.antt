-- The link in memory gives the first datagram that waits.
use Rattle.std.proofs.Common.{◌≡◌, ◌<◌, ℕ, ◌+◌, List, [], ◌∷◌, ◌++◌, length, take, drop, min, sym, ap, ◌∙◌, arith}
use Rattle.std.proofs.Common.{slice_index_or, slice_set}
use Rattle.std.proofs.lemmas.List.{map-set, get_or-map, take_more_set, drop-set-lt, drop_more}
use Rattle.std.specs.Global.{Vec}
use Rattle.base_io.specs.Datagrams.{bytes_of}
use Rattle.base_io.specs.MemoryLink.{LinkState, link_called, GivesDatagramAt, ReceivesFirst}

-- a datagram is cut in its vector
pub gives_at : (all : List (Vec ℕ)) (datagram cut : Vec ℕ) (place n : ℕ) (room filled : List ℕ)
    → place < length all → datagram ≡ slice_index_or all place datagram
    → n ≡ min (length datagram.items) (length room) → filled ≡ take n datagram.items ++ drop n room
    → cut.items ≡ take n datagram.items
    → GivesDatagramAt (record {
      place = place;
      count = n;
      old = bytes_of all;
      new = bytes_of (slice_set all place cut);
      room = room;
      filled = filled;
    })
gives_at all datagram cut place n room filled within chosen count copied prefix =
    let same : slice_index_or (bytes_of all) place [] ≡ datagram.items =
    get_or-map (λ v. v.items) all place datagram [] within ∙ ap (λ v. v.items) (sym chosen) in
    record {
      count = count ∙ ap (λ first. min (length first) (length room)) (sym same);
      filled_is = copied ∙ ap (λ first. take n first ++ drop n room) (sym same);
      new_is = map-set (λ v. v.items) all place cut
          ∙ ap (slice_set (bytes_of all) place) (prefix ∙ ap (take n) (sym same));
    }

-- the datagrams up to a place were given, and now the one at that place is
pub receives_first : (old new : LinkState) (all after : List (List ℕ)) (given n : ℕ) (room filled : List ℕ)
    → given < length all → old.waiting ≡ drop given all → old.received ≡ take given all
    → GivesDatagramAt (record { place = given; count = n; old = all; new = after; room = room; filled = filled })
    → new ≡ record (link_called old) { received = take (given + 1) after; waiting = drop (given + 1) after }
    → ReceivesFirst old new n room filled
receives_first old new all after given n room filled within waiting received h new_is =
    let first = slice_index_or all given [] in
    let taken : take (given + 1) after ≡ old.received ++ take n first ∷ [] =
    ap (take (given + 1)) h.new_is ∙ take_more_set all given (take n first) within
    ∙ ap (λ prefix. prefix ++ take n first ∷ []) (sym received) in
    let left : drop (given + 1) after ≡ drop (given + 1) all =
    ap (drop (given + 1)) h.new_is ∙ drop-set-lt (given + 1) all given (take n first) (omega arith) in
    record {
      first = first;
      rest = drop (given + 1) all;
      waiting = waiting ∙ drop_more all given [] within;
      count = h.count;
      filled_is = h.filled_is;
      new_is = new_is
          ∙ ap (λ list. record (link_called old) { received = list; waiting = drop (given + 1) after }) taken
          ∙ ap (λ list. record (link_called old) { received = old.received ++ take n first ∷ []; waiting = list }) left;
    }
