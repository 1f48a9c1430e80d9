-- Settings as they are kept, with one more pair.
use Rattle.std.proofs.Common.{◌≡◌, ℕ, ◌+◌, ◌-◌, ◌<◌, List, [], ◌∷◌, Option, Some, None, is_some, false, true≢false}
use Rattle.std.proofs.Common.{length, take, drop, set, replicate, refl, sym, ap, subst, ◌∙◌, arith}
use Rattle.std.proofs.lemmas.List.{take_more_set, drop-set-lt, drop-drop, drop-replicate}
use Rattle.std.proofs.lemmas.List.{length-append, length-set, length-take-le}
use Rattle.wire_message.specs.declared.pairs.PairCredits.{PairCredits}
use Rattle.wire_message.specs.declared.settings.Settings.TheInside.{Inside}
use Rattle.wire_message.specs.Parameters.{Parameters, AreInRange, IsPair, own_credits, with_pair, as_version_2}
use Rattle.wire_message.specs.Stored.{no_pair, parameters_of, IsStored}
use Rattle.wire_message.proofs.Credits.{pairs_added, last_pair}

-- what is none isn't some
pub is_none_of : (own : Option ℕ) → is_some own ≡ false → own ≡ None
is_none_of None e = refl
is_none_of (Some n) e = absurd (true≢false e)

-- there is room for one more
pub few_places : (inside : Inside) → IsStored inside → inside.count < 64 → length (take inside.count inside.places) < 64
few_places inside is room =
    omega (arith, length-take-le inside.count inside.places (omega (arith, is.count, is.places)), room)

-- one more pair, at the first empty place
abbrev pub added : Inside → PairCredits → Inside
added inside pair = record inside {
  places = set inside.places inside.count pair;
  count = inside.count + 1;
}

pub added_is : (inside : Inside) (pair : PairCredits) → IsStored inside → inside.count < 64
    → parameters_of (added inside pair) ≡ with_pair (parameters_of inside) pair
added_is inside pair is room =
    ap (λ (pairs : List PairCredits). record (parameters_of inside) { pairs = pairs })
    (take_more_set inside.places inside.count pair (omega (arith, is.places)))

-- what the limits say of one more pair
pub record TakesPair (settings : Parameters) (pair : PairCredits) : Type 0 where
  pub is : IsPair settings.nodes pair
  pub none : own_credits settings.pairs pair.from pair.to ≡ None
  pub few : length settings.pairs < 64

pub takes_of : (inside : Inside) (settings : Parameters) (pair : PairCredits) → parameters_of inside ≡ settings
    → AreInRange (with_pair settings pair) → TakesPair (parameters_of inside) pair
takes_of inside settings pair same range =
    let more : AreInRange (with_pair (parameters_of inside) pair) =
    subst (λ (all : Parameters). AreInRange (with_pair all pair)) (sym same) range in
    let last = last_pair inside.nodes (parameters_of inside).pairs pair more.pairs in
    record {
      is = last.is;
      none = last.none;
      few = omega (arith, length-append (parameters_of inside).pairs (pair ∷ []), more.few_pairs);
    }

pub range_added : (settings : Parameters) (pair : PairCredits) → AreInRange settings → TakesPair settings pair
    → AreInRange (with_pair settings pair)
range_added settings pair range takes = record {
  version = range.version;
  some_node = range.some_node;
  nodes = range.nodes;
  nodes_at_first = range.nodes_at_first;
  some_credit = range.some_credit;
  credits = range.credits;
  pairs = pairs_added settings.nodes settings.pairs pair range.pairs takes.is takes.none;
  few_pairs = omega (arith, length-append settings.pairs (pair ∷ []), takes.few);
  some_thread = range.some_thread;
  threads = range.threads;
  pages = range.pages;
  some_page = range.some_page;
  segment = range.segment;
  last = range.last;
  some_time = range.some_time;
  resend = range.resend;
}

pub stored_added : (inside : Inside) (pair : PairCredits) → IsStored inside → inside.count < 64
    → TakesPair (parameters_of inside) pair → IsStored (added inside pair)
stored_added inside pair is room takes =
    let same = added_is inside pair is room in
    record {
      range = subst AreInRange (sym same) (range_added (parameters_of inside) pair is.range takes);
      places = omega (arith, length-set inside.places inside.count pair, is.places);
      count = omega arith;
      rest =
          drop-set-lt (inside.count + 1) inside.places inside.count pair (omega arith)
          ∙ (sym (drop-drop 1 inside.count inside.places)
          ∙ (ap (drop 1) is.rest
          ∙ (drop-replicate 1 (64 - inside.count) no_pair ∙ ap (λ n. replicate n no_pair) (omega arith))));
    }

-- ---- another version

-- settings within their limits are so in version 2
pub upgraded_range : (settings : Parameters) → AreInRange settings → AreInRange (as_version_2 settings)
upgraded_range settings range = record {
  version = refl;
  some_node = range.some_node;
  nodes = range.nodes;
  nodes_at_first = λ first. omega (arith, first);
  some_credit = range.some_credit;
  credits = range.credits;
  pairs = range.pairs;
  few_pairs = range.few_pairs;
  some_thread = range.some_thread;
  threads = range.threads;
  pages = range.pages;
  some_page = range.some_page;
  segment = range.segment;
  last = range.last;
  some_time = range.some_time;
  resend = range.resend;
}

-- settings that are stored stay so in version 2
pub upgraded_stored : (inside : Inside) → IsStored inside → IsStored (record inside { version = 2 })
upgraded_stored inside is = record {
  range = upgraded_range (parameters_of inside) is.range;
  places = is.places;
  count = is.count;
  rest = is.rest;
}
