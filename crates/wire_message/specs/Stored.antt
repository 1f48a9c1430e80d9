-- How the settings are kept.
use Rattle.std.specs.Prelude.{◌≡◌, ◌-◌, ◌≤◌, List, ◌++◌, take, drop, length, replicate}
use Rattle.std.proofs.Common.{ap, sym, ◌∙◌, arith, take-append-drop, length-take-le}
use Rattle.wire_message.specs.Parameters.{Parameters, AreInRange}
use Rattle.wire_message.specs.declared.pairs.PairCredits.{PairCredits}
use Rattle.wire_message.specs.declared.settings.Settings.TheInside.{Inside}

-- what stands at a place that no pair has
abbrev pub no_pair : PairCredits
no_pair = record { from = 0; to = 0; credits = 0 }

-- the settings
abbrev pub parameters_of : Inside → Parameters
parameters_of inside = record {
  version = inside.version;
  job = inside.job;
  nodes = inside.nodes;
  credits = inside.credits;
  pairs = take inside.count inside.places;
  threads = inside.threads;
  segment = inside.segment;
  last = inside.last;
  resend = inside.resend;
}

-- they are within their limits, and the places behind the pairs are empty
pub record IsStored (inside : Inside) : Type 0 where
  pub range : AreInRange (parameters_of inside)
  pub places : length inside.places ≡ 64
  pub count : inside.count ≤ 64
  pub rest : drop inside.count inside.places ≡ replicate (64 - inside.count) no_pair

-- the places of these pairs
abbrev pub places_of : List PairCredits → List PairCredits
places_of pairs = pairs ++ replicate (64 - length pairs) no_pair

-- the places, from the pairs
pub places_back : (inside : Inside) → IsStored inside → places_of (take inside.count inside.places) ≡ inside.places
places_back inside is =
    let few : inside.count ≤ length inside.places = omega (arith, is.count, is.places) in
    let many : length (take inside.count inside.places) ≡ inside.count =
    length-take-le inside.count inside.places few in
    ap (λ n. take inside.count inside.places ++ replicate (64 - n) no_pair) many
    ∙ ap (λ rest. take inside.count inside.places ++ rest) (sym is.rest)
    ∙ take-append-drop inside.count inside.places
