use Rattle.std.proofs.Common.{rules, refl, ap, ◌∙◌, arith, [], length}
use Rattle.std.proofs.lemmas.List.{length-replicate}
use Rattle.wire_message.specs.Parameters.{Parameters, AreInRange}
use Rattle.wire_message.specs.Stored.{no_pair}
use Rattle.wire_message.proofs.settings.Settings.new.Goals as goal

-- what was asked is within the limits
asked : goal.After-no_places → Parameters
asked c = record {
  version = c.args.version;
  job = c.args.job;
  nodes = c.args.nodes;
  credits = c.args.credits;
  pairs = [];
  threads = c.args.threads;
  segment = c.args.segment;
  last = c.args.last;
  resend = c.args.resend;
}

in_range : (c : goal.After-no_places) → AreInRange (asked c)
unfolding asked
in_range c = search rules

pub invariant_of-result : goal.invariant_of-result
unfolding asked
invariant_of-result c = record {
  range = in_range c;
  places = ap length c.no_places.ensures ∙ length-replicate 64 no_pair;
  count = omega arith;
  rest = c.no_places.ensures;
}

pub returns : goal.returns
unfolding asked
returns c = (refl, in_range c)
