-- None before this one has the name.
use Rattle.std.proofs.Common.{◌≡◌}
use Rattle.std.specs.Prelude.{drop}
use Rattle.text_calls.specs.Names.{first_named}
use Rattle.text_calls.proofs.names.first_named.Given as goal

abbrev pub invariant-loop-one : goal.invariant-loop-one
invariant-loop-one g l = record {
  rest : first_named g.N.HasName.name_of (drop l.one-index l.all) l.name
      ≡ first_named g.N.HasName.name_of l.all l.name;
}
