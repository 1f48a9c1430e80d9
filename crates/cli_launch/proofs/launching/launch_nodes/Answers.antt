use Rattle.std.proofs.Common.{List, arith, ap, inl, sym, subst}
use Rattle.std.specs.Prelude.{All}
use Rattle.std.proofs.lemmas.List.{length-map}
use Rattle.cli_launch.specs.Children.{AreRanked, IsOutputWithin, end_of_child, ends_of, spawner_seen}
use Rattle.cli_launch.specs.Outputs.{GiveOrNot, SomeFailed}
use Rattle.cli_launch.specs.declared.children.Child.{Child}
use Rattle.cli_launch.proofs.Ends.{has_ends, launched}
use Rattle.cli_launch.proofs.launching.launch_nodes.Goals as goal

pub returns-in_default : goal.returns-in_default
returns-in_default g c = record { ends = inl (ap (spawner_seen g.P.Spawner) c.in_default.ensures); traces = tt }

pub outputs_of-requires : goal.outputs_of-requires
outputs_of-requires g c =
    let same = c.deref-2.ensures.value in
    record {
      ranks = subst (λ (all : List Child). AreRanked (ends_of all)) (sym same) c.in-Ok.ensures.ranks;
      within = subst (λ (all : List Child). All IsOutputWithin (ends_of all)) (sym same) c.in-Ok.ensures.within;
    }

pub returns : goal.returns
returns g c =
    let job = c.args.job.now in
    let children = c.in-Ok.children.items in
    let none_so : SomeFailed (ends_of c.deref.result.now) → ⊥ =
    λ some. let no = c.if-has_failed.ensures.1 some in absurd (cc) in
    let none = subst (λ (all : List Child). SomeFailed (ends_of all) → ⊥) c.deref.ensures.value none_so in
    let given = subst (λ (all : List Child). GiveOrNot job (ends_of all) c.outputs_of.result) c.deref-2.ensures.value
    c.outputs_of.ensures.given in
    let count = length-map children end_of_child in
    let nodes = c.nodes-nodes.ensures.nodes in
    let spawned = has_ends job c.args.port c.args.input.now _ _ children c.nodes-nodes.result nodes c.in-Ok.ensures in
    record {
      ends = launched _ _ _ (ends_of children) c.outputs_of.result spawned
          (omega (arith, count, nodes, c.if-len-from.false, c.len.ensures, c.from.ensures, c.in-Ok.children.ok.0)) none
          given;
      traces = c.outputs_of.ensures.traces;
    }
