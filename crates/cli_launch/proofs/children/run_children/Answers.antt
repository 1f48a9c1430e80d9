use Rattle.std.proofs.Common.{◌≡◌, ◌+◌, List, ◌∷◌, [], arith, sym, ap, subst, ◌∙◌, length, length-append}
use Rattle.std.proofs.lemmas.List.{length-map, map-append}
use Rattle.base_io.specs.Spawner.{ChildEnd}
use Rattle.cli_launch.specs.Children.{Spawns, end_of_child, ends_of, spawner_seen}
use Rattle.cli_launch.specs.declared.children.Child.{Child}
use Rattle.cli_launch.proofs.Told.{appended_within, spawns_more, spawns_none, told_so}
use Rattle.cli_launch.proofs.children.run_children.Goals as goal

pub loop-rank-init : goal.loop-rank-init
loop-rank-init g c =
    let items = c.in_ok-children.ensures.items in
    let started = c.start_children-started.ensures in
    let Seen = Spawns c.args.nodes c.args.port c.args.input.now (spawner_seen g.P.Spawner c.args.spawner.now)
    (spawner_seen g.P.Spawner c.start_children-started.new.spawner) c.start_children-started.result in
    record {
      spawns = subst (λ (all : List Child). Seen (ends_of all)) (sym items)
          (spawns_none _ _ _ _ _ _ started.few started.told started.later started.cause);
      count = ap length items;
      room = omega (arith, started.few, c.from.ensures, c.in_ok-children.ensures.capacity);
    }

pub push_reserved-requires : goal.push_reserved-requires
push_reserved-requires g c =
    let invariant = c.loop-rank.invariant in
    omega (arith, c.loop-rank.children.ok.0, invariant.count, invariant.room, c.loop-rank-test.true)

pub loop-rank-preserved : goal.loop-rank-preserved
loop-rank-preserved g c =
    let invariant = c.loop-rank.invariant in
    let finish = c.finish-answer.ensures in
    let before = c.loop-rank.children.items in
    let child : Child =
    record { rank = c.loop-rank.rank; output = c.finish-answer.new.into; answer = c.finish-answer.result } in
    let ends : ends_of c.push_reserved.new.self.items ≡ _ =
    ap ends_of c.push_reserved.ensures.items ∙ map-append end_of_child before (child ∷ []) in
    let Seen = Spawns c.args.nodes c.args.port c.args.input.now (spawner_seen g.P.Spawner c.args.spawner.now)
    (spawner_seen g.P.Spawner c.finish-answer.new.self) c.start_children-started.result in
    record {
      spawns = subst (λ (all : List ChildEnd). Seen all) (sym ends)
          (spawns_more _ _ _ _ _ _ _ (ends_of before) (end_of_child child) invariant.spawns
          (sym (length-map before end_of_child ∙ invariant.count))
          (omega (arith, length-map before end_of_child, invariant.count, c.loop-rank-test.true))
          (appended_within c.finish-answer.result _ _ c.new-output.ensures.items finish.output)
          (told_so c.loop-rank.rank c.finish-answer.result _ _ _ _ c.new-output.ensures.items finish.told)
          finish.later finish.cause);
      count = ap length c.push_reserved.ensures.items ∙ length-append before (child ∷ [])
          ∙ ap (λ n. n + 1) invariant.count;
      room = omega (arith, invariant.room, c.push_reserved.ensures.capacity);
    }

pub returns : goal.returns
returns g c =
    let invariant = c.loop-rank.invariant in
    let all : c.start_children-started.result ≡ length c.loop-rank.children.items =
    omega (arith, invariant.count, c.loop-rank-test.false, c.loop-rank.auto.rank-end) in
    subst (λ n. Spawns c.args.nodes c.args.port c.args.input.now (spawner_seen g.P.Spawner c.args.spawner.now)
    (spawner_seen g.P.Spawner c.loop-rank.spawner) n (ends_of c.loop-rank.children.items)) all invariant.spawns
