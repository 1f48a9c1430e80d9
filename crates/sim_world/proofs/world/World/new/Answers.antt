use Rattle.std.proofs.Common.{◌≡◌, ◌*◌, length, replicate, rules, sym, ◌∙◌, subst}
use Rattle.sim_world.specs.Sizes.{AreOpening}
use Rattle.sim_world.proofs.Opening.{stands_opening, whole_opening}
use Rattle.sim_world.proofs.Headline.{headline}
use Rattle.law_transfers.proofs.Laws.{transfers_hold}
use Rattle.law_barrier.proofs.Laws.{barrier_holds}
use Rattle.sim_world.proofs.world.World.new.Goals as goal

pub invariant_of-result : goal.invariant_of-result
invariant_of-result c =
    let s = c.args.settings.now in
    let endpoints = c.in_ok-endpoints.endpoints.items in
    let zeros : c.in_ok-most.most.items ≡ replicate s.nodes 0 = c.in_ok-most.ensures.items_if_clones_equal (λ y h. h)
    ∙ search rules in
    let pairs : length c.in_ok-exchanges.exchanges.items ≡ s.nodes * s.nodes = search rules in
    let copied : c.in_ok-copy.copy ≡ c.args.table.now = search rules in
    let open_ = subst (λ t. AreOpening s t endpoints) (sym copied) c.in_ok-endpoints.ensures.each in
    whole_opening s c.in_ok-copy.copy endpoints c.in_ok-exchanges.exchanges.items c.in_ok-most.most.items
    c.nodes-nodes.ensures.range c.in_ok-endpoints.ensures.count open_ pairs c.in_ok-exchanges.ensures.1
    zeros

pub returns-clause-stands : goal.returns-clause-stands
returns-clause-stands c =
    let s = c.args.settings.now in
    let endpoints = c.in_ok-endpoints.endpoints.items in
    let zeros : c.in_ok-most.most.items ≡ replicate s.nodes 0 = c.in_ok-most.ensures.items_if_clones_equal (λ y h. h)
    ∙ search rules in
    let pairs : length c.in_ok-exchanges.exchanges.items ≡ s.nodes * s.nodes = search rules in
    let copied : c.in_ok-copy.copy ≡ c.args.table.now = search rules in
    let open_ = subst (λ t. AreOpening s t endpoints) (sym copied) c.in_ok-endpoints.ensures.each in
    stands_opening s c.in_ok-copy.copy endpoints c.in_ok-exchanges.exchanges.items
    c.in_ok-most.most.items c.nodes-nodes.ensures.range
    c.in_ok-endpoints.ensures.count open_ pairs c.in_ok-exchanges.ensures.1 zeros

pub returns-clause-headline : goal.returns-clause-headline
returns-clause-headline c = λ meaning events.
    headline c.args.settings.now c.in_ok-copy.copy meaning events c.nodes-nodes.ensures.range

pub returns-clause-laws : goal.returns-clause-laws
returns-clause-laws c = λ meaning lawful. (
  transfers_hold c.args.settings.now c.in_ok-copy.copy meaning c.nodes-nodes.ensures.range lawful,
  barrier_holds c.args.settings.now c.in_ok-copy.copy meaning c.nodes-nodes.ensures.range lawful,
)
