use Rattle.node_vis.proofs.plan.Plan.begin.Goals as goal

pub returns-clause-same_reference : goal.returns-clause-same_reference
returns-clause-same_reference g c = c.begin_in_region.ensures.made.lent

pub returns-clause-same_site : goal.returns-clause-same_site
returns-clause-same_site g c = c.begin_in_region.ensures.made.site
