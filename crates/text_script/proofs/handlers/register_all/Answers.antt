use Rattle.text_script.specs.Places.{placing}
use Rattle.text_script.proofs.Placing.{both_turns}
use Rattle.text_script.proofs.handlers.register_all.Goals as goal

pub returns : goal.returns
returns c =
    both_turns c.args.services.atomics c.args.services.collect c.args.texts.now (placing c.args.table.now c.args.places.now)
    (placing c.register_those.new.table c.register_those.new.places)
    (placing c.register_those-2.new.table c.register_those-2.new.places)
    c.register_those.ensures.at c.register_those-2.ensures.at c.requires.table c.requires.places
