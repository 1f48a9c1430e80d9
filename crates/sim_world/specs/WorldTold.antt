-- The answers of a world's records, as the code tells them.
use Rattle.spec_network.specs.World.{WorldAnswer as RecordsAnswer, OfNode, Unsent}
use Rattle.node_rules.specs.EndpointRules.{answer_told}
use Rattle.node_rules.specs.declared.answer.Answer.{Answer}
use Rattle.sim_world.specs.declared.event.WorldAnswer.{WorldAnswer}
use Rattle.sim_world.specs.declared.event.WorldAnswer.TheVariants as world_answers

abbrev pub world_told : RecordsAnswer Answer → WorldAnswer
world_told (OfNode answer) = world_answers.Node (answer_told answer)
world_told Unsent = world_answers.Unsent
