-- One entry more, by induction over the entries.
use Rattle.base_turns.proofs.Replays.{replayed-push, sent_in-push, got_in-push}
use Rattle.base_turns.proofs.laws.replay_law.Goals as goal

pub returns-clause-replayed : goal.returns-clause-replayed
returns-clause-replayed g c = λ s state entries last. replayed-push s state entries last

pub returns-clause-sent : goal.returns-clause-sent
returns-clause-sent g c = λ s state entries last. sent_in-push s state entries last

pub returns-clause-got : goal.returns-clause-got
returns-clause-got g c = λ entries last. got_in-push entries last
