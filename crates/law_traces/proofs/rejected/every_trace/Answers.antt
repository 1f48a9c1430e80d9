-- The law of rejected traces.
use Rattle.law_traces.proofs.Striking.{replay_same, turn_same}
use Rattle.law_traces.proofs.rejected.every_trace.Goals as goal

pub returns : goal.returns
returns g c = record {
  turn = λ job me one other entry alike. turn_same job me one other entry alike;
  replay = λ job me one other entries alike. replay_same job me one other entries alike;
}
