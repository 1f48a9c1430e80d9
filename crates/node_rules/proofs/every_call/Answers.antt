use Rattle.node_rules.proofs.Sound.{rules_sound}
use Rattle.node_rules.proofs.Kept.{opening_kept}
use Rattle.node_rules.proofs.Over.{endpoint_over}
use Rattle.node_rules.proofs.Tracking.{opening_tracks, event_tracks}
use Rattle.node_rules.proofs.Frames.{call_framed}
use Rattle.node_rules.proofs.PlainAnswers.{answers_plain}
use Rattle.node_rules.proofs.every_call.Goals as goal

pub returns-clause-sound : goal.returns-clause-sound
returns-clause-sound c = rules_sound

pub returns-clause-opening : goal.returns-clause-opening
returns-clause-opening c = opening_kept

pub returns-clause-over : goal.returns-clause-over
returns-clause-over c = endpoint_over

pub returns-clause-tracked : goal.returns-clause-tracked
returns-clause-tracked c = (opening_tracks, event_tracks)

pub returns-clause-frame : goal.returns-clause-frame
returns-clause-frame c = call_framed

pub returns-clause-plain : goal.returns-clause-plain
returns-clause-plain c = answers_plain
