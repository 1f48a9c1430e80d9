-- The laws of messages hold in every run.
use Rattle.spec_network.proofs.PlainSteps.{step_plain}
use Rattle.node_rules.specs.EndpointLocal.{IsEndpointKept}
use Rattle.node_rules.specs.EndpointRules.{job_of}
use Rattle.node_rules.proofs.Sound.{rules_sound}
use Rattle.law_transfers.specs.History.{Runs, ComesBack}
use Rattle.law_transfers.specs.TransferLaws.{InEveryJob}
use Rattle.law_messages.specs.Events.{after_all}
use Rattle.law_messages.specs.MessageLaws.{MessagesHold}
use Rattle.law_messages.specs.Requests.{RunLeaves, ReplyLeaves}
use Rattle.law_messages.proofs.Accepted.{accepted_stays}
use Rattle.law_messages.proofs.Events.{all_holds, always_around}
use Rattle.law_messages.proofs.Repeats.{open_was_sent}
use Rattle.law_messages.proofs.Requests.{run_leaves, reply_leaves}
use Rattle.law_messages.proofs.Steps.{request_step}

pub messages_hold : InEveryJob MessagesHold
messages_hold settings table meaning range lawful =
    let job = job_of settings table meaning in
    let sound = rules_sound settings table meaning range lawful in
    record {
      steps = λ events next among.
          request_step job _ _ next.event _ (step_plain job (IsEndpointKept settings) (after_all job events) next sound
          (all_holds settings table meaning events sound among));
      accepted = λ before later event name among it.
          accepted_stays settings table meaning before later event name sound among it.asks it.answered;
      runs = λ events name request among asked.
          always_around settings table meaning
          (λ moment. Runs job name moment → RunLeaves settings table meaning name request.content moment) events sound
          among (λ moment around is runs.
          run_leaves settings table meaning name request (after_all job events) moment sound around is asked runs);
      replies = λ events name reply among replied.
          always_around settings table meaning
          (λ moment. ComesBack job name moment → ReplyLeaves settings table meaning name reply moment) events sound
          among (λ moment around is comes.
          reply_leaves settings table meaning name reply (after_all job events) moment sound around is replied comes);
      repeats = λ events node to slot bytes among is.
          open_was_sent settings table meaning events node to slot bytes sound among is;
    }
