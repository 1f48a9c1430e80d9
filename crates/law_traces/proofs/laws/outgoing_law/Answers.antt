-- What a turn sent.
use Rattle.node_rules.specs.EndpointLocal.{IsEndpointKept}
use Rattle.node_rules.specs.EndpointRules.{job_of}
use Rattle.node_rules.proofs.Sound.{rules_sound}
use Rattle.law_traces.proofs.Outgoings.{sent_stand, turns_come_first}
use Rattle.law_traces.proofs.laws.outgoing_law.Goals as goal

pub returns : goal.returns
returns g c = record {
  first = λ job me thread now state got known bytes. turns_come_first job me thread now state got known bytes;
  stands = λ settings table meaning me now events node range lawful first well.
      sent_stand (job_of settings table meaning) (IsEndpointKept settings) me now events node
      (rules_sound settings table meaning range lawful) first well;
}
