-- The laws of batches hold in every run.
use Rattle.std.proofs.Common.{◌≡◌, ◌++◌, ◌∷◌, List, Option, Some, subst}
use Rattle.wire_message.specs.Parameters.{Parameters}
use Rattle.part_handlers.specs.declared.table.Entry.{Entry}
use Rattle.part_handlers.specs.Runs.{Meaning}
use Rattle.spec_network.specs.PlainStep.{request_name}
use Rattle.node_rules.specs.EndpointRules.{job_of}
use Rattle.node_rules.proofs.Sound.{rules_sound}
use Rattle.law_transfers.proofs.Stretches.{AreSound}
use Rattle.law_messages.specs.Events.{after_all}
use Rattle.law_messages.specs.Requests.{accepted_request}
use Rattle.law_messages.proofs.Accepted.{accepted_stays}
use Rattle.node_atomics.specs.Asking.{batch_of}
use Rattle.node_atomics.specs.BatchRequests.{batch_content}
use Rattle.node_atomics.proofs.Spelling.{batch_again}
use Rattle.law_atomics.specs.AtomicLaws.{AcceptedBatchesGo, AtomicsHold, BatchesAreSaid, BatchesGo}
use Rattle.law_atomics.specs.AtomicLaws.{InEveryServingJob}
use Rattle.law_atomics.proofs.Going.{batches_go}
use Rattle.law_atomics.proofs.Own.{own_acts}
use Rattle.law_atomics.proofs.History.{words_are_made, olds_are_made}

pub batches_are_said : (settings : Parameters) → BatchesAreSaid settings
batches_are_said settings batch good same =
    subst (λ (at : Parameters). batch_of at (batch_content batch.request) ≡ Some batch.request) same
    (batch_again batch good)

-- what is accepted goes on
accepted_go : (settings : Parameters) (table : List (Option Entry)) (meaning : Meaning)
    → AreSound settings table meaning → BatchesGo (job_of settings table meaning)
    → AcceptedBatchesGo (job_of settings table meaning)
accepted_go settings table meaning sound go before later event name batch among it asks =
    let job = job_of settings table meaning in
    go (before ++ event ∷ later) (request_name name.from name.to name.number) among (record {
      request = accepted_request job (after_all job before) name;
      accepted = accepted_stays settings table meaning before later event name sound among it.asks it.answered;
      batch = batch;
      asks = asks;
    })

pub atomics_hold : InEveryServingJob AtomicsHold
atomics_hold settings table meaning range lawful has serves =
    let sound = rules_sound settings table meaning range lawful in
    let go = batches_go settings table meaning sound has serves in
    record {
      said = batches_are_said settings;
      goes = go;
      accepted = accepted_go settings table meaning sound go;
      own = own_acts settings table meaning sound has serves;
      word = words_are_made settings table meaning sound;
      olds = olds_are_made settings table meaning sound;
    }
