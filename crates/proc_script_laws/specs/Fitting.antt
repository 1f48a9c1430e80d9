-- The handlers and settings that a text can say make a fitting job, and its calls say what fits.
-- Origin: this project's profile.
use Rattle.std.specs.Prelude.{ℤ, ◌≡◌, ◌<◌, ◌^◌, List, true}
use Rattle.std.specs.List.{AllByRecursion}
use Rattle.wire_message.specs.Parameters.{Parameters, AreInRange}
use Rattle.part_collective_area.specs.Served.{HasCollectives, ServesCollectives}
use Rattle.node_atomics.specs.Served.{HasBatches, ServesBatches}
use Rattle.law_atomics.specs.AtomicLaws.{AtomicsHold}
use Rattle.text_calls.specs.Calls.{IsCall}
use Rattle.text_job.specs.JobText.{IsHandler}
use Rattle.text_calls.specs.declared.scheduled.ScheduledCall.{ScheduledCall}
use Rattle.text_calls.specs.declared.scope.Scope.{Scope}
use Rattle.text_script.specs.Bodies.{script_meaning}
use Rattle.text_script.specs.Registration.{JobHandlers, registry_of}
use Rattle.text_script.specs.ScheduledCalls.{meant_by}
use Rattle.law_traces.specs.Fitting.{AreNumbers, CallFits, IsFittingMeaning, IsFittingJob}

-- where a body finds what fits, it leaves and says what fits
abbrev pub HandlersFit : Type 0
HandlersFit =
    (handlers : JobHandlers) → AllByRecursion IsHandler handlers.texts → IsFittingMeaning (script_meaning handlers)

-- settings within their limits, of the types of their places, and such handlers
abbrev pub JobsFit : Type 0
JobsFit =
    (settings : Parameters) (handlers : JobHandlers)
    → AreInRange settings → settings.job < 2 ^ 64 → settings.last < 2 ^ 64
    → AllByRecursion IsHandler handlers.texts
    → IsFittingJob settings (registry_of handlers).table (script_meaning handlers)

-- what a call that can be said says and writes fits, where the cells of its node are numbers of 32 bits
abbrev pub CallsFit : Type 0
CallsFit =
    (scope : Scope) (cells : List ℤ) (call : ScheduledCall) → AreNumbers cells → IsCall scope call
    → CallFits (meant_by cells call)

-- where a job has atomics, both handlers of batches are registered, and run as batches are served
abbrev pub BatchesAreServed : Type 0
BatchesAreServed =
    (handlers : JobHandlers) → handlers.atomics ≡ true
    → HasBatches (registry_of handlers).table × ServesBatches (script_meaning handlers)

-- so the laws of batches hold of every run with its handlers, where its settings are in range
abbrev pub BatchesHold : Type 0
BatchesHold =
    (settings : Parameters) (handlers : JobHandlers) → AreInRange settings → handlers.atomics ≡ true
    → AtomicsHold settings (registry_of handlers).table (script_meaning handlers)

-- where a job has an area of collectives, their handler is registered, and run as collectives are served
abbrev pub CollectivesAreServed : Type 0
CollectivesAreServed =
    (handlers : JobHandlers) → handlers.collect ≡ true
    → HasCollectives (registry_of handlers).table × ServesCollectives (script_meaning handlers)
