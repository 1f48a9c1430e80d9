-- What a core tells of a call or a message before it comes.
use Rattle.std.specs.Prelude.{ℕ, ◌≡◌, ◌==◌, ◌&&◌, not, nat_lt, Bool, true, false, Option, is_some}
use Rattle.wire_message.specs.Parameters.{Parameters, credits_of}
use Rattle.part_handlers.specs.Runs.{Meaning}
pub use Rattle.part_window.specs.Due.{IsSoFrom}
use Rattle.spec_node.specs.declared.answer.Asked.{Asked as AskedAnswer}
use Rattle.spec_node.specs.declared.answer.Asked.TheVariants as asked
use Rattle.spec_node.specs.Executed.{greatest}
use Rattle.spec_node.specs.Behaviour.{Ask, Behaviour}
use Rattle.spec_node.specs.Record.{Node}
use Rattle.spec_node.specs.Step.{Site, request_answer, next_due, can_ask, is_exhausted}
use Rattle.spec_node.specs.NodeStep.{site_of}
use Rattle.node_core.specs.Kept.{Local}
use Rattle.node_core.specs.CoreState.{CoreState}
use Rattle.node_core.specs.CoreContracts.{ForItsRecord, core_job}

-- `from` is another node, its pair has the slot, and this is the greatest number of a request that ran there, 0 where
-- none did
abbrev pub IsLastRun : CoreState → (from slot number : ℕ) → Bool → Type 0
IsLastRun core from slot number is_last = ForItsRecord core (λ node.
    is_last ≡ ((nat_lt from core.settings.nodes && not (from == core.me))
    && (nat_lt slot (credits_of core.settings from core.me) && (number == greatest slot (node.ran from)))))

-- the request was accepted
abbrev pub is_accepted : AskedAnswer → Bool
is_accepted (asked.Accepted to slot number) = true
is_accepted _ = false

-- whether the request would be accepted
abbrev pub WouldAccept : CoreState → Ask → Bool → Type 0
WouldAccept core ask would = (meaning : Meaning) → ForItsRecord core (λ node.
    would ≡ is_accepted (request_answer (site_of (core_job meaning core) core.me) node ask))

-- a tick at this time sends a request again
abbrev pub IsDue : CoreState → (now : ℕ) → Bool → Type 0
IsDue core now is_due = ForItsRecord core (λ node. is_due ≡ is_some (next_due core.settings node now))

-- the time from which on a tick does that, as long as nothing happens to the node
abbrev pub IsNextDue : CoreState → Option ℕ → Type 0
IsNextDue core time = IsSoFrom (IsDue core) time

-- the node of a core, whatever it does beside its slots and numbers
abbrev pub site_with : CoreState → Behaviour Local → Site Local
site_with core behaviour = record { settings = core.settings; behaviour = behaviour; me = core.me }

-- another node is there, with a number and a credit left
abbrev pub CanAsk : CoreState → (to : ℕ) → Bool → Type 0
CanAsk core to can =
    (behaviour : Behaviour Local) → ForItsRecord core (λ node. can ≡ can_ask (site_with core behaviour) node to)

-- no node can be asked
abbrev pub CanAskNone : CoreState → Type 0
CanAskNone core = (to : ℕ) → CanAsk core to false

-- the node is another one, and no number is left for requests to it
abbrev pub other_exhausted : {Kept : Type 0} → Parameters → (me : ℕ) → Node Kept → (to : ℕ) → Bool
other_exhausted settings me node to =
    (nat_lt to settings.nodes && not (to == me)) && is_exhausted settings node to

abbrev pub IsExhausted : CoreState → (to : ℕ) → Bool → Type 0
IsExhausted core to exhausted = ForItsRecord core (λ node. exhausted ≡ other_exhausted core.settings core.me node to)
