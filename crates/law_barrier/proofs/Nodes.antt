-- What holds of each node: the notifications of its barrier can be written, its requests for the handler of notifications say notifications
-- that its barrier sent, and its replies are no requests.
use Rattle.std.proofs.Common.{◌≡◌, inl, inr, ℕ, List, [], ◌∷◌, ◌++◌, Option, Some, None, true, false, Bool, refl, sym}
use Rattle.std.proofs.Common.{ap, ◌∙◌, subst, eqb, cond}
use Rattle.std.specs.Prelude.{slice_get}
use Rattle.std.proofs.lemmas.Bool.{cases_Bool, cases_eq}
use Rattle.base_lists.specs.Put.{put}
use Rattle.base_lists.proofs.Cases.{none_some}
use Rattle.base_lists.proofs.Numbered.{numbered_nil}
use Rattle.base_lists.proofs.Places.{slice_get_push}
use Rattle.base_lists.proofs.Put.{put_same, put_other}
use Rattle.wire_message.specs.Parameters.{Parameters}
use Rattle.wire_message.specs.Content.{Content, is_request}
use Rattle.wire_message.specs.declared.kind.Kind.TheVariants as kind
use Rattle.part_handlers.specs.declared.table.Entry.{Entry}
use Rattle.part_handlers.specs.declared.rules.Role.TheVariants as role
use Rattle.part_handlers.specs.Runs.{Meaning, Frame, Start, IsLawfulMeaning, IsLawful}
use Rattle.spec_node.specs.Record.{Run, Node}
use Rattle.spec_node.specs.Behaviour.{Contact}
use Rattle.part_barrier.proofs.Within.{stays_within}
use Rattle.part_barrier.specs.Within.{IsWithin}
use Rattle.node_core.specs.Kept.{Local, start_from, with_writes}
use Rattle.node_core.specs.Library.{is_library, library_reply, library_outcome, get_handler}
use Rattle.node_core.specs.HandlerRuns.{handlers_of, frame_of_run, landing, client_outcome, reply_or_ack, run_request}
use Rattle.node_rules.specs.EndpointLocal.{EndpointLocal}
use Rattle.node_rules.specs.EndpointRules.{Records, at_the_opening}
use Rattle.law_barrier.specs.BarrierLaws.{barriers_of}
use Rattle.law_barrier.proofs.Alone.{IsAlone, alone_opened, alone_changes, barriers_put}
use Rattle.law_barrier.proofs.Said.{AllSaid, said_grows}
use Rattle.law_barrier.proofs.Steps.{Added, Steps}
use Rattle.node_rules.proofs.Handled.{reply_asks_none}

-- ---- replies

-- no reply of a run is a request
abbrev pub AreReplies : (ℕ → List Run) → Type 0
AreReplies ran =
    (from place : ℕ) (run : Run) → slice_get (ran from) place ≡ Some run → is_request run.reply.kind ≡ false

pub replied_push : (ran : ℕ → List Run) (peer : ℕ) (last : Run) → AreReplies ran
    → is_request last.reply.kind ≡ false → AreReplies (put ran peer (ran peer ++ last ∷ []))
replied_push ran peer last replied new from = elim (cases_eq from peer) [
  | inl same ↦ subst Replies
      (sym (ap (put ran peer (ran peer ++ last ∷ [])) same ∙ put_same ran peer (ran peer ++ last ∷ []))) one_more
  | inr apart ↦ subst Replies (sym (put_other ran peer (ran peer ++ last ∷ []) from apart)) (replied from)
]
  where
    Replies : List Run → Type 0
    Replies runs = (place : ℕ) (run : Run) → slice_get runs place ≡ Some run → is_request run.reply.kind ≡ false

    one_more : Replies (ran peer ++ last ∷ [])
    one_more place run there = elim (slice_get_push (ran peer) last place run there) [
      | inl was ↦ replied peer place run was
      | inr is ↦ subst (λ (any : Run). is_request any.reply.kind ≡ false) is.1 new
    ]

-- what a handler of a client replies, or an Ack
lawful_reply : (frame : Frame) (reply : Option Content) → IsLawful frame reply
    → is_request (reply_or_ack reply).kind ≡ false
lawful_reply frame None lawful = refl
lawful_reply frame (Some content) lawful = reply_asks_none content.kind lawful.reply.kind

-- what a handler of the library replies
library_replies : (segment : List ℕ) (content : Content)
    → is_request (reply_or_ack (library_reply segment content)).kind ≡ false
library_replies segment content = elim (cases_Bool (eqb content.handler get_handler)) [
  | inl get ↦ rw get refl
  | inr other ↦ rw other refl
]

-- what a run of a request replies
pub run_replies : (settings : Parameters) (table : List (Option Entry)) (meaning : Meaning) (contact : Contact)
    (content : Content) (local : Local) → IsLawfulMeaning meaning
    → is_request (run_request (handlers_of settings table meaning) contact content local).1.kind ≡ false
run_replies settings table meaning contact content local lawful = either (is_library content.handler)
  where
    frame : Frame
    frame = frame_of_run (handlers_of settings table meaning) role.Request contact content

    start : Start
    start = start_from settings (with_writes local (landing content))

    either : (own : Bool)
        → is_request (reply_or_ack (cond own (library_outcome content start)
        (client_outcome (handlers_of settings table meaning) role.Request contact content start)).reply).kind ≡ false
    either true = library_replies start.segment content
    either false = lawful_reply frame (meaning content.handler frame start).reply
        (lawful content.handler frame start).reply

-- ---- nodes

pub record NodeHolds (settings : Parameters) (node : Node EndpointLocal) : Type 0 where
  pub within : IsWithin settings.nodes node.local.barrier
  pub said : AllSaid settings node.local.barrier.sent node.asked
  pub replied : AreReplies node.ran

-- a node becomes this one, whose barrier has that more
pub record NodeSteps
    (settings : Parameters) (records : Records) (node : ℕ) (added : Added) (newer : Node EndpointLocal) : Type 0 where
  pub holds : NodeHolds settings newer
  pub step : Steps settings.nodes (barriers_of records) node added newer.local.barrier

-- it does where its barrier becomes this one, and each notification that it asks to be told was sent before
pub stepping : (settings : Parameters) (records : Records) (node : ℕ) (added : Added) (newer : Node EndpointLocal)
    → Steps settings.nodes (barriers_of records) node added newer.local.barrier
    → AllSaid settings (barriers_of records node).sent newer.asked → AreReplies newer.ran
    → NodeSteps settings records node added newer
stepping settings records node added newer step said replied = record {
  holds = record {
    within = step.within;
    said = said_grows settings (barriers_of records node).sent newer.local.barrier.sent newer.asked step.grows said;
    replied = replied;
  };
  step = step;
}

-- ---- worlds

-- each node holds this, and the barriers are those of a run by themselves
pub record Holds (settings : Parameters) (records : Records) : Type 0 where
  pub alone : IsAlone settings.nodes (barriers_of records)
  pub nodes : (node : ℕ) → NodeHolds settings (records node)

pub opening_holds : (settings : Parameters) → Holds settings (at_the_opening settings)
opening_holds settings = record {
  alone = alone_opened settings.nodes;
  nodes = λ node. record {
    within = stays_within.0 settings.nodes;
    said = λ to number request there. absurd (numbered_nil number request there);
    replied = λ from place run there. absurd (none_some there);
  };
}

-- one node becomes another
pub put_holds : (settings : Parameters) (records : Records) (node : ℕ) (added : Added) (newer : Node EndpointLocal)
    → Holds settings records → NodeSteps settings records node added newer
    → Holds settings (put records node newer)
put_holds settings records node added newer holds step = record {
  alone = subst (IsAlone settings.nodes) (barriers_put records node newer)
      (alone_changes settings.nodes (barriers_of records) node newer.local.barrier step.step.changes holds.alone);
  nodes = λ other. elim (cases_eq other node) [
    | inl same ↦ subst (NodeHolds settings) (sym (ap (put records node newer) same ∙ put_same records node newer))
        step.holds
    | inr apart ↦ subst (NodeHolds settings) (sym (put_other records node newer other apart)) (holds.nodes other)
  ];
}
