-- Each accepted request of the library's handler of notifications says a notification that the node's barrier sent.
use Rattle.std.proofs.Common.{◌≡◌, inl, inr, ℕ, List, [], ◌∷◌, ◌++◌, Some, sym, ap, ◌∙◌, subst}
use Rattle.std.specs.Prelude.{slice_get}
use Rattle.std.proofs.lemmas.Bool.{cases_eq}
use Rattle.base_lists.specs.Numbered.{element_at, change}
use Rattle.base_lists.specs.Put.{put}
use Rattle.base_lists.proofs.Numbered.{numbered_push, numbered-change}
use Rattle.base_lists.proofs.Put.{put_same, put_other}
use Rattle.wire_message.specs.Parameters.{Parameters}
use Rattle.wire_message.specs.Content.{Content}
use Rattle.wire_message.specs.Notifications.{IsNotification, notification_arguments}
use Rattle.spec_node.specs.Record.{Request}
use Rattle.part_barrier.specs.Record.{SentNotification}
use Rattle.node_core.specs.Library.{notification_handler}

-- the content says one of these notifications
pub record IsSaid (settings : Parameters) (sent : List SentNotification) (content : Content) : Type 0 where
  pub place : ℕ
  pub one : SentNotification
  pub there : slice_get sent place ≡ Some one
  pub notification : IsNotification settings.nodes one.notification
  pub args : content.args ≡ notification_arguments settings.version one.notification

-- where it is for the handler of notifications
abbrev pub IsSaidNotification : Parameters → (sent : List SentNotification) → Content → Type 0
IsSaidNotification settings sent content = content.handler ≡ notification_handler → IsSaid settings sent content

-- so does each of these requests
abbrev pub AreSaid : Parameters → (sent : List SentNotification) → List Request → Type 0
AreSaid settings sent requests =
    (number : ℕ) (request : Request) → element_at requests number ≡ Some request
    → IsSaidNotification settings sent request.content

-- of each peer
abbrev pub AllSaid : Parameters → (sent : List SentNotification) → (ℕ → List Request) → Type 0
AllSaid settings sent asked = (to : ℕ) → AreSaid settings sent (asked to)

-- the one list has what the other one has, at the same places
abbrev pub Grows : (sent newer : List SentNotification) → Type 0
Grows sent newer = (place : ℕ) (one : SentNotification) → slice_get sent place ≡ Some one → slice_get newer place ≡ Some one

-- more notifications were sent
pub said_grows : (settings : Parameters) (sent newer : List SentNotification) (asked : ℕ → List Request) → Grows sent newer
    → AllSaid settings sent asked → AllSaid settings newer asked
said_grows settings sent newer asked grows said to number request there is =
    let was = said to number request there is in
    record {
      place = was.place;
      one = was.one;
      there = grows was.place was.one was.there;
      notification = was.notification;
      args = was.args;
    }

-- what one peer was asked is another list
pub said_put : (settings : Parameters) (sent : List SentNotification) (asked : ℕ → List Request) (to : ℕ)
    (requests : List Request) → AllSaid settings sent asked → AreSaid settings sent requests
    → AllSaid settings sent (put asked to requests)
said_put settings sent asked to requests said new other = elim (cases_eq other to) [
  | inl same ↦ subst (AreSaid settings sent) (sym (ap (put asked to requests) same ∙ put_same asked to requests)) new
  | inr apart ↦ subst (AreSaid settings sent) (sym (put_other asked to requests other apart)) (said other)
]

-- one request more
pub said_push : (settings : Parameters) (sent : List SentNotification) (requests : List Request) (last : Request)
    → AreSaid settings sent requests → IsSaidNotification settings sent last.content
    → AreSaid settings sent (requests ++ last ∷ [])
said_push settings sent requests last said new number request there =
    elim (numbered_push requests last number request there) [
      | inl was ↦ said number request was
      | inr is ↦ subst (λ (any : Request). IsSaidNotification settings sent any.content) is.1 new
    ]

-- one is changed, and says the same
pub said_change : (settings : Parameters) (sent : List SentNotification) (requests : List Request) (f : Request → Request)
    (at : ℕ) → ((request : Request) → (f request).content ≡ request.content) → AreSaid settings sent requests
    → AreSaid settings sent (change f requests at)
said_change settings sent requests f at keeps said number request there =
    let was = numbered-change f requests at number request there in
    let same : request.content ≡ was.0.content = elim was.2 [
      | inl is ↦ ap (λ (any : Request). any.content) is.1
      | inr is ↦ ap (λ (any : Request). any.content) is.1 ∙ keeps was.0
    ] in
    subst (IsSaidNotification settings sent) (sym same) (said number was.0 was.1)
