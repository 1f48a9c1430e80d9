-- A tick, and another call of a thread, by two versions.
use Rattle.std.proofs.Common.{◌≡◌, ℕ, zero, suc, Bool, List, ◌++◌, map}
use Rattle.std.proofs.Common.{Option, None, Some, refl, ap, ◌∙◌}
use Rattle.std.specs.Prelude.{option_map}
use Rattle.std.proofs.Math.Path.{fun_ext}
use Rattle.std.proofs.lemmas.List.{length-map}
use Rattle.wire_message.specs.Content.{Content}
use Rattle.base_lists.specs.Numbered.{change}
use Rattle.base_lists.specs.Put.{put}
use Rattle.spec_node.specs.Record.{Request, Node}
use Rattle.spec_node.specs.Requests.{Due, all_dues, dues, sent_at, next_claim, earliest}
use Rattle.spec_node.specs.Behaviour.{Sending}
use Rattle.spec_node.specs.Step.{TickChoice, Retransmits, Sends, Rests, choice_of, tick_choice, tick_answer, after_tick}
use Rattle.spec_node.specs.Step.{next_due, can_ask, is_exhausted, after_sending, with_asked, with_local, with_request}
use Rattle.spec_node.specs.Step.{request_slot}
use Rattle.spec_node.specs.NodeStep.{site_of, call_outcome}
use Rattle.node_rules.specs.EndpointLocal.{EndpointLocal, IsEndpointKept}
use Rattle.node_rules.specs.EndpointRules.{OtherCall}
use Rattle.sim_versions.specs.Respelled.{Versions, one_job, other_job, respell_node, respell_request, respell_sending}
use Rattle.sim_versions.proofs.Lists.{taken-respelled, dues-respelled, change-respelled}
use Rattle.sim_versions.proofs.Asking.{put-map, same_credits, with_request-respelled}

-- ---- what a tick does

all_dues-respelled : (spell : Content → Content) (now resend : ℕ) (asked : ℕ → List Request) (peers : ℕ)
    → all_dues now resend (λ peer. map (respell_request spell) (asked peer)) peers ≡ all_dues now resend asked peers
all_dues-respelled spell now resend asked zero = refl
all_dues-respelled spell now resend asked (suc peer) =
    ap (λ (xs : List Due). xs ++ dues now resend peer 1 (map (respell_request spell) (asked peer)))
    (all_dues-respelled spell now resend asked peer)
    ∙ ap (λ (xs : List Due). all_dues now resend asked peer ++ xs) (dues-respelled spell now resend peer 1 (asked peer))

-- who can be asked
can_alike : (v : Versions) (me : ℕ) (node : Node EndpointLocal)
    → can_ask (site_of (other_job v) me) (respell_node v.spell node) ≡ can_ask (site_of (one_job v) me) node
can_alike v me node = fun_ext (λ to.
    rw (length-map (node.asked to) (respell_request v.spell))
    (rw (taken-respelled v.spell (node.asked to))
    (rw (same_credits v.settings v.version me to) refl)))

abbrev respell_choice : (Content → Content) → TickChoice → TickChoice
respell_choice spell (Retransmits due) = Retransmits due
respell_choice spell (Sends sending) = Sends (respell_sending spell sending)
respell_choice spell Rests = Rests

choice-respelled : (spell : Content → Content) (due : Option Due) (sending : Option Sending)
    → choice_of due (option_map (respell_sending spell) sending) ≡ respell_choice spell (choice_of due sending)
choice-respelled spell (Some due) None = refl
choice-respelled spell (Some due) (Some sending) = refl
choice-respelled spell None (Some sending) = refl
choice-respelled spell None None = refl

choice_alike : (v : Versions) (me : ℕ) (node : Node EndpointLocal) (now : ℕ) → IsEndpointKept v.settings me node.local
    → tick_choice (site_of (other_job v) me) (respell_node v.spell node) now
    ≡ respell_choice v.spell (tick_choice (site_of (one_job v) me) node now)
choice_alike v me node now kept =
    let due = next_due v.settings node now in
    let can = can_ask (site_of (one_job v) me) node in
    ap (λ (xs : List Due). choice_of (earliest xs)
    (v.other.messages.next me (can_ask (site_of (other_job v) me) (respell_node v.spell node)) node.local))
    (all_dues-respelled v.spell now v.settings.resend node.asked v.settings.nodes)
    ∙ (ap (λ (able : ℕ → Bool). choice_of due (v.other.messages.next me able node.local)) (can_alike v me node)
    ∙ (ap (choice_of due) (v.agree.next me can node.local kept)
    ∙ choice-respelled v.spell due (v.one.messages.next me can node.local)))

-- ---- how it is answered

choice_answers : (v : Versions) (node : Node EndpointLocal) (choice : TickChoice)
    → tick_answer v.other.messages (respell_node v.spell node) (respell_choice v.spell choice)
    ≡ tick_answer v.one.messages node choice
choice_answers v node (Retransmits due) = refl
choice_answers v node Rests = refl
choice_answers v node (Sends sending) =
    rw (taken-respelled v.spell (node.asked sending.to))
    (v.agree.sends_as sending.content (request_slot sending.to (next_claim (node.asked sending.to)).slot))

pub tick_answers : (v : Versions) (me : ℕ) (node : Node EndpointLocal) (now : ℕ)
    → IsEndpointKept v.settings me node.local
    → tick_answer v.other.messages (respell_node v.spell node)
    (tick_choice (site_of (other_job v) me) (respell_node v.spell node) now)
    ≡ tick_answer v.one.messages node (tick_choice (site_of (one_job v) me) node now)
tick_answers v me node now kept =
    ap (tick_answer v.other.messages (respell_node v.spell node)) (choice_alike v me node now kept)
    ∙ choice_answers v node (tick_choice (site_of (one_job v) me) node now)

-- ---- what it leaves

sending_leaves : (v : Versions) (me : ℕ) (node : Node EndpointLocal) (now : ℕ) (sending : Sending)
    → after_sending (site_of (other_job v) me) (respell_node v.spell node) now (respell_sending v.spell sending)
    ≡ respell_node v.spell (after_sending (site_of (one_job v) me) node now sending)
sending_leaves v me node now sending =
    let contact = with_asked me node sending.to in
    rw (taken-respelled v.spell (node.asked sending.to))
    (rw (length-map (node.asked sending.to) (respell_request v.spell))
    (ap (λ (n : Node EndpointLocal). with_local n
    (v.other.messages.issued contact (v.spell sending.content) node.local))
    (with_request-respelled v.spell node now sending.to contact.slot sending.content)
    ∙ ap (with_local (respell_node v.spell (with_request node now sending.to contact.slot sending.content)))
    (v.agree.issued contact sending.content node.local)))

choice_leaves : (v : Versions) (me : ℕ) (node : Node EndpointLocal) (now : ℕ) (choice : TickChoice)
    → after_tick (site_of (other_job v) me) (respell_node v.spell node) now (respell_choice v.spell choice)
    ≡ respell_node v.spell (after_tick (site_of (one_job v) me) node now choice)
choice_leaves v me node now (Retransmits due) =
    ap (λ (asked : ℕ → List Request). record (respell_node v.spell node) { asked = asked })
    (ap (put (respell_node v.spell node).asked due.peer)
    (change-respelled v.spell (sent_at now) (λ r. refl) (node.asked due.peer) due.number)
    ∙ put-map (respell_request v.spell) node.asked due.peer (change (sent_at now) (node.asked due.peer) due.number))
choice_leaves v me node now Rests = refl
choice_leaves v me node now (Sends sending) = sending_leaves v me node now sending

pub tick_leaves : (v : Versions) (me : ℕ) (node : Node EndpointLocal) (now : ℕ)
    → IsEndpointKept v.settings me node.local
    → after_tick (site_of (other_job v) me) (respell_node v.spell node) now
    (tick_choice (site_of (other_job v) me) (respell_node v.spell node) now)
    ≡ respell_node v.spell
    (after_tick (site_of (one_job v) me) node now (tick_choice (site_of (one_job v) me) node now))
tick_leaves v me node now kept =
    ap (after_tick (site_of (other_job v) me) (respell_node v.spell node) now) (choice_alike v me node now kept)
    ∙ choice_leaves v me node now (tick_choice (site_of (one_job v) me) node now)

-- ---- another call of a thread

exhausted_alike : (v : Versions) (node : Node EndpointLocal)
    → is_exhausted (record v.settings { version = v.version }) (respell_node v.spell node) ≡ is_exhausted v.settings node
exhausted_alike v node = fun_ext (λ to. rw (length-map (node.asked to) (respell_request v.spell)) refl)

pub done_alike : (v : Versions) (me : ℕ) (node : Node EndpointLocal) (thread : ℕ) (call : OtherCall)
    → call_outcome (other_job v) me (respell_node v.spell node) thread call ≡ call_outcome (one_job v) me node thread call
done_alike v me node thread call =
    ap (λ (exhausted : ℕ → Bool). v.other.does me exhausted thread call node.local) (exhausted_alike v node)
    ∙ v.agree.does me (is_exhausted v.settings node) thread call node.local
