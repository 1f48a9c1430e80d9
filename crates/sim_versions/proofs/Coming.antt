-- A message that is delivered, by two versions.
use Rattle.std.proofs.Common.{◌≡◌, ℕ, ◌==◌, Bool, true, false, List, [], ◌∷◌, ◌++◌, map}
use Rattle.std.proofs.Common.{Option, None, Some, refl, sym, ap, ◌∙◌}
use Rattle.std.specs.Prelude.{if◌then◌else◌, is_none, nat_lt}
use Rattle.std.proofs.lemmas.Bool.{and_parts}
use Rattle.std.proofs.lemmas.List.{map-append}
use Rattle.wire_message.specs.Content.{Content, is_request}
use Rattle.wire_message.specs.Message.{Message}
use Rattle.base_lists.specs.Numbered.{element_at, change}
use Rattle.base_lists.specs.Put.{put}
use Rattle.spec_node.specs.Record.{Request, Run, Node}
use Rattle.spec_node.specs.Requests.{is_open, as_back}
use Rattle.spec_node.specs.Executed.{greatest}
use Rattle.spec_node.specs.Behaviour.{Contact, asks_well, replies_well}
use Rattle.spec_node.specs.Invariant.{request_message, reply_message}
use Rattle.spec_node.specs.Step.{Verdict, Duplicated, Passed, Runs, Missed, Returns, verdict, answer_by}
use Rattle.spec_node.specs.Step.{after_delivery, first_why, unless_refused, unless_waiting, verdict_of_number, address_fault}
use Rattle.spec_node.specs.Step.{with_run, with_back, with_sender, reply_slot}
use Rattle.spec_node.specs.NodeStep.{site_of}
use Rattle.spec_node.specs.declared.answer.Why.{Why}
use Rattle.node_rules.specs.EndpointLocal.{EndpointLocal}
use Rattle.sim_versions.specs.Respelled.{IsNotificationIfAny}
use Rattle.sim_versions.specs.Respelled.{Versions, one_job, other_job, respell_node, respell_request, respell_run}
use Rattle.sim_versions.proofs.Lists.{greatest-respelled, open_at-respelled, change-respelled}
use Rattle.sim_versions.proofs.Asking.{put-map, same_credits}
use Rattle.base_lists.proofs.Cases.{none_is}

-- ---- requests

-- a request of this number that a node asked of the node `me`, as each version delivers it
abbrev one_request : Versions → (me from number : ℕ) → Request → Message
one_request v me from number request = request_message v.settings from me number request

abbrev other_request : Versions → (me from number : ℕ) → Request → Message
other_request v me from number request =
    request_message (record v.settings { version = v.version }) from me number (respell_request v.spell request)

-- what is wrong with where it goes and comes from
why_request : (v : Versions) (me from number : ℕ) (request : Request)
    → address_fault (record v.settings { version = v.version }) me (other_request v me from number request)
    ≡ address_fault v.settings me (one_request v me from number request)
why_request v me from number request =
    rw (v.agree.kind request.content)
    rw (same_credits v.settings v.version from me)
    rw (same_credits v.settings v.version me from)
    refl

-- the verdict on a request that may be delivered
abbrev on_request : (why : Option Why) (same less : Bool) (lock : Option ℕ) → Verdict
on_request why same less lock =
    unless_refused why (if same then Duplicated else (if less then Passed else unless_waiting lock Runs))

abbrev request_verdict : Versions → (me : ℕ) → Node EndpointLocal → (from number : ℕ) → Request → Verdict
request_verdict v me node from number request =
    on_request (address_fault v.settings me (one_request v me from number request))
    (number == greatest request.slot (node.ran from)) (nat_lt number (greatest request.slot (node.ran from)))
    (v.one.messages.waits request.content node.local)

first_none : (reason : Option Why) → first_why reason None ≡ reason
first_none None = refl
first_none (Some reason) = refl

-- a request that isn't refused for its content
asks_verdict : (why refused : Option Why) (request : Bool) (asked taken : Verdict) → refused ≡ None → request ≡ true
    → unless_refused (first_why why refused) (if request then asked else taken) ≡ unless_refused why asked
asks_verdict why refused request asked taken none asks =
    rw none (rw asks (ap (λ w. unless_refused w asked) (first_none why)))

one_verdict : (v : Versions) (me : ℕ) (node : Node EndpointLocal) (from number : ℕ) (request : Request)
    → asks_well v.one.messages.refuses request.content ≡ true
    → verdict (site_of (one_job v) me) node (one_request v me from number request)
    ≡ request_verdict v me node from number request
one_verdict v me node from number request well =
    let parts = and_parts (is_request request.content.kind) (is_none (v.one.messages.refuses request.content)) well in
    asks_verdict (address_fault v.settings me (one_request v me from number request))
    (v.one.messages.refuses request.content) (is_request request.content.kind) _ _
    (none_is (v.one.messages.refuses request.content) parts.1) parts.0

other_verdict : (v : Versions) (me : ℕ) (node : Node EndpointLocal) (from number : ℕ) (request : Request)
    → IsNotificationIfAny v.settings request.content → asks_well v.one.messages.refuses request.content ≡ true
    → verdict (site_of (other_job v) me) (respell_node v.spell node) (other_request v me from number request)
    ≡ request_verdict v me node from number request
other_verdict v me node from number request noted well =
    let parts = and_parts (is_request request.content.kind) (is_none (v.one.messages.refuses request.content)) well in
    let other = other_request v me from number request in
    let fault = address_fault (record v.settings { version = v.version }) me other in
    let last = greatest request.slot (map (respell_run v.spell) (node.ran from)) in
    let lock = v.other.messages.waits (v.spell request.content) node.local in
    let spelled : unless_refused fault (verdict_of_number number last lock) ≡ request_verdict v me node from number request =
    rw (v.agree.waits request.content node.local)
    (rw (greatest-respelled v.spell request.slot (node.ran from))
    (rw (why_request v me from number request) refl))
    in
    asks_verdict fault (v.other.messages.refuses (v.spell request.content)) (is_request (v.spell request.content).kind)
    _ _
    (v.agree.refuses request.content noted well) (ap is_request (v.agree.kind request.content) ∙ parts.0)
    ∙ spelled

-- one run more
with_run-respelled : (spell : Content → Content) (node : Node EndpointLocal) (contact : Contact) (content : Content)
    (out : EndpointLocal × Content)
    → with_run (respell_node spell node) contact (spell content) out
    ≡ respell_node spell (with_run node contact content out)
with_run-respelled spell node contact content out =
    let run : Run = record { number = contact.number; slot = contact.slot; content = content; reply = out.1 } in
    ap (λ (ran : ℕ → List Run). record (respell_node spell node) { ran = ran; local = out.0 })
    (ap (put (respell_node spell node).ran contact.peer)
    (sym (map-append (respell_run spell) (node.ran contact.peer) (run ∷ [])))
    ∙ put-map (respell_run spell) node.ran contact.peer (node.ran contact.peer ++ run ∷ []))

-- what a verdict on a request leaves
request_leaves : (v : Versions) (me : ℕ) (node : Node EndpointLocal) (from number : ℕ) (request : Request)
    → IsNotificationIfAny v.settings request.content → asks_well v.one.messages.refuses request.content ≡ true
    → (why : Option Why) (same less : Bool) (lock : Option ℕ)
    → after_delivery (site_of (other_job v) me) (respell_node v.spell node) (other_request v me from number request)
    (on_request why same less lock)
    ≡ respell_node v.spell (after_delivery (site_of (one_job v) me) node (one_request v me from number request)
    (on_request why same less lock))
request_leaves v me node from number request noted well (Some reason) same less lock = refl
request_leaves v me node from number request noted well None true less lock = refl
request_leaves v me node from number request noted well None false true lock = refl
request_leaves v me node from number request noted well None false false (Some k) = refl
request_leaves v me node from number request noted well None false false None =
    let contact = with_sender me (one_request v me from number request) in
    ap (with_run (respell_node v.spell node) contact (v.spell request.content))
    (v.agree.run contact request.content node.local noted well)
    ∙ with_run-respelled v.spell node contact request.content
    (v.one.messages.run contact request.content node.local)

-- how it is answered
request_answers : (v : Versions) (me : ℕ) (from number : ℕ) (request : Request)
    → IsNotificationIfAny v.settings request.content
    → (why : Option Why) (same less : Bool) (lock : Option ℕ)
    → answer_by v.other.messages (other_request v me from number request) (on_request why same less lock)
    ≡ answer_by v.one.messages (one_request v me from number request) (on_request why same less lock)
request_answers v me from number request noted (Some reason) same less lock = refl
request_answers v me from number request noted None true less lock = refl
request_answers v me from number request noted None false true lock = refl
request_answers v me from number request noted None false false (Some k) = refl
request_answers v me from number request noted None false false None =
    v.agree.runs_as request.content (reply_slot from request.slot) noted

-- a request that comes is answered alike, and leaves the same
pub request_comes : (v : Versions) (me : ℕ) (node : Node EndpointLocal) (from number : ℕ) (request : Request)
    → IsNotificationIfAny v.settings request.content → asks_well v.one.messages.refuses request.content ≡ true
    → (answer_by v.other.messages (other_request v me from number request)
    (verdict (site_of (other_job v) me) (respell_node v.spell node) (other_request v me from number request))
    ≡ answer_by v.one.messages (one_request v me from number request)
    (verdict (site_of (one_job v) me) node (one_request v me from number request)))
    × (after_delivery (site_of (other_job v) me) (respell_node v.spell node) (other_request v me from number request)
    (verdict (site_of (other_job v) me) (respell_node v.spell node) (other_request v me from number request))
    ≡ respell_node v.spell (after_delivery (site_of (one_job v) me) node (one_request v me from number request)
    (verdict (site_of (one_job v) me) node (one_request v me from number request))))
request_comes v me node from number request noted well =
    let one = one_verdict v me node from number request well in
    let other = other_verdict v me node from number request noted well in
    let why = address_fault v.settings me (one_request v me from number request) in
    let same = number == greatest request.slot (node.ran from) in
    let less = nat_lt number (greatest request.slot (node.ran from)) in
    let lock = v.one.messages.waits request.content node.local in (
      ap (answer_by v.other.messages (other_request v me from number request)) other
          ∙ (request_answers v me from number request noted why same less lock
          ∙ ap (answer_by v.one.messages (one_request v me from number request)) (sym one)),
      ap (after_delivery (site_of (other_job v) me) (respell_node v.spell node)
          (other_request v me from number request)) other
          ∙ (request_leaves v me node from number request noted well why same less lock
          ∙ ap (λ verdict. respell_node v.spell (after_delivery (site_of (one_job v) me) node
          (one_request v me from number request) verdict)) (sym one)),
    )

-- ---- replies

-- the reply of a run of the node `to`, as each version delivers it to the node `me`
abbrev one_reply : Versions → (me to : ℕ) → Run → Message
one_reply v me to run = reply_message v.settings me to run

abbrev other_reply : Versions → (me to : ℕ) → Run → Message
other_reply v me to run = reply_message (record v.settings { version = v.version }) me to (respell_run v.spell run)

why_reply : (v : Versions) (me to : ℕ) (run : Run)
    → address_fault (record v.settings { version = v.version }) me (other_reply v me to run)
    ≡ address_fault v.settings me (one_reply v me to run)
why_reply v me to run =
    rw (same_credits v.settings v.version to me)
    (rw (same_credits v.settings v.version me to) refl)

abbrev on_reply : (why : Option Why) (open_ : Bool) (lock : Option ℕ) → Verdict
on_reply why open_ lock = unless_refused why (if open_ then unless_waiting lock Returns else Missed)

abbrev reply_verdict : Versions → (me : ℕ) → Node EndpointLocal → (to : ℕ) → Run → Verdict
reply_verdict v me node to run =
    on_reply (address_fault v.settings me (one_reply v me to run))
    (is_open run.slot (element_at (node.asked to) run.number)) (v.one.messages.waits run.reply node.local)

not_true : (b : Bool) → (if b then false else true) ≡ true → b ≡ false
not_true true e = absurd (cc)
not_true false e = refl

-- a reply that isn't refused for its content
replies_verdict : (why refused : Option Why) (request : Bool) (asked taken : Verdict) → refused ≡ None → request ≡ false
    → unless_refused (first_why why refused) (if request then asked else taken) ≡ unless_refused why taken
replies_verdict why refused request asked taken none replies =
    rw none (rw replies (ap (λ w. unless_refused w taken) (first_none why)))

one_reply_verdict : (v : Versions) (me : ℕ) (node : Node EndpointLocal) (to : ℕ) (run : Run)
    → replies_well v.one.messages.refuses run.reply ≡ true
    → verdict (site_of (one_job v) me) node (one_reply v me to run) ≡ reply_verdict v me node to run
one_reply_verdict v me node to run well =
    let parts =
    and_parts (if is_request run.reply.kind then false else true) (is_none (v.one.messages.refuses run.reply)) well
    in
    replies_verdict (address_fault v.settings me (one_reply v me to run)) (v.one.messages.refuses run.reply)
    (is_request run.reply.kind) _ _
    (none_is (v.one.messages.refuses run.reply) parts.1) (not_true (is_request run.reply.kind) parts.0)

other_reply_verdict : (v : Versions) (me : ℕ) (node : Node EndpointLocal) (to : ℕ) (run : Run)
    → replies_well v.one.messages.refuses run.reply ≡ true
    → verdict (site_of (other_job v) me) (respell_node v.spell node) (other_reply v me to run)
    ≡ reply_verdict v me node to run
other_reply_verdict v me node to run well =
    let parts =
    and_parts (if is_request run.reply.kind then false else true) (is_none (v.one.messages.refuses run.reply)) well
    in
    let fault = address_fault (record v.settings { version = v.version }) me (other_reply v me to run) in
    let open_ = is_open run.slot (element_at (map (respell_request v.spell) (node.asked to)) run.number) in
    let lock = v.other.messages.waits run.reply node.local in
    let spelled : on_reply fault open_ lock ≡ reply_verdict v me node to run =
    rw (v.agree.waits_reply run.reply node.local)
    (rw (open_at-respelled v.spell run.slot (node.asked to) run.number)
    (rw (why_reply v me to run) refl))
    in
    replies_verdict fault (v.other.messages.refuses run.reply) (is_request run.reply.kind) _ _
    (v.agree.refuses_reply run.reply well) (not_true (is_request run.reply.kind) parts.0)
    ∙ spelled

-- a request that is back
with_back-respelled : (spell : Content → Content) (node : Node EndpointLocal) (peer number : ℕ) (local : EndpointLocal)
    → with_back (respell_node spell node) peer number local ≡ respell_node spell (with_back node peer number local)
with_back-respelled spell node peer number local =
    ap (λ (asked : ℕ → List Request). record (respell_node spell node) { asked = asked; local = local })
    (ap (put (respell_node spell node).asked peer)
    (change-respelled spell as_back (λ r. refl) (node.asked peer) number)
    ∙ put-map (respell_request spell) node.asked peer (change as_back (node.asked peer) number))

reply_leaves : (v : Versions) (me : ℕ) (node : Node EndpointLocal) (to : ℕ) (run : Run)
    → (why : Option Why) (open_ : Bool) (lock : Option ℕ)
    → after_delivery (site_of (other_job v) me) (respell_node v.spell node) (other_reply v me to run)
    (on_reply why open_ lock)
    ≡ respell_node v.spell
    (after_delivery (site_of (one_job v) me) node (one_reply v me to run) (on_reply why open_ lock))
reply_leaves v me node to run (Some reason) open_ lock = refl
reply_leaves v me node to run None false lock = refl
reply_leaves v me node to run None true (Some k) = refl
reply_leaves v me node to run None true None =
    let contact = with_sender me (one_reply v me to run) in
    ap (with_back (respell_node v.spell node) to run.number) (v.agree.take contact run.reply node.local)
    ∙ with_back-respelled v.spell node to run.number (v.one.messages.take contact run.reply node.local)

reply_answers : (v : Versions) (me : ℕ) (to : ℕ) (run : Run) (why : Option Why) (open_ : Bool) (lock : Option ℕ)
    → answer_by v.other.messages (other_reply v me to run) (on_reply why open_ lock)
    ≡ answer_by v.one.messages (one_reply v me to run) (on_reply why open_ lock)
reply_answers v me to run (Some reason) open_ lock = refl
reply_answers v me to run None false lock = refl
reply_answers v me to run None true (Some k) = refl
reply_answers v me to run None true None = refl

-- a reply that comes is answered alike, and leaves the same
pub reply_comes : (v : Versions) (me : ℕ) (node : Node EndpointLocal) (to : ℕ) (run : Run)
    → replies_well v.one.messages.refuses run.reply ≡ true
    → (answer_by v.other.messages (other_reply v me to run)
    (verdict (site_of (other_job v) me) (respell_node v.spell node) (other_reply v me to run))
    ≡ answer_by v.one.messages (one_reply v me to run) (verdict (site_of (one_job v) me) node (one_reply v me to run)))
    × (after_delivery (site_of (other_job v) me) (respell_node v.spell node) (other_reply v me to run)
    (verdict (site_of (other_job v) me) (respell_node v.spell node) (other_reply v me to run))
    ≡ respell_node v.spell (after_delivery (site_of (one_job v) me) node (one_reply v me to run)
    (verdict (site_of (one_job v) me) node (one_reply v me to run))))
reply_comes v me node to run well =
    let one = one_reply_verdict v me node to run well in
    let other = other_reply_verdict v me node to run well in
    let why = address_fault v.settings me (one_reply v me to run) in
    let open_ = is_open run.slot (element_at (node.asked to) run.number) in
    let lock = v.one.messages.waits run.reply node.local in (
      ap (answer_by v.other.messages (other_reply v me to run)) other
          ∙ (reply_answers v me to run why open_ lock
          ∙ ap (answer_by v.one.messages (one_reply v me to run)) (sym one)),
      ap (after_delivery (site_of (other_job v) me) (respell_node v.spell node) (other_reply v me to run)) other
          ∙ (reply_leaves v me node to run why open_ lock
          ∙ ap (λ verdict. respell_node v.spell
          (after_delivery (site_of (one_job v) me) node (one_reply v me to run) verdict))
          (sym one)),
    )
