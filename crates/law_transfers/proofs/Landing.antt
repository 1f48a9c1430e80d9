-- A chunk that is back was done.
use Rattle.std.proofs.Common.{◌≡◌, inl, inr, ℕ, ◌+◌, true, false, List, [], ◌∷◌, ◌++◌, Option, Some, refl, sym, ap, ◌∙◌}
use Rattle.std.proofs.Common.{subst, arith, append_assoc, eqb}
use Rattle.std.specs.List.{slice_get}
use Rattle.std.proofs.lemmas.Bool.{cases_Bool, or_parts, eq-eqb}
use Rattle.std.proofs.lemmas.Option.{same_Some}
use Rattle.wire_message.specs.Parameters.{Parameters, AreInRange}
use Rattle.wire_message.specs.Content.{Content}
use Rattle.part_handlers.specs.declared.table.Entry.{Entry}
use Rattle.part_handlers.specs.Runs.{Meaning}
use Rattle.base_lists.specs.Numbered.{element_at}
use Rattle.base_lists.proofs.Put.{put_same}
use Rattle.base_lists.proofs.Numbered.{numbered_in, numbered_map}
use Rattle.part_segment.specs.Image.{Write, AllFit, image}
use Rattle.spec_node.specs.Behaviour.{Contact}
use Rattle.spec_node.proofs.Runs.{run_of_there}
use Rattle.spec_network.specs.World.{EventAt, world_answer, world_after}
use Rattle.spec_network.specs.Plain.{Plain, PlainRequest, RunReply, IsRequest, InRuns, is_among, reply_of, plain_of, plain_request}
use Rattle.spec_network.specs.PlainStep.{request_name, at_target, at_origin}
use Rattle.spec_network.proofs.PlainReadings.{is_back_at, is_back_says, among_from, from_among, among_reply}
use Rattle.spec_network.proofs.PlainGrowing.{pair_same, step_grows}
use Rattle.spec_network.proofs.PlainSteps.{step_plain}
use Rattle.spec_network.proofs.Headline.{end_holds}
use Rattle.part_transfers.specs.declared.operation.Next.{Next}
use Rattle.part_transfers.specs.Operation.{Operation, SentChunk, target}
use Rattle.node_core.specs.HandlerRuns.{handlers_of, run_request, run_reply}
use Rattle.node_core.specs.Library.{work_content}
use Rattle.node_rules.specs.EndpointLocal.{EndpointLocal, IsEndpointKept}
use Rattle.node_rules.specs.EndpointRules.{OtherCall, Records, job_of, chunk_work}
use Rattle.node_rules.specs.Tracking.{chunk_at, NodeTracks}
use Rattle.law_transfers.specs.History.{after_in, end_of, Sometime, Runs, ComesBack}
use Rattle.law_transfers.specs.Chunks.{EndpointMoment, Stretch, state_after, HappensIn, HappensOnceIn, Issues, Writes}
use Rattle.law_transfers.specs.Chunks.{writes_at, segment_at}
use Rattle.law_transfers.specs.TransferLaws.{AreAmong}
use Rattle.law_transfers.proofs.Happening.{Around, sometime_around, holds_then, grown_after, grown_before, RanAs}
use Rattle.law_transfers.proofs.Happening.{runs_happen, runs_once, BackAs, backs_happen, backs_once}
use Rattle.law_transfers.proofs.Marking.{Chunked}
use Rattle.law_transfers.proofs.Stretches.{AreSound, AllHolds, writes_grow, chunks_happen, holds_after}
use Rattle.law_transfers.proofs.Bytes.{stands}

-- a stretch of a run of which the invariant holds
pub record Over (settings : Parameters) (table : List (Option Entry)) (meaning : Meaning) : Type 0 where
  pub range : AreInRange settings
  pub sound : AreSound settings table meaning
  pub stretch : Stretch
  pub among : AreAmong (job_of settings table meaning) stretch.events
  pub holds : AllHolds settings table meaning stretch.from

-- its last state
abbrev pub last_of : {settings : Parameters} {table : List (Option Entry)} {meaning : Meaning}
    → Over settings table meaning → Records
last_of {settings} {table} {meaning} over = state_after (job_of settings table meaning) over.stretch

-- at its end the invariant holds
pub holds_last : {settings : Parameters} {table : List (Option Entry)} {meaning : Meaning}
    (over : Over settings table meaning) → AllHolds settings table meaning (last_of over)
holds_last {settings} {table} {meaning} over =
    end_holds (job_of settings table meaning) (IsEndpointKept settings) over.stretch.events over.stretch.from
    over.sound over.among over.holds

-- ---- what one event wrote

pub writes_by : (settings : Parameters) (table : List (Option Entry)) (meaning : Meaning) (node : ℕ) (write : Write)
    (moment : EndpointMoment) → AreSound settings table meaning
    → Around (job_of settings table meaning) (IsEndpointKept settings) moment
    → writes_at (after_in (job_of settings table meaning) moment) node ≡ writes_at moment.before node ++ write ∷ []
    → Writes (job_of settings table meaning) node write moment
writes_by settings table meaning node write moment sound around now =
    let job = job_of settings table meaning in
    let holds = holds_then job (IsEndpointKept settings) moment sound around in
    let grow = writes_grow settings table meaning moment.later (after_in job moment) node sound around.later holds in
    let all : writes_at (end_of job moment) node ≡ writes_at moment.before node ++ write ∷ grow.0
    = grow.1 ∙ (ap (λ (writes : List Write). writes ++ grow.0) now
    ∙ append_assoc (writes_at moment.before node) (write ∷ []) grow.0) in
    let fit = ((end_holds job (IsEndpointKept settings) moment.later (after_in job moment) sound around.later
    holds).kept node).core.writes in
    record {
      now = now;
      later = grow.0;
      since = grow.1;
      stand = λ place byte at alone.
          ap (λ (writes : List Write). slice_get (image settings.segment writes) (write.offset + place)) all
          ∙ stands settings.segment (writes_at moment.before node) write grow.0
          (subst (AllFit settings.segment) all fit) place byte at alone;
    }

-- ---- the reply of a request that runs

reply_new : (runs : List RunReply) (number : ℕ) (reply : Content) → is_among number runs ≡ false
    → reply_of number (runs ++ record { number = number; reply = reply } ∷ []) ≡ Some reply
reply_new [] number reply none = rw (eq-eqb number number refl) refl
reply_new (first ∷ later) number reply none =
    let parts = or_parts (eqb first.number number) (is_among number later) none in
    rw parts.0 (reply_new later number reply parts.1)

-- ---- what was asked over a stretch wasn't asked before

issued_new : (settings : Parameters) (table : List (Option Entry)) (meaning : Meaning) (events : List (EventAt OtherCall))
    (world : Records) (node : ℕ) (chunk : Next) (number : ℕ) (request : PlainRequest) → AreSound settings table meaning
    → AreAmong (job_of settings table meaning) events → AllHolds settings table meaning world
    → Sometime (job_of settings table meaning) (Issues (job_of settings table meaning) node chunk number) events world
    → IsRequest (plain_of world) node (target chunk.transfer) number request → ⊥
issued_new settings table meaning [] world node chunk number request sound among holds it asked = it
issued_new settings table meaning (e ∷ events) world node chunk number request sound among holds it asked =
    let job = job_of settings table meaning in
    elim it [
      | inl here ↦ omega (
        arith,
        here.next,
        (numbered_in ((plain_of world).requests node (target chunk.transfer)) number request asked).1,
      )
      | inr later ↦ issued_new settings table meaning events (world_after job world e) node chunk number request sound
          among.1
          (holds_after settings table meaning world e events sound among holds) later
          ((step_grows job _ _ e.event (world_answer job world e)
          (step_plain job (IsEndpointKept settings) world e sound holds)).requests
          node (target chunk.transfer) number request asked)
    ]

-- ---- what is known of a chunk at the end

pub record Known {settings : Parameters} {table : List (Option Entry)} {meaning : Meaning}
    (over : Over settings table meaning) (node : ℕ) (chunk : Next) : Type 0 where
  pub number : ℕ
  pub request : PlainRequest
  pub asked : IsRequest (plain_of (last_of over)) node (target chunk.transfer) number request
  pub reply : Content
  pub replied : reply_of number ((plain_of (last_of over)).runs node (target chunk.transfer)) ≡ Some reply
  pub issued : HappensIn (job_of settings table meaning) over.stretch
      (Issues (job_of settings table meaning) node chunk number)
  pub once : HappensOnceIn (job_of settings table meaning) over.stretch
      (Runs (job_of settings table meaning) (request_name node (target chunk.transfer) number))
  pub runs : HappensIn (job_of settings table meaning) over.stretch
      (RanAs (job_of settings table meaning) (request_name node (target chunk.transfer) number))
  pub back_once : HappensOnceIn (job_of settings table meaning) over.stretch
      (ComesBack (job_of settings table meaning) (request_name node (target chunk.transfer) number))
  pub backs : HappensIn (job_of settings table meaning) over.stretch
      (BackAs (job_of settings table meaning) (request_name node (target chunk.transfer) number))

-- what ran was asked
ran_asked : (settings : Parameters) (table : List (Option Entry)) (meaning : Meaning) (world : Records)
    (from to number : ℕ) → AllHolds settings table meaning world → InRuns (plain_of world) from to number
    → (request : PlainRequest) × IsRequest (plain_of world) from to number request
ran_asked settings table meaning world from to number holds ran =
    let run = from_among ((world to).ran from) number ran in
    let at = run_of_there number ((world to).ran from) run.0 run.1 in
    let it = (holds.pair from to).named at.1.0 run.0 at.1.1 in (
      plain_request it.0,
      numbered_map plain_request ((world from).asked to) number it.0
          (ap (element_at ((world from).asked to)) (sym at.0) ∙ it.1),
    )

-- so was what is back
back_asked : (world : Records) (from to number : ℕ) → (plain_of world).back from to number ≡ true
    → (request : PlainRequest) × IsRequest (plain_of world) from to number request
back_asked world from to number back =
    let it = is_back_says (element_at ((world from).asked to) number) back in
    (plain_request it.0, numbered_map plain_request ((world from).asked to) number it.0 it.1)

pub known : {settings : Parameters} {table : List (Option Entry)} {meaning : Meaning}
    (over : Over settings table meaning)
    (node number index : ℕ) (operation : Operation) (sent : SentChunk)
    → NodeTracks settings.version (last_of over node)
    → element_at (last_of over node).local.operations number ≡ Some operation
    → slice_get operation.sent index ≡ Some sent → sent.back ≡ true
    → ((request : ℕ) → Chunked (over.stretch.from node).local.operations number index request operation.transfer → ⊥)
    → Known over node (chunk_at operation.transfer number index)
known {settings} {table} {meaning} over node number index operation sent tracks there at back fresh =
    let job = job_of settings table meaning in
    let to = target operation.transfer in
    let world = over.stretch.from in
    let last = last_of over in
    let holds = holds_last over in
    let request = tracks.request number index
    (record { operation = operation; sent = sent; numbered_so = there; issued = at }) in
    let k = sent.number in
    let name = request_name node to k in
    let is_back_now : (plain_of last).back node to k ≡ true
    = is_back_at (element_at ((last node).asked to) k) request.request request.accepted ∙ (request.back ∙ back) in
    let ran = (holds.pair node to).back_ran k request.request request.accepted (request.back ∙ back) in
    let among : InRuns (plain_of last) node to k = among_from ((last to).ran node) k ran.0 ran.1 in
    let reply = among_reply ((plain_of last).runs node to) k among in
    let issued : HappensIn job over.stretch
    (Issues job node (chunk_at operation.transfer number index) k) = elim (chunks_happen settings table meaning
    over.stretch.events world node number index k operation.transfer over.sound over.among over.holds
    (record { operation = operation; sent = sent; there = there; at = at; transfer_is = refl; request_is = refl })) [
      | inl had ↦ absurd (fresh k had)
      | inr it ↦ it
    ] in
    let new = λ (plain_request_as : PlainRequest) (asked : IsRequest (plain_of world) node to k plain_request_as). issued_new
    settings table meaning over.stretch.events world node (chunk_at operation.transfer number index) k plain_request_as
    over.sound over.among over.holds issued asked in
    let not_run = λ (was : InRuns (plain_of world) node to k). let it = ran_asked settings table meaning world node to
    k over.holds was in new it.0 it.1 in
    let not_back = λ (was : (plain_of world).back node to k ≡ true). let it = back_asked world node to k was in new
    it.0 it.1 in
    record {
      number = k;
      request = plain_request request.request;
      asked = numbered_map plain_request ((last node).asked to) k request.request request.accepted;
      reply = reply.0;
      replied = reply.1;
      issued = issued;
      once = runs_once job (IsEndpointKept settings) over.stretch.events world name over.sound over.among over.holds
          not_run among;
      runs = elim (runs_happen job (IsEndpointKept settings) over.stretch.events world name over.sound over.among
          over.holds among) [
            | inl was ↦ absurd (not_run was)
            | inr it ↦ it
          ];
      back_once = backs_once job (IsEndpointKept settings) over.stretch.events world name over.sound over.among
          over.holds not_back is_back_now;
      backs = elim (backs_happen job (IsEndpointKept settings) over.stretch.events world name over.sound over.among
          over.holds is_back_now) [
            | inl was ↦ absurd (not_back was)
            | inr it ↦ it
          ];
    }

-- ---- what the request and its reply say

-- the chunk is issued, and its request says this
abbrev pub IssuedSo : {settings : Parameters} {table : List (Option Entry)} {meaning : Meaning}
    (over : Over settings table meaning) (node : ℕ) (chunk : Next) → Known over node chunk → EndpointMoment → Type 0
IssuedSo {settings} {table} {meaning} over node chunk K moment =
    Issues (job_of settings table meaning) node chunk K.number moment
    × (K.request.content ≡ work_content settings.version
    (segment_at (job_of settings table meaning) moment.before node) (chunk_work chunk))

pub issued_says : {settings : Parameters} {table : List (Option Entry)} {meaning : Meaning}
    (over : Over settings table meaning) (node : ℕ) (chunk : Next) (K : Known over node chunk)
    → HappensIn (job_of settings table meaning) over.stretch (IssuedSo over node chunk K)
issued_says {settings} {table} {meaning} over node chunk K =
    let job = job_of settings table meaning in
    sometime_around job (IsEndpointKept settings) (Issues job node chunk K.number) (IssuedSo over node chunk K)
    over.stretch.events over.stretch.from over.sound over.among over.holds
    (λ moment around last it.
    let grown = grown_after job (IsEndpointKept settings) moment over.sound around in
    let said : PlainRequest = record {
      content = work_content settings.version (segment_at job moment.before node) (chunk_work chunk);
      slot = it.slot;
    } in
    let there = subst (λ (world : Records). IsRequest (plain_of world) node (target chunk.transfer) K.number said) last
    (grown.requests node (target chunk.transfer) K.number said it.accepted) in
    (it, ap (λ (l : PlainRequest). l.content) (same_Some K.request said (sym K.asked ∙ there))))
    K.issued

-- the request runs: what its target keeps afterwards, and its reply
pub record RanSo {settings : Parameters} {table : List (Option Entry)} {meaning : Meaning}
    (over : Over settings table meaning) (node : ℕ) (chunk : Next) (K : Known over node chunk)
    (moment : EndpointMoment) : Type 0 where
  pub runs : Runs (job_of settings table meaning) (request_name node (target chunk.transfer) K.number) moment
  pub contact : Contact
  pub writes :
      let out = run_request (handlers_of settings table meaning) contact K.request.content
      (moment.before (target chunk.transfer)).local.core in
      writes_at (after_in (job_of settings table meaning) moment) (target chunk.transfer) ≡ out.0.writes
  pub reply :
      let out = run_request (handlers_of settings table meaning) contact K.request.content
      (moment.before (target chunk.transfer)).local.core in
      K.reply ≡ out.1

ran_so : {settings : Parameters} {table : List (Option Entry)} {meaning : Meaning}
    (over : Over settings table meaning) (node : ℕ) (chunk : Next) (K : Known over node chunk) (moment : EndpointMoment)
    → Around (job_of settings table meaning) (IsEndpointKept settings) moment
    → end_of (job_of settings table meaning) moment ≡ last_of over
    → RanAs (job_of settings table meaning) (request_name node (target chunk.transfer) K.number) moment
    → RanSo over node chunk K moment
ran_so {settings} {table} {meaning} over node chunk K moment around last it =
    let job = job_of settings table meaning in
    let to = target chunk.transfer in
    let first = it.first in
    let contact = at_target (request_name node to K.number) first.request in
    let handlers = handlers_of settings table meaning in
    let core = (moment.before to).local.core in
    let there = subst (λ (world : Records). IsRequest (plain_of world) node to K.number first.request) last
    ((grown_before job (IsEndpointKept settings) moment over.sound around).requests node to K.number first.request
    first.fresh.is) in
    let says : first.request.content ≡ K.request.content = ap (λ (l : PlainRequest). l.content)
    (same_Some _ _ (sym there ∙ K.asked)) in
    let out = run_request handlers contact first.request.content core in
    let runs = (plain_of moment.before).runs node to in
    let new : is_among K.number runs ≡ false = elim (cases_Bool (is_among K.number runs))
    [ inl was ↦ absurd (first.fresh.new was) | inr isnt ↦ isnt ] in
    let replied : reply_of K.number ((plain_of (after_in job moment)).runs node to) ≡ Some out.1
    = ap (λ (p : Plain EndpointLocal). reply_of K.number (p.runs node to)) first.leaves
    ∙ (ap (reply_of K.number) (pair_same (plain_of moment.before).runs node to
    (runs ++ record { number = K.number; reply = out.1 } ∷ []))
    ∙ reply_new runs K.number out.1 new) in
    let at_end = subst (λ (world : Records). reply_of K.number ((plain_of world).runs node to) ≡ Some out.1) last
    ((grown_after job (IsEndpointKept settings) moment over.sound around).runs node to K.number out.1 replied) in
    record {
      runs = it.runs;
      contact = contact;
      writes = ap (λ (p : Plain EndpointLocal). (p.local to).core.writes) first.leaves
          ∙ (ap (λ (l : EndpointLocal). l.core.writes) (put_same (plain_of moment.before).local to _)
          ∙ ap (λ content. (run_request handlers contact content core).0.writes) says);
      reply = same_Some _ _ (sym K.replied ∙ at_end)
          ∙ ap (λ content. (run_request handlers contact content core).1) says;
    }

abbrev pub RunsAround : {settings : Parameters} {table : List (Option Entry)} {meaning : Meaning}
    (over : Over settings table meaning) (node : ℕ) (chunk : Next) → Known over node chunk → EndpointMoment → Type 0
RunsAround {settings} {table} {meaning} over node chunk K moment =
    Around (job_of settings table meaning) (IsEndpointKept settings) moment × RanSo over node chunk K moment

pub runs_so : {settings : Parameters} {table : List (Option Entry)} {meaning : Meaning}
    (over : Over settings table meaning) (node : ℕ) (chunk : Next) (K : Known over node chunk)
    → HappensIn (job_of settings table meaning) over.stretch (RunsAround over node chunk K)
runs_so {settings} {table} {meaning} over node chunk K =
    sometime_around (job_of settings table meaning) (IsEndpointKept settings)
    (RanAs (job_of settings table meaning) (request_name node (target chunk.transfer) K.number))
    (RunsAround over node chunk K) over.stretch.events over.stretch.from over.sound over.among over.holds
    (λ moment around last it. (around, ran_so over node chunk K moment around last it)) K.runs

-- the reply comes back: what the node keeps afterwards
pub record BackSo {settings : Parameters} {table : List (Option Entry)} {meaning : Meaning}
    (over : Over settings table meaning) (node : ℕ) (chunk : Next) (K : Known over node chunk)
    (moment : EndpointMoment) : Type 0 where
  pub comes : ComesBack (job_of settings table meaning) (request_name node (target chunk.transfer) K.number) moment
  pub contact : Contact
  pub writes : writes_at (after_in (job_of settings table meaning) moment) node
      ≡ (run_reply (handlers_of settings table meaning) contact K.reply (moment.before node).local.core).writes

abbrev pub BacksAround : {settings : Parameters} {table : List (Option Entry)} {meaning : Meaning}
    (over : Over settings table meaning) (node : ℕ) (chunk : Next) → Known over node chunk → EndpointMoment → Type 0
BacksAround {settings} {table} {meaning} over node chunk K moment =
    Around (job_of settings table meaning) (IsEndpointKept settings) moment × BackSo over node chunk K moment

pub backs_so : {settings : Parameters} {table : List (Option Entry)} {meaning : Meaning}
    (over : Over settings table meaning) (node : ℕ) (chunk : Next) (K : Known over node chunk)
    → HappensIn (job_of settings table meaning) over.stretch (BacksAround over node chunk K)
backs_so {settings} {table} {meaning} over node chunk K =
    let job = job_of settings table meaning in
    let to = target chunk.transfer in
    let handlers = handlers_of settings table meaning in
    sometime_around job (IsEndpointKept settings) (BackAs job (request_name node to K.number)) (BacksAround over node chunk K)
    over.stretch.events over.stretch.from over.sound over.among over.holds
    (λ moment around last it.
    let takes = it.takes in
    let contact = at_origin (request_name node to K.number) takes.request in
    let core = (moment.before node).local.core in
    let at_end = subst (λ (world : Records). reply_of K.number ((plain_of world).runs node to) ≡ Some takes.reply) last
    ((grown_before job (IsEndpointKept settings) moment over.sound around).runs node to K.number takes.reply
    takes.to_take.reply_is) in
    let says : takes.reply ≡ K.reply = same_Some _ _ (sym at_end ∙ K.replied) in (
      around,
      record {
        comes = it.comes;
        contact = contact;
        writes = ap (λ (p : Plain EndpointLocal). (p.local node).core.writes) takes.leaves
            ∙ (ap (λ (l : EndpointLocal). l.core.writes) (put_same (plain_of moment.before).local node _)
            ∙ ap (λ content. (run_reply handlers contact content core).writes) says);
      },
    ))
    K.backs
