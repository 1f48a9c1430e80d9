-- What the run of a batch's request gives, and that of its reply.
use Rattle.std.proofs.Common.{◌≡◌, ℕ, Bool, true, false, List, [], ◌∷◌, ◌++◌, length, Option, Some}
use Rattle.std.proofs.Common.{None, refl, sym, ap, ◌∙◌, subst, arith, append-nil}
use Rattle.std.specs.Prelude.{Result, Ok, if◌then◌else◌, not}
use Rattle.std.proofs.lemmas.Bool.{le-ltb}
use Rattle.wire_message.specs.Parameters.{Parameters}
use Rattle.wire_message.specs.Content.{Content, code, is_long, long_reply}
use Rattle.part_segment.specs.Image.{Write}
use Rattle.part_handlers.specs.declared.lock_answer.Owner.TheVariants as owner
use Rattle.part_handlers.specs.Locks.{holds}
use Rattle.part_handlers.specs.declared.table.Entry.{Entry}
use Rattle.part_handlers.specs.declared.rules.Role.TheVariants as role
use Rattle.part_handlers.specs.declared.rules.CallKind.TheVariants as call
use Rattle.part_handlers.specs.declared.rules.Forbidden.{Forbidden}
use Rattle.part_handlers.specs.declared.message.Replied.TheVariants as replied
use Rattle.part_handlers.specs.Rules.{rule, context_of}
use Rattle.part_handlers.specs.Registered.{entry_at, is_for_replies}
use Rattle.part_handlers.specs.Runs.{Frame, Start, Outcome, Meaning, answer, answer_by, after_answer, nothing_done}
use Rattle.part_handlers.specs.Runs.{after_return}
use Rattle.part_handlers.specs.declared.message.Which.TheVariants as which
use Rattle.part_handlers.specs.declared.message.Replied.{Replied}
use Rattle.part_segment.proofs.Images.{length-image}
use Rattle.node_core.specs.Library.{is_library, library_outcome}
use Rattle.spec_node.specs.Behaviour.{Contact}
use Rattle.node_core.specs.Kept.{Local, IsKept, start_from, with_writes, segment_of}
use Rattle.node_core.specs.HandlerRuns.{handlers_of, frame_of_run, landing, outcome}
use Rattle.node_core.specs.HandlerRuns.{run_request, run_reply, left_by_run, reply_or_ack, shown_payload}
use Rattle.node_atomics.specs.BatchRequests.{BatchRequest, batch_handler, block_handler, request_said}
use Rattle.node_atomics.specs.Served.{HasBatches, ServesBatches, block_of, block_reply, changes_of}
use Rattle.node_atomics.specs.Served.{after_batch, request_for, if_placed, outcome_of_batch}
use Rattle.law_atomics.proofs.Asking.{AsksBatch, length-block}

-- ---- the reply is sent

-- a handler of requests that holds no lock and hasn't replied may reply
may_reply : (holding : Bool) → holding ≡ false → rule (context_of role.Request) holding false call.Reply ≡ Ok tt
may_reply true free = cc
may_reply false free = refl

-- nothing is wrong with the reply
sent_by : (judge : Result (Unit {0}) Forbidden) (handler count payload offset : Bool) → judge ≡ Ok tt
    → handler ≡ false → count ≡ false → payload ≡ false → offset ≡ false
    → answer_by judge
    ((handler, which.Handler) ∷ (count, which.Count) ∷ (payload, which.Payload) ∷ (offset, which.Offset) ∷ [])
    ≡ replied.Sent
sent_by judge handler count payload offset allowed there few small inside =
    rw allowed (rw there (rw few (rw small (rw inside refl))))

is_there : (found : Option Entry) → is_for_replies found ≡ true → not (is_for_replies found) ≡ false
is_there found is = rw is refl

-- the block's reply is sent
sent : (settings : Parameters) (table : List (Option Entry)) (meaning : Meaning) (contact : Contact) (content : Content)
    (batch : BatchRequest) (segment : List ℕ) (now : Outcome) → HasBatches table → AsksBatch settings content batch
    → holds owner.Handler now.locks ≡ false → now.reply ≡ None
    → answer (frame_of_run (handlers_of settings table meaning) role.Request contact content)
    (block_reply segment batch) now
    ≡ replied.Sent
sent settings table meaning contact content batch segment now has asks free first =
    let long = length-block segment batch in
    let block = asks.block in
    let few = asks.few in
    sent_by _ _ _ _ _ (rw first (may_reply (holds owner.Handler now.locks) free))
    (is_there (entry_at table block_handler) has.replies) refl
    (le-ltb 8192 _ (omega (arith, long, few)))
    (le-ltb settings.segment _ (omega (arith, long, block)))

-- ---- the request runs

-- what the run of the request gives
pub record Gives (run : Outcome) (segment : List ℕ) (batch : BatchRequest) : Type 0 where
  pub writes : run.writes ≡ changes_of segment batch.ops
  pub reply : run.reply ≡ Some (block_reply segment batch)

pub gives : (settings : Parameters) (table : List (Option Entry)) (meaning : Meaning) (contact : Contact)
    (content : Content) (batch : BatchRequest) (start : Start) → HasBatches table → ServesBatches meaning
    → AsksBatch settings content batch → holds owner.Handler start.locks ≡ false
    → length start.segment ≡ settings.segment
    → Gives (outcome (handlers_of settings table meaning) role.Request contact content start) start.segment batch
gives settings table meaning contact content batch start has serves asks free long =
    let handlers = handlers_of settings table meaning in
    let frame = frame_of_run handlers role.Request contact content in
    let reply = block_reply start.segment batch in
    let now : Outcome = record (nothing_done start) { writes = changes_of start.segment batch.ops } in
    let said : request_for (length start.segment) frame.arrival ≡ Some batch =
    ap (λ (len : ℕ). if_placed len (request_said content.args (shown_payload content))) long ∙ asks.said in
    let done : outcome_of_batch batch_handler frame start (nothing_done start) ≡ record now { reply = Some reply } =
    ap (λ (found : Option BatchRequest). after_batch frame start.segment found (nothing_done start)) said
    ∙ ap (λ (given : Replied). after_answer given reply now)
    (sent settings table meaning contact content batch start.segment now has asks free refl) in
    let run : outcome handlers role.Request contact content start ≡ after_return frame (record now { reply = Some reply }) =
    client content.handler frame start asks.handler ∙ ap (after_return frame) (serves.requests frame start ∙ done) in
    record {
      writes = ap (λ (o : Outcome). o.writes) run;
      reply = ap (λ (o : Outcome). o.reply) run;
    }
  where
    client : (handler : ℕ) (frame : Frame) (at : Start) → handler ≡ batch_handler
        → (if is_library handler then library_outcome content at else after_return frame (meaning handler frame at))
        ≡ after_return frame (meaning batch_handler frame at)
    client handler frame at is = rw is refl

-- what is left of a node where it runs, and its reply
pub record Left (settings : Parameters) (local : Local) (batch : BatchRequest) (out : Local × Content) : Type 0 where
  pub writes : out.0.writes ≡ local.writes ++ changes_of (segment_of settings local) batch.ops
  pub reply : out.1 ≡ block_reply (segment_of settings local) batch

nothing_lands : (content : Content) → is_long (code content.kind) ≡ false → landing content ≡ []
nothing_lands content short = rw short refl

-- the run, once its payload landed
abbrev run_landed : Parameters → List (Option Entry) → Meaning → Contact → Content → Local → Local × Content
run_landed settings table meaning contact content landed =
    let run = outcome (handlers_of settings table meaning) role.Request contact content (start_from settings landed) in
    (left_by_run role.Request run landed, reply_or_ack run.reply)

pub request_left : (settings : Parameters) (table : List (Option Entry)) (meaning : Meaning) (contact : Contact)
    (content : Content) (batch : BatchRequest) (me : ℕ) (local : Local) → HasBatches table → ServesBatches meaning
    → AsksBatch settings content batch → IsKept settings me local
    → Left settings local batch (run_request (handlers_of settings table meaning) contact content local)
request_left settings table meaning contact content batch me local has serves asks kept =
    let handlers = handlers_of settings table meaning in
    let same : with_writes local (landing content) ≡ local =
    ap (with_writes local) (nothing_lands content asks.unplaced)
    ∙ ap (λ (writes : List Write). record local { writes = writes }) (append-nil local.writes) in
    let it = gives settings table meaning contact content batch (start_from settings local) has serves asks kept.locks
    (length-image settings.segment local.writes kept.writes) in
    let left : Left settings local batch (run_landed settings table meaning contact content local) = record {
      writes = ap (λ (writes : List Write). local.writes ++ writes) it.writes;
      reply = ap reply_or_ack it.reply;
    } in
    subst (λ (landed : Local). Left settings local batch (run_landed settings table meaning contact content landed))
    (sym same) left

-- ---- its reply runs

-- the reply with these words
abbrev pub reply_with : BatchRequest → (olds : List ℕ) → Content
reply_with batch olds = long_reply block_handler [] batch.local (block_of olds batch.tag)

-- the block lands, and the handler does nothing
pub reply_left : (settings : Parameters) (table : List (Option Entry)) (meaning : Meaning) (contact : Contact)
    (batch : BatchRequest) (olds : List ℕ) (local : Local) → ServesBatches meaning
    → (run_reply (handlers_of settings table meaning) contact (reply_with batch olds) local).writes
    ≡ local.writes ++ record { offset = batch.local; bytes = block_of olds batch.tag } ∷ []
reply_left settings table meaning contact batch olds local serves =
    let handlers = handlers_of settings table meaning in
    let reply = reply_with batch olds in
    let landed = with_writes local (landing reply) in
    let frame = frame_of_run handlers role.Reply contact reply in
    let start = start_from settings landed in
    ap (λ (run : Outcome). landed.writes ++ run.writes) (ap (after_return frame) (serves.replies frame start))
    ∙ append-nil landed.writes
