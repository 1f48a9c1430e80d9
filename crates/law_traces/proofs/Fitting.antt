-- What lawful, fitting handlers and the library leave fits, and what they reply has a spelling.
use Rattle.std.proofs.Common.{◌≡◌, inl, inr, ◌<◌, ◌≤◌, ◌^◌, not, true, false, List}
use Rattle.std.proofs.Common.{length, Option, sym, ap, ◌∙◌, arith}
use Rattle.std.specs.Prelude.{◌==◌, is_none}
use Rattle.std.proofs.lemmas.Bool.{cases_Bool, or_parts, and_parts, eqb-true}
use Rattle.base_lists.proofs.Members.{all_append}
use Rattle.wire_message.specs.Parameters.{Parameters}
use Rattle.wire_message.specs.Content.{Content, code, is_ack, is_long, is_request}
use Rattle.wire_message.specs.Notifications.{argument}
use Rattle.part_segment.specs.Image.{Write}
use Rattle.part_handlers.specs.declared.table.Entry.{Entry}
use Rattle.part_handlers.specs.declared.rules.Role.{Role}
use Rattle.part_handlers.specs.declared.rules.Role.TheVariants as role
use Rattle.part_handlers.specs.Runs.{Frame, Start, Outcome, Meaning}
use Rattle.spec_node.specs.Behaviour.{Contact, asks_well, replies_well}
use Rattle.node_core.specs.Kept.{Local, segment_of, start_from, with_writes}
use Rattle.node_core.specs.Library.{is_library, has_wrong_args, memset_handler, fill_said, is_no_fill, is_beyond}
use Rattle.node_core.specs.Library.{library_writes}
use Rattle.node_core.specs.HandlerRuns.{handlers_of, landing, shown_payload, frame_of_run}
use Rattle.node_core.specs.HandlerRuns.{outcome, left_by_run, reply_or_ack, run_request, run_reply}
use Rattle.node_core.specs.ClientRules.{content_refusal}
use Rattle.node_rules.proofs.Handled.{well_is, asks_no_ack}
use Rattle.law_traces.specs.Fitting.{AreNumbers, AreBytes, WriteBytes, CoreFits, ContentFits, LeavesFitting}
use Rattle.law_traces.specs.Fitting.{IsFittingJob}
use Rattle.law_traces.proofs.Bytes.{bytes_none, bytes_same, bytes_image}
use Rattle.law_traces.proofs.Saying.{IsSpoken, within, reply_spoken, library_spoken}

-- ---- what lands

landing_bytes : (content : Content) → AreBytes content.payload → WriteBytes (landing content)
landing_bytes content bytes = elim (cases_Bool (is_long (code content.kind))) [
  | inl long ↦ rw long (bytes, tt)
  | inr short ↦ rw short tt
]

landed_fits : (content : Content) (local : Local) → CoreFits local → ContentFits content
    → CoreFits (with_writes local (landing content))
landed_fits content local core fits = record {
  cells = core.cells;
  writes = all_append (λ (write : Write). AreBytes write.bytes) local.writes (landing content) core.writes
      (landing_bytes content fits.payload);
}

shown_bytes : (content : Content) → AreBytes content.payload → AreBytes (shown_payload content)
shown_bytes content bytes = elim (cases_Bool (is_long (code content.kind))) [
  | inl long ↦ rw long bytes_none
  | inr short ↦ rw short bytes
]

-- ---- runs of the library

fill_low : (settings : Parameters) (content : Content) → (content.handler == memset_handler) ≡ true
    → has_wrong_args settings content.handler content.args ≡ false → (fill_said content.args).byte ≤ 255
fill_low settings content fills right =
    let same : content.handler ≡ memset_handler = eqb-true content.handler memset_handler fills in
    let right_is : is_no_fill settings.segment content.args ≡ false =
    ap (λ handler. has_wrong_args settings handler content.args) (sym same) ∙ right in
    let counted = or_parts (not (length content.args == 4)) _ right_is in
    let length_in = or_parts (is_beyond 8192 (argument content.args 2)) _ counted.1 in
    let byte_in = or_parts (is_beyond 255 (argument content.args 3)) _ length_in.1 in
    within 255 (argument content.args 3) byte_in.0

library_bytes : (settings : Parameters) (content : Content)
    → has_wrong_args settings content.handler content.args ≡ false → WriteBytes (library_writes content)
library_bytes settings content right = elim (cases_Bool (content.handler == memset_handler)) [
  | inl fills ↦
      let low = fill_low settings content fills right in
      rw fills (bytes_same (fill_said content.args).len (fill_said content.args).byte (omega (arith, low)), tt)
  | inr other ↦ rw other tt
]

-- ---- runs

-- what a run needs of its message
record IsRunnable (settings : Parameters) (contact : Contact) (content : Content) : Type 0 where
  source : contact.peer < 2 ^ 16
  fits : ContentFits content
  right : is_library content.handler ≡ true → has_wrong_args settings content.handler content.args ≡ false

-- and of the handlers and what the node keeps, and what it gives
record Gives (which : Outcome) (reply_is : Content → Type 0) : Type 0 where
  cells : AreNumbers which.cells
  writes : WriteBytes which.writes
  reply : reply_is (reply_or_ack which.reply)

outcome_gives : (settings : Parameters) (table : List (Option Entry)) (meaning : Meaning) (which : Role)
    (contact : Contact) (content : Content) (local : Local) → IsFittingJob settings table meaning
    → IsRunnable settings contact content → CoreFits local
    → Gives (outcome (handlers_of settings table meaning) which contact content (start_from settings local)) IsSpoken
outcome_gives settings table meaning which contact content local job runs core =
    elim (cases_Bool (is_library content.handler)) [
      | inl own ↦ rw own (record {
        cells = core.cells;
        writes = library_bytes settings content (runs.right own);
        reply = library_spoken settings (segment_of settings local) content job.range (runs.right own) segment;
      })
      | inr client ↦ rw client (record {
        cells = gives.cells;
        writes = gives.writes;
        reply = reply_spoken frame (meaning content.handler frame start).reply job.range job.indexes
            (job.lawful content.handler frame start).reply gives.reply;
      })
    ]
  where
    segment : AreBytes (segment_of settings local)
    segment = bytes_image settings.segment local.writes core.writes

    start : Start
    start = start_from settings local

    frame : Frame
    frame = frame_of_run (handlers_of settings table meaning) which contact content

    gives : LeavesFitting (meaning content.handler frame start)
    gives = job.fitting content.handler frame start (record {
      source = runs.source;
      args = runs.fits.args;
      payload = shown_bytes content runs.fits.payload;
      cells = core.cells;
      segment = segment;
    })

-- what a run leaves
left_fits : (which : Role) (run : Outcome) (local : Local) → AreNumbers run.cells → WriteBytes run.writes
    → CoreFits local → CoreFits (left_by_run which run local)
left_fits which run local cells writes core = record {
  cells = cells;
  writes = all_append (λ (write : Write). AreBytes write.bytes) local.writes run.writes core.writes writes;
}

-- a message without a fault has right arguments
runnable : (settings : Parameters) (table : List (Option Entry)) (contact : Contact) (content : Content)
    → contact.peer < 2 ^ 16 → ContentFits content → is_ack (code content.kind) ≡ false
    → is_none (content_refusal settings table content) ≡ true → IsRunnable settings contact content
runnable settings table contact content source fits other well = record {
  source = source;
  fits = fits;
  right = λ own. ((well_is settings table content other well).right own).right;
}

-- a request runs
pub record RunFits (ran : Local × Content) : Type 0 where
  pub core : CoreFits ran.0
  pub reply : IsSpoken ran.1

pub request_fits : (settings : Parameters) (table : List (Option Entry)) (meaning : Meaning) (contact : Contact)
    (content : Content) (local : Local) → IsFittingJob settings table meaning → contact.peer < 2 ^ 16
    → ContentFits content → asks_well (content_refusal settings table) content ≡ true → CoreFits local
    → RunFits (run_request (handlers_of settings table meaning) contact content local)
request_fits settings table meaning contact content local job source fits well core =
    let parts = and_parts (is_request content.kind) (is_none (content_refusal settings table content)) well in
    let runs = runnable settings table contact content source fits (asks_no_ack content.kind parts.0) parts.1 in
    let landed = landed_fits content local core fits in
    let after = with_writes local (landing content) in
    let gives = outcome_gives settings table meaning role.Request contact content after job runs landed in
    let run = outcome (handlers_of settings table meaning) role.Request contact content (start_from settings after) in
    record {
      core = left_fits role.Request run after gives.cells gives.writes landed;
      reply = gives.reply;
    }

-- a reply runs
pub reply_fits : (settings : Parameters) (table : List (Option Entry)) (meaning : Meaning) (contact : Contact)
    (content : Content) (local : Local) → IsFittingJob settings table meaning → contact.peer < 2 ^ 16
    → ContentFits content → replies_well (content_refusal settings table) content ≡ true → CoreFits local
    → CoreFits (run_reply (handlers_of settings table meaning) contact content local)
reply_fits settings table meaning contact content local job source fits well core =
    elim (cases_Bool (is_ack (code content.kind))) [
      | inl acks ↦ rw acks core
      | inr other ↦
          let parts = and_parts _ (is_none (content_refusal settings table content)) well in
          let runs = runnable settings table contact content source fits other parts.1 in
          let landed = landed_fits content local core fits in
          let after = with_writes local (landing content) in
          let gives = outcome_gives settings table meaning role.Reply contact content after job runs landed in
          let run =
          outcome (handlers_of settings table meaning) role.Reply contact content (start_from settings after) in
          rw other (left_fits role.Reply run after gives.cells gives.writes landed)
    ]
