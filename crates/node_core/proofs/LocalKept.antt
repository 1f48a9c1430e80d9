-- What each call leaves keeps the writes within the segment and the locks with threads.
use Rattle.std.proofs.Common.{ℕ, List, Option, inl, inr, refl, subst}
use Rattle.std.specs.Prelude.{Result, Ok, Err}
use Rattle.std.proofs.lemmas.Bool.{cases_Bool}
use Rattle.wire_message.specs.Parameters.{Parameters}
use Rattle.wire_message.specs.Content.{Content, code, is_ack}
use Rattle.part_segment.specs.Image.{AllFit}
use Rattle.part_segment.proofs.Images.{all_fit_none, all_fit-append, length-image}
use Rattle.part_handlers.specs.declared.rules.Forbidden.{Forbidden}
use Rattle.part_handlers.specs.declared.rules.Role.{Role}
use Rattle.part_handlers.specs.declared.rules.Role.TheVariants as role
use Rattle.part_handlers.specs.declared.table.Entry.{Entry}
use Rattle.part_handlers.specs.Runs.{Meaning, IsLawfulMeaning}
use Rattle.spec_node.specs.Behaviour.{Contact}
use Rattle.spec_node.specs.Step.{judged_local}
use Rattle.node_core.specs.Kept.{Local, IsKept, start_from, with_writes, nothing_done}
use Rattle.node_core.specs.Library.{is_library}
use Rattle.node_core.proofs.Landings.{StaysInside}
use Rattle.node_core.specs.HandlerRuns.{client_outcome}
use Rattle.node_core.specs.HandlerRuns.{NodeHandlers, frame_of_run, landing, left_by_run, outcome, run_request}
use Rattle.node_core.specs.HandlerRuns.{run_reply}
use Rattle.node_core.specs.ClientRules.{rules}
use Rattle.node_core.specs.CoreContracts.{CoreCall, Check, Lock, Unlock, core_does}
use Rattle.node_core.proofs.ThreadLocks.{lock_unheld, unlock_unheld}

-- before all events
pub nothing_kept : (settings : Parameters) (me : ℕ) → IsKept settings me nothing_done
nothing_kept settings me = record { writes = all_fit_none settings.segment; locks = refl }

-- a message landed and ran
pub ran_kept : (handlers : NodeHandlers) (which : Role) (contact : Contact) (content : Content) (local : Local)
    → IsLawfulMeaning handlers.meaning → StaysInside handlers.settings.segment content
    → IsKept handlers.settings contact.me local
    → IsKept handlers.settings contact.me (let landed = with_writes local (landing content) in
    left_by_run which (outcome handlers which contact content (start_from handlers.settings landed)) landed)
ran_kept handlers which contact content local lawful fits kept =
    let len = handlers.settings.segment in
    let landed = with_writes local (landing content) in
    let start = start_from handlers.settings landed in
    let run = outcome handlers which contact content start in
    let all = all_fit-append len local.writes (landing content) kept.writes fits.landed in
    let wrote : AllFit len run.writes = elim (cases_Bool (is_library content.handler)) [
      | inl own ↦ rw own fits.written
      | inr client ↦ rw client (subst
          (λ (n : ℕ). AllFit n (client_outcome handlers which contact content start).writes)
          (length-image len landed.writes all)
          (lawful content.handler (frame_of_run handlers which contact content) start).writes)
    ] in
    record { writes = all_fit-append len landed.writes run.writes all wrote; locks = kept.locks }

-- a run of a request
pub request_kept : (handlers : NodeHandlers) (contact : Contact) (content : Content) (local : Local)
    → IsLawfulMeaning handlers.meaning → StaysInside handlers.settings.segment content
    → IsKept handlers.settings contact.me local
    → IsKept handlers.settings contact.me (run_request handlers contact content local).0
request_kept handlers contact content local lawful fits kept =
    ran_kept handlers role.Request contact content local lawful fits kept

-- a run of a reply
pub reply_kept : (handlers : NodeHandlers) (contact : Contact) (content : Content) (local : Local)
    → IsLawfulMeaning handlers.meaning → StaysInside handlers.settings.segment content
    → IsKept handlers.settings contact.me local
    → IsKept handlers.settings contact.me (run_reply handlers contact content local)
reply_kept handlers contact content local lawful fits kept = elim (cases_Bool (is_ack (code content.kind))) [
  | inl ack ↦ rw ack kept
  | inr other ↦ rw other (ran_kept handlers role.Reply contact content local lawful fits kept)
]

-- each call beside a request
pub does_kept : (settings : Parameters) (table : List (Option Entry)) (meaning : Meaning) (me thread : ℕ)
    (call : CoreCall) (local : Local) → IsKept settings me local
    → IsKept settings me (core_does (rules settings table meaning) thread call local).1
does_kept settings table meaning me thread (Check kind) local kept =
    by_judgement ((rules settings table meaning).judges thread kind local)
  where
    by_judgement : (judged : Result (Unit {0}) Forbidden)
        → IsKept settings me (judged_local (rules settings table meaning) thread judged local)
    by_judgement (Ok allowed) = kept
    by_judgement (Err forbidden) = record { writes = kept.writes; locks = kept.locks }
does_kept settings table meaning me thread (Lock lock) local kept =
    record { writes = kept.writes; locks = lock_unheld local.locks thread lock kept.locks }
does_kept settings table meaning me thread (Unlock lock) local kept =
    record { writes = kept.writes; locks = unlock_unheld local.locks thread lock kept.locks }
