-- The lines before a place lead there.
use Rattle.std.proofs.Common.{◌≡◌, ◌≢◌, inl, inr, List, [], ◌∷◌, ◌++◌, map, Option, Some, None, Bool, true, false, refl, sym, ap}
use Rattle.std.proofs.Common.{subst, ◌∙◌, codes, append_assoc, append-nil}
use Rattle.std.specs.List.{flat_map}
use Rattle.text_steps.specs.Bodies.{action_text}
use Rattle.text_steps.specs.Scripts.{step_text}
use Rattle.text_job.specs.Places.{Setting, Version, Nodes, Credits, Threads, Segment, Last, Resend, Patience}
use Rattle.text_job.specs.Places as places
use Rattle.text_job.specs.Places.{Place, AtSetting, AtSieve, AtPairs, AtAtomics, AtHandlers, AtBody}
use Rattle.text_job.specs.Places.{AtScripts, AtSteps}
use Rattle.text_job.specs.Places.{AtCollect, AtSchedule, AtDone, Over}
use Rattle.text_job.specs.JobReading.{State, least_job, start, with_handler, with_script}
use Rattle.text_job.specs.JobText.{Line, handler_lines, header_line, script_lines, script_line, timed_lines}
use Rattle.text_job.specs.JobText.{schedule_lines, lines_with_pairs, lines_with_atomics, lines_with_collect}
use Rattle.text_job.specs.JobText.{lines_with_handlers}
use Rattle.text_job.specs.JobText.{lines_with_scripts, IsJob, pair_line, head_lines}
use Rattle.text_job.specs.Refusals.{completed_job, so_far, IsUnread, IsReached}
use Rattle.std.specs.Prelude.{is_some}
use Rattle.text_job.specs.declared.job.CollectArea.{CollectArea}
use Rattle.text_job.specs.declared.job.HandlerText.{HandlerText}
use Rattle.text_job.specs.declared.job.Job.{Job}
use Rattle.text_job.specs.declared.job.NodeScript.{NodeScript}
use Rattle.text_steps.specs.declared.steps.TimedEvent.{TimedEvent}
use Rattle.text_job.proofs.Completeness.{Reaches, reach_join, of_head, version_said, job_said, nodes_said}
use Rattle.text_job.proofs.Completeness.{credits_said}
use Rattle.text_job.proofs.Completeness.{threads_said, segment_said, last_said, resend_said, patience_said}
use Rattle.text_job.proofs.Completeness.{to_job}
use Rattle.text_job.proofs.Completeness.{to_nodes, to_credits, to_threads, to_segment, to_last, to_resend}
use Rattle.text_job.proofs.Completeness.{to_patience}
use Rattle.text_job.proofs.Completeness.{to_sieve, head_reach, pairs_reach, before_handlers, before_scripts}
use Rattle.text_job.proofs.Completeness.{handlers_lead}
use Rattle.text_job.proofs.Completeness.{scripts_lead, handler_opens, script_opens, schedule_begins}
use Rattle.text_job.proofs.Completeness.{schedule_whole}
use Rattle.text_job.proofs.Completeness.{whole_reach, with_scripts, with_schedule, some_behind}
use Rattle.text_job.proofs.Completeness.{with_flag, atomics_lead}

-- what a reader knows of the job there: in the head, all that no line has said is as small as it can be
abbrev pub numbers_said : Setting → Job → Job
numbers_said Version job = least_job
numbers_said places.Job job = version_said job
numbers_said Nodes job = job_said job
numbers_said Credits job = nodes_said job
numbers_said Threads job = credits_said job
numbers_said Segment job = threads_said job
numbers_said Last job = segment_said job
numbers_said Resend job = last_said job
numbers_said Patience job = resend_said job

abbrev pub known : Place → Job → Job
known (AtSetting setting) job = numbers_said setting job
known AtSieve job = patience_said job
known place job = job

abbrev pub known_at : Place → Job → State
known_at place job = record { place = place; job = known place job }

-- ---- what no line has said

unread_pairs : (job : Job) → IsUnread AtPairs job → of_head job job.settings.pairs ≡ job
unread_pairs job u =
    let with_schedule_of : of_head job job.settings.pairs ≡ record (of_head job job.settings.pairs) { schedule = job.schedule } =
    ap (λ (s : Option (List TimedEvent)). record (of_head job job.settings.pairs) { schedule = s }) (sym u.4) in
    with_schedule_of
    ∙ ap (λ (ss : List NodeScript). record job { atomics = false; collect = None; handlers = []; scripts = ss }) (sym u.3)
    ∙ ap (λ (hs : List HandlerText). record job { atomics = false; collect = None; handlers = hs }) (sym u.2)
    ∙ ap (λ (c : Option CollectArea). record job { atomics = false; collect = c }) (sym u.1)
    ∙ ap (λ (b : Bool). record job { atomics = b }) (sym u.0)

-- the same behind the line of atomics
unread_collect : (job : Job) → IsUnread AtCollect job
    → with_flag (of_head job job.settings.pairs) job.atomics ≡ job
unread_collect job u =
    ap (λ (s : Option (List TimedEvent)). record (with_flag (of_head job job.settings.pairs) job.atomics) {
      schedule = s;
    }) (sym u.3)
    ∙ ap (λ (ss : List NodeScript). record job { collect = None; handlers = []; scripts = ss }) (sym u.2)
    ∙ ap (λ (hs : List HandlerText). record job { collect = None; handlers = hs }) (sym u.1)
    ∙ ap (λ (c : Option CollectArea). record job { collect = c }) (sym u.0)

unread_scripts : (job : Job) → job.scripts ≡ [] → job.schedule ≡ None → before_scripts job ≡ job
unread_scripts job none last =
    ap (λ (s : Option (List TimedEvent)). record (before_scripts job) { schedule = s }) (sym last)
    ∙ ap (λ (ss : List NodeScript). record job { scripts = ss }) (sym none)

unread_schedule : (job : Job) → job.schedule ≡ None → with_scripts (before_scripts job) job.scripts ≡ job
unread_schedule job last = ap (λ (s : Option (List TimedEvent)). record job { schedule = s }) (sym last)

-- ---- some lines

some_handlers : (hs : List HandlerText) (lines : List Line) → hs ≢ [] → flat_map handler_lines hs ++ lines ≡ [] → ⊥
some_handlers [] lines some h = some refl
some_handlers (x ∷ hs) lines some h = absurd (cc)

some_scripts : (ss : List NodeScript) (lines : List Line) → ss ≢ [] → flat_map script_lines ss ++ lines ≡ [] → ⊥
some_scripts [] lines some h = some refl
some_scripts (x ∷ ss) lines some h = absurd (cc)

one_line : (line : Line) (lines : List Line) → ◌≡◌ {A = List Line} (line ∷ lines) [] → ⊥
one_line line lines h = cc

collect_or_handlers : (job : Job) → IsReached AtHandlers job → job.collect ≡ None
    → flat_map handler_lines job.handlers ++ [] ≡ [] → ⊥
collect_or_handlers job (inl there) none = not_both job.collect there none
  where
    not_both : {lines : List Line} (collect : Option CollectArea) → is_some collect ≡ true → collect ≡ None
        → lines ≡ [] → ⊥
    not_both None there none = absurd (cc)
    not_both (Some area) there none = absurd (cc)
collect_or_handlers job (inr some) none = some_handlers job.handlers [] some

not_without : (atomics : Bool) → atomics ≡ true → {lines : List Line} → atomics ≡ false → lines ≡ [] → ⊥
not_without true there none = absurd (cc)
not_without false there none = absurd (cc)

-- ---- each place

to_setting : (setting : Setting) (job : Job) → IsJob job
    → Reaches start (so_far (AtSetting setting) job) (known_at (AtSetting setting) job)
to_setting Version job is = refl
to_setting places.Job job is = to_job job is
to_setting Nodes job is = to_nodes job is
to_setting Credits job is = to_credits job is
to_setting Threads job is = to_threads job is
to_setting Segment job is = to_segment job is
to_setting Last job is = to_last job is
to_setting Resend job is = to_resend job is
to_setting Patience job is = to_patience job is

-- lines up to a place, where what the reader knows is the job
arrive : (lines : List Line) (place : Place) (found job : Job) → found ≡ job
    → Reaches start lines (record { place = place; job = found })
    → Reaches start lines (record { place = place; job = job })
arrive lines place found job same h = subst (λ (j : Job). Reaches start lines (record { place = place; job = j })) same h

to_pairs : (job : Job) → IsUnread AtPairs job → IsJob job → Reaches start (so_far AtPairs job) (known_at AtPairs job)
to_pairs job u is =
    let begun = of_head job job.settings.pairs in
    arrive (lines_with_pairs job) AtPairs begun job (unread_pairs job u)
    (reach_join start (record { place = AtPairs; job = of_head job [] }) (record { place = AtPairs; job = begun })
    (head_lines job) (map pair_line job.settings.pairs) (head_reach job is)
    (pairs_reach job is [] job.settings.pairs refl))

to_collect : (job : Job) → job.atomics ≡ true → IsUnread AtCollect job → IsJob job
    → Reaches start (so_far AtCollect job) (known_at AtCollect job)
to_collect job r u is =
    let found = with_flag (of_head job job.settings.pairs) job.atomics in
    arrive (lines_with_atomics job) AtCollect found job (unread_collect job u)
    (subst (λ (ls : List Line). Reaches start ls (record { place = AtCollect; job = found }))
    (append-nil (lines_with_atomics job))
    (atomics_lead job is [] (record { place = AtCollect; job = found }) (not_without job.atomics r) refl))

to_handlers : (job : Job) → IsReached AtHandlers job → IsUnread AtHandlers job → IsJob job
    → Reaches start (so_far AtHandlers job) (known_at AtHandlers job)
to_handlers job r u is =
    arrive (lines_with_handlers job) AtHandlers (before_scripts job) job (unread_scripts job u.0 u.1)
    (subst (λ (ls : List Line). Reaches start (lines_with_collect job ++ ls)
    (record { place = AtHandlers; job = before_scripts job })) (append-nil (flat_map handler_lines job.handlers))
    (handlers_lead job is job.handlers [] (sym (append-nil job.handlers)) []
    (record { place = AtHandlers; job = before_scripts job }) (collect_or_handlers job r) (λ may. refl)))

to_body : (handler : HandlerText) (job : Job) → IsUnread (AtBody handler) job → IsJob (with_handler handler job)
    → Reaches start (so_far (AtBody handler) job) (known_at (AtBody handler) job)
to_body handler job u is =
    let lines = header_line handler ∷ map action_text handler.body in
    let hs = flat_map handler_lines job.handlers in
    arrive (lines_with_handlers job ++ lines) (AtBody handler) (before_scripts job) job (unread_scripts job u.0 u.1)
    (subst (λ (ls : List Line). Reaches start ls (record { place = AtBody handler; job = before_scripts job }))
    (sym (append_assoc (lines_with_collect job) hs lines))
    (handlers_lead (with_handler handler job) is job.handlers (handler ∷ []) refl lines
    (record { place = AtBody handler; job = before_scripts job })
    (λ none. some_behind hs lines (one_line (header_line handler) (map action_text handler.body)))
    (λ may. handler_opens (before_handlers job) job.handlers handler [] may)))

to_scripts : (job : Job) → IsReached AtScripts job → IsUnread AtScripts job → IsJob job
    → Reaches start (so_far AtScripts job) (known_at AtScripts job)
to_scripts job r u is =
    let found = with_scripts (before_scripts job) job.scripts in
    arrive (lines_with_scripts job) AtScripts found job (unread_schedule job u)
    (subst (λ (ls : List Line). Reaches start (lines_with_handlers job ++ ls) (record { place = AtScripts; job = found }))
    (append-nil (flat_map script_lines job.scripts))
    (scripts_lead job is job.scripts [] (sym (append-nil job.scripts)) [] (record { place = AtScripts; job = found })
    (some_scripts job.scripts [] r) (λ may. refl)))

to_steps : (script : NodeScript) (job : Job) → IsUnread (AtSteps script) job → IsJob (with_script script job)
    → Reaches start (so_far (AtSteps script) job) (known_at (AtSteps script) job)
to_steps script job u is =
    let lines = script_line script ∷ map step_text script.steps in
    let ss = flat_map script_lines job.scripts in
    let found = with_scripts (before_scripts job) job.scripts in
    arrive (lines_with_scripts job ++ lines) (AtSteps script) found job (unread_schedule job u)
    (subst (λ (ls : List Line). Reaches start ls (record { place = AtSteps script; job = found }))
    (sym (append_assoc (lines_with_handlers job) ss lines))
    (scripts_lead (with_script script job) is job.scripts (script ∷ []) refl lines
    (record { place = AtSteps script; job = found })
    (some_behind ss lines (one_line (script_line script) (map step_text script.steps)))
    (λ may. script_opens (before_scripts job) is.settings.nodes is.settings.threads job.scripts script [] may)))

-- behind all scripts
behind_all : (job : Job) → IsJob job → (lines : List Line) (end : State) → lines ≢ []
    → Reaches (record { place = AtScripts; job = with_scripts (before_scripts job) job.scripts }) lines end
    → Reaches start (lines_with_scripts job ++ lines) end
behind_all job is lines end some on =
    let ss = flat_map script_lines job.scripts in
    subst (λ (ls : List Line). Reaches start ls end) (sym (append_assoc (lines_with_handlers job) ss lines))
    (scripts_lead job is job.scripts [] (sym (append-nil job.scripts)) lines end (some_behind ss lines some) (λ may. on))

-- the job with the lines of a schedule
scheduled_as : (job : Job) (lines : List TimedEvent) → job.schedule ≡ Some lines → with_schedule job lines ≡ job
scheduled_as job lines e = ap (λ (s : Option (List TimedEvent)). record job { schedule = s }) (sym e)

to_schedule : (job : Job) (lines : List TimedEvent) → job.schedule ≡ Some lines → IsJob (with_schedule job lines)
    → Reaches start (so_far AtSchedule (with_schedule job lines)) (known_at AtSchedule (with_schedule job lines))
to_schedule job lines e is =
    let found = with_schedule job lines in
    let own = codes "schedule" ∷ timed_lines job.settings lines in
    behind_all found is own (record { place = AtSchedule; job = found })
    (one_line (codes "schedule") (timed_lines job.settings lines))
    (schedule_begins (with_scripts (before_scripts found) job.scripts) lines is.schedule is.pieces)

to_done : (job : Job) (lines : List TimedEvent) → job.schedule ≡ Some lines → IsJob (with_schedule job lines)
    → Reaches start (so_far AtDone (with_schedule job lines)) (known_at AtDone (with_schedule job lines))
to_done job lines e is =
    let found = with_schedule job lines in
    behind_all found is (schedule_lines job.settings (Some lines)) (record { place = AtDone; job = found })
    (one_line (codes "schedule") (timed_lines job.settings lines ++ codes "end" ∷ []))
    (schedule_whole (with_scripts (before_scripts found) job.scripts) lines is.schedule is.pieces)

-- the lines before a place lead there
pub reach_place : (place : Place) (job : Job) → IsJob (completed_job place job) → IsUnread place job → IsReached place job
    → Reaches start (so_far place job) (known_at place job)
reach_place (AtSetting setting) job is u r = to_setting setting job is
reach_place AtSieve job is u r = to_sieve job is
reach_place AtPairs job is u r = to_pairs job u is
reach_place AtAtomics job is u r = absurd r
reach_place AtCollect job is u r = to_collect job r u is
reach_place AtHandlers job is u r = to_handlers job r u is
reach_place (AtBody handler) job is u r = to_body handler job u is
reach_place AtScripts job is u r = to_scripts job r u is
reach_place (AtSteps script) job is u r = to_steps script job u is
reach_place AtSchedule job is u r =
    let same = scheduled_as job u.0 u.1 in
    subst (λ (j : Job). Reaches start (so_far AtSchedule j) (known_at AtSchedule j)) same
    (to_schedule job u.0 u.1 (subst IsJob (sym same) is))
reach_place AtDone job is u r =
    let same = scheduled_as job u.0 u.1 in
    subst (λ (j : Job). Reaches start (so_far AtDone j) (known_at AtDone j)) same
    (to_done job u.0 u.1 (subst IsJob (sym same) is))
reach_place Over job is u r = whole_reach job is
