-- The lines of a run, by two versions.
use Rattle.std.proofs.Common.{◌≡◌, ℕ, zero, suc, ◌+◌, ◌≤◌, Bool, true, List, [], ◌∷◌, ◌++◌, map, max}
use Rattle.std.proofs.Common.{refl, sym, ap, subst, ◌∙◌}
use Rattle.std.specs.Prelude.{decimal, not, ◌==◌, ◌||◌}
use Rattle.std.proofs.Math.Path.{fun_ext}
use Rattle.wire_message.specs.Content.{is_version}
use Rattle.wire_message.specs.Notifications.{most_nodes}
use Rattle.spec_network.specs.World.{EventAt, run, world_answer, world_after, RequestComes, ReplyComes, Ticks}
use Rattle.spec_network.specs.MostHeld.{most_then, most_after}
use Rattle.node_rules.specs.EndpointLocal.{IsEndpointKept, nothing_begun}
use Rattle.node_rules.specs.EndpointRules.{OtherCall, Records, at_the_opening, all_rules, timed_event}
use Rattle.node_rules.proofs.Kept.{opening_kept}
use Rattle.node_rules.proofs.Sound.{rules_sound}
use Rattle.sim_world.specs.WorldTold.{world_told}
use Rattle.sim_world.proofs.Among.{AreAmong, both_among}
use Rattle.text_job.specs.JobReading.{lines_of}
use Rattle.text_job.specs.JobText.{IsJob}
use Rattle.text_job.specs.declared.job.Job.{Job as JobState}
use Rattle.text_steps.specs.declared.steps.ScheduledEvent.{ScheduledEvent}
use Rattle.text_steps.specs.declared.steps.ScheduledEvent.TheVariants as scheduled
use Rattle.text_steps.specs.declared.steps.TimedEvent.{TimedEvent}
use Rattle.text_script.specs.AnswerWords.{Sight, sight_of, vis_words}
use Rattle.text_script.specs.Bodies.{script_meaning}
use Rattle.text_script.specs.LawfulBodies.{lawful-script}
use Rattle.base_text.specs.LineTexts.{Line}
use Rattle.text_script.specs.Registration.{handlers_of, registry_of}
use Rattle.text_script.specs.ScheduledCalls.{meant_by}
use Rattle.node_vis.specs.Beginning.{calls_made}
use Rattle.node_vis.specs.declared.shapes.Vis.{Vis}
use Rattle.text_script.specs.CollectiveWords.{collective_words}
use Rattle.part_collective_area.specs.Area.{Area}
use Rattle.law_collectives.specs.Groups.{Group}
use Rattle.sim_run.specs.Schedules.{Nodes, call_event, line_events, line_group, nodes_after, opening_nodes}
use Rattle.sim_run.specs.Schedules.{begin_answer, begin_asked, call_events, schedule_events}
use Rattle.sim_run.proofs.CollectivesAmong.{collective_among}
use Rattle.sim_run.proofs.LinesRun.{line_runs}
use Rattle.text_script.specs.ScriptInvariant.{IsWithin, AreWithin}
use Rattle.sim_run.proofs.CallsAmong.{call_among}
use Rattle.sim_run.proofs.ScheduleAmong.{calls_among}
use Rattle.text_script.proofs.ScheduleNodes.{job_within}
use Rattle.spec_network.proofs.Worlds.{opening_holds}
use Rattle.base_lists.proofs.Numbered.{numbered_nil}
use Rattle.sim_run.specs.RunText.{world_words, event_words, words_at, line_words, answer_lines, node_of_event}
use Rattle.sim_run.specs.RunText.{node_lines}
use Rattle.sim_run.specs.RunText.{lines_of_node, node_line, violations, last_violations, violation_line, end_lines}
use Rattle.sim_run.specs.RunText.{any_violation, run_records, run_most}
use Rattle.sim_versions.specs.Respelled.{Versions, one_job, other_job, respell_world, spelled_as}
use Rattle.sim_versions.specs.Upgraded.{IsSameRun, in_version}
use Rattle.sim_versions.proofs.Agreeing.{rules_agree}
use Rattle.sim_versions.proofs.Beginning.{begin_alike}
use Rattle.sim_versions.proofs.Bodies.{script_ignores}
use Rattle.sim_versions.proofs.Ends.{held_alike, sight_alike}
use Rattle.sim_versions.proofs.Collecting.{call_alike, respell_group, respell_nodes}
use Rattle.sim_versions.proofs.Settling.{AreSound, Stood, after_events, settle_alike}
use Rattle.sim_versions.proofs.Worlds.{event_alike}

-- ---- answers

-- the words of the answer to an event
event_words_alike : (v : Versions) (world : Records) (timed : EventAt OtherCall) → Stood v world
    → event_words (other_job v) (respell_world v.spell world) timed ≡ event_words (one_job v) world timed
event_words_alike v world timed stood =
    let alike = event_alike v world timed.now timed.event stood.holds stood.notes in
    let node = node_of_event timed.event in
    let after = world_after (one_job v) world timed node in
    ap (λ (w : Records). world_words (sight_of (other_job v).settings node (w node))
    (world_told (world_answer (other_job v) (respell_world v.spell world) timed))) alike.after
    ∙ (ap (λ (sight : Sight). world_words sight
    (world_told (world_answer (other_job v) (respell_world v.spell world) timed))) (sight_alike v node after)
    ∙ ap (λ answer. world_words (sight_of v.settings node after) (world_told answer)) alike.answer)

-- a line
words_alike : (v : Versions) (sound : AreSound v) (nodes : Nodes) (entry : TimedEvent) → Stood v nodes.group.records
    → IsWithin v.settings entry.event
    → line_words (other_job v) (respell_nodes v.spell nodes) entry ≡ line_words (one_job v) nodes entry
words_alike v sound nodes entry stood within = by_event entry.event within
  where
    world : Records
    world = nodes.group.records

    by_event : (event : ScheduledEvent) → IsWithin v.settings event
        → words_at (other_job v) (respell_nodes v.spell nodes) entry.time event
        ≡ words_at (one_job v) nodes entry.time event
    by_event (scheduled.Call node thread call) within =
        event_words_alike v world (timed_event entry.time (call_event world node thread call)) stood
    by_event (scheduled.Request from to number) within =
        event_words_alike v world (timed_event entry.time (RequestComes from to number)) stood
    by_event (scheduled.Reply from to number) within =
        event_words_alike v world (timed_event entry.time (ReplyComes from to number)) stood
    by_event (scheduled.Tick node) within = event_words_alike v world (timed_event entry.time (Ticks node)) stood
    by_event (scheduled.Vis node thread vis) within =
        ap vis_words (begin_alike v node entry.time (world node) (begin_asked thread vis))
    by_event (scheduled.Collective node thread call) within =
        ap collective_words (call_alike v sound nodes entry.time node thread call within.0 stood).answer
    by_event (scheduled.Settle rounds) within = refl

-- its events are the same, and among the nodes; and what it leaves is the same but for the spelling
record LineAlike (v : Versions) (nodes : Nodes) (time : ℕ) (event : ScheduledEvent) : Type 0 where
  pub same : line_events (other_job v) (respell_nodes v.spell nodes) time event ≡ line_events (one_job v) nodes time event
  pub among : AreAmong v.settings (line_events (one_job v) nodes time event)
  pub left : line_group (other_job v) (respell_nodes v.spell nodes) time event
      ≡ respell_group v.spell (line_group (one_job v) nodes time event)

-- where a line leaves what its events leave of the records
left_alike : (v : Versions) (sound : AreSound v) (nodes : Nodes) (events others : List (EventAt OtherCall))
    → Stood v nodes.group.records → others ≡ events → AreAmong v.settings events
    → record (respell_group v.spell nodes.group) {
      records = run (other_job v) others (respell_world v.spell nodes.group.records);
    }
    ≡ respell_group v.spell (record nodes.group { records = run (one_job v) events nodes.group.records })
left_alike v sound nodes events others stood same among =
    ap (λ (es : List (EventAt OtherCall)). record nodes.group {
      records = run (other_job v) es (respell_world v.spell nodes.group.records);
    }) same
    ∙ ap (λ (w : Records). record nodes.group { records = w })
    (after_events v sound events nodes.group.records stood among).0

line_alike : (v : Versions) (sound : AreSound v) (nodes : Nodes) (time : ℕ) (event : ScheduledEvent)
    → Stood v nodes.group.records → IsWithin v.settings event → LineAlike v nodes time event
line_alike v sound nodes time (scheduled.Call node thread call) stood within =
    let among : AreAmong v.settings (timed_event time (call_event nodes.group.records node thread call) ∷ []) =
    (call_among v.settings node thread (meant_by (nodes.group.records node).local.core.cells call) within.0, tt) in
    record {
      same = refl;
      among = among;
      left = left_alike v sound nodes (timed_event time (call_event nodes.group.records node thread call) ∷ [])
          (timed_event time (call_event nodes.group.records node thread call) ∷ []) stood refl among;
    }
line_alike v sound nodes time (scheduled.Request from to number) stood within =
    let events : List (EventAt OtherCall) = timed_event time (RequestComes from to number) ∷ [] in
    let among : AreAmong v.settings events = (within, tt) in
    record { same = refl; among = among; left = left_alike v sound nodes events events stood refl among }
line_alike v sound nodes time (scheduled.Reply from to number) stood within =
    let events : List (EventAt OtherCall) = timed_event time (ReplyComes from to number) ∷ [] in
    let among : AreAmong v.settings events = (within, tt) in
    record { same = refl; among = among; left = left_alike v sound nodes events events stood refl among }
line_alike v sound nodes time (scheduled.Tick node) stood within =
    let events : List (EventAt OtherCall) = timed_event time (Ticks node) ∷ [] in
    let among : AreAmong v.settings events = (within, tt) in
    record { same = refl; among = among; left = left_alike v sound nodes events events stood refl among }
line_alike v sound nodes time (scheduled.Vis node thread vis) stood within =
    let asked = begin_asked thread vis in
    let same = ap (λ (answer : Vis). call_events time node (calls_made asked answer))
    (begin_alike v node time (nodes.group.records node) asked) in
    let among = calls_among v.settings time node
    (calls_made asked (begin_answer (one_job v) nodes.group.records time node asked)) within.0 in
    record { same = same; among = among; left = left_alike v sound nodes _ _ stood same among }
line_alike v sound nodes time (scheduled.Collective node thread call) stood within =
    let it = call_alike v sound nodes time node thread call within.0 stood in
    record {
      same = it.calls_are;
      among = collective_among (one_job v) nodes time node thread call within.0;
      left = it.left;
    }
line_alike v sound nodes time (scheduled.Settle rounds) stood within =
    let alike = settle_alike v sound time rounds in
    let same = alike.same nodes.group.records stood in
    let among = alike.among nodes.group.records in
    record { same = same; among = among; left = left_alike v sound nodes _ _ stood same among }

-- ---- schedules

abbrev with_group : Area → Group → Nodes
with_group area group = record { area = area; group = group }

-- what the lines of a schedule say and do
pub record LinesAlike (v : Versions) (entries : List TimedEvent) (nodes : Nodes) (number : ℕ) : Type 0 where
  pub lines : answer_lines (other_job v) number entries (respell_nodes v.spell nodes)
      ≡ answer_lines (one_job v) number entries nodes
  pub events : schedule_events (other_job v) entries (respell_nodes v.spell nodes)
      ≡ schedule_events (one_job v) entries nodes
  pub among : AreAmong v.settings (schedule_events (one_job v) entries nodes)

lines_alike : (v : Versions) (sound : AreSound v) (entries : List TimedEvent) (nodes : Nodes) (number : ℕ)
    → Stood v nodes.group.records → AreWithin v.settings entries → LinesAlike v entries nodes number
lines_alike v sound [] nodes number stood within = record { lines = refl; events = refl; among = tt }
lines_alike v sound (entry ∷ entries) nodes number stood within =
    let here = within 0 entry refl in
    let line = line_alike v sound nodes entry.time entry.event stood here in
    let events = line_events (one_job v) nodes entry.time entry.event in
    let behind = nodes_after (one_job v) nodes entry in
    let after = after_events v sound events nodes.group.records stood line.among in
    let next : Stood v behind.group.records =
    subst (Stood v) (sym (line_runs (one_job v) nodes entry)) after.1 in
    let rest = lines_alike v sound entries behind (number + 1) next (λ i x at. within (suc i) x at) in
    let there : nodes_after (other_job v) (respell_nodes v.spell nodes) entry ≡ respell_nodes v.spell behind =
    ap (λ (group : Group). with_group nodes.area group) line.left
    in
    record {
      lines = ap (λ (words : Line). (decimal number ∷ words) ∷ answer_lines (other_job v) (number + 1) entries
          (nodes_after (other_job v) (respell_nodes v.spell nodes) entry)) (words_alike v sound nodes entry stood here)
          ∙ (ap (λ (now : Nodes). (decimal number ∷ line_words (one_job v) nodes entry)
          ∷ answer_lines (other_job v) (number + 1) entries now) there
          ∙ ap (λ (ls : List Line). (decimal number ∷ line_words (one_job v) nodes entry) ∷ ls) rest.lines);
      events = ap (λ (es : List (EventAt OtherCall)). es ++ schedule_events (other_job v) entries
          (nodes_after (other_job v) (respell_nodes v.spell nodes) entry)) line.same
          ∙ (ap (λ (now : Nodes). events ++ schedule_events (other_job v) entries now) there
          ∙ ap (λ (es : List (EventAt OtherCall)). events ++ es) rest.events);
      among = both_among v.settings events _ line.among rest.among;
    }

-- ---- the most that nodes held

then_alike : (v : Versions) (world : Records) (most : ℕ → ℕ)
    → most_then (other_job v).settings (respell_world v.spell world) most ≡ most_then v.settings world most
then_alike v world most = fun_ext (λ node. ap (max (most node)) (held_alike v node (world node)))

most_alike : (v : Versions) (sound : AreSound v) (events : List (EventAt OtherCall)) (world : Records) (most : ℕ → ℕ)
    → Stood v world → AreAmong v.settings events
    → most_after (other_job v) events (respell_world v.spell world) most ≡ most_after (one_job v) events world most
most_alike v sound [] world most stood among = refl
most_alike v sound (timed ∷ rest) world most stood among =
    let first = after_events v sound (timed ∷ []) world stood (among.0, tt) in
    let after = world_after (one_job v) world timed in
    ap (λ (w : Records). most_after (other_job v) rest w (most_then (other_job v).settings w most)) first.0
    ∙ (ap (most_after (other_job v) rest (respell_world v.spell after)) (then_alike v after most)
    ∙ most_alike v sound rest after (most_then v.settings after most) first.1 among.1)

-- ---- the lines at the end

nodes_alike : (v : Versions) (world : Records) (most : ℕ → ℕ) (node count : ℕ)
    → node_lines (other_job v).settings (respell_world v.spell world) most node count
    ≡ node_lines v.settings world most node count
nodes_alike v world most node zero = refl
nodes_alike v world most node (suc count) =
    ap (λ (now : ℕ). (node_line node now (most node) (violations (world node))
    ∷ map (violation_line node) (last_violations (world node)))
    ++ node_lines (other_job v).settings (respell_world v.spell world) most (node + 1) count)
    (held_alike v node (world node))
    ∙ ap (λ (ls : List Line). lines_of_node v.settings node (most node) (world node) ++ ls)
    (nodes_alike v world most (node + 1) count)

-- ---- a job

-- the two versions of a job
versions_of : (job : JobState) (version : ℕ) → IsJob job → is_version version ≡ true
    → job.settings.nodes ≤ most_nodes version → Versions
versions_of job version is known few = record {
  spell = spelled_as job.settings.version version;
  settings = job.settings;
  version = version;
  one = all_rules job.settings (registry_of (handlers_of job)).table (script_meaning (handlers_of job));
  other = all_rules (record job.settings { version = version }) (registry_of (handlers_of job)).table
      (script_meaning (handlers_of job));
  agree = rules_agree version job.settings (registry_of (handlers_of job)).table (script_meaning (handlers_of job))
      (script_ignores version (handlers_of job)) is.settings known few;
}

-- whether one of them noted a violation
violated_alike : (v : Versions) (world : Records) (node count : ℕ)
    → any_violation (respell_world v.spell world) node count ≡ any_violation world node count
violated_alike v world node zero = refl
violated_alike v world node (suc count) =
    ap (λ (rest : Bool). not (violations (world node) == 0) || rest) (violated_alike v world (node + 1) count)

-- the run of a job is that of the job with another version
pub same_run : (job : JobState) (version : ℕ) → IsJob job → is_version version ≡ true
    → job.settings.nodes ≤ most_nodes version
    → IsSameRun job (in_version job version)
unfolding versions_of
same_run job version is known few =
    let v = versions_of job version is known few in
    let settings = job.settings in
    let table = (registry_of (handlers_of job)).table in
    let meaning = script_meaning (handlers_of job) in
    let entries = lines_of job.schedule in
    let start = at_the_opening settings in
    let sound : AreSound v = rules_sound settings table meaning is.settings (lawful-script (handlers_of job)) in
    let stood : Stood v start = record {
      holds = opening_holds (one_job v) (IsEndpointKept settings) (λ node. nothing_begun settings)
          (opening_kept settings);
      notes = λ node to number request is. absurd (numbered_nil number request is);
    } in
    let opening = opening_nodes job in
    let alike = lines_alike v sound entries opening 1 stood (job_within job is) in
    let events = schedule_events (one_job v) entries opening in
    let after = after_events v sound events start stood alike.among in
    let records = run (one_job v) events start in
    let most = most_after (one_job v) events start (λ node. 0) in
    let other = record job { settings = record settings { version = version } } in
    let most_is : run_most other ≡ most =
    ap (λ (es : List (EventAt OtherCall)). most_after (other_job v) es start (λ node. 0)) alike.events
    ∙ most_alike v sound events start (λ node. 0) stood alike.among
    in
    let records_are : run_records other ≡ respell_world v.spell records =
    ap (λ (es : List (EventAt OtherCall)). run (other_job v) es start) alike.events ∙ after.0
    in
    record {
      lines = ap (λ (ls : List Line). ls ++ end_lines other.settings (run_records other) (run_most other)) alike.lines
          ∙ ap (λ (ls : List Line). answer_lines (one_job v) 1 entries opening ++ ls)
          (ap (λ (w : Records). end_lines other.settings w (run_most other)) records_are
          ∙ (ap (λ (m : ℕ → ℕ). end_lines other.settings (respell_world v.spell records) m) most_is
          ∙ nodes_alike v records most 0 settings.nodes));
      violated = ap (λ (w : Records). any_violation w 0 settings.nodes) records_are
          ∙ violated_alike v records 0 settings.nodes;
    }
