-- What a line that ends a collective tells.
use Rattle.std.proofs.Common.{◌≡◌, ℕ, zero, suc, ◌+◌, List, [], ◌∷◌, ◌++◌, map, Some, refl, sym, ap, ◌∙◌, arith}
use Rattle.std.proofs.Common.{codes, decimal}
use Rattle.std.specs.List.{slice_get}
use Rattle.std.proofs.lemmas.Option.{same_Some}
use Rattle.base_lists.proofs.Appended.{get-append_kept}
use Rattle.spec_network.specs.World.{EventAt, run}
use Rattle.node_rules.specs.EndpointRules.{OtherCall}
use Rattle.sim_world.specs.Settling.{WorldJob}
use Rattle.part_collective_area.specs.Area.{Area}
use Rattle.node_collectives.specs.declared.answers.EndAnswer.{EndAnswer}
use Rattle.node_collectives.specs.declared.answers.EndAnswer.TheVariants as ended
use Rattle.law_collectives.specs.Groups.{Group, GroupEvent, OfEnd, Other, does_end, group_after, group_does}
use Rattle.law_collectives.specs.Groups.{opening_group}
use Rattle.law_collectives.specs.CollectiveLaws.{CollectivesHold}
use Rattle.text_job.specs.JobReading.{lines_of}
use Rattle.text_steps.specs.declared.steps.CollectiveText.TheVariants as text
use Rattle.text_job.specs.declared.job.Job.{Job as JobState}
use Rattle.text_steps.specs.declared.steps.ScheduledEvent.{ScheduledEvent}
use Rattle.text_steps.specs.declared.steps.ScheduledEvent.TheVariants as scheduled
use Rattle.text_steps.specs.declared.steps.TimedEvent.{TimedEvent}
use Rattle.text_script.specs.CollectiveWords.{ended_words}
use Rattle.base_text.specs.LineTexts.{Line}
use Rattle.sim_run.specs.RunLaws.{ResultsHold, run_steps, steps_at, steps_before}
use Rattle.sim_run.specs.RunText.{answer_lines, end_lines, line_words, run_most, run_records}
use Rattle.sim_run.specs.Schedules.{Nodes, line_events, line_group, nodes_after, nodes_of, opening_nodes, world_job}

-- events of a group, and events behind them
after_both : (job : WorldJob) (area : Area) (group : Group) (xs ys : List GroupEvent)
    → group_after job area group (xs ++ ys) ≡ group_after job area (group_after job area group xs) ys
after_both job area group [] ys = refl
after_both job area group (x ∷ xs) ys = after_both job area (group_does job area group x).1 xs ys

-- events that no collective makes
others_leave : (job : WorldJob) (area : Area) (group : Group) (events : List (EventAt OtherCall))
    → group_after job area group (map Other events) ≡ record group { records = run job events group.records }
others_leave job area group [] = refl
others_leave job area group (event ∷ events) = others_leave job area (group_does job area group (Other event)).1 events

-- what a line leaves of the group
line_leaves : (job : WorldJob) (nodes : Nodes) (time : ℕ) (event : ScheduledEvent)
    → group_after job nodes.area nodes.group (steps_at job nodes time event) ≡ line_group job nodes time event
line_leaves job nodes time (scheduled.Collective node thread call) = refl
line_leaves job nodes time (scheduled.Call node thread call) = refl
line_leaves job nodes time (scheduled.Request from to number) = refl
line_leaves job nodes time (scheduled.Reply from to number) = refl
line_leaves job nodes time (scheduled.Tick node) = refl
line_leaves job nodes time (scheduled.Vis node thread vis) =
    others_leave job nodes.area nodes.group (line_events job nodes time (scheduled.Vis node thread vis))
line_leaves job nodes time (scheduled.Settle rounds) =
    others_leave job nodes.area nodes.group (line_events job nodes time (scheduled.Settle rounds))

-- a line is told by the group that the lines before it leave
line_tells : (job : WorldJob) (es : List TimedEvent) (nodes : Nodes) (first line : ℕ) (e : TimedEvent)
    → slice_get es line ≡ Some e
    → slice_get (answer_lines job first es nodes) line
    ≡ Some (decimal (line + first)
    ∷ line_words job (nodes_of nodes.area (group_after job nodes.area nodes.group (steps_before job es nodes line))) e)
line_tells job [] nodes first line e h = absurd (cc)
line_tells job (f ∷ es) nodes first zero e h =
    let number : first ≡ zero + first = omega arith in
    ap (λ (g : TimedEvent). Some (decimal first ∷ line_words job nodes g)) (same_Some f e h)
    ∙ ap (λ (n : ℕ). Some (decimal n ∷ line_words job nodes e)) number
line_tells job (f ∷ es) nodes first (suc line) e h =
    let number : line + (first + 1) ≡ suc line + first = omega arith in
    let later = steps_before job es (nodes_after job nodes f) line in
    let here = steps_at job nodes f.time f.event in
    let same : group_after job nodes.area (line_group job nodes f.time f.event) later
    ≡ group_after job nodes.area nodes.group (here ++ later) =
    ap (λ (group : Group). group_after job nodes.area group later) (sym (line_leaves job nodes f.time f.event))
    ∙ sym (after_both job nodes.area nodes.group here later) in
    line_tells job es (nodes_after job nodes f) (first + 1) line e h
    ∙ (ap (λ (n : ℕ). Some (decimal n ∷ line_words job (nodes_of nodes.area (group_after job nodes.area
    (line_group job nodes f.time f.event) later)) e)) number
    ∙ ap (λ (group : Group). Some (decimal (suc line + first) ∷ line_words job (nodes_of nodes.area group) e)) same)

-- the answer whose word is `ok`
ended_ok : (answer : EndAnswer) → ended_words answer ≡ codes "ok" ∷ [] → answer ≡ ended.Ended
ended_ok ended.Ended is = refl
ended_ok (ended.Mismatch node) is = absurd (cc)
ended_ok ended.NotReady is = absurd (cc)
ended_ok ended.NotStarted is = absurd (cc)
ended_ok (ended.BadArg argument) is = absurd (cc)
ended_ok (ended.Exhausted node) is = absurd (cc)
ended_ok (ended.Forbidden rule) is = absurd (cc)
ended_ok ended.NoMemory is = absurd (cc)

-- the words of two lines that are one
same_words : (number : List ℕ) (one other : Line) → Some (number ∷ one) ≡ Some (number ∷ other) → one ≡ other
same_words number one other same = cc

pub results_hold : (j : JobState) → CollectivesHold (world_job j) (opening_nodes j).area → ResultsHold j
results_hold j law place node thread dest tells good there =
    let job = world_job j in
    let nodes = opening_nodes j in
    let group = group_after job nodes.area (opening_group j.settings) (run_steps j place) in
    let entry : TimedEvent = record { time = tells.time; event = scheduled.Collective node thread (text.Try dest) } in
    let here = line_tells job (lines_of j.schedule) nodes 1 place entry tells.line in
    let told = get-append_kept (answer_lines job 1 (lines_of j.schedule) nodes)
    (end_lines j.settings (run_records j) (run_most j)) place
    (decimal (place + 1) ∷ line_words job (nodes_of nodes.area group) entry) here in
    let words = same_words (decimal (place + 1)) _ (codes "ok" ∷ []) (sym told ∙ tells.told) in
    law.ok _ (ap OfEnd (ended_ok (does_end job nodes.area group tells.time node thread dest).0 words))
