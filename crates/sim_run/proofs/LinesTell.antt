-- The lines of a run tell the answers of its events; so of those that deliver one message, at most one tells that the
-- message was run, or that it brought its request back.
use Rattle.std.proofs.Common.{◌≡◌, ◌⊎◌, inl, inr, ℕ, zero, suc, ◌+◌, List, [], ◌∷◌, ◌++◌, length, Option, None, Some}
use Rattle.std.proofs.Common.{◌<◌, refl, sym, ap, subst, ◌∙◌, arith, codes, decimal}
use Rattle.std.specs.List.{slice_get}
use Rattle.std.proofs.lemmas.Option.{same_Some}
use Rattle.wire_message.specs.Parameters.{Parameters}
use Rattle.wire_message.specs.Message.{Message}
use Rattle.spec_node.specs.Record.{Request, Run, element_at}
use Rattle.spec_node.specs.Executed.{run_of}
use Rattle.node_rules.specs.EndpointLocal.{nothing_begun}
use Rattle.spec_node.specs.declared.answer.Delivered.{Delivered}
use Rattle.spec_node.specs.declared.answer.Delivered.TheVariants as delivered
use Rattle.spec_node.specs.NodeStep.{Comes, OfDelivery}
use Rattle.spec_network.specs.World.{RequestComes, ReplyComes, EventAt, Fall, WorldAnswer, OfNode, request_event}
use Rattle.spec_network.specs.World.{reply_event, falls, answer_at, world_after, run, answers_of}
use Rattle.spec_network.specs.PlainStep.{request_name}
use Rattle.spec_network.specs.Headline.{Headline, after_first, Happens, IsRanAnswer, IsReturned}
use Rattle.node_rules.specs.EndpointRules.{OtherCall, Records, RecordsEvent, at_the_opening, timed_event}
use Rattle.sim_world.specs.WorldTold.{world_told}
use Rattle.node_rules.specs.declared.answer.Answer.{Answer}
use Rattle.base_text.specs.LineTexts.{Line}
use Rattle.text_job.specs.declared.job.Job.{Job as JobState}
use Rattle.text_script.specs.AnswerWords.{Sight, sight_of, delivered_words}
use Rattle.sim_world.specs.Settling.{WorldJob}
use Rattle.sim_run.specs.Schedules.{Nodes, nodes_after, opening_nodes, world_job, scheduled_event, line_events}
use Rattle.sim_run.specs.Schedules.{schedule_events}
use Rattle.sim_run.proofs.LinesRun.{line_runs}
use Rattle.text_job.specs.JobReading.{lines_of}
use Rattle.text_steps.specs.declared.steps.ScheduledEvent.{ScheduledEvent}
use Rattle.text_steps.specs.declared.steps.ScheduledEvent.TheVariants as scheduled
use Rattle.text_steps.specs.declared.steps.TimedEvent.{TimedEvent}
use Rattle.sim_run.specs.RunText.{node_of_event, world_words, event_words, answer_lines, end_lines, run_events}
use Rattle.sim_run.specs.RunText.{run_records, run_most}
use Rattle.sim_run.specs.RunLaws.{records_at, IsOneEvent, LinesTell, TellsWords, RanToldOnce, ReturnedToldOnce}
use Rattle.sim_run.specs.RunLaws.{PlacesRise, event_place, events_before}
use Rattle.sim_run.proofs.ScheduleLines.{one_answer, one_event}
use Rattle.base_lists.proofs.Appended.{get-append_kept, get-append_right}

-- ---- lists

-- the records after all of some events and the first of those that follow them
after_past : (job : WorldJob) (xs ys : List (EventAt OtherCall)) (w : Records) (count : ℕ)
    → after_first job (xs ++ ys) w (length xs + count) ≡ after_first job ys (run job xs w) count
after_past job [] ys w count = ap (after_first job ys w) (omega arith)
after_past job (x ∷ xs) ys w count =
    let next : length (x ∷ xs) + count ≡ suc (length xs + count) = omega arith in
    ap (after_first job (x ∷ (xs ++ ys)) w) next ∙ after_past job xs ys (world_after job w x) count

-- ---- lines that are one event

-- the event of such a line
event_of : (w : Records) (e : ScheduledEvent) → IsOneEvent e → (x : RecordsEvent) × (scheduled_event w e ≡ Some x)
event_of w (scheduled.Call node thread c) one = (_, refl)
event_of w (scheduled.Request from to number) one = (_, refl)
event_of w (scheduled.Reply from to number) one = (_, refl)
event_of w (scheduled.Tick node) one = (_, refl)
event_of w (scheduled.Vis node thread vis) one = absurd one
event_of w (scheduled.Collective node thread call) one = absurd one
event_of w (scheduled.Settle rounds) one = absurd one

-- of such a line of a schedule: its event stands past those of the lines before it, and the line's words come from the
-- records that those leave
record LineTold (job : WorldJob) (es : List TimedEvent) (nodes : Nodes) (first line : ℕ) (e : TimedEvent)
    : Type 0 where
  pub records : Records
  pub event : RecordsEvent
  pub after : after_first job (schedule_events job es nodes) nodes.group.records (events_before job es nodes line)
      ≡ records
  pub is : scheduled_event records e.event ≡ Some event
  pub at : slice_get (schedule_events job es nodes) (events_before job es nodes line) ≡ Some (timed_event e.time event)
  pub told : slice_get (answer_lines job first es nodes) line
      ≡ Some (decimal (line + first) ∷ event_words job records (timed_event e.time event))

-- the first line
told_first : (job : WorldJob) (e : TimedEvent) (es : List TimedEvent) (nodes : Nodes) (first : ℕ) → IsOneEvent e.event
    → LineTold job (e ∷ es) nodes first zero e
told_first job e es nodes first one =
    let w = nodes.group.records in
    let x = event_of w e.event one in
    let more = schedule_events job es (nodes_after job nodes e) in
    let number : first ≡ zero + first = omega arith in
    record {
      records = w;
      event = x.0;
      after = refl;
      is = x.1;
      at = ap (λ (xs : List (EventAt OtherCall)). slice_get (xs ++ more) 0) (one_event job nodes e.time e.event x.0 x.1);
      told = ap (λ (words : Line). Some (decimal first ∷ words)) (one_answer job nodes e.time e.event x.0 x.1)
          ∙ ap (λ (n : ℕ). Some (decimal n ∷ event_words job w (timed_event e.time x.0))) number;
    }

-- a line after the first
told_next : (job : WorldJob) (f : TimedEvent) (es : List TimedEvent) (nodes : Nodes) (first line : ℕ) (e : TimedEvent)
    → LineTold job es (nodes_after job nodes f) (first + 1) line e
    → LineTold job (f ∷ es) nodes first (suc line) e
told_next job f es nodes first line e h =
    let events = line_events job nodes f.time f.event in
    let after = nodes_after job nodes f in
    let more = schedule_events job es after in
    let before = events_before job es after line in
    let number : line + (first + 1) ≡ suc line + first = omega arith in
    record {
      records = h.records;
      event = h.event;
      after = after_past job events more nodes.group.records before
          ∙ (ap (λ (w : Records). after_first job more w before) (sym (line_runs job nodes f)) ∙ h.after);
      is = h.is;
      at = get-append_right events more before ∙ h.at;
      told = h.told ∙ ap (λ (n : ℕ). Some (decimal n ∷ event_words job h.records (timed_event e.time h.event))) number;
    }

-- each line that is one event
line_told : (job : WorldJob) (es : List TimedEvent) (nodes : Nodes) (first line : ℕ) (e : TimedEvent)
    → slice_get es line ≡ Some e → IsOneEvent e.event → LineTold job es nodes first line e
line_told job [] nodes first line e h one = absurd (cc)
line_told job (f ∷ es) nodes first zero e h one =
    let same : f ≡ e = same_Some f e h in
    subst (λ (g : TimedEvent). LineTold job (f ∷ es) nodes first zero g) same
    (told_first job f es nodes first (subst (λ (g : TimedEvent). IsOneEvent g.event) (sym same) one))
line_told job (f ∷ es) nodes first (suc line) e h one =
    told_next job f es nodes first line e
    (line_told job es (nodes_after job nodes f) (first + 1) line e h one)

-- each line of a job's schedule that is one event, at that place of the run
pub lines_tell : (j : JobState) → LinesTell j
lines_tell j line e h one =
    let job = world_job j in
    let a = line_told job (lines_of j.schedule) (opening_nodes j) 1 line e h one in
    let told = get-append_kept (answer_lines job 1 (lines_of j.schedule) (opening_nodes j))
    (end_lines j.settings (run_records j) (run_most j)) line
    (decimal (line + 1) ∷ event_words job a.records (timed_event e.time a.event)) a.told in
    record {
      place = event_place j line;
      place_is = refl;
      event = a.event;
      is = ap (λ (w : Records). scheduled_event w e.event) a.after ∙ a.is;
      at = a.at;
      told = told
          ∙ ap (λ (w : Records). Some (decimal (line + 1) ∷ event_words job w (timed_event e.time a.event))) (sym a.after);
    }

-- the events of later lines of a schedule stand later
rises : (job : WorldJob) (es : List TimedEvent) (nodes : Nodes) (line other : ℕ) (e : TimedEvent)
    → slice_get es line ≡ Some e → IsOneEvent e.event → line < other → other < length es
    → events_before job es nodes line < events_before job es nodes other
rises job [] nodes line other e h one less there = absurd (cc)
rises job (g ∷ es) nodes zero zero e h one less there = omega (arith, less)
rises job (g ∷ es) nodes zero (suc other) e h one less there =
    let x = event_of nodes.group.records g.event (subst (λ (f : TimedEvent). IsOneEvent f.event) (sym (same_Some g e h)) one) in
    let count : length (line_events job nodes g.time g.event) ≡ 1 = ap length (one_event job nodes g.time g.event x.0 x.1) in
    omega (arith, count)
rises job (g ∷ es) nodes (suc line) zero e h one less there = omega (arith, less)
rises job (g ∷ es) nodes (suc line) (suc other) e h one less there =
    let after = nodes_after job nodes g in
    let later = rises job es after line other e h one (omega (arith, less)) (omega (arith, there)) in
    omega (arith, later)

pub places_rise : (j : JobState) → PlacesRise j
places_rise j line other e h one less there =
    rises (world_job j) (lines_of j.schedule) (opening_nodes j) line other e h one less there

-- where the first line is one event, some event is before each later line
some_before : (job : WorldJob) (e f : TimedEvent) (es : List TimedEvent) (nodes : Nodes) (line : ℕ) → Some f ≡ Some e
    → IsOneEvent e.event → 0 ≡ events_before job (f ∷ es) nodes (suc line) → ⊥
some_before job e f es nodes line h one same =
    let x = event_of nodes.group.records f.event (subst (λ (g : TimedEvent). IsOneEvent g.event) (sym (same_Some f e h)) one) in
    let count : length (line_events job nodes f.time f.event) ≡ 1 = ap length (one_event job nodes f.time f.event x.0 x.1) in
    omega (arith, same, count)

-- such lines with as many events before them are one line
lines_apart : (job : WorldJob) (es : List TimedEvent) (nodes : Nodes) (line other : ℕ) (e f : TimedEvent)
    → slice_get es line ≡ Some e → IsOneEvent e.event → slice_get es other ≡ Some f → IsOneEvent f.event
    → events_before job es nodes line ≡ events_before job es nodes other → line ≡ other
lines_apart job [] nodes line other e f h one k two same = absurd (cc)
lines_apart job (g ∷ es) nodes zero zero e f h one k two same = refl
lines_apart job (g ∷ es) nodes zero (suc other) e f h one k two same = absurd (some_before job e g es nodes other h one same)
lines_apart job (g ∷ es) nodes (suc line) zero e f h one k two same =
    absurd (some_before job f g es nodes line k two (sym same))
lines_apart job (g ∷ es) nodes (suc line) (suc other) e f h one k two same =
    let after = nodes_after job nodes g in
    ap suc (lines_apart job es after line other e f h one k two (omega (arith, same)))

-- ---- lines that deliver a message

-- the event falls nowhere, or it is a message that comes to a node
abbrev NoneOrMessage : Option (Fall OtherCall) → Type 0
NoneOrMessage o = (o ≡ None) ⊎ ((node : ℕ) × (m : Message) × (o ≡ Some (record { node = node; event = Comes m })))

request_or_none : (s : Parameters) (from to number : ℕ) (o : Option Request)
    → NoneOrMessage (request_event s from to number o)
request_or_none s from to number None = inl refl
request_or_none s from to number (Some x) = inr (to, _, refl)

reply_or_none : (s : Parameters) (from to : ℕ) (o : Option Run) → NoneOrMessage (reply_event s from to o)
reply_or_none s from to None = inl refl
reply_or_none s from to (Some r) = inr (from, _, refl)

-- the answer is that to a message that was delivered, and these are its words
abbrev IsDelivered : WorldAnswer Answer → Line → Type 0
IsDelivered answer words = (d : Delivered) × (answer ≡ OfNode (OfDelivery d)) × (delivered_words d ≡ words)

-- so is each answer to a message, unless the message was never sent
message_answer : (job : WorldJob) (w : Records) (now : ℕ) (sight : Sight) (o : Option (Fall OtherCall))
    (words : Line)
    → NoneOrMessage o → (codes "unsent" ∷ [] ≡ words → ⊥)
    → world_words sight (world_told (answer_at job w now o)) ≡ words
    → IsDelivered (answer_at job w now o) words
message_answer job w now sight o words (inl none) sent h =
    let told = λ (p : Option (Fall OtherCall)). world_words sight (world_told (answer_at job w now p)) in
    absurd (sent (ap told (sym none) ∙ h))
message_answer job w now sight o words (inr found) sent h =
    let same = ap (λ (p : Option (Fall OtherCall)). answer_at job w now p) found.2 in
    (_, same, ap (λ (a : WorldAnswer Answer). world_words sight (world_told a)) (sym same) ∙ h)

-- that message is delivered at that place of the events of a job's run, with an answer that says this
abbrev HappensInRun : JobState → RecordsEvent → (Delivered → Type 0) → (place : ℕ) → Type 0
HappensInRun j = Happens (run_events j) (answers_of (world_job j) (run_events j) (at_the_opening j.settings))

-- where a line that delivers a message is told these words, the message is delivered, with an answer of these words
told_delivers : (j : JobState) → Headline (world_job j) (λ i. nothing_begun j.settings) (run_events j)
    → (line : ℕ) (e : ScheduledEvent) (words : Line) (x : RecordsEvent) → IsOneEvent e
    → ((w : Records) → scheduled_event w e ≡ Some x) → ((w : Records) → NoneOrMessage (falls j.settings w x))
    → (codes "unsent" ∷ [] ≡ words → ⊥) → TellsWords j line e words
    → HappensInRun j x (λ d. delivered_words d ≡ words) (event_place j line)
unfolding lines_tell
told_delivers j headline line e words x one event message sent h =
    let job = world_job j in
    let place = event_place j line in
    let w = records_at j place in
    let a = lines_tell j line (record { time = h.time; event = e }) h.line one in
    let same : a.event ≡ x = same_Some a.event x (sym a.is ∙ event w) in
    let at : slice_get (run_events j) place ≡ Some (timed_event h.time x) =
    a.at ∙ ap (λ (y : RecordsEvent). Some (timed_event h.time y)) same
    in
    let line_is = a.told in
    let told = h.told in
    let words_are : event_words job w (timed_event h.time a.event) ≡ words = cc in
    let is : event_words job w (timed_event h.time x) ≡ words =
    ap (λ (y : RecordsEvent). event_words job w (timed_event h.time y)) (sym same) ∙ words_are
    in
    let sight = sight_of job.settings (node_of_event x) (world_after job w (timed_event h.time x) (node_of_event x)) in
    let d = message_answer job w h.time sight (falls job.settings w x) words (message w) sent is in
    let answer = (headline.steps place (timed_event h.time x) at).answer in
    record {
      answer = d.0;
      says = d.2;
      delivers = record {
        now = h.time;
        event_is = at;
        answer_is = answer ∙ ap (λ (z : WorldAnswer Answer). Some z) d.1;
      };
    }

-- lines that tell of one event, and whose places in the run are one, are one line
same_line : (j : JobState) (line other : ℕ) (e : ScheduledEvent) (words : Line)
    → IsOneEvent e → TellsWords j line e words → TellsWords j other e words → event_place j line ≡ event_place j other
    → line ≡ other
same_line j line other e words one h k same =
    lines_apart (world_job j) (lines_of j.schedule) (opening_nodes j) line other
    (record { time = h.time; event = e })
    (record { time = k.time; event = e }) h.line one k.line one same

-- ---- at most one

-- an answer of the word `ran` says that a request was run
ran_says : (d : Delivered) → delivered_words d ≡ codes "ran" ∷ [] → IsRanAnswer d
ran_says (delivered.Ran at) e = (at, refl)
ran_says (delivered.Notified at notification) e = (at, refl)
ran_says (delivered.Duplicate at) e = absurd (cc)
ran_says delivered.Stale e = absurd (cc)
ran_says (delivered.Returned to slot number) e = absurd (cc)
ran_says delivered.Late e = absurd (cc)
ran_says (delivered.Deferred lock) e = absurd (cc)
ran_says (delivered.Refused reason) e = absurd (cc)

-- an answer of the word `returned` says that a reply was taken
returned_says : (d : Delivered) → delivered_words d ≡ codes "returned" ∷ [] → IsReturned d
returned_says (delivered.Ran at) e = absurd (cc)
returned_says (delivered.Notified at notification) e = absurd (cc)
returned_says (delivered.Duplicate at) e = absurd (cc)
returned_says delivered.Stale e = absurd (cc)
returned_says (delivered.Returned to slot number) e = tt
returned_says delivered.Late e = absurd (cc)
returned_says (delivered.Deferred lock) e = absurd (cc)
returned_says (delivered.Refused reason) e = absurd (cc)

-- what happens with an answer that says one thing happens with one that says what follows from it
says_more : (j : JobState) (x : RecordsEvent) (P Q : Delivered → Type 0) (place : ℕ)
    → ((d : Delivered) → P d → Q d) → HappensInRun j x P place → HappensInRun j x Q place
says_more j x P Q place more h =
    record { answer = h.answer; says = more h.answer h.says; delivers = h.delivers }

-- the request of a line that is told `ran` is run by it
request_ran : (j : JobState) → Headline (world_job j) (λ i. nothing_begun j.settings) (run_events j)
    → (from to number place : ℕ) → TellsWords j place (scheduled.Request from to number) (codes "ran" ∷ [])
    → HappensInRun j (RequestComes from to number) IsRanAnswer (event_place j place)
request_ran j headline from to number place h =
    let x = RequestComes from to number in
    says_more j x (λ d. delivered_words d ≡ codes "ran" ∷ []) IsRanAnswer (event_place j place) ran_says
    (told_delivers j headline place (scheduled.Request from to number) (codes "ran" ∷ []) x tt (λ w. refl)
    (λ w. request_or_none j.settings from to number (element_at ((w from).asked to) number)) (λ e. absurd (cc)) h)

-- the reply of a line that is told `returned` brings its request back
reply_returned : (j : JobState) → Headline (world_job j) (λ i. nothing_begun j.settings) (run_events j)
    → (from to number place : ℕ) → TellsWords j place (scheduled.Reply from to number) (codes "returned" ∷ [])
    → HappensInRun j (ReplyComes from to number) IsReturned (event_place j place)
reply_returned j headline from to number place h =
    let x = ReplyComes from to number in
    says_more j x (λ d. delivered_words d ≡ codes "returned" ∷ []) IsReturned (event_place j place) returned_says
    (told_delivers j headline place (scheduled.Reply from to number) (codes "returned" ∷ []) x tt (λ w. refl)
    (λ w. reply_or_none j.settings from to (run_of number ((w to).ran from))) (λ e. absurd (cc)) h)

-- of the lines that deliver one request at most one is told that it ran
pub ran_told_once : (j : JobState) → Headline (world_job j) (λ i. nothing_begun j.settings) (run_events j)
    → RanToldOnce j
ran_told_once j headline from to number place other h k =
    let a = request_ran j headline from to number place h in
    let b = request_ran j headline from to number other k in
    same_line j place other (scheduled.Request from to number) (codes "ran" ∷ []) tt h k
    (headline.once (request_name from to number) (event_place j place) (event_place j other) a b)

-- of the lines that deliver one reply at most one is told that it brought its request back
pub returned_told_once : (j : JobState) → Headline (world_job j) (λ i. nothing_begun j.settings) (run_events j)
    → ReturnedToldOnce j
returned_told_once j headline from to number place other h k =
    let a = reply_returned j headline from to number place h in
    let b = reply_returned j headline from to number other k in
    same_line j place other (scheduled.Reply from to number) (codes "returned" ∷ []) tt h k
    (headline.taken.once (request_name from to number) (event_place j place) (event_place j other) a b)
