-- Entries that can go in an order are a run of the world.
use Rattle.std.proofs.Common.{◌≡◌, inl, inr, ℕ, zero, suc, List, [], ◌∷◌, ◌++◌, map, refl, sym, ap}
use Rattle.std.proofs.Common.{ap₂, ◌∙◌, subst, arith, append_assoc}
use Rattle.std.specs.List.{AllByRecursion, Contains}
use Rattle.std.proofs.lemmas.Bool.{cases_eq}
use Rattle.std.proofs.lemmas.List.{map-append}
use Rattle.std.proofs.lemmas.List.Elements.{Contains-append_cases, Contains-append_left, Contains-append_right}
use Rattle.base_lists.proofs.Members.{contains_none, all_append}
use Rattle.base_lists.proofs.Put.{put_same, put_other}
use Rattle.spec_node.specs.Record.{Node}
use Rattle.spec_node.specs.NodeStep.{Job, NodeEvent}
use Rattle.spec_network.specs.World.{World, EventAt, WorldAnswer, OfNode, opening, falls, world_answer, world_after, run}
use Rattle.spec_network.specs.World.{answers_of, IsAmong}
use Rattle.spec_network.specs.Sent.{Packet, IsRecorded, sends_at, datagrams_sent}
use Rattle.spec_network.proofs.Sending.{sent_are_recorded}
use Rattle.node_rules.specs.EndpointRules.{OtherCall}
use Rattle.node_rules.specs.declared.answer.Answer.{Answer}
use Rattle.law_traces.specs.Scripts.{NodeJob}
use Rattle.law_traces.specs.Turn.{MachineState, datagram, node_answers, node_sends, node_run, context}
use Rattle.law_traces.specs.Order.{NodeEntry, Machines, at_first, turn_of, after_entry, given_by, after_all}
use Rattle.law_traces.specs.Order.{given_by_all}
use Rattle.law_traces.specs.Order.{answers_by_all, GoInOrder}
use Rattle.law_traces.specs.WorldRun.{AreTurns, joined_events}
use Rattle.law_traces.proofs.Lasting.{Lasts, opening_lasts}
use Rattle.law_traces.proofs.Stages.{Stage}
use Rattle.law_traces.proofs.Turns.{IsSoundJob, turn_on}

-- ---- two parts of a run

run-append : {Local Call Told : Type 0} (job : Job Local Call Told) (first second : List (EventAt Call))
    (world : World Local) → run job (first ++ second) world ≡ run job second (run job first world)
run-append job [] second world = refl
run-append job (timed ∷ rest) second world = run-append job rest second (world_after job world timed)

answers_of-append : {Local Call Told : Type 0} (job : Job Local Call Told) (first second : List (EventAt Call))
    (world : World Local)
    → answers_of job (first ++ second) world ≡ answers_of job first world ++ answers_of job second (run job first world)
answers_of-append job [] second world = refl
answers_of-append {Told = Told} job (timed ∷ rest) second world =
    ap (λ (more : List (WorldAnswer Told)). world_answer job world timed ∷ more)
    (answers_of-append job rest second (world_after job world timed))

sent-append : {Local Call Told : Type 0} (job : Job Local Call Told) (first second : List (EventAt Call))
    (world : World Local) → datagrams_sent job (first ++ second) world ≡ datagrams_sent job first world ++ datagrams_sent job second
    (run job first world)
sent-append job [] second world = refl
sent-append job (timed ∷ rest) second world =
    let after = world_after job world timed in
    let now = sends_at job world timed.now (falls job.settings world timed.event) in
    ap (λ (more : List Packet). now ++ more) (sent-append job rest second after)
    ∙ sym (append_assoc now (datagrams_sent job rest after) (datagrams_sent job second (run job rest after)))

-- what a list was made from
map_had : (f : Packet → ℕ × List ℕ) (packets : List Packet) (d : ℕ × List ℕ) → Contains (map f packets) d
    → (packet : Packet) × Contains packets packet × (f packet ≡ d)
map_had f [] d h = absurd (contains_none d h)
map_had f (packet ∷ packets) d (zero, low, is) = (packet, (0, omega arith, refl), is)
map_had f (packet ∷ packets) d (suc place, low, is) =
    let it = map_had f packets d (place, omega (arith, low), is) in
    (it.0, (suc it.1.0, omega (arith, it.1.1), it.1.2), it.2)

-- ---- what is kept from entry to entry

-- of machines and the world after these events, and of the datagrams that were given
pub record Follows
    {Kept Own : Type 0} (job : NodeJob Kept Own) (IsKept : (me : ℕ) → Kept → Type 0) (Fits : Kept → Type 0)
    (Written : Own → Type 0) (start : ℕ → Kept) (past : List (EventAt OtherCall)) (world : World Kept)
    (machines : Machines Kept Own) (given : List (ℕ × List ℕ)) : Type 0 where
  pub is : world ≡ run job.job past (opening start)
  pub among : AllByRecursion (λ (timed : EventAt OtherCall). IsAmong job.job.settings timed.event) past
  pub lasts : Lasts job.job IsKept Fits world
  pub same : (node : ℕ) → world node ≡ (machines node).node
  pub written : (node : ℕ) → Written (machines node).own
  -- each datagram that was given is that of a packet that was sent
  pub had : (to : ℕ) (bytes : List ℕ) → Contains given (to, bytes)
      → (packet : Packet) × Contains (datagrams_sent job.job past (opening start)) packet
      × (datagram job.job.settings packet ≡ (to, bytes))

-- the opening
opening_follows : {Kept Own : Type 0} (job : NodeJob Kept Own) (IsKept : (me : ℕ) → Kept → Type 0)
    (Fits : Kept → Type 0) (Written : Own → Type 0) (start : ℕ → Kept) (own : ℕ → Own)
    → ((node : ℕ) → IsKept node (start node)) → ((node : ℕ) → Fits (start node)) → ((node : ℕ) → Written (own node))
    → Follows job IsKept Fits Written start [] (opening start) (at_first (opening start) own) []
opening_follows job IsKept Fits Written start own kept fits written = record {
  is = refl;
  among = tt;
  lasts = opening_lasts job.job IsKept Fits start kept fits;
  same = λ node. refl;
  written = written;
  had = λ to bytes h. absurd (contains_none (to, bytes) h);
}

-- each datagram that was given is that of a recorded message
recorded : {Kept Own : Type 0} (job : NodeJob Kept Own) (IsKept : (me : ℕ) → Kept → Type 0)
    (Fits : Kept → Type 0) (May : NodeEvent OtherCall → Type 0) (Written : Own → Type 0) (start : ℕ → Kept)
    (past : List (EventAt OtherCall)) (world : World Kept) (machines : Machines Kept Own) (given : List (ℕ × List ℕ))
    → IsSoundJob job IsKept Fits May Written → ((node : ℕ) → IsKept node (start node))
    → Follows job IsKept Fits Written start past world machines given
    → (to : ℕ) (bytes : List ℕ) → Contains given (to, bytes)
    → (packet : Packet) × IsRecorded world packet × (datagram job.job.settings packet ≡ (to, bytes))
recorded {Kept} job IsKept Fits May Written start past world machines given J kept F to bytes h =
    let it = F.had to bytes h in (
      it.0,
      subst (λ (w : World Kept). IsRecorded w it.0) (sym F.is)
          ((sent_are_recorded job.job IsKept start past J.sound kept F.among it.0).0 it.1),
      it.2,
    )

-- one entry more
follows_on : {Kept Own : Type 0} (job : NodeJob Kept Own) (IsKept : (me : ℕ) → Kept → Type 0)
    (Fits : Kept → Type 0) (May : NodeEvent OtherCall → Type 0) (Written : Own → Type 0) (start : ℕ → Kept)
    (past : List (EventAt OtherCall)) (world : World Kept) (machines : Machines Kept Own) (given : List (ℕ × List ℕ))
    (item : NodeEntry) (happened : List (EventAt OtherCall))
    → IsSoundJob job IsKept Fits May Written → Follows job IsKept Fits Written start past world machines given
    → Stage job.job IsKept Fits world item.node item.entry.now (turn_of job machines item).events happened
    → Follows job IsKept Fits Written start (past ++ happened) (run job.job happened world)
    (after_entry job machines item) (given ++ given_by job machines item)
follows_on {Kept} {Own} job IsKept Fits May Written start past world machines given item happened J F S =
    let node = item.node in
    let turn = turn_of job machines item in
    let after = run job.job happened world in
    let here : after node ≡ turn.after.node =
    S.here ∙ ap (node_run job.job node item.entry.now turn.events) (F.same node) in
    let all_sent : datagrams_sent job.job (past ++ happened) (opening start)
    ≡ datagrams_sent job.job past (opening start) ++ datagrams_sent job.job happened world =
    sent-append job.job past happened (opening start)
    ∙ ap (λ (w : World Kept). datagrams_sent job.job past (opening start) ++ datagrams_sent job.job happened w) (sym F.is) in
    let now_sent : datagrams_sent job.job happened world ≡ turn.packets =
    S.sent_is ∙ ap (node_sends job.job node item.entry.now turn.events) (F.same node) in
    record {
      is = ap (run job.job happened) F.is ∙ sym (run-append job.job past happened (opening start));
      among = all_append (λ (timed : EventAt OtherCall). IsAmong job.job.settings timed.event) past happened
          F.among S.among;
      lasts = S.lasts;
      same = λ other. elim (cases_eq other node) [
        | inl is ↦ ap after is ∙ (here ∙ ap (λ (m : MachineState Kept Own). m.node)
            (sym (ap (after_entry job machines item) is ∙ put_same machines node turn.after)))
        | inr apart ↦ S.others other apart ∙ (F.same other ∙ ap (λ (m : MachineState Kept Own). m.node)
            (sym (put_other machines node turn.after other apart)))
      ];
      written = λ other. elim (cases_eq other node) [
        | inl is ↦ subst (λ (m : MachineState Kept Own). Written m.own)
            (sym (ap (after_entry job machines item) is ∙ put_same machines node turn.after))
            (J.written.left (context job node item.entry.thread item.entry.now) (machines node).own _ turn.after.node _
            (F.written node))
        | inr apart ↦ subst (λ (m : MachineState Kept Own). Written m.own)
            (sym (put_other machines node turn.after other apart)) (F.written other)
      ];
      had = λ to bytes h. elim (Contains-append_cases given (given_by job machines item) (to, bytes) h) [
        | inl was ↦ (let it = F.had to bytes was in (
          it.0,
          subst (λ (packets : List Packet). Contains packets it.0) (sym all_sent)
              (Contains-append_left (datagrams_sent job.job past (opening start)) (datagrams_sent job.job happened world) it.0 it.1),
          it.2,
        ))
        | inr new ↦ (let it = map_had (datagram job.job.settings) turn.packets (to, bytes) new in (
          it.0,
          subst (λ (packets : List Packet). Contains packets it.0) (sym all_sent)
              (Contains-append_right (datagrams_sent job.job past (opening start)) (datagrams_sent job.job happened world) it.0
              (subst (λ (packets : List Packet). Contains packets it.0) (sym now_sent) it.1)),
          it.2,
        ))
      ];
    }

-- ---- a run

-- the turns of these entries are a run of the world from there
pub record RunsOn
    {Kept Own : Type 0} (job : NodeJob Kept Own) (machines : Machines Kept Own) (world : World Kept)
    (items : List NodeEntry) (turns : List (List (EventAt OtherCall))) : Type 0 where
  pub turns_are : AreTurns job machines world items turns
  pub among : AllByRecursion (λ (timed : EventAt OtherCall). IsAmong job.job.settings timed.event) (joined_events turns)
  pub nodes : (node : ℕ) → run job.job (joined_events turns) world node ≡ (after_all job machines items node).node
  pub answers : answers_of job.job (joined_events turns) world ≡ map OfNode (answers_by_all job machines items)
  pub sent_is : map (datagram job.job.settings)
      (datagrams_sent job.job (joined_events turns) world) ≡ given_by_all job machines items

pub runs_on : {Kept Own : Type 0} (job : NodeJob Kept Own) (IsKept : (me : ℕ) → Kept → Type 0)
    (Fits : Kept → Type 0) (May : NodeEvent OtherCall → Type 0) (Written : Own → Type 0) (start : ℕ → Kept)
    (past : List (EventAt OtherCall)) (world : World Kept) (machines : Machines Kept Own) (given : List (ℕ × List ℕ))
    (items : List NodeEntry)
    → IsSoundJob job IsKept Fits May Written → ((node : ℕ) → IsKept node (start node))
    → Follows job IsKept Fits Written start past world machines given → GoInOrder job machines given items
    → (turns : List (List (EventAt OtherCall))) × RunsOn job machines world items turns
runs_on job IsKept Fits May Written start past world machines given [] J kept F go =
    ([], record { turns_are = tt; among = tt; nodes = F.same; answers = refl; sent_is = refl })
runs_on {Kept} {Own} job IsKept Fits May Written start past world machines given (item ∷ items) J kept F go =
    let node = item.node in
    let turn = turn_of job machines item in
    let it = turn_on job IsKept Fits May Written world node item.entry.thread item.entry.now (machines node) given
    item.entry.got J go.0 F.lasts (F.same node) (F.written node)
    (recorded job IsKept Fits May Written start past world machines given J kept F) go.1 in
    let happened = it.0 in
    let S = it.1 in
    let after = run job.job happened world in
    let more = runs_on job IsKept Fits May Written start (past ++ happened) after (after_entry job machines item)
    (given ++ given_by job machines item) items J kept
    (follows_on job IsKept Fits May Written start past world machines given item happened J F S) go.2 in
    let R = more.1 in
    let rest = joined_events more.0 in
    let later = after_entry job machines item in
    let answers : answers_of job.job happened world ≡ map OfNode turn.answers =
    S.answers ∙ ap (λ (x : Node Kept). map OfNode (node_answers job.job node item.entry.now turn.events x))
    (F.same node) in
    let packets : datagrams_sent job.job happened world ≡ turn.packets =
    S.sent_is ∙ ap (node_sends job.job node item.entry.now turn.events) (F.same node) in (
      happened ∷ more.0,
      record {
        turns_are = (
          record { among = S.among; events = S.events_are; brings = it.2; answers = answers; sends = packets },
          R.turns_are,
        );
        among = all_append (λ (timed : EventAt OtherCall). IsAmong job.job.settings timed.event) happened rest
            S.among R.among;
        nodes = λ other. ap (λ (w : World Kept). w other) (run-append job.job happened rest world) ∙ R.nodes other;
        answers = answers_of-append job.job happened rest world
            ∙ (ap₂ (λ (a b : List (WorldAnswer Answer)). a ++ b) answers R.answers
            ∙ sym (map-append OfNode turn.answers (answers_by_all job later items)));
        sent_is = ap (map (datagram job.job.settings)) (sent-append job.job happened rest world)
            ∙ (map-append (datagram job.job.settings) (datagrams_sent job.job happened world) (datagrams_sent job.job rest after)
            ∙ ap₂ (λ (a b : List (ℕ × List ℕ)). a ++ b) (ap (map (datagram job.job.settings)) packets) R.sent_is);
      },
    )

-- from the opening
pub run_from_opening : {Kept Own : Type 0} (job : NodeJob Kept Own) (IsKept : (me : ℕ) → Kept → Type 0)
    (Fits : Kept → Type 0) (May : NodeEvent OtherCall → Type 0) (Written : Own → Type 0) (start : ℕ → Kept)
    (own : ℕ → Own) (items : List NodeEntry)
    → IsSoundJob job IsKept Fits May Written → ((node : ℕ) → IsKept node (start node))
    → ((node : ℕ) → Fits (start node)) → ((node : ℕ) → Written (own node))
    → GoInOrder job (at_first (opening start) own) [] items
    → (turns : List (List (EventAt OtherCall))) × RunsOn job (at_first (opening start) own) (opening start) items turns
run_from_opening job IsKept Fits May Written start own items J kept fits written go =
    runs_on job IsKept Fits May Written start [] (opening start) (at_first (opening start) own) [] items J kept
    (opening_follows job IsKept Fits Written start own kept fits written) go
