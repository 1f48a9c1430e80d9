use Rattle.std.proofs.Common.{◌≡◌, ℕ, ◌+◌, ◌<◌, ◌≤◌, List, [], ◌∷◌, ◌++◌, length, refl, ◌∙◌, subst}
use Rattle.part_handlers.specs.Runs.{Meaning}
use Rattle.spec_network.specs.Plain.{plain_of}
use Rattle.spec_network.specs.World.{RequestComes, ReplyComes, EventAt}
use Rattle.node_rules.specs.EndpointRules.{OtherCall, Records, timed_event}
use Rattle.sim_world.specs.Events.{job_in}
use Rattle.sim_world.specs.Settling.{Moves}
use Rattle.sim_world.specs.WorldState.{WorldState}
use Rattle.sim_world.proofs.Moving.{same_job, moves_then}
use Rattle.sim_world.proofs.Turns.{Turn, accepted_is, turn_begins, turn_passes, turn_delivers, turn_ends}
use Rattle.sim_world.proofs.world.World.turn.Goals as goal

-- the turn from these records
abbrev turn_of : Meaning → WorldState → (now from to : ℕ) → Records → (ℕ → ℕ) → Turn
turn_of meaning old now from to world most = record {
  job = job_in meaning old;
  now = now;
  from = from;
  to = to;
  world = world;
  most = most;
}

-- a place below the count of those that were accepted has a request, and no other place has
inside : (w : Records) (from to count place : ℕ) → count ≡ length ((plain_of w).requests from to) → place < count
    → place < length ((w from).asked to)
inside w from to count place is low = subst (λ n. place < n) (accepted_is w from to count is) low

outside : (w : Records) (from to count place : ℕ) → count ≡ length ((plain_of w).requests from to) → count ≤ place
    → length ((w from).asked to) ≤ place
outside w from to count place is high = subst (λ n. n ≤ place) (accepted_is w from to count is) high

pub loop-place-init : goal.loop-place-init
loop-place-init g c = record {
  settings = refl;
  table = refl;
  left = λ w most h.
      turn_begins
      (turn_of (g.H.Handlers.meaning c.args.handlers.now) c.args.self.now c.args.now c.args.from c.args.to w most)
      c.args.self.now c.first_out-first.result h (c.first_out-first.ensures.out w most h);
}

pub loop-place-preserved-then-returned : goal.loop-place-preserved-then-returned
loop-place-preserved-then-returned g c = record {
  settings = c.loop-place.invariant.settings;
  table = c.loop-place.invariant.table;
  left = λ w most h.
      let left = c.loop-place.invariant.left w most h in
      turn_passes
      (turn_of (g.H.Handlers.meaning c.args.handlers.now) c.args.self.now c.args.now c.args.from c.args.to w most)
      c.loop-place.self c.loop-place.place c.returned.result left
      (inside w c.args.from c.args.to c.accepted-accepted.result c.loop-place.place
      (c.accepted-accepted.ensures w most h) c.loop-place-test.true)
      c.if-returned.true (c.returned.ensures left.half.records left.half.most_now left.half.stands);
}

pub loop-place-preserved : goal.loop-place-preserved
loop-place-preserved g c =
    let meaning = g.H.Handlers.meaning c.args.handlers.now in
    let old = c.args.self.now in
    let first = c.loop-place.self in
    let mid = c.happens.new.self in
    let last = c.happens-in-loop-place.new.self in
    let number = c.loop-place.place + 1 in
    let request : Records → List (EventAt OtherCall) =
    λ world. timed_event c.args.now (RequestComes c.args.from c.args.to number) ∷ [] in
    let reply : Records → List (EventAt OtherCall) =
    λ world. timed_event c.args.now (ReplyComes c.args.from c.args.to number) ∷ [] in
    let second = same_job (λ j. Moves j reply mid last) meaning first mid c.happens.ensures.settings
    c.happens.ensures.table c.in_ok-happens-2.ensures.moves in
    let both = moves_then (job_in meaning first) request reply first mid last c.in_ok-happens.ensures.moves second in
    let moves = same_job (λ j. Moves j (λ world. request world ++ reply world) first last) meaning old first
    c.loop-place.invariant.settings c.loop-place.invariant.table both in
    record {
      settings = c.happens-in-loop-place.ensures.settings
          ∙ (c.happens.ensures.settings ∙ c.loop-place.invariant.settings);
      table = c.happens-in-loop-place.ensures.table ∙ (c.happens.ensures.table ∙ c.loop-place.invariant.table);
      left = λ w most h.
          let left = c.loop-place.invariant.left w most h in
          turn_delivers (turn_of meaning old c.args.now c.args.from c.args.to w most) first last c.loop-place.place
          c.returned.result left c.if-from-to.false
          (inside w c.args.from c.args.to c.accepted-accepted.result c.loop-place.place
          (c.accepted-accepted.ensures w most h) c.loop-place-test.true)
          c.if-returned.false (c.returned.ensures left.half.records left.half.most_now left.half.stands) moves;
    }

pub returns-clause-moves : goal.returns-clause-moves
returns-clause-moves g c = λ w most h.
    turn_ends
    (turn_of (g.H.Handlers.meaning c.args.handlers.now) c.args.self.now c.args.now c.args.from c.args.to w most)
    c.loop-place.self c.loop-place.place
    (outside w c.args.from c.args.to c.accepted-accepted.result c.loop-place.place
    (c.accepted-accepted.ensures w most h) c.loop-place-test.false)
    (c.loop-place.invariant.left w most h)
