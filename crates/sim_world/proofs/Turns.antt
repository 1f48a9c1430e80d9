-- The turn of a pair, number by number: what is back as its turn comes is what was back as the turn of the pair began.
use Rattle.std.proofs.Common.{◌≡◌, ◌≢◌, ℕ, zero, suc, ◌+◌, ◌-◌, ◌<◌, ◌≤◌, Bool, true, false, List, [], ◌∷◌, ◌++◌}
use Rattle.std.proofs.Common.{length, drop, Option, None, Some, refl, sym, ap, subst, ◌∙◌, arith}
use Rattle.std.specs.Option.{option_map}
use Rattle.std.specs.List.{flat_map, slice_get}
use Rattle.std.proofs.lemmas.Option.{same_Some}
use Rattle.std.proofs.lemmas.List.{length-map}
use Rattle.wire_message.specs.Message.{Message}
use Rattle.spec_node.specs.Record.{Request, Run, Node, element_at, change}
use Rattle.base_lists.proofs.Update.{slice_get-update_other}
use Rattle.spec_node.specs.Executed.{run_of}
use Rattle.spec_node.specs.Invariant.{request_message, reply_message}
use Rattle.spec_node.specs.Requests.{as_back}
use Rattle.node_rules.specs.EndpointLocal.{EndpointLocal}
use Rattle.spec_node.specs.Step.{Site, Verdict, Runs, Returns, verdict, after_delivery}
use Rattle.spec_node.proofs.Lists.{run_of_there}
use Rattle.spec_node.proofs.Puts.{put_same, put_other}
use Rattle.spec_node.specs.NodeStep.{Comes, node_after, site_of}
use Rattle.spec_network.specs.Plain.{plain_of, plain_request, is_back}
use Rattle.sim_world.specs.Stands.{WorldStands}
use Rattle.sim_world.specs.WorldState.{WorldState}
use Rattle.spec_network.specs.World.{RequestComes, ReplyComes, EventAt, request_event, reply_event, after_at}
use Rattle.spec_network.specs.World.{world_after, run}
use Rattle.node_rules.specs.EndpointRules.{OtherCall, Records, timed_event}
use Rattle.spec_network.specs.Plain.{IsFirstOut, plain_of, is_back}
use Rattle.spec_network.proofs.PlainReadings.{is_back_says}
use Rattle.sim_world.specs.Settling.{AreBack, WorldJob, Moves, exchange_events, turn_events, open_numbers}
use Rattle.spec_network.specs.MostHeld.{most_after}
use Rattle.sim_world.proofs.Moving.{StandsAfter, run_append, most_append}

-- whether the request at that place of a list is back
abbrev pub back_at : List Request → (place : ℕ) → Option Bool
back_at xs place = option_map (λ (x : Request). x.back) (slice_get xs place)

-- another number stays as it is
change_other : (f : Request → Request) (xs : List Request) (number k : ℕ) → suc k ≢ number
    → slice_get (change f xs number) k ≡ slice_get xs k
change_other f xs zero k n = refl
change_other f xs (suc place) k n = slice_get-update_other xs place f k (λ e. n (ap suc e))

-- a request that comes changes no list of another node's requests
request_keeps : (job : WorldJob) (w : Records) (now from to number : ℕ) → from ≢ to
    → (world_after job w (timed_event now (RequestComes from to number))) from ≡ w from
request_keeps job w now from to number n = go (element_at ((w from).asked to) number)
  where
    go : (o : Option Request) → (after_at job w now (request_event job.settings from to number o)) from ≡ w from
    go None = refl
    go (Some x) =
        put_other w to (node_after job to (w to) now (Comes (request_message job.settings from to number x))) from n

-- a reply that comes changes none but that of its number
delivery_keeps : (site : Site EndpointLocal) (r : Node EndpointLocal) (m : Message) (v : Verdict) (k : ℕ)
    → suc k ≢ m.number
    → slice_get ((after_delivery site r m v).asked m.from) k ≡ slice_get (r.asked m.from) k
delivery_keeps site r m Runs k n = refl
delivery_keeps site r m Returns k n =
    ap (λ (xs : List Request). slice_get xs k) (put_same r.asked m.from (change as_back (r.asked m.from) m.number))
    ∙ change_other as_back (r.asked m.from) m.number k n
delivery_keeps site r m _ k n = refl

reply_keeps : (job : WorldJob) (w : Records) (now from to number k : ℕ) → suc k ≢ number
    → slice_get (((world_after job w (timed_event now (ReplyComes from to number))) from).asked to) k
    ≡ slice_get ((w from).asked to) k
reply_keeps job w now from to number k n = go (run_of number ((w to).ran from)) refl
  where
    go : (o : Option Run) → run_of number ((w to).ran from) ≡ o
        → slice_get (((after_at job w now (reply_event job.settings from to o)) from).asked to) k
        ≡ slice_get ((w from).asked to) k
    go None e = refl
    go (Some r) e =
        let m = reply_message job.settings from to r in
        let site = site_of job from in
        let same : r.number ≡ number = (run_of_there number ((w to).ran from) r e).0 in
        ap (λ (x : Node EndpointLocal). slice_get (x.asked to) k)
        (put_same w from (node_after job from (w from) now (Comes m)))
        ∙ delivery_keeps site (w from) m (verdict site (w from) m) k (λ q. n (q ∙ same))

-- the request of a number, and then its reply, change no other number of the pair
exchange_keeps : (job : WorldJob) (w : Records) (now from to number k : ℕ) → from ≢ to → suc k ≢ number
    → slice_get (((run job (exchange_events now from to number) w) from).asked to) k ≡ slice_get ((w from).asked to) k
exchange_keeps job w now from to number k n other =
    let mid = world_after job w (timed_event now (RequestComes from to number)) in
    reply_keeps job mid now from to number k other
    ∙ ap (λ (x : Node EndpointLocal). slice_get (x.asked to) k) (request_keeps job w now from to number n)

-- ---- numbers that are open

-- a request that is back is not
open_past : (number : ℕ) (xs : List Request) (place : ℕ) → back_at xs place ≡ Some true
    → open_numbers number (drop place xs) ≡ open_numbers (suc number) (drop (suc place) xs)
open_past number [] place h = absurd (cc)
open_past number (x ∷ xs) zero h = let t = same_Some x.back true h in rw t refl
open_past number (x ∷ xs) (suc place) h = open_past number xs place h

-- one that isn't back is
open_next : (number : ℕ) (xs : List Request) (place : ℕ) → back_at xs place ≡ Some false
    → open_numbers number (drop place xs) ≡ number ∷ open_numbers (suc number) (drop (suc place) xs)
open_next number [] place h = absurd (cc)
open_next number (x ∷ xs) zero h = let t = same_Some x.back false h in rw t refl
open_next number (x ∷ xs) (suc place) h = open_next number xs place h

-- past the last request none is
open_done : (number : ℕ) (xs : List Request) (place : ℕ) → length xs ≤ place
    → open_numbers number (drop place xs) ≡ []
open_done number [] zero h = refl
open_done number [] (suc place) h = refl
open_done number (x ∷ xs) zero h = absurd (omega (arith, h))
open_done number (x ∷ xs) (suc place) h = open_done number xs place (omega (arith, h))

-- a place that is there has a request, and it is back or not
back_there : (xs : List Request) (place : ℕ) → place < length xs → (b : Bool) × (back_at xs place ≡ Some b)
back_there [] place h = absurd (omega (arith, h))
back_there (x ∷ xs) zero h = (x.back, refl)
back_there (x ∷ xs) (suc place) h = back_there xs place (omega (arith, h))

-- ---- what is left of a turn

-- the turn of a pair: its job, its time, the pair, and the records as it begins, with what was held at most
pub record Turn : Type 0 where
  pub job : WorldJob
  pub now : ℕ
  pub from : ℕ
  pub to : ℕ
  pub world : Records
  pub most : ℕ → ℕ

-- the requests of the pair as the turn begins
abbrev pub requests_of : Turn → List Request
requests_of turn = (turn.world turn.from).asked turn.to

-- the events of the request of this number
abbrev pub exchange_of : Turn → (number : ℕ) → List (EventAt OtherCall)
exchange_of turn number = exchange_events turn.now turn.from turn.to number

-- all events
abbrev pub events_of : Turn → List (EventAt OtherCall)
events_of turn = turn_events turn.now turn.from turn.to (requests_of turn)

-- the events of the requests from a place on
abbrev pub events_from : Turn → (place : ℕ) → List (EventAt OtherCall)
events_from turn place =
    flat_map (exchange_events turn.now turn.from turn.to) (open_numbers (suc place) (drop place (requests_of turn)))

-- a request that is back has no event
events_past : (turn : Turn) (place : ℕ) → back_at (requests_of turn) place ≡ Some true
    → events_from turn place ≡ events_from turn (suc place)
events_past turn place h =
    ap (flat_map (exchange_events turn.now turn.from turn.to)) (open_past (suc place) (requests_of turn) place h)

-- one that isn't back has those of its number
events_next : (turn : Turn) (place : ℕ) → back_at (requests_of turn) place ≡ Some false
    → events_from turn place ≡ exchange_of turn (suc place) ++ events_from turn (suc place)
events_next turn place h =
    ap (flat_map (exchange_events turn.now turn.from turn.to)) (open_next (suc place) (requests_of turn) place h)

-- past the last request nothing is left
events_done : (turn : Turn) (place : ℕ) → length (requests_of turn) ≤ place → events_from turn place ≡ []
events_done turn place h =
    ap (flat_map (exchange_events turn.now turn.from turn.to)) (open_done (suc place) (requests_of turn) place h)

-- where all requests before a place are back, no events are before it
events_skip : (turn : Turn) (place : ℕ) → ((k : ℕ) → k < place → back_at (requests_of turn) k ≡ Some true)
    → events_from turn 0 ≡ events_from turn place
events_skip turn zero back = refl
events_skip turn (suc place) back =
    events_skip turn place (λ k low. back k (omega (arith, low))) ∙ events_past turn place (back place (omega arith))

-- how far the turn was taken: the world stands for records from which the rest leads to the same end
pub record Halfway (turn : Turn) (v : WorldState) (rest : List (EventAt OtherCall)) : Type 0 where
  pub records : Records
  pub most_now : ℕ → ℕ
  pub stands : WorldStands v records most_now
  pub ends : run turn.job rest records ≡ run turn.job (events_of turn) turn.world
  pub most_ends : most_after turn.job rest records most_now
      ≡ most_after turn.job (events_of turn) turn.world turn.most

-- more events were run, up to what is left of the rest
abbrev halfway_more : (turn : Turn) (v z : WorldState) (rest events next : List (EventAt OtherCall))
    (h : Halfway turn v rest) → rest ≡ events ++ next → Moves turn.job (λ x. events) v z → Halfway turn z next
halfway_more turn v z rest events next h is moves =
    let x = h.records in
    record {
      records = run turn.job events x;
      most_now = most_after turn.job events x h.most_now;
      stands = moves x h.most_now h.stands;
      ends = sym (run_append turn.job events next x) ∙ (ap (λ es. run turn.job es x) (sym is) ∙ h.ends);
      most_ends = sym (most_append turn.job events next x h.most_now)
          ∙ (ap (λ es. most_after turn.job es x h.most_now) (sym is) ∙ h.most_ends);
    }

-- the rest is the same list
abbrev halfway_same : (turn : Turn) (v : WorldState) (rest next : List (EventAt OtherCall)) (h : Halfway turn v rest)
    → rest ≡ next → Halfway turn v next
halfway_same turn v rest next h is = record {
  records = h.records;
  most_now = h.most_now;
  stands = h.stands;
  ends = ap (λ es. run turn.job es h.records) (sym is) ∙ h.ends;
  most_ends = ap (λ es. most_after turn.job es h.records h.most_now) (sym is) ∙ h.most_ends;
}

-- up to a place: from there on the list of the pair is as it was
pub record TurnLeft (turn : Turn) (v : WorldState) (place : ℕ) : Type 0 where
  pub half : Halfway turn v (events_from turn place)
  pub same : (k : ℕ) → place ≤ k
      → slice_get ((half.records turn.from).asked turn.to) k ≡ slice_get (requests_of turn) k

-- ---- the next request

-- how many requests of a pair the world says were accepted
pub accepted_is : (w : Records) (from to count : ℕ) → count ≡ length ((plain_of w).requests from to)
    → count ≡ length ((w from).asked to)
accepted_is w from to count e = e ∙ length-map ((w from).asked to) plain_request

-- the answer of the world tells whether the next request is back
told_back : (o : Option Request) (b c : Bool) → b ≡ is_back o → option_map (λ (x : Request). x.back) o ≡ Some c
    → option_map (λ (x : Request). x.back) o ≡ Some b
told_back None b c told e = absurd (cc)
told_back (Some x) b c told e = ap Some (sym told)

-- the number after a place
numbered_next : (xs : List Request) (place : ℕ) → element_at xs (place + 1) ≡ slice_get xs place
numbered_next xs place = ap (element_at xs) (let e : place + 1 ≡ suc place = omega arith in e)

-- so it was back as the turn began
was_back : (turn : Turn) (v : WorldState) (place : ℕ) (b : Bool) (h : TurnLeft turn v place)
    → place < length (requests_of turn) → b ≡ (plain_of h.half.records).back turn.from turn.to (place + 1)
    → back_at (requests_of turn) place ≡ Some b
was_back turn v place b h low told =
    let there = back_there (requests_of turn) place low in
    let same = h.same place (omega arith) in
    let now = (h.half.records turn.from).asked turn.to in
    let one = told_back (slice_get now place) b there.0 (told ∙ ap is_back (numbered_next now place))
    (ap (option_map (λ (x : Request). x.back)) same ∙ there.1) in
    sym (ap (option_map (λ (x : Request). x.back)) same) ∙ one

-- a request that is back was passed
pub turn_passes : (turn : Turn) (v : WorldState) (place : ℕ) (b : Bool) (h : TurnLeft turn v place)
    → place < length (requests_of turn) → b ≡ true
    → b ≡ (plain_of h.half.records).back turn.from turn.to (place + 1) → TurnLeft turn v (place + 1)
turn_passes turn v place b h low is told =
    let next : suc place ≡ place + 1 = omega arith in
    let back = was_back turn v place b h low told ∙ ap (λ (q : Bool). Some q) is in
    record {
      half = halfway_same turn v (events_from turn place) (events_from turn (place + 1)) h.half
          (events_past turn place back ∙ ap (events_from turn) next);
      same = λ k le. h.same k (omega (arith, le));
    }

-- one that isn't back was delivered, and its reply
pub turn_delivers : (turn : Turn) (v z : WorldState) (place : ℕ) (b : Bool) (h : TurnLeft turn v place)
    → turn.from ≢ turn.to → place < length (requests_of turn) → b ≡ false
    → b ≡ (plain_of h.half.records).back turn.from turn.to (place + 1)
    → Moves turn.job (λ x. exchange_of turn (place + 1)) v z → TurnLeft turn z (place + 1)
turn_delivers turn v z place b h other low is told moves =
    let next : suc place ≡ place + 1 = omega arith in
    let back = was_back turn v place b h low told ∙ ap (λ (q : Bool). Some q) is in
    record {
      half = halfway_more turn v z (events_from turn place) (exchange_of turn (place + 1))
          (events_from turn (place + 1)) h.half
          (events_next turn place back ∙ ap (λ n. exchange_of turn n ++ events_from turn n) next) moves;
      same = λ k le.
          exchange_keeps turn.job h.half.records turn.now turn.from turn.to (place + 1) k other
          (λ e. omega (arith, e, le)) ∙ h.same k (omega (arith, le));
    }

-- ---- the ends of a turn

-- past the last request the turn is over
pub turn_ends : (turn : Turn) (v : WorldState) (place : ℕ) → length (requests_of turn) ≤ place
    → TurnLeft turn v place → StandsAfter turn.job v (events_of turn) turn.world turn.most
turn_ends turn v place high h =
    let none = events_done turn place high in
    let half = h.half in
    let ends = ap (λ es. run turn.job es half.records) (sym none) ∙ half.ends in
    let most_ends = ap (λ es. most_after turn.job es half.records half.most_now) (sym none) ∙ half.most_ends in
    subst (λ m. WorldStands v (run turn.job (events_of turn) turn.world) m) most_ends
    (subst (λ r. WorldStands v r half.most_now) ends half.stands)

-- a node has nothing to send to itself
pub own_turn : (job : WorldJob) (v : WorldState) (now from to : ℕ) → from ≡ to
    → Moves job (λ w. turn_events now from to ((w from).asked to)) v v
own_turn job v now from to same = λ w most h.
    let none : (w from).asked to ≡ [] = ap (λ i. (w from).asked i) (sym same) ∙ h.invariant_.own from in
    subst (λ (es : List (EventAt OtherCall)). StandsAfter job v es w most)
    (sym (ap (λ (xs : List Request). turn_events now from to xs) none)) h

-- what is back in the plain world is back in the list
back_listed : (xs : List Request) (place : ℕ) → is_back (element_at xs (suc place)) ≡ true
    → back_at xs place ≡ Some true
back_listed xs place h =
    let it = is_back_says (slice_get xs place) h in
    ap (option_map (λ (x : Request). x.back)) it.1 ∙ ap Some it.2

-- the turn of a pair begins at its first request that is out
pub turn_begins : (turn : Turn) (v : WorldState) (first : ℕ) → WorldStands v turn.world turn.most
    → IsFirstOut (plain_of turn.world) turn.from turn.to first → TurnLeft turn v (first - 1)
turn_begins turn v first h out = record {
  half = record {
    records = turn.world;
    most_now = turn.most;
    stands = h;
    ends = ap (λ es. run turn.job es turn.world) (sym skipped);
    most_ends = ap (λ es. most_after turn.job es turn.world turn.most) (sym skipped);
  };
  same = λ k low. refl;
}
  where
    skipped : events_from turn 0 ≡ events_from turn (first - 1)
    skipped =
        events_skip turn (first - 1)
        (λ k low. back_listed (requests_of turn) k (out.before (suc k) (omega arith) (omega (arith, low))))

-- where each request is back none is open
none_open : (number : ℕ) (xs : List Request) → ((k : ℕ) → k < length xs → back_at xs k ≡ Some true)
    → open_numbers number xs ≡ []
none_open number [] back = refl
none_open number (x ∷ xs) back =
    let t = same_Some x.back true (back 0 (omega arith)) in
    rw t (none_open (suc number) xs (λ k low. back (suc k) (omega (arith, low))))

-- each request of a pair is back where the lowest number that is out is above their count
pub are_back : (w : Records) (from to first count : ℕ) → IsFirstOut (plain_of w) from to first
    → count ≡ length ((plain_of w).requests from to) → count < first → AreBack ((w from).asked to)
are_back w from to first count out is high =
    let xs = (w from).asked to in
    none_open 1 xs
    (λ k low. back_listed xs k
    (out.before (suc k) (omega arith) (omega (arith, accepted_is w from to count is, low, high))))

-- then the turn of the pair has no event
pub no_turn : (now from to : ℕ) (requests : List Request) → AreBack requests → turn_events now from to requests ≡ []
no_turn now from to requests back = ap (flat_map (exchange_events now from to)) back
