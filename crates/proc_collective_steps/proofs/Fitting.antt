-- What the calls of steps that run collectives say and write fits its places, and so does how far the node is then.
use Rattle.std.proofs.Common.{◌≡◌, ℕ, zero, suc, ◌+◌, ◌*◌, ◌-◌, ◌%◌, ◌<◌, ◌≤◌, ◌^◌, Bool, true, false}
use Rattle.std.proofs.Common.{List, [], ◌∷◌, map, length, Option, None, Some, refl, sym, arith, cond}
use Rattle.std.specs.Prelude.{◌==◌, ◌/◌, max, min, nat_le, nat_lt}
use Rattle.std.specs.List.{AllByRecursion}
use Rattle.std.proofs.lemmas.Bool.{leb-false, ltb-false, ltb-true, or_parts}
use Rattle.std.proofs.lemmas.Option.{none-some}
use Rattle.std.specs.Int.{w64, to_le_bytes}
use Rattle.part_collective_area.specs.Area.{Area, data_place}
use Rattle.part_collective_area.specs.Results.{at_root, contribution_of, pieces_by, sum_of, together_at, together_from}
use Rattle.part_collective_area.specs.Shapes.{kind_code, shape_word, uses}
use Rattle.part_collective_area.specs.declared.shape.CollectiveKind.{CollectiveKind}
use Rattle.part_collective_area.specs.declared.shape.CollectiveKind.TheVariants as kind
use Rattle.part_collective_area.specs.declared.shape.Shape.{Shape}
use Rattle.spec_node.specs.Behaviour.{PayloadFrom, Lent, Own}
use Rattle.spec_node.specs.Record.{Node}
use Rattle.node_rules.specs.EndpointLocal.{EndpointLocal}
use Rattle.node_rules.specs.declared.answer.Answer.{Answer}
use Rattle.node_collectives.specs.CollectivesState.{CollectivesState, progress_of}
use Rattle.node_collectives.specs.Ends.{calls_behind, ended_then, result_in, segment_in, set_call, tried_answer}
use Rattle.node_collectives.specs.Progress.{Progress, data_of_all, end_refusal, is_left, is_open, start_refusal, writes_from}
use Rattle.node_collectives.specs.Starts.{start_call, start_told, started_then}
use Rattle.node_collectives.specs.Steps.{after_ask, step_call, step_told}
use Rattle.node_collectives.specs.declared.answers.Argument.TheVariants as arguments
use Rattle.node_collectives.specs.declared.answers.EndAnswer.{EndAnswer}
use Rattle.node_collectives.specs.declared.answers.EndAnswer.TheVariants as ends
use Rattle.node_collectives.specs.declared.answers.StartAnswer.{StartAnswer}
use Rattle.node_collectives.specs.declared.answers.StartAnswer.TheVariants as starts
use Rattle.node_collectives.specs.declared.answers.StepAnswer.{StepAnswer}
use Rattle.node_endpoint.specs.Sites.{Site, answer_at, node_then}
use Rattle.law_traces.specs.Fitting.{AreBytes, CallFits, CollectivesFit, KeptFits, PayloadFits}
use Rattle.law_traces.specs.Scripts.{TryContext}
use Rattle.law_traces.proofs.Bytes.{bytes_append, bytes_image, bytes_none, bytes_part, bytes_word, high_fits, low_fits}
use Rattle.proc_collective_steps.specs.Outcomes.{Outcome, end_by, end_outcome, start_by, start_outcome, step_from, step_outcome}
use Rattle.proc_collective_steps.specs.Parts.{calls_of_all, end_asked, site_of, start_asked, start_part, step_part}
use Rattle.proc_collective_steps.proofs.Resting.{from_left, from_open, rest_from}

-- ---- bytes

abbrev AreAllBytes : List (List ℕ) → Type 0
AreAllBytes pieces = AllByRecursion AreBytes pieces

bytes_given : (given : List (List ℕ)) (node : ℕ) → AreAllBytes given → AreBytes (contribution_of given node)
bytes_given [] node all = bytes_none
bytes_given (bytes ∷ given) zero all = all.0
bytes_given (bytes ∷ given) (suc node) all = bytes_given given node all.1

bytes_together : (with_ : ℕ → ℕ → ℕ) (given : List (List ℕ)) (place count : ℕ)
    → AreBytes (together_from with_ given place count)
bytes_together with_ given place zero = bytes_none
bytes_together with_ given place (suc count) =
    bytes_append (to_le_bytes w64 (together_at with_ given place)) (together_from with_ given (suc place) count)
    (bytes_word (together_at with_ given place)) (bytes_together with_ given (suc place) count)

root_bytes : (shape : Shape) (node : ℕ) (pieces : List (List ℕ)) → AreAllBytes pieces
    → AreAllBytes (at_root shape node pieces)
root_bytes shape node pieces all = go (node == shape.root)
  where
    go : (b : Bool) → AreAllBytes (cond {A = List (List ℕ)} b pieces [])
    go true = all
    go false = tt

pieces_bytes : (k : CollectiveKind) (shape : Shape) (given : List (List ℕ)) (node : ℕ) → AreAllBytes given
    → AreAllBytes (pieces_by k shape given node)
pieces_bytes kind.Broadcast shape given node all = (bytes_given given shape.root all, tt)
pieces_bytes kind.Gather shape given node all = root_bytes shape node given all
pieces_bytes kind.AllGather shape given node all = all
pieces_bytes kind.Sum shape given node all =
    root_bytes shape node _ (bytes_together sum_of given 0 (shape.len / 8), tt)
pieces_bytes kind.Min shape given node all =
    root_bytes shape node _ (bytes_together min given 0 (shape.len / 8), tt)
pieces_bytes kind.Max shape given node all =
    root_bytes shape node _ (bytes_together max given 0 (shape.len / 8), tt)
pieces_bytes kind.AllSum shape given node all = (bytes_together sum_of given 0 (shape.len / 8), tt)
pieces_bytes kind.AllMin shape given node all = (bytes_together min given 0 (shape.len / 8), tt)
pieces_bytes kind.AllMax shape given node all = (bytes_together max given 0 (shape.len / 8), tt)

data_bytes : (area : Area) (progress : Progress) (segment : List ℕ) (node many : ℕ) → AreBytes segment
    → AreAllBytes (data_of_all area progress segment node many)
data_bytes area progress segment node zero bytes = tt
data_bytes area progress segment node (suc many) bytes =
    (bytes_part segment _ _ bytes, data_bytes area progress segment (suc node) many bytes)

-- ---- a try to end

sets_fit : (thread dest : ℕ) (pieces : List (List ℕ)) → AreAllBytes pieces
    → AllByRecursion CallFits (calls_of_all (map (set_call thread) (writes_from dest pieces)))
sets_fit thread dest [] all = tt
sets_fit thread dest (bytes ∷ pieces) all = (all.0, sets_fit thread (dest + length bytes) pieces all.1)

pub ends_fit : (at : TryContext) (dest : ℕ) (node : Node EndpointLocal) (it : CollectivesState) → KeptFits node.local
    → AllByRecursion CallFits (calls_of_all (end_outcome (site_of at) node it (end_asked at dest)).calls)
ends_fit at dest node it fits =
    by_refusal (end_refusal it.area it.settings.segment it.me (progress_of it) dest)
  where
    segment : List ℕ
    segment = segment_in (site_of at) node

    bytes : AreBytes segment
    bytes = bytes_image at.settings.segment node.local.core.writes fits.writes

    behind : (answer : EndAnswer)
        → AllByRecursion CallFits (calls_of_all (calls_behind it segment (end_asked at dest) answer))
    behind ends.Ended = sets_fit at.thread dest (result_in it segment)
        (pieces_bytes it.shape.kind it.shape (data_of_all it.area (progress_of it) segment 0 it.area.nodes) it.me
        (data_bytes it.area (progress_of it) segment 0 it.area.nodes bytes))
    behind (ends.Mismatch other) = tt
    behind ends.NotReady = tt
    behind ends.NotStarted = tt
    behind (ends.BadArg argument) = tt
    behind (ends.Exhausted other) = tt
    behind (ends.Forbidden why) = tt
    behind ends.NoMemory = tt

    by_refusal : (refusal : Option EndAnswer)
        → AllByRecursion CallFits (calls_of_all (end_by (site_of at) node it (end_asked at dest) refusal).calls)
    by_refusal (Some first) = tt
    by_refusal None = (tt, behind (tried_answer (site_of at) node it at.thread))

end_keeps : (it : CollectivesState) (answer : EndAnswer) → CollectivesFit it → CollectivesFit (ended_then answer it)
end_keeps it ends.Ended fits =
    record { count = fits.count; word = fits.word; nodes = fits.nodes; room = fits.room }
end_keeps it (ends.Mismatch other) fits =
    record { count = fits.count; word = fits.word; nodes = fits.nodes; room = fits.room }
end_keeps it ends.NotReady fits = fits
end_keeps it ends.NotStarted fits = fits
end_keeps it (ends.BadArg argument) fits = fits
end_keeps it (ends.Exhausted other) fits = fits
end_keeps it (ends.Forbidden why) fits = fits
end_keeps it ends.NoMemory fits = fits

pub end_far : (at : TryContext) (dest : ℕ) (node : Node EndpointLocal) (it : CollectivesState) → CollectivesFit it
    → CollectivesFit (end_outcome (site_of at) node it (end_asked at dest)).next
end_far at dest node it fits = by_refusal (end_refusal it.area it.settings.segment it.me (progress_of it) dest)
  where
    by_refusal : (refusal : Option EndAnswer)
        → CollectivesFit (end_by (site_of at) node it (end_asked at dest) refusal).next
    by_refusal (Some first) = fits
    by_refusal None = end_keeps it (tried_answer (site_of at) node it at.thread) fits

-- ---- a step

noted_fits : (it : CollectivesState) (to : ℕ) (told : Option Answer) → CollectivesFit it
    → CollectivesFit (after_ask it to told)
noted_fits it to told fits =
    record { count = fits.count; word = fits.word; nodes = fits.nodes; room = fits.room }

-- a phase is open, and the numbers fit
record IsOpen (it : CollectivesState) : Type 0 where
  pub opened : it.ended < it.started
  pub fits : CollectivesFit it

noted_open : (it : CollectivesState) (to : ℕ) (told : Option Answer) → IsOpen it → IsOpen (after_ask it to told)
noted_open it to told is = record { opened = is.opened; fits = noted_fits it to told is.fits }

payload_fits : (it : CollectivesState) (to offset : ℕ) (use_ : Bool)
    → PayloadFits (cond {A = PayloadFrom} use_ (Own offset it.shape.len) (Lent []))
payload_fits it to offset true = tt
payload_fits it to offset false = bytes_none

ask_fits : (it : CollectivesState) (thread to : ℕ) → IsOpen it → CallFits (step_call it thread to).call
ask_fits it thread to is =
    let stamp : it.ended + 1 < 2 ^ 64 = omega (arith, is.opened, is.fits.count) in (
      (
        high_fits (it.ended + 1) stamp,
        (low_fits (it.ended + 1), (high_fits (shape_word it.shape) is.fits.word, (low_fits (shape_word it.shape), tt))),
      ),
      payload_fits it to (data_place it.area (it.ended % 2) it.me) (uses it.shape it.me to),
    )

-- an outcome whose calls fit, and which leaves what fits
record Fits {Told : Type 0} (outcome : Outcome Told) : Type 0 where
  pub calls : AllByRecursion CallFits (calls_of_all outcome.calls)
  pub next : CollectivesFit outcome.next

abbrev Deeper : Site → (thread to many : ℕ) → Type 0
Deeper site thread to many =
    (node : Node EndpointLocal) (it : CollectivesState) → IsOpen it → Fits (step_from site thread to many node it)

rest_fits : (site : Site) (thread to many : ℕ) (next : Node EndpointLocal) (it : CollectivesState)
    (told : Option Answer) → IsOpen it → Deeper site thread (suc to) many → (stop : Option StepAnswer)
    → Fits (rest_from site thread to many next it told stop)
rest_fits site thread to many next it told is deeper (Some end) =
    record { calls = tt; next = noted_fits it to told is.fits }
rest_fits site thread to many next it told is deeper None = deeper next (after_ask it to told) (noted_open it to told is)

left_fits : (site : Site) (thread to many : ℕ) (node : Node EndpointLocal) (it : CollectivesState) → IsOpen it
    → Deeper site thread (suc to) many → (left : Bool) → Fits (from_left site thread to many node it left)
left_fits site thread to many node it is deeper false = deeper node it is
left_fits site thread to many node it is deeper true =
    let told : Option Answer = Some (answer_at site node (step_call it thread to)) in
    let rest = rest_fits site thread to many (node_then site node (step_call it thread to)) it told is deeper
    (step_told to told) in
    record { calls = (ask_fits it thread to is, rest.calls); next = rest.next }

steps_fit : (site : Site) (thread to many : ℕ) → Deeper site thread to many
steps_fit site thread to zero node it is = record { calls = tt; next = is.fits }
steps_fit site thread to (suc many) node it is =
    left_fits site thread to many node it is (steps_fit site thread (suc to) many)
    (is_left it.me to (progress_of it))

step_both : (at : TryContext) (node : Node EndpointLocal) (it : CollectivesState) → CollectivesFit it
    → Fits (step_outcome (site_of at) at.thread node it)
step_both at node it fits = by_open (is_open (progress_of it)) refl
  where
    by_open : (open_ : Bool) → is_open (progress_of it) ≡ open_
        → Fits (from_open (site_of at) at.thread node it open_)
    by_open true is =
        let opened = ltb-true it.ended it.started is in
        steps_fit (site_of at) at.thread 0 it.area.nodes node it (record { opened = opened; fits = fits })
    by_open false is = record { calls = tt; next = fits }

-- ---- a start

-- what a start that isn't refused has
record Passes (it : CollectivesState) (shape : Shape) : Type 0 where
  pub root : shape.root < it.area.nodes
  pub len : shape.len ≤ it.area.room
  pub left : it.started < 2 ^ 64 - 1

unrefused : (busy root length_ source exhausted : Bool)
    → cond {A = Option StartAnswer} busy (Some starts.Busy)
    (cond root (Some (starts.BadArg arguments.Root))
    (cond length_ (Some (starts.BadArg arguments.Length))
    (cond source (Some (starts.BadArg arguments.Source)) (cond exhausted (Some starts.Exhausted) None)))) ≡ None
    → (root ≡ false) × (length_ ≡ false) × (exhausted ≡ false)
unrefused true root length_ source exhausted same = absurd (none-some _ (sym same))
unrefused false true length_ source exhausted same = absurd (none-some _ (sym same))
unrefused false false true source exhausted same = absurd (none-some _ (sym same))
unrefused false false false true exhausted same = absurd (none-some _ (sym same))
unrefused false false false false true same = absurd (none-some _ (sym same))
unrefused false false false false false same = (refl, refl, refl)

passes : (it : CollectivesState) (shape : Shape) (from : ℕ)
    → start_refusal it.area it.settings.segment (progress_of it) shape from ≡ None → Passes it shape
passes it shape from none =
    let all = unrefused (is_open (progress_of it)) _ _ _ _ none in
    record {
      root = leb-false it.area.nodes shape.root (or_parts (nat_le it.area.nodes shape.root) _ all.0).0;
      len = ltb-false it.area.room shape.len (or_parts (nat_lt it.area.room shape.len) _ all.1).0;
      left = leb-false (2 ^ 64 - 1) it.started all.2;
    }

code_small : (k : CollectiveKind) → kind_code k < 9
code_small k = ltb-true (kind_code k) 9 (by_kind k)
  where
    by_kind : (one : CollectiveKind) → nat_lt (kind_code one) 9 ≡ true
    by_kind kind.Broadcast = refl
    by_kind kind.Gather = refl
    by_kind kind.AllGather = refl
    by_kind kind.Sum = refl
    by_kind kind.Min = refl
    by_kind kind.Max = refl
    by_kind kind.AllSum = refl
    by_kind kind.AllMin = refl
    by_kind kind.AllMax = refl

word_below : (code root len : ℕ) → code < 9 → root < 256 → len ≤ 8192 → code * 2 ^ 48 + root * 2 ^ 32 + len < 2 ^ 64
word_below code root len small low few = omega (arith, small, low, few)

start_both : (at : TryContext) (shape : Shape) (from : ℕ) (node : Node EndpointLocal) (it : CollectivesState)
    → CollectivesFit it → Fits (start_outcome (site_of at) node it (start_asked at shape from))
start_both at shape from node it fits =
    by_refusal (start_refusal it.area it.settings.segment (progress_of it) shape from) refl
  where
    word : Passes it shape → shape_word shape < 2 ^ 64
    word P = word_below (kind_code shape.kind) shape.root shape.len (code_small shape.kind)
        (omega (arith, P.root, fits.nodes)) (omega (arith, P.len, fits.room))

    next_fits : Passes it shape → (answer : StartAnswer) → CollectivesFit (started_then answer it shape)
    next_fits P starts.Started = record {
      count = omega (arith, P.left);
      word = word P;
      nodes = fits.nodes;
      room = fits.room;
    }
    next_fits P starts.Busy = fits
    next_fits P (starts.BadArg argument) = fits
    next_fits P starts.Exhausted = fits
    next_fits P (starts.Forbidden why) = fits
    next_fits P (starts.LockBusy lock) = fits
    next_fits P starts.NoMemory = fits

    by_refusal : (refusal : Option StartAnswer)
        → start_refusal it.area it.settings.segment (progress_of it) shape from ≡ refusal
        → Fits (start_by (site_of at) node it (start_asked at shape from) refusal)
    by_refusal (Some first) is = record { calls = tt; next = fits }
    by_refusal None is =
        let P = passes it shape from is in
        let stamp : it.started + 1 < 2 ^ 64 = omega (arith, P.left) in
        record {
          calls = (
            (
              (
                high_fits (it.started + 1) stamp,
                (low_fits (it.started + 1), (high_fits (shape_word shape) (word P), (low_fits (shape_word shape), tt))),
              ),
              tt,
            ),
            tt,
          );
          next = next_fits P
              (start_told (Some (answer_at (site_of at) node (start_call it (start_asked at shape from)))));
        }

-- ---- the parts

pub start_fits : (at : TryContext) (shape : Shape) (from : ℕ) (node : Node EndpointLocal) (it : CollectivesState)
    → CollectivesFit it → AllByRecursion CallFits (start_part at shape from node it).calls
start_fits at shape from node it fits = (start_both at shape from node it fits).calls

pub start_far : (at : TryContext) (shape : Shape) (from : ℕ) (node : Node EndpointLocal) (it : CollectivesState)
    → CollectivesFit it → CollectivesFit (start_outcome (site_of at) node it (start_asked at shape from)).next
start_far at shape from node it fits = (start_both at shape from node it fits).next

pub step_fits : (at : TryContext) (node : Node EndpointLocal) (it : CollectivesState) → CollectivesFit it
    → AllByRecursion CallFits (step_part at node it).calls
step_fits at node it fits = (step_both at node it fits).calls

pub step_far : (at : TryContext) (node : Node EndpointLocal) (it : CollectivesState) → CollectivesFit it
    → CollectivesFit (step_outcome (site_of at) at.thread node it).next
step_far at node it fits = (step_both at node it fits).next
