-- The slots that are in use are as many as the record's requests that aren't back and its slots with a run.
use Rattle.std.proofs.Common.{◌≡◌, inl, inr, ℕ, zero, suc, ◌+◌, ◌<◌, ◌≤◌, Bool, true, false, not, List, []}
use Rattle.std.proofs.Common.{◌∷◌, ne_eqb, length, Option, None, Some, refl, sym, ap, ap₂, ◌∙◌, subst, arith, eqb}
use Rattle.std.proofs.Common.{if◌then◌else◌}
use Rattle.std.specs.Prelude.{sum_by}
use Rattle.std.specs.List.{list_any, slice_get}
use Rattle.std.proofs.lemmas.Bool.{cases_Bool, cases_eq}
use Rattle.std.proofs.lemmas.List.Sums.{sum_by-cons}
use Rattle.std.proofs.lemmas.List.{nil_from_length}
use Rattle.std.proofs.lemmas.Option.{same_Some}
use Rattle.wire_message.specs.Parameters.{Parameters, credits_of}
use Rattle.part_window.specs.SlotsState.{PeerState, is_vacant, is_taken, taken_count, held_count}
use Rattle.part_window.specs.RepliesState.{ReplyState, run_count, has_run as keeps_run, held_count as kept_count}
use Rattle.base_lists.specs.Sums.{sum_below}
use Rattle.spec_node.specs.Record.{Request, Run, Node}
use Rattle.spec_node.specs.Requests.{taken_slots, outstanding}
use Rattle.spec_node.specs.Executed.{greatest, last_run, has_run, slots_run}
use Rattle.spec_node.specs.Held.{held_buffers}
use Rattle.spec_node.specs.Credits.{limits_of}
use Rattle.spec_node.specs.Invariant.{IsOrderly}
use Rattle.spec_node.proofs.Lists.{taken_from, slice_get_in}
use Rattle.spec_node.proofs.Keeping.{taken_apart}
use Rattle.spec_node.proofs.Runs.{has_run_found, has_run_none, run_at_says}
use Rattle.base_lists.proofs.Sums.{sum_same}
use Rattle.node_core.specs.Kept.{Local}
use Rattle.node_core.specs.CoreState.{CoreState}
use Rattle.node_core.specs.Sizes.{IsSized}
use Rattle.node_core.specs.Stands.{CoreStands, StandsForAsked, StandsForRan, reply_state}
use Rattle.node_core.proofs.Claiming.{vacant_taken}
use Rattle.node_core.proofs.Readings.{hits, hits_all}
use Rattle.spec_node.proofs.Holding.{no_slots}

-- ---- sums over lists

-- the first value of a sum
sum_first : (f : ℕ → ℕ) (n : ℕ) → sum_below f (suc n) ≡ f 0 + sum_below (λ k. f (suc k)) n
sum_first f zero = omega arith
sum_first f (suc n) = let ih = sum_first f n in omega (arith, ih)

-- a sum over a list whose items have these values
sum_of : {X : Type 0} (value : X → ℕ) (f : ℕ → ℕ) (xs : List X)
    → ((k : ℕ) (x : X) → slice_get xs k ≡ Some x → value x ≡ f k) → sum_by value xs ≡ sum_below f (length xs)
sum_of value f [] same = refl
sum_of value f (x ∷ xs) same =
    let here = same 0 x refl in
    let ih = sum_of value (λ k. f (suc k)) xs (λ k y is. same (suc k) y is) in
    omega (arith, sum_by-cons value x xs, sum_first f (length xs), here, ih)

-- two sums as one
sum_both : (f g : ℕ → ℕ) (n : ℕ) → sum_below f n + sum_below g n ≡ sum_below (λ k. f k + g k) n
sum_both f g zero = refl
sum_both f g (suc n) = let ih = sum_both f g n in omega (arith, ih)

-- one where the test holds
abbrev one_if : (ℕ → Bool) → ℕ → ℕ
one_if f k = if f k then 1 else 0

-- how many numbers pass, as a sum
hits_sum : (f : ℕ → Bool) (from many : ℕ) → hits f from many ≡ sum_below (λ k. one_if f (from + k)) many
hits_sum f from zero = refl
hits_sum f from (suc many) =
    let ih = hits_sum f (suc from) many in
    let first = sum_first (λ k. one_if f (from + k)) many in
    let same : sum_below (λ k. one_if f (suc from + k)) many ≡ sum_below (λ k. one_if f (from + suc k)) many =
    sum_same (λ k. one_if f (suc from + k)) (λ k. one_if f (from + suc k)) many
    (λ k l. ap (one_if f) (omega arith)) in
    let here : one_if f (from + 0) ≡ one_if f from = ap (one_if f) (omega arith) in
    elim (cases_Bool (f from)) [
      | inl t ↦ (let one : one_if f from ≡ 1 = rw t refl in rw t (omega (arith, ih, first, same, here, one)))
      | inr t ↦ (let none : one_if f from ≡ 0 = rw t refl in rw t (omega (arith, ih, first, same, here, none)))
    ]

-- of the numbers below one
hits_below : (f : ℕ → Bool) (n : ℕ) → hits f 0 n ≡ sum_below (one_if f) n
hits_below f n = hits_sum f 0 n ∙ sum_same (λ k. one_if f (0 + k)) (one_if f) n (λ k l. ap (one_if f) (omega arith))

-- the slots with a run, as a sum
slots_run_sum : (rs : List Run) (n : ℕ) → slots_run rs n ≡ sum_below (λ slot. if has_run slot rs then 1 else 0) n
slots_run_sum rs zero = refl
slots_run_sum rs (suc n) = let ih = slots_run_sum rs n in ap (λ k. k + (if has_run n rs then 1 else 0)) ih

-- one where an item passes
abbrev counted_of : {X : Type 0} → (X → Bool) → X → ℕ
counted_of test x = if test x then 1 else 0

-- ---- one peer

-- one for true
abbrev count_one : Bool → ℕ
count_one b = if b then 1 else 0

-- a test that fails to fail
twice_not : (b : Bool) → count_one (not (not b)) ≡ count_one b
twice_not true = refl
twice_not false = refl

-- as many slots of a peer are taken as requests aren't back
peer_taken : (s : Parameters) (me peer : ℕ) (p : PeerState) (xs : List Request) → StandsForAsked s me peer p xs
    → IsOrderly (limits_of s me peer) xs → taken_count p ≡ outstanding xs
peer_taken s me peer p xs S O =
    let f : ℕ → Bool = λ k. list_any (eqb k) (taken_slots xs) in
    let some : hits f 0 (credits_of s me peer) ≡ outstanding xs = hits_all (credits_of s me peer) (taken_slots xs)
    (taken_apart xs O.apart)
    (λ q h. let it = taken_from xs q h in subst (λ n. n < credits_of s me peer) it.4 (O.low (suc it.0) it.1 it.2)) in
    let counted = sum_of (counted_of is_taken) (one_if f) p.slots
    (λ k x e. let inside : k < credits_of s me peer = subst (λ n. k < n) S.count (slice_get_in p.slots k x e) in
    let it = vacant_taken s me peer p xs k S inside in
    let test : is_vacant x ≡ not (f k) = ap is_vacant (same_Some x it.0 (sym e ∙ it.1)) ∙ it.2 in
    ap (λ (b : Bool). count_one (not b)) test ∙ twice_not (f k)) in
    counted ∙ ap (sum_below (one_if f)) S.count ∙ sym (hits_below f (credits_of s me peer)) ∙ some

-- a slot keeps a run exactly where the record has one
keeps_is : (s : Parameters) (me peer slot : ℕ) (rs : List Run) (o : Option Run) → last_run slot rs ≡ o
    → ((place : ℕ) (run : Run) → slice_get rs place ≡ Some run → 1 ≤ run.number)
    → keeps_run (reply_state s me peer o) ≡ has_run slot rs
keeps_is s me peer slot rs None is some = sym (has_run_none slot rs is)
keeps_is s me peer slot rs (Some run) is some =
    let at = (run_at_says slot (greatest slot rs) rs run is).2 in
    let positive = some at.0 run at.1 in
    ap not (ne_eqb run.number 0 (λ e. omega (arith, e, positive))) ∙ sym (has_run_found slot rs run is)

-- as many slots of a peer keep a reply as have a run
peer_ran : (s : Parameters) (me peer : ℕ) (p : List ReplyState) (rs : List Run) → StandsForRan s me peer p rs
    → ((place : ℕ) (run : Run) → slice_get rs place ≡ Some run → 1 ≤ run.number)
    → run_count p ≡ slots_run rs (credits_of s peer me)
peer_ran s me peer p rs S some =
    let counted = sum_of (counted_of keeps_run) (λ slot. if has_run slot rs then 1 else 0) p
    (λ k x e. let inside : k < credits_of s peer me = subst (λ n. k < n) S.count (slice_get_in p k x e) in
    let it : x ≡ reply_state s me peer (last_run k rs) = same_Some x _ (sym e ∙ S.slots k inside) in
    ap count_one
    (ap keeps_run it ∙ keeps_is s me peer k rs (last_run k rs) refl some)) in
    counted ∙ ap (sum_below (λ slot. if has_run slot rs then 1 else 0)) S.count
    ∙ sym (slots_run_sum rs (credits_of s peer me))

-- ---- all peers

-- how many slots of a peer that may be there are taken
abbrev taken_at : Option PeerState → ℕ
taken_at peer = elim peer [ Some p ↦ length p.slots | None ↦ 0 ]

abbrev kept_at : Option (List ReplyState) → ℕ
kept_at peer = elim peer [ Some p ↦ length p | None ↦ 0 ]

-- what has no slots has none in use
none_taken : (p : PeerState) → length p.slots ≡ 0 → taken_count p ≡ 0
none_taken p none = ap (λ slots. sum_by (counted_of is_taken) slots) (nil_from_length p.slots none)

none_kept : (p : List ReplyState) → length p ≡ 0 → run_count p ≡ 0
none_kept p none = ap (λ slots. sum_by (counted_of keeps_run) slots) (nil_from_length p none)

-- the requests that aren't back, of all peers
asked_count : (e : CoreState) (r : Node Local) → CoreStands e r → IsSized e.settings e.me e.requests e.replies
    → held_count e.requests ≡ sum_below (λ peer. outstanding (r.asked peer)) e.settings.nodes
asked_count e r S sized =
    sum_of taken_count (λ peer. outstanding (r.asked peer)) e.requests.peers
    (λ peer p is. elim (cases_eq peer e.me) [
      | inl own ↦ (let none : length p.slots ≡ 0 =
          ap taken_at (sym is ∙ ap (λ k. slice_get e.requests.peers k) own) ∙ sized.none_asked in
          none_taken p none ∙ sym (ap outstanding (ap r.asked own ∙ S.invariant_.own)))
      | inr other ↦ (let low : peer < e.settings.nodes =
          subst (λ n. peer < n) sized.requesters (slice_get_in e.requests.peers peer p is) in
          let it = S.requests peer low other in
          ap taken_count (same_Some p it.0 (sym is ∙ it.1))
          ∙ peer_taken e.settings e.me peer it.0 (r.asked peer) it.2 (S.invariant_.orderly peer))
    ])
    ∙ ap (sum_below (λ peer. outstanding (r.asked peer))) sized.requesters

-- a request that was run has a number
run_numbered : (e : CoreState) (r : Node Local) (peer place : ℕ) (run : Run) → CoreStands e r
    → slice_get (r.ran peer) place ≡ Some run → 1 ≤ run.number
run_numbered e r peer place run S is = (S.invariant_.replied peer place run is).numbered

-- the replies that are kept, of all peers
ran_count : (e : CoreState) (r : Node Local) → CoreStands e r → IsSized e.settings e.me e.requests e.replies
    → kept_count e.replies ≡ sum_below (λ peer. slots_run (r.ran peer) (credits_of e.settings peer e.me))
    e.settings.nodes
ran_count e r S sized =
    sum_of run_count (λ peer. slots_run (r.ran peer) (credits_of e.settings peer e.me)) e.replies.peers
    (λ peer p is. elim (cases_eq peer e.me) [
      | inl own ↦ (let none : length p ≡ 0 =
          ap kept_at (sym is ∙ ap (λ k. slice_get e.replies.peers k) own) ∙ sized.none_kept in
          none_kept p none ∙ sym (ap (λ rs. slots_run rs (credits_of e.settings peer e.me))
          (ap r.ran own ∙ S.own_ran) ∙ no_slots (credits_of e.settings peer e.me)))
      | inr other ↦ (let low : peer < e.settings.nodes =
          subst (λ n. peer < n) sized.responders (slice_get_in e.replies.peers peer p is) in
          let it = S.replies peer low other in
          ap run_count (same_Some p it.0 (sym is ∙ it.1))
          ∙ peer_ran e.settings e.me peer it.0 (r.ran peer) it.2 (λ place run at. run_numbered e r peer place run S at))
    ])
    ∙ ap (sum_below (λ peer. slots_run (r.ran peer) (credits_of e.settings peer e.me))) sized.responders

-- the slots in use are what the record holds
pub held_is : (e : CoreState) (r : Node Local) → CoreStands e r → IsSized e.settings e.me e.requests e.replies
    → held_count e.requests + kept_count e.replies ≡ held_buffers e.settings e.me r
held_is e r S sized =
    ap₂ (λ m n. m + n) (asked_count e r S sized) (ran_count e r S sized)
    ∙ sum_both (λ peer. outstanding (r.asked peer)) (λ peer. slots_run (r.ran peer) (credits_of e.settings peer e.me))
    e.settings.nodes
