-- Prefixes of recorders are those of the nodes that they record.
use Rattle.std.proofs.Common.{◌≡◌, ℕ, zero, suc, ◌<◌, true, List, [], ◌∷◌, ◌++◌, length, map, take, Option, Some, None}
use Rattle.std.proofs.Common.{refl, sym, ap, subst, slice_get, slice_index, IsSomeAnd}
use Rattle.std.specs.List.{Contains}
use Rattle.std.specs.Option.{option_map}
use Rattle.std.proofs.lemmas.Option.{same_Some, slice_get-map}
use Rattle.text_trace.specs.Merged.{IsFirstLeft}
use Rattle.base_turns.specs.declared.entry.Entry.{Entry}
use Rattle.base_turns.specs.Replay.{given_by, replay_state, sent_in}
use Rattle.base_turns.specs.Prefixes.{Node, CanGet, CanGo, GoesOn, HasLeft, IsRun, IsStuck, Reaches, WasSent, advance, full}
use Rattle.base_turns.specs.Prefixes.{replay, sent_of, start}
use Rattle.proc_machine.specs.NodeState.{NodeState, polls_in, state_steps}
use Rattle.law_traces.specs.Merged.{Carries, with_machine_of}
use Rattle.law_traces.proofs.Carrying.{full_same, goes_back, start_same}
use Rattle.cli_check.specs.Recording.{RecordedState, record_after, record_steps}

-- ---- what is there

pub some_from : {A : Type 0} (o : Option A) (P : A → Type 0) → IsSomeAnd o P → (x : A) × (o ≡ Some x) × P x
some_from None P h = absurd h
some_from (Some x) P h = (x, refl, h)

-- of what may be there, and what is made of it
some_made : {A B : Type 0} (f : A → B) (P : A → Type 0) (Q : B → Type 0) (o : Option A) → ((x : A) → P x → Q (f x))
    → IsSomeAnd o P → IsSomeAnd (option_map f o) Q
some_made f P Q None so h = h
some_made f P Q (Some x) so h = so x h

some_back : {A B : Type 0} (f : A → B) (P : B → Type 0) (Q : A → Type 0) (o : Option A) → ((x : A) → P (f x) → Q x)
    → IsSomeAnd (option_map f o) P → IsSomeAnd o Q
some_back f P Q None so h = h
some_back f P Q (Some x) so h = so x h

pub some_same : {A : Type 0} (P Q : A → Type 0) (o : Option A) → ((x : A) → P x → Q x) → IsSomeAnd o P → IsSomeAnd o Q
some_same P Q None so h = h
some_same P Q (Some x) so h = so x h

pub full_at : {S : Type 0} (nodes : List (Node S)) (k : ℕ) (node : Node S) → slice_get nodes k ≡ Some node
    → slice_index (full nodes) k ≡ length node.entries
full_at [] k node there = absurd (cc)
full_at (first ∷ nodes) zero node there = ap (λ (one : Node _). length one.entries) (same_Some first node there)
full_at (first ∷ nodes) (suc k) node there = full_at nodes k node there

-- ---- the node of a recorder

abbrev pub node_in : RecordedState → NodeState
node_in state = state.node

abbrev pub nodes_in : List (Node RecordedState) → List (Node NodeState)
nodes_in nodes = map (with_machine_of node_in) nodes

carries : Carries node_in record_steps state_steps
carries = record {
  polls = λ state thread. refl;
  after = λ state thread now got. refl;
  turned = λ state thread now got. refl;
  sent = λ state. refl;
}

replay_node : (state : RecordedState) (entries : List Entry)
    → replay_state state_steps state.node entries ≡ (replay_state record_steps state entries).node
replay_node state [] = refl
replay_node state (entry ∷ entries) = replay_node (record_after state entry.thread entry.now entry.got) entries

sent_node : (state : RecordedState) (entries : List Entry)
    → sent_in state_steps state.node entries ≡ sent_in record_steps state entries
sent_node state [] = refl
sent_node state (entry ∷ entries) =
    ap (λ (later : List (ℕ × List ℕ)). given_by record_steps state entry ++ later)
    (sent_node (record_after state entry.thread entry.now entry.got) entries)

-- ---- what can go

module _ (nodes : List (Node RecordedState)) where
  was_sent : (prefix : List ℕ) (rank : ℕ) (bytes : List ℕ) → WasSent record_steps nodes prefix rank bytes
      → WasSent state_steps (nodes_in nodes) prefix rank bytes
  was_sent prefix rank bytes was = (
    was.0,
    subst (λ (o : Option (Node NodeState)). IsSomeAnd o (λ one.
        Contains (sent_of state_steps one (slice_index prefix was.0)) (rank, bytes)))
        (sym (slice_get-map (with_machine_of node_in) nodes was.0))
        (some_made (with_machine_of node_in) _
        (λ one. Contains (sent_of state_steps one (slice_index prefix was.0)) (rank, bytes)) (slice_get nodes was.0) (λ one sent.
        subst (λ (all : List (ℕ × List ℕ)). Contains all (rank, bytes))
        (sym (sent_node one.state (take (slice_index prefix was.0) one.entries))) sent) was.1),
  )

  can_get : (prefix : List ℕ) (rank : ℕ) (one : Node RecordedState) (thread : ℕ) (got : Option (List ℕ))
      → CanGet record_steps nodes prefix rank (replay record_steps one (slice_index prefix rank)) thread got
      → CanGet state_steps (nodes_in nodes) prefix rank
      (replay state_steps (with_machine_of node_in one) (slice_index prefix rank)) thread got
  can_get prefix rank one thread None can = tt
  can_get prefix rank one thread (Some bytes) can = (
    subst (λ (state : NodeState). polls_in state thread ≡ true)
        (sym (replay_node one.state (take (slice_index prefix rank) one.entries))) can.0,
    was_sent prefix rank bytes can.1,
  )

  can_go : (prefix : List ℕ) (rank : ℕ) → CanGo record_steps nodes prefix rank
      → CanGo state_steps (nodes_in nodes) prefix rank
  can_go prefix rank can =
      let Goes : Node NodeState → Type 0 = λ one. IsSomeAnd (slice_get one.entries (slice_index prefix rank)) (λ entry.
      CanGet state_steps (nodes_in nodes) prefix rank (replay state_steps one (slice_index prefix rank)) entry.thread
      entry.got) in
      subst (λ (o : Option (Node NodeState)). IsSomeAnd o Goes) (sym (slice_get-map (with_machine_of node_in) nodes rank))
      (some_made (with_machine_of node_in) _ Goes (slice_get nodes rank) (λ one it.
      some_same _ _ (slice_get one.entries (slice_index prefix rank))
      (λ entry. can_get prefix rank one entry.thread entry.got) it) can)

  can_go_back : (prefix : List ℕ) (rank : ℕ) → CanGo state_steps (nodes_in nodes) prefix rank
      → CanGo record_steps nodes prefix rank
  can_go_back prefix rank can =
      (goes_back node_in record_steps state_steps carries nodes (rank ∷ []) prefix (advance prefix rank) (can, refl)).0

  goes_on : (ranks prefix to : List ℕ) → GoesOn record_steps nodes prefix ranks to
      → GoesOn state_steps (nodes_in nodes) prefix ranks to
  goes_on [] prefix to goes = goes
  goes_on (rank ∷ ranks) prefix to goes =
      (can_go prefix rank goes.0, goes_on ranks (advance prefix rank) to goes.1)

  -- ---- what is reached

  pub reaches : (ranks to : List ℕ) → Reaches record_steps nodes ranks to
      → Reaches state_steps (nodes_in nodes) ranks to
  reaches ranks to reached =
      subst (λ (prefix : List ℕ). GoesOn state_steps (nodes_in nodes) prefix ranks to)
      (sym (start_same node_in nodes)) (goes_on ranks (start nodes) to reached)

  pub is_run_back : IsRun state_steps (nodes_in nodes) → IsRun record_steps nodes
  is_run_back run = (
    run.0,
    goes_back node_in record_steps state_steps carries nodes run.0 (start nodes) (full nodes)
        (subst (λ (to : List ℕ). GoesOn state_steps (nodes_in nodes) (start nodes) run.0 to) (full_same node_in nodes)
        (subst (λ (prefix : List ℕ). GoesOn state_steps (nodes_in nodes) prefix run.0 (full (nodes_in nodes)))
        (start_same node_in nodes) run.1)),
  )

  has_left : (prefix : List ℕ) (rank : ℕ) → HasLeft nodes prefix rank → HasLeft (nodes_in nodes) prefix rank
  has_left prefix rank left =
      let Left : Node NodeState → Type 0 = λ one. slice_index prefix rank < length one.entries in
      subst (λ (o : Option (Node NodeState)). IsSomeAnd o Left) (sym (slice_get-map (with_machine_of node_in) nodes rank))
      (some_made (with_machine_of node_in) _ Left (slice_get nodes rank) (λ one it. it) left)

  has_left_back : (prefix : List ℕ) (rank : ℕ) → HasLeft (nodes_in nodes) prefix rank → HasLeft nodes prefix rank
  has_left_back prefix rank left =
      let Left : Node NodeState → Type 0 = λ one. slice_index prefix rank < length one.entries in
      some_back (with_machine_of node_in) Left _ (slice_get nodes rank) (λ one it. it)
      (subst (λ (o : Option (Node NodeState)). IsSomeAnd o Left) (slice_get-map (with_machine_of node_in) nodes rank) left)

  pub is_stuck : (prefix : List ℕ) → IsStuck record_steps nodes prefix → IsStuck state_steps (nodes_in nodes) prefix
  is_stuck prefix stuck = record {
    reached = (stuck.reached.0, reaches stuck.reached.0 prefix stuck.reached.1);
    left = (stuck.left.0, has_left prefix stuck.left.0 stuck.left.1);
    none = λ rank can. stuck.none rank (can_go_back prefix rank can);
  }

  pub is_first_left : (prefix : List ℕ) (rank : ℕ) → IsFirstLeft nodes prefix rank
      → IsFirstLeft (nodes_in nodes) prefix rank
  is_first_left prefix rank first = record {
    left = has_left prefix rank first.left;
    first = λ other less left. first.first other less (has_left_back prefix other left);
  }
