-- The order that a merge gives is one in which each entry can go.
use Rattle.std.proofs.Common.{◌≡◌, ◌≢◌, inl, inr, ℕ, zero, suc, ◌+◌, ◌<◌, ◌≤◌, Bool, true, false, ◌||◌, eq-eqb, ne_eqb}
use Rattle.std.proofs.Common.{cond, List, [], ◌∷◌, ◌++◌, map, length, take, Option, None, Some, refl, sym, ap, ap₂, ◌∙◌}
use Rattle.std.proofs.Common.{subst, arith, slice_get, slice_index, IsSomeAnd, append_assoc}
use Rattle.std.specs.List.{Contains}
use Rattle.std.specs.Option.{option_map, option_to_list}
use Rattle.std.proofs.lemmas.Bool.{cases_eq}
use Rattle.std.proofs.lemmas.List.{take_more, get_or-set_same, get_or-set_other, length-set, length-map, get_or-map}
use Rattle.std.proofs.lemmas.List.{take_all, append-nil}
use Rattle.std.proofs.lemmas.List.Elements.{Contains-append_left, Contains-append_right, Contains-append_cases}
use Rattle.std.proofs.lemmas.Option.{slice_get_within, get_or_from_slice_get}
use Rattle.base_lists.specs.Put.{put}
use Rattle.base_lists.proofs.Members.{contains_none}
use Rattle.base_lists.proofs.Put.{put_same, put_other}
use Rattle.spec_network.specs.Sent.{Packet}
use Rattle.base_turns.specs.declared.entry.Entry.{Entry}
use Rattle.base_turns.specs.Replay.{Steps, replay_state, sent_in, given_by as given_in, after_entry as after_turn}
use Rattle.base_turns.specs.Prefixes.{Node, replay as replay_at, sent_of, start, full, advance, WasSent, CanGet, GoesOn}
use Rattle.base_turns.proofs.Replays.{replayed-push, sent_in-push}
use Rattle.law_traces.specs.Scripts.{NodeJob}
use Rattle.law_traces.specs.Turn.{MachineState, Turn, turn, datagram, is_some_there}
use Rattle.law_traces.specs.Order.{RankedMachine, job_steps, replay, NodeEntry, own_entries, Machines, turn_of, after_entry}
use Rattle.law_traces.specs.Order.{given_by, after_all, MayGet, GoInOrder}
use Rattle.law_traces.specs.Merged.{nodes_from, next_entry_of, next_at, order_of}
use Rattle.base_lists.proofs.Cases.{none_some}

some_from : {A : Type 0} (o : Option A) (P : A → Type 0) → IsSomeAnd o P → (x : A) × (o ≡ Some x) × P x
some_from None P h = absurd h
some_from (Some x) P h = (x, refl, h)

same_value : {A : Type 0} (x y : A) → Some x ≡ Some y → x ≡ y
same_value x y e = cc

-- a machine with its node's number
abbrev ranked : {Kept Own : Type 0} → ℕ → MachineState Kept Own → RankedMachine Kept Own
ranked me state = record { me = me; state = state }

-- an entry of a node
abbrev entry_of : ℕ → Entry → NodeEntry
entry_of node entry = record { node = node; entry = entry }

-- one entry more of a list
take_next : (entries : List Entry) (count : ℕ) (entry : Entry) → slice_get entries count ≡ Some entry
    → take (count + 1) entries ≡ take count entries ++ entry ∷ []
take_next entries count entry h =
    take_more entries count entry (slice_get_within entries count entry h)
    ∙ ap (λ (d : Entry). take count entries ++ d ∷ []) (get_or_from_slice_get entries count entry entry h)

-- ---- what a turn gives

-- all that a turn sent is outgoing after it; an empty turn sent nothing
given_form : (f : Packet → ℕ × List ℕ) (a c d : Bool) (packets : List Packet) (old : List (ℕ × List ℕ))
    → take (cond (a || is_some_there packets || c || d) (length packets) 0)
    (cond (a || is_some_there packets || c || d) (map f packets) old)
    ≡ map f packets
given_form f true c d packets old = take_all (length packets) (map f packets) (omega (arith, length-map packets f))
given_form f false c d (p ∷ packets) old =
    take_all (length (p ∷ packets)) (map f (p ∷ packets)) (omega (arith, length-map (p ∷ packets) f))
given_form f false true d [] old = refl
given_form f false false true [] old = refl
given_form f false false false [] old = refl

given_is : {Kept Own : Type 0} (job : NodeJob Kept Own) (machines : Machines Kept Own) (node : ℕ) (entry : Entry)
    → given_in (job_steps job) (ranked node (machines node)) entry ≡ given_by job machines (entry_of node entry)
given_is job machines node entry =
    given_form (datagram job.job.settings) _ _ _ (turn_of job machines (entry_of node entry)).packets
    (machines node).outgoing

-- ---- along a list of nodes

-- of the machines and of what was given, at a prefix
pub record AtPrefix
    {Kept Own : Type 0} (job : NodeJob Kept Own) (nodes : List (Node (RankedMachine Kept Own))) (prefix : List ℕ)
    (machines : Machines Kept Own) (had : List (ℕ × List ℕ)) : Type 0 where
  pub size : length prefix ≡ length nodes
  pub at : (n : ℕ) (x : Node (RankedMachine Kept Own)) → slice_get nodes n ≡ Some x
      → replay_at (job_steps job) x (slice_index prefix n) ≡ ranked n (machines n)
  pub gave : (n : ℕ) (x : Node (RankedMachine Kept Own)) (d : ℕ × List ℕ) → slice_get nodes n ≡ Some x
      → Contains (sent_of (job_steps job) x (slice_index prefix n)) d → Contains had d

-- the node's next entry goes
prefix_on : {Kept Own : Type 0} (job : NodeJob Kept Own) (nodes : List (Node (RankedMachine Kept Own))) (prefix : List ℕ)
    (machines : Machines Kept Own) (had : List (ℕ × List ℕ)) (n : ℕ) (x : Node (RankedMachine Kept Own)) (entry : Entry)
    → slice_get nodes n ≡ Some x → slice_get x.entries (slice_index prefix n) ≡ Some entry
    → AtPrefix job nodes prefix machines had
    → AtPrefix job nodes (advance prefix n) (after_entry job machines (entry_of n entry))
    (had ++ given_by job machines (entry_of n entry))
prefix_on {Kept} {Own} job nodes prefix machines had n x entry is next F =
    record {
      size = length-set prefix n (slice_index prefix n + 1) ∙ F.size;
      at = λ k y h. elim (cases_eq k n) [
        | inl same ↦ (let it = one k y same h in
            ap₂ (λ (z : Node (RankedMachine Kept Own)) (i : ℕ). replay_at steps z i) it
            (ap (slice_index (advance prefix n)) same ∙ here)
            ∙ (after_here ∙ (ap (ranked n) (sym (put_same machines n t.after))
            ∙ ap (λ i. ranked i (put machines n t.after i)) (sym same))))
        | inr other ↦ ap (replay_at steps y) (there k other)
            ∙ (F.at k y h ∙ ap (ranked k) (sym (put_other machines n t.after k other)))
      ];
      gave = λ k y d h had_it. elim (cases_eq k n) [
        | inl same ↦ (let it = one k y same h in
            let old = subst (λ (ds : List (ℕ × List ℕ)). Contains ds d)
            (ap₂ (λ (z : Node (RankedMachine Kept Own)) (i : ℕ). sent_of steps z i) it
            (ap (slice_index (advance prefix n)) same ∙ here) ∙ sent_here) had_it in
            elim (Contains-append_cases (sent_of steps x (slice_index prefix n)) gives d old) [
              | inl was ↦ Contains-append_left had gives d (F.gave n x d is was)
              | inr new ↦ Contains-append_right had gives d new
            ])
        | inr other ↦ Contains-append_left had gives d
            (F.gave k y d h (subst (λ i. Contains (sent_of steps y i) d) (there k other) had_it))
      ];
    }
  where
    steps : Steps (RankedMachine Kept Own)
    steps = job_steps job

    t : Turn Kept Own
    t = turn_of job machines (entry_of n entry)

    gives : List (ℕ × List ℕ)
    gives = given_by job machines (entry_of n entry)

    within : n < length prefix
    within = let w = slice_get_within nodes n x is in let s = F.size in omega arith

    here : slice_index (advance prefix n) n ≡ slice_index prefix n + 1
    here = get_or-set_same prefix n (slice_index prefix n + 1) 0 within

    there : (k : ℕ) → k ≢ n → slice_index (advance prefix n) k ≡ slice_index prefix k
    there k o = get_or-set_other prefix n k (slice_index prefix n + 1) 0 o

    one : (k : ℕ) (y : Node (RankedMachine Kept Own)) → k ≡ n → slice_get nodes k ≡ Some y → y ≡ x
    one k y same h = same_value y x (sym h ∙ (ap (slice_get nodes) same ∙ is))

    first : List Entry
    first = take (slice_index prefix n) x.entries

    more : take (slice_index prefix n + 1) x.entries ≡ first ++ entry ∷ []
    more = take_next x.entries (slice_index prefix n) entry next

    after_here : replay_at steps x (slice_index prefix n + 1) ≡ ranked n t.after
    after_here =
        ap (replay_state steps x.state) more
        ∙ (replayed-push steps x.state first entry
        ∙ ap (λ (m : RankedMachine Kept Own). after_turn steps m entry) (F.at n x is))

    sent_here : sent_of steps x (slice_index prefix n + 1) ≡ sent_of steps x (slice_index prefix n) ++ gives
    sent_here =
        ap (sent_in steps x.state) more
        ∙ (sent_in-push steps x.state first entry
        ∙ ap (λ (ds : List (ℕ × List ℕ)). sent_of steps x (slice_index prefix n) ++ ds)
        (ap (λ (m : RankedMachine Kept Own). given_in steps m entry) (F.at n x is) ∙ given_is job machines n entry))

-- the next entry of a node at a prefix
next_is : {State : Type 0} (nodes : List (Node State)) (prefix : List ℕ) (n : ℕ) (x : Node State) (entry : Entry)
    → slice_get nodes n ≡ Some x → slice_get x.entries (slice_index prefix n) ≡ Some entry
    → next_at nodes prefix n ≡ entry_of n entry ∷ []
next_is nodes prefix n x entry is next =
    ap (λ (o : Option Entry). option_to_list (option_map (λ (e : Entry). entry_of n e) o))
    (ap (next_entry_of (slice_index prefix n)) is ∙ next)

-- each entry can go
goes_in_order : {Kept Own : Type 0} (job : NodeJob Kept Own) (nodes : List (Node (RankedMachine Kept Own)))
    (list prefix to : List ℕ) (machines : Machines Kept Own) (had : List (ℕ × List ℕ))
    → length nodes ≤ job.job.settings.nodes → AtPrefix job nodes prefix machines had
    → GoesOn (job_steps job) nodes prefix list to
    → GoInOrder job machines had (order_of nodes prefix list)
goes_in_order job nodes [] prefix to machines had few F go = tt
goes_in_order {Kept} {Own} job nodes (n ∷ list) prefix to machines had few F go =
    let a = some_from (slice_get nodes n) _ go.0 in
    let x = a.0 in
    let b = some_from (slice_get x.entries (slice_index prefix n)) _ a.2 in
    let entry = b.0 in
    let within = slice_get_within nodes n x a.1 in
    let item = entry_of n entry in
    let rest = goes_in_order job nodes list (advance prefix n) to (after_entry job machines item)
    (had ++ given_by job machines item) few (prefix_on job nodes prefix machines had n x entry a.1 b.1 F) go.1 in
    let order = order_of nodes (advance prefix n) list in
    subst (λ (first : List NodeEntry). GoInOrder job machines had (first ++ order))
    (sym (next_is nodes prefix n x entry a.1 b.1))
    (omega (arith, within, few), may x entry.thread entry.got a.1 b.2, rest)
  where
    sent_is : (bytes : List ℕ) → WasSent (job_steps job) nodes prefix n bytes → Contains had (n, bytes)
    sent_is bytes h = let it = some_from (slice_get nodes h.0) _ h.1 in F.gave h.0 it.0 (n, bytes) it.1 it.2

    may : (x : Node (RankedMachine Kept Own)) (thread : ℕ) (got : Option (List ℕ)) → slice_get nodes n ≡ Some x
        → CanGet (job_steps job) nodes prefix n (replay_at (job_steps job) x (slice_index prefix n)) thread got
        → MayGet job n (machines n) had thread got
    may x thread None is h = tt
    may x thread (Some bytes) is h = (
      ap (λ (m : RankedMachine Kept Own). job.polls thread m.state.node.local) (sym (F.at n x is)) ∙ h.0,
      sent_is bytes h.1,
    )

-- ---- at the opening

start_at : {State : Type 0} (nodes : List (Node State)) (k : ℕ) → slice_index (start nodes) k ≡ 0
start_at [] k = refl
start_at (x ∷ nodes) zero = refl
start_at (x ∷ nodes) (suc k) = start_at nodes k

-- the n-th node
nodes_at : {Kept Own : Type 0} (machines : Machines Kept Own) (first : ℕ) (traces : List (List Entry)) (n : ℕ)
    (x : Node (RankedMachine Kept Own)) → slice_get (nodes_from machines first traces) n ≡ Some x
    → x.state ≡ ranked (first + n) (machines (first + n))
nodes_at machines first [] n x h = absurd (none_some h)
nodes_at {Kept} {Own} machines first (trace ∷ traces) zero x h =
    let it = same_value (record { state = ranked first (machines first); entries = trace }) x h in
    let plus : first ≡ first + 0 = omega arith in
    ap (λ (y : Node (RankedMachine Kept Own)). y.state) (sym it) ∙ ap (λ i. ranked i (machines i)) plus
nodes_at machines first (trace ∷ traces) (suc n) x h =
    let it = nodes_at machines (first + 1) traces n x h in
    let plus : first + 1 + n ≡ first + suc n = omega arith in
    it ∙ ap (λ i. ranked i (machines i)) plus

length-nodes : {Kept Own : Type 0} (machines : Machines Kept Own) (first : ℕ) (traces : List (List Entry))
    → length (nodes_from machines first traces) ≡ length traces
length-nodes machines first [] = refl
length-nodes machines first (trace ∷ traces) = ap suc (length-nodes machines (first + 1) traces)

first_prefix : {Kept Own : Type 0} (job : NodeJob Kept Own) (machines : Machines Kept Own) (traces : List (List Entry))
    → AtPrefix job (nodes_from machines 0 traces) (start (nodes_from machines 0 traces)) machines []
first_prefix job machines traces = record {
  size = length-map (nodes_from machines 0 traces) (λ node. 0);
  at = λ n x h.
      let plus : 0 + n ≡ n = omega arith in
      ap (replay_at (job_steps job) x) (start_at (nodes_from machines 0 traces) n)
      ∙ (nodes_at machines 0 traces n x h ∙ ap (λ i. ranked i (machines i)) plus);
  gave = λ n x d h had. absurd (contains_none d
      (subst (λ i. Contains (sent_of (job_steps job) x i) d) (start_at (nodes_from machines 0 traces) n) had));
}

-- where a list of nodes reaches the prefix that has all entries, the entries can go in its order
pub merged_order : {Kept Own : Type 0} (job : NodeJob Kept Own) (machines : Machines Kept Own)
    (traces : List (List Entry)) (list : List ℕ) → length traces ≤ job.job.settings.nodes
    → GoesOn (job_steps job) (nodes_from machines 0 traces) (start (nodes_from machines 0 traces)) list
    (full (nodes_from machines 0 traces))
    → GoInOrder job machines [] (order_of (nodes_from machines 0 traces) (start (nodes_from machines 0 traces)) list)
merged_order job machines traces list few go =
    let nodes = nodes_from machines 0 traces in
    goes_in_order job nodes list (start nodes) (full nodes) machines []
    (omega (arith, few, length-nodes machines 0 traces)) (first_prefix job machines traces) go

-- ---- the entries of one node

-- its machine is the replay of its own entries
pub after_own : {Kept Own : Type 0} (job : NodeJob Kept Own) (items : List NodeEntry) (machines : Machines Kept Own)
    (i : ℕ) → after_all job machines items i ≡ replay job i (machines i) (own_entries i items)
after_own job [] machines i = refl
after_own {Kept} {Own} job (item ∷ items) machines i =
    after_own job items (after_entry job machines item) i
    ∙ elim (cases_eq item.node i) [
      | inl same ↦ (let mine : after_entry job machines item i
          ≡ (turn job i (machines i) item.entry.thread item.entry.now item.entry.got).after =
          ap (put machines item.node (turn_of job machines item).after) (sym same)
          ∙ (put_same machines item.node (turn_of job machines item).after
          ∙ ap (λ k. (turn job k (machines k) item.entry.thread item.entry.now item.entry.got).after) same) in
          ap (λ (m : MachineState Kept Own). replay job i m (own_entries i items)) mine
          ∙ ap (λ (b : Bool). replay job i (machines i)
          (cond b (item.entry ∷ own_entries i items) (own_entries i items))) (sym (eq-eqb item.node i same)))
      | inr apart ↦ ap (λ (m : MachineState Kept Own). replay job i m (own_entries i items))
          (put_other machines item.node (turn_of job machines item).after i (λ h. apart (sym h)))
          ∙ ap (λ (b : Bool). replay job i (machines i)
          (cond b (item.entry ∷ own_entries i items) (own_entries i items))) (sym (ne_eqb item.node i apart))
    ]

-- the entries of a node that go from a prefix to another are those of its trace between them
goes_own : {State : Type 0} (steps : Steps State) (nodes : List (Node State)) (list prefix to : List ℕ) (i : ℕ)
    (x : Node State) → length prefix ≡ length nodes → slice_get nodes i ≡ Some x → GoesOn steps nodes prefix list to
    → take (slice_index to i) x.entries
    ≡ take (slice_index prefix i) x.entries ++ own_entries i (order_of nodes prefix list)
goes_own steps nodes [] prefix to i x size is go =
    ap (λ (k : List ℕ). take (slice_index k i) x.entries) (sym go)
    ∙ sym (append-nil (take (slice_index prefix i) x.entries))
goes_own {State} steps nodes (n ∷ list) prefix to i x size is go =
    let a = some_from (slice_get nodes n) _ go.0 in
    let b = some_from (slice_get (a.0).entries (slice_index prefix n)) _ a.2 in
    let entry = b.0 in
    let rest = goes_own steps nodes list (advance prefix n) to i x
    (length-set prefix n (slice_index prefix n + 1) ∙ size) is go.1 in
    let order = order_of nodes (advance prefix n) list in
    let within = slice_get_within nodes n a.0 a.1 in
    subst (λ (first : List NodeEntry). take (slice_index to i) x.entries
    ≡ take (slice_index prefix i) x.entries ++ own_entries i (first ++ order))
    (sym (next_is nodes prefix n a.0 entry a.1 b.1))
    (rest ∙ elim (cases_eq n i) [
      | inl same ↦ (let one : a.0 ≡ x = same_value a.0 x (sym a.1 ∙ (ap (slice_get nodes) same ∙ is)) in
          let at : slice_get x.entries (slice_index prefix i) ≡ Some entry =
          ap₂ (λ (y : Node State) (k : ℕ). slice_get y.entries (slice_index prefix k)) (sym one) (sym same) ∙ b.1 in
          let here : slice_index (advance prefix n) i ≡ slice_index prefix i + 1 =
          ap (slice_index (advance prefix n)) (sym same)
          ∙ (get_or-set_same prefix n (slice_index prefix n + 1) 0 (omega (arith, within, size))
          ∙ ap (λ k. slice_index prefix k + 1) same) in
          ap (λ (k : ℕ). take k x.entries ++ own_entries i order) here
          ∙ (ap (λ (es : List Entry). es ++ own_entries i order) (take_next x.entries (slice_index prefix i) entry at)
          ∙ (append_assoc (take (slice_index prefix i) x.entries) (entry ∷ []) (own_entries i order)
          ∙ ap (λ (c : Bool). take (slice_index prefix i) x.entries
          ++ cond c (entry ∷ own_entries i order) (own_entries i order)) (sym (eq-eqb n i same)))))
      | inr other ↦ (let there : slice_index (advance prefix n) i ≡ slice_index prefix i =
          get_or-set_other prefix n i (slice_index prefix n + 1) 0 (λ h. other (sym h)) in
          ap (λ (k : ℕ). take k x.entries ++ own_entries i order) there
          ∙ ap (λ (c : Bool). take (slice_index prefix i) x.entries
          ++ cond c (entry ∷ own_entries i order) (own_entries i order)) (sym (ne_eqb n i other)))
    ])

-- the n-th node is there
node_there : {Kept Own : Type 0} (machines : Machines Kept Own) (first n : ℕ) (traces : List (List Entry))
    (trace : List Entry) → slice_get traces n ≡ Some trace
    → slice_get (nodes_from machines first traces) n
    ≡ Some (record { state = ranked (first + n) (machines (first + n)); entries = trace })
node_there machines first n [] trace h = absurd (none_some h)
node_there machines first zero (other ∷ traces) trace h =
    let plus : first ≡ first + 0 = omega arith in
    ap₂ (λ (i : ℕ) (v : List Entry). Some (record { state = ranked i (machines i); entries = v })) plus
    (same_value other trace h)
node_there machines first (suc n) (other ∷ traces) trace h =
    let plus : first + 1 + n ≡ first + suc n = omega arith in
    node_there machines (first + 1) n traces trace h
    ∙ ap (λ (i : ℕ). Some (record { state = ranked i (machines i); entries = trace })) plus

-- in the order of a whole merge they are its trace
pub merged_own : {Kept Own : Type 0} (job : NodeJob Kept Own) (machines : Machines Kept Own)
    (traces : List (List Entry)) (list : List ℕ) (i : ℕ) (trace : List Entry) → slice_get traces i ≡ Some trace
    → GoesOn (job_steps job) (nodes_from machines 0 traces) (start (nodes_from machines 0 traces)) list
    (full (nodes_from machines 0 traces))
    → own_entries i (order_of (nodes_from machines 0 traces) (start (nodes_from machines 0 traces)) list) ≡ trace
merged_own {Kept} {Own} job machines traces list i trace h go =
    let nodes = nodes_from machines 0 traces in
    let there = node_there machines 0 i traces trace h in
    let x : Node (RankedMachine Kept Own) = record { state = ranked (0 + i) (machines (0 + i)); entries = trace } in
    let it = goes_own (job_steps job) nodes list (start nodes) (full nodes) i x
    (length-map nodes (λ node. 0)) there go in
    let size : slice_index (full nodes) i ≡ length trace =
    get_or-map (λ (y : Node (RankedMachine Kept Own)). length y.entries) nodes i x 0 (slice_get_within nodes i x there)
    ∙ ap (λ (y : Node (RankedMachine Kept Own)). length y.entries) (get_or_from_slice_get nodes i x x there) in
    sym (sym (take_all (length trace) trace (omega arith))
    ∙ (ap (λ (k : ℕ). take k trace) (sym size)
    ∙ (it ∙ ap (λ (k : ℕ). take k trace ++ own_entries i (order_of nodes (start nodes) list)) (start_at nodes i))))
