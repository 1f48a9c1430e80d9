-- Prefixes of machines are those of the machines that they become.
use Rattle.std.proofs.Common.{◌≡◌, ℕ, zero, suc, List, [], ◌∷◌, ◌++◌, map, length, take, Option, None, Some, refl, sym}
use Rattle.std.proofs.Common.{ap, ap₂}
use Rattle.std.proofs.Common.{◌∙◌, subst, slice_get, slice_index, IsSomeAnd}
use Rattle.std.specs.List.{Contains}
use Rattle.std.specs.Option.{option_map, option_to_list}
use Rattle.base_turns.specs.declared.entry.Entry.{Entry}
use Rattle.base_turns.specs.declared.turns.Turned.{Turned}
use Rattle.base_turns.specs.Replay.{Steps, replay_state, sent_in, given_by}
use Rattle.base_turns.specs.Prefixes.{Node, replay, sent_of, start, full, advance, WasSent, CanGet, CanGo, GoesOn}
use Rattle.law_traces.specs.Order.{NodeEntry}
use Rattle.law_traces.specs.Merged.{next_entry_of, order_of, Carries, with_machine_of}
use Rattle.std.proofs.lemmas.Option.{slice_get-map}

replayed_is : {M N : Type 0} (f : M → N) (g : Steps M) (h : Steps N) → Carries f g h → (m : M) (es : List Entry)
    → replay_state h (f m) es ≡ f (replay_state g m es)
replayed_is f g h C m [] = refl
replayed_is f g h C m (e ∷ es) =
    ap (λ n. replay_state h n es) (C.after m e.thread e.now e.got)
    ∙ replayed_is f g h C (g.after m e.thread e.now e.got) es

given_is : {M N : Type 0} (f : M → N) (g : Steps M) (h : Steps N) → Carries f g h → (m : M) (e : Entry)
    → given_by h (f m) e ≡ given_by g m e
given_is f g h C m e =
    ap₂ (λ (turned : Turned) (ds : List (ℕ × List ℕ)). take turned.sends ds) (C.turned m e.thread e.now e.got)
    (ap h.sent (C.after m e.thread e.now e.got) ∙ C.sent (g.after m e.thread e.now e.got))

sent_is : {M N : Type 0} (f : M → N) (g : Steps M) (h : Steps N) → Carries f g h → (m : M) (es : List Entry)
    → sent_in h (f m) es ≡ sent_in g m es
sent_is f g h C m [] = refl
sent_is f g h C m (e ∷ es) =
    ap₂ (λ (a b : List (ℕ × List ℕ)). a ++ b) (given_is f g h C m e)
    (ap (λ n. sent_in h n es) (C.after m e.thread e.now e.got)
    ∙ sent_is f g h C (g.after m e.thread e.now e.got) es)

-- of a node that may be there
back_some : {A B : Type 0} (f : A → B) (P : B → Type 0) (Q : A → Type 0) (o : Option A) → ((x : A) → P (f x) → Q x)
    → IsSomeAnd (option_map f o) P → IsSomeAnd o Q
back_some f P Q None go h = h
back_some f P Q (Some x) go h = go x h

same_some : {A : Type 0} (P Q : A → Type 0) (o : Option A) → ((x : A) → P x → Q x) → IsSomeAnd o P → IsSomeAnd o Q
same_some P Q None go h = h
same_some P Q (Some x) go h = go x h

can_go_back : {M N : Type 0} (f : M → N) (g : Steps M) (h : Steps N) → Carries f g h → (nodes : List (Node M))
    (prefix : List ℕ) (n : ℕ) → CanGo h (map (with_machine_of f) nodes) prefix n → CanGo g nodes prefix n
can_go_back {M} {N} f g h C nodes prefix n can =
    back_some (with_machine_of f) _ (λ x. IsSomeAnd (slice_get x.entries (slice_index prefix n)) (λ e. CanGet g nodes prefix n
    (replay g x (slice_index prefix n)) e.thread e.got)) (slice_get nodes n)
    (λ x it. same_some _ (λ e. CanGet g nodes prefix n (replay g x (slice_index prefix n)) e.thread e.got)
    (slice_get x.entries (slice_index prefix n)) (λ e may. get_back x e.thread e.got may) it)
    (subst (λ o. IsSomeAnd o (λ x. IsSomeAnd (slice_get x.entries (slice_index prefix n)) (λ e. CanGet h
    (map (with_machine_of f) nodes) prefix n (replay h x (slice_index prefix n)) e.thread e.got)))
    (slice_get-map (with_machine_of f) nodes n) can)
  where
    was_back : (bytes : List ℕ) → WasSent h (map (with_machine_of f) nodes) prefix n bytes → WasSent g nodes prefix n bytes
    was_back bytes w = (
      w.0,
      back_some (with_machine_of f) _ (λ x. Contains (sent_of g x (slice_index prefix w.0)) (n, bytes)) (slice_get nodes w.0)
          (λ x c. subst (λ ds. Contains ds (n, bytes))
          (sent_is f g h C x.state (take (slice_index prefix w.0) x.entries)) c)
          (subst (λ o. IsSomeAnd o (λ x. Contains (sent_of h x (slice_index prefix w.0)) (n, bytes)))
          (slice_get-map (with_machine_of f) nodes w.0) w.1),
    )

    get_back : (x : Node M) (thread : ℕ) (got : Option (List ℕ))
        → CanGet h (map (with_machine_of f) nodes) prefix n (replay h (with_machine_of f x) (slice_index prefix n)) thread got
        → CanGet g nodes prefix n (replay g x (slice_index prefix n)) thread got
    get_back x thread None may = tt
    get_back x thread (Some bytes) may = (
      sym (C.polls (replay g x (slice_index prefix n)) thread)
          ∙ (sym (ap (λ m. h.polls m thread)
          (replayed_is f g h C x.state (take (slice_index prefix n) x.entries))) ∙ may.0),
      was_back bytes may.1,
    )

pub goes_back : {M N : Type 0} (f : M → N) (g : Steps M) (h : Steps N) → Carries f g h → (nodes : List (Node M))
    (list prefix to : List ℕ) → GoesOn h (map (with_machine_of f) nodes) prefix list to → GoesOn g nodes prefix list to
goes_back f g h C nodes [] prefix to go = go
goes_back f g h C nodes (n ∷ list) prefix to go =
    (can_go_back f g h C nodes prefix n go.0, goes_back f g h C nodes list (advance prefix n) to go.1)

-- ---- prefixes and orders don't read the states

pub start_same : {M N : Type 0} (f : M → N) (nodes : List (Node M)) → start (map (with_machine_of f) nodes) ≡ start nodes
start_same f [] = refl
start_same f (node ∷ nodes) = ap (λ (prefix : List ℕ). 0 ∷ prefix) (start_same f nodes)

pub full_same : {M N : Type 0} (f : M → N) (nodes : List (Node M)) → full (map (with_machine_of f) nodes) ≡ full nodes
full_same f [] = refl
full_same f (node ∷ nodes) = ap (λ (prefix : List ℕ). length node.entries ∷ prefix) (full_same f nodes)

next_same : {M N : Type 0} (f : M → N) (count : ℕ) (o : Option (Node M))
    → next_entry_of count (option_map (with_machine_of f) o) ≡ next_entry_of count o
next_same f count None = refl
next_same f count (Some node) = refl

pub order_same : {M N : Type 0} (f : M → N) (nodes : List (Node M)) (prefix list : List ℕ)
    → order_of (map (with_machine_of f) nodes) prefix list ≡ order_of nodes prefix list
order_same f nodes prefix [] = refl
order_same f nodes prefix (n ∷ list) =
    ap₂ (λ (next : Option Entry) (later : List NodeEntry).
    option_to_list (option_map (λ (entry : Entry). record { node = n; entry = entry }) next) ++ later)
    (ap (next_entry_of (slice_index prefix n)) (slice_get-map (with_machine_of f) nodes n)
    ∙ next_same f (slice_index prefix n) (slice_get nodes n))
    (order_same f nodes (advance prefix n) list)
