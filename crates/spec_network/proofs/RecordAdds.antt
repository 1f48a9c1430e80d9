-- What the record of a node has more after a change, among the messages that it sends.
use Rattle.std.proofs.Common.{◌≡◌, ◌≢◌, ◌⊎◌, inl, inr, ℕ, suc, List, []}
use Rattle.std.proofs.Common.{◌∷◌, ◌++◌, length, None, Some, refl, sym, ap, ◌∙◌, subst, arith}
use Rattle.std.specs.List.{Contains}
use Rattle.std.proofs.lemmas.Bool.Decides.{nat_tests}
use Rattle.std.proofs.lemmas.Bool.{cases_eq}
use Rattle.wire_message.specs.Content.{Content}
use Rattle.base_lists.specs.Numbered.{element_at, change}
use Rattle.base_lists.specs.Put.{put}
use Rattle.base_lists.proofs.Members.{contains_none, contains_if, contains_one}
use Rattle.base_lists.proofs.Numbered.{numbered_push, numbered_kept, numbered-change, numbered-changed}
use Rattle.base_lists.proofs.Places.{slice_get_last}
use Rattle.base_lists.proofs.Put.{put_same, put_other}
use Rattle.spec_node.specs.Record.{Request, Run, Node}
use Rattle.spec_node.specs.Executed.{run_of}
use Rattle.spec_node.specs.Behaviour.{Contact}
use Rattle.spec_node.specs.Step.{new_request, with_request}
use Rattle.spec_node.proofs.Runs.{run_of_kept}
use Rattle.spec_network.specs.Sent.{Place, Packet, Asking, Replying, sender, Has}

-- the node's record has what it had, and what is sent
pub record Adds {Local : Type 0} (me : ℕ) (r x : Node Local) (ps : List Packet) : Type 0 where
  pub old : (p : Packet) → sender p ≡ me → Has p r → Has p x
  pub new : (p : Packet) → Contains ps p → (sender p ≡ me) × Has p x
  pub only : (p : Packet) → sender p ≡ me → Has p x → Has p r ⊎ Contains ps p

-- neither requests nor runs were changed
pub adds_same : {Local : Type 0} (me : ℕ) (r x : Node Local) → x.asked ≡ r.asked → x.ran ≡ r.ran → Adds me r x []
adds_same me r x e f = record {
  old = λ p o h. go p h;
  new = λ p h. absurd (contains_none p h);
  only = λ p o h. inl (back p h);
}
  where
    go : (p : Packet) → Has p r → Has p x
    go (Asking at c) h = (h.0, ap (λ g. element_at (g at.to) at.number) e ∙ h.1, h.2, h.3)
    go (Replying at c) h = (h.0, ap (λ g. run_of at.number (g at.from)) f ∙ h.1, h.2, h.3)

    back : (p : Packet) → Has p x → Has p r
    back (Asking at c) h = (h.0, ap (λ g. element_at (g at.to) at.number) (sym e) ∙ h.1, h.2, h.3)
    back (Replying at c) h = (h.0, ap (λ g. run_of at.number (g at.from)) (sym f) ∙ h.1, h.2, h.3)

-- a place with the same parts is the same
abbrev pub place_at : (from to number slot : ℕ) → Place
place_at from to number slot = record { from = from; to = to; number = number; slot = slot }

same_place : (at : Place) (from to number slot : ℕ) → at.from ≡ from → at.to ≡ to → at.number ≡ number → at.slot ≡ slot
    → at ≡ place_at from to number slot
same_place at from to number slot p q r v =
    λ t. record { from = p t; to = q t; number = r t; slot = v t }

-- requests with the same parts are the same
same_asking : {at other : Place} {c d : Content} → at ≡ other → c ≡ d → Asking at c ≡ Asking other d
same_asking p q = cc

-- replies with the same parts are the same
same_replying : {at other : Place} {c d : Content} → at ≡ other → c ≡ d → Replying at c ≡ Replying other d
same_replying p q = cc

-- a request is accepted with the next number
pub adds_asked : {Local : Type 0} (me now to slot : ℕ) (m : Content) (r x : Node Local)
    → x.asked ≡ (with_request r now to slot m).asked → x.ran ≡ r.ran
    → Adds me r x (Asking (place_at me to (suc (length (r.asked to))) slot) m ∷ [])
adds_asked me now to slot m r x e f = record {
  old = λ p o h. go p h;
  new = λ p h. subst (λ q. (sender q ≡ me) × Has q x) (sym (contains_one p _ h)) (refl, fresh);
  only = only;
}
  where
    at : (j : ℕ) → j ≡ to → x.asked j ≡ r.asked to ++ new_request now slot m ∷ []
    at j is = ap (λ g. g j) e
        ∙ (ap (put r.asked to (r.asked to ++ new_request now slot m ∷ [])) is ∙ put_same r.asked to _)

    other : (j : ℕ) → j ≢ to → x.asked j ≡ r.asked j
    other j n = ap (λ g. g j) e ∙ put_other r.asked to _ j n

    fresh : (request : Request) × (element_at (x.asked to) (suc (length (r.asked to))) ≡ Some request)
        × (request.slot ≡ slot) ×
        (request.content ≡ m)
    fresh = (
      new_request now slot m,
      ap (λ l. element_at l (suc (length (r.asked to)))) (at to refl)
          ∙ slice_get_last (r.asked to) (new_request now slot m),
      refl,
      refl,
    )

    go : (p : Packet) → Has p r → Has p x
    go (Asking where_ c) h = elim (cases_eq where_.to to) [
      | inl is ↦ (
        h.0,
        ap (λ l. element_at l where_.number) (at where_.to is)
            ∙ numbered_kept (r.asked to) (new_request now slot m) where_.number h.0
            (ap (λ b. element_at (r.asked b) where_.number) (sym is) ∙ h.1),
        h.2,
        h.3,
      )
      | inr n ↦ (h.0, ap (λ l. element_at l where_.number) (other where_.to n) ∙ h.1, h.2, h.3)
    ]
    go (Replying where_ c) h = (h.0, ap (λ g. run_of where_.number (g where_.from)) f ∙ h.1, h.2, h.3)

    only : (p : Packet) → sender p ≡ me → Has p x
        → Has p r ⊎ Contains (Asking (place_at me to (suc (length (r.asked to))) slot) m ∷ []) p
    only (Asking where_ c) o h = elim (cases_eq where_.to to) [
      | inl is ↦ elim (numbered_push (r.asked to) (new_request now slot m) where_.number h.0
          (ap (λ l. element_at l where_.number) (sym (at where_.to is)) ∙ h.1)) [
            | inl was ↦ inl (h.0, ap (λ b. element_at (r.asked b) where_.number) is ∙ was, h.2, h.3)
            | inr last ↦ inr (contains_if (same_asking
                (same_place where_ me to (suc (length (r.asked to))) slot o is last.0
                (sym h.2 ∙ ap (λ (request : Request). request.slot) (sym last.1)))
                (sym h.3 ∙ ap (λ (request : Request). request.content) (sym last.1))))
          ]
      | inr n ↦ inl (h.0, ap (λ l. element_at l where_.number) (sym (other where_.to n)) ∙ h.1, h.2, h.3)
    ]
    only (Replying where_ c) o h = inl (h.0, ap (λ g. run_of where_.number (g where_.from)) (sym f) ∙ h.1, h.2, h.3)

-- a request changes in its time, or comes back
pub adds_changed : {Local : Type 0} (me to k : ℕ) (f : Request → Request) (r x : Node Local)
    → x.asked ≡ put r.asked to (change f (r.asked to) k) → x.ran ≡ r.ran
    → ((request : Request) → ((f request).slot ≡ request.slot) × ((f request).content ≡ request.content))
    → Adds me r x []
adds_changed me to k f r x e ran same =
    record { old = λ p o h. go p h; new = λ p h. absurd (contains_none p h); only = λ p o h. inl (back p h) }
  where
    at : (j : ℕ) → j ≡ to → x.asked j ≡ change f (r.asked to) k
    at j is = ap (λ g. g j) e ∙ (ap (put r.asked to (change f (r.asked to) k)) is ∙ put_same r.asked to _)

    other : (j : ℕ) → j ≢ to → x.asked j ≡ r.asked j
    other j n = ap (λ g. g j) e ∙ put_other r.asked to _ j n

    go : (p : Packet) → Has p r → Has p x
    go (Asking where_ m) h = elim (cases_eq where_.to to) [
      | inl is ↦ (let l = where_.number in
          let it = numbered-changed f (r.asked to) k l h.0 (ap (λ b. element_at (r.asked b) l) (sym is) ∙ h.1) in (
            it.0,
            ap (λ q. element_at q l) (at where_.to is) ∙ it.1,
            elim it.2 [
              | inl u ↦ ap (λ (request : Request). request.slot) u ∙ h.2
              | inr u ↦ ap (λ (request : Request). request.slot) u ∙ ((same h.0).0 ∙ h.2)
            ],
            elim it.2 [
              | inl u ↦ ap (λ (request : Request). request.content) u ∙ h.3
              | inr u ↦ ap (λ (request : Request). request.content) u ∙ ((same h.0).1 ∙ h.3)
            ],
          ))
      | inr n ↦ (h.0, ap (λ q. element_at q where_.number) (other where_.to n) ∙ h.1, h.2, h.3)
    ]
    go (Replying where_ m) h = (h.0, ap (λ g. run_of where_.number (g where_.from)) ran ∙ h.1, h.2, h.3)

    back : (p : Packet) → Has p x → Has p r
    back (Asking where_ m) h = elim (cases_eq where_.to to) [
      | inl is ↦ (let l = where_.number in
          let it = numbered-change f (r.asked to) k l h.0 (ap (λ q. element_at q l) (sym (at where_.to is)) ∙ h.1) in (
            it.0,
            ap (λ b. element_at (r.asked b) l) is ∙ it.1,
            elim it.2 [
              | inl u ↦ sym (ap (λ (request : Request). request.slot) u.1) ∙ h.2
              | inr u ↦ sym (ap (λ (request : Request). request.slot) u.1 ∙ (same it.0).0) ∙ h.2
            ],
            elim it.2 [
              | inl u ↦ sym (ap (λ (request : Request). request.content) u.1) ∙ h.3
              | inr u ↦ sym (ap (λ (request : Request). request.content) u.1 ∙ (same it.0).1) ∙ h.3
            ],
          ))
      | inr n ↦ (h.0, ap (λ q. element_at q where_.number) (sym (other where_.to n)) ∙ h.1, h.2, h.3)
    ]
    back (Replying where_ m) h = (h.0, ap (λ g. run_of where_.number (g where_.from)) (sym ran) ∙ h.1, h.2, h.3)

-- a run that is found with one run more was found, or it is that one
run_of_push : (l : ℕ) (runs : List Run) (run a : Run) → run_of l (runs ++ run ∷ []) ≡ Some a
    → (run_of l runs ≡ Some a) ⊎ ((l ≡ run.number) × (run ≡ a))
run_of_push l [] run a e = elim (cases_eq run.number l) [
  | inl is ↦ inr (sym is, grind (arith, nat_tests))
  | inr n ↦ absurd (grind (arith, nat_tests))
]
run_of_push l (u ∷ runs) run a e = elim (cases_eq u.number l) [
  | inl is ↦ inl (grind (arith, nat_tests))
  | inr n ↦ elim (run_of_push l runs run a (grind (arith, nat_tests)))
      [ inl h ↦ inl (grind (arith, nat_tests)) | inr h ↦ inr h ]
]

-- a run with a new number is found
pub run_of_new : (runs : List Run) (run : Run) → run_of run.number runs ≡ None
    → run_of run.number (runs ++ run ∷ []) ≡ Some run
run_of_new [] run e = grind (arith, nat_tests)
run_of_new (u ∷ runs) run e = elim (cases_eq u.number run.number) [
  | inl is ↦ absurd (grind (arith, nat_tests))
  | inr n ↦ (let ih = run_of_new runs run (grind (arith, nat_tests)) in grind (arith, nat_tests))
]

-- the run that a contact makes
abbrev new_run : Contact → Content → Content → Run
new_run contact m reply = record { number = contact.number; slot = contact.slot; content = m; reply = reply }

-- a request is run
pub adds_run : {Local : Type 0} (me : ℕ) (contact : Contact) (m reply : Content) (r x : Node Local) → x.asked ≡ r.asked
    → x.ran ≡ put r.ran contact.peer (r.ran contact.peer ++ new_run contact m reply ∷ [])
    → run_of contact.number (r.ran contact.peer) ≡ None
    → Adds me r x (Replying (place_at contact.peer me contact.number contact.slot) reply ∷ [])
adds_run me contact m reply r x asks e none = record {
  old = λ p o h. go p h;
  new = λ p h. subst (λ q. (sender q ≡ me) × Has q x) (sym (contains_one p _ h)) (refl, fresh);
  only = only;
}
  where
    at : (j : ℕ) → j ≡ contact.peer → x.ran j ≡ r.ran contact.peer ++ new_run contact m reply ∷ []
    at j is = ap (λ g. g j) e
        ∙ (ap (put r.ran contact.peer (r.ran contact.peer ++ new_run contact m reply ∷ [])) is
        ∙ put_same r.ran contact.peer _)

    other : (j : ℕ) → j ≢ contact.peer → x.ran j ≡ r.ran j
    other j n = ap (λ g. g j) e ∙ put_other r.ran contact.peer _ j n

    fresh : (y : Run) × (run_of contact.number (x.ran contact.peer) ≡ Some y) × (y.slot ≡ contact.slot) ×
        (y.reply ≡ reply)
    fresh = (
      new_run contact m reply,
      ap (run_of contact.number) (at contact.peer refl)
          ∙ run_of_new (r.ran contact.peer) (new_run contact m reply) none,
      refl,
      refl,
    )

    go : (p : Packet) → Has p r → Has p x
    go (Asking where_ c) h = (h.0, ap (λ g. element_at (g where_.to) where_.number) asks ∙ h.1, h.2, h.3)
    go (Replying where_ c) h = elim (cases_eq where_.from contact.peer) [
      | inl is ↦ (
        h.0,
        ap (run_of where_.number) (at where_.from is)
            ∙ run_of_kept where_.number (r.ran contact.peer) (new_run contact m reply) h.0
            (ap (λ b. run_of where_.number (r.ran b)) (sym is) ∙ h.1),
        h.2,
        h.3,
      )
      | inr n ↦ (h.0, ap (run_of where_.number) (other where_.from n) ∙ h.1, h.2, h.3)
    ]

    only : (p : Packet) → sender p ≡ me → Has p x
        → Has p r ⊎ Contains (Replying (place_at contact.peer me contact.number contact.slot) reply ∷ []) p
    only (Asking where_ c) o h = inl (h.0, ap (λ g. element_at (g where_.to) where_.number) (sym asks) ∙ h.1, h.2, h.3)
    only (Replying where_ c) o h = elim (cases_eq where_.from contact.peer) [
      | inl is ↦ elim (run_of_push where_.number (r.ran contact.peer) (new_run contact m reply) h.0
          (ap (run_of where_.number) (sym (at where_.from is)) ∙ h.1)) [
            | inl was ↦ inl (h.0, ap (λ b. run_of where_.number (r.ran b)) is ∙ was, h.2, h.3)
            | inr last ↦ inr (contains_if (same_replying
                (same_place where_ contact.peer me contact.number contact.slot is o last.0
                (sym h.2 ∙ ap (λ (y : Run). y.slot) (sym last.1)))
                (sym h.3 ∙ ap (λ (y : Run). y.reply) (sym last.1))))
          ]
      | inr n ↦ inl (h.0, ap (run_of where_.number) (sym (other where_.from n)) ∙ h.1, h.2, h.3)
    ]

-- what is sent again stood in the record
pub adds_again : {Local : Type 0} (me : ℕ) (r x : Node Local) (ps : List Packet) → Adds me r x []
    → ((p : Packet) → Contains ps p → (sender p ≡ me) × Has p r) → Adds me r x ps
adds_again me r x ps A had = record {
  old = A.old;
  new = λ p h. let it = had p h in (it.0, A.old p it.0 it.1);
  only = λ p o h. elim (A.only p o h) [ inl was ↦ inl was | inr none ↦ absurd (contains_none p none) ];
}
