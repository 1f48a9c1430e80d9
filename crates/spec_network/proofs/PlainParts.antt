-- What a world is as a plain one after one node was changed.
use Rattle.std.proofs.Common.{◌≡◌, inl, inr, ℕ, zero, suc, false, true, cond, List, [], ◌∷◌, ◌++◌, map, Some, refl, sym}
use Rattle.std.proofs.Common.{ap, ◌∙◌, arith, eqb, eqb-true}
use Rattle.std.specs.List.{slice_get}
use Rattle.std.proofs.Math.Path.{fun_ext}
use Rattle.std.proofs.lemmas.Bool.Decides.{nat_tests}
use Rattle.std.proofs.lemmas.Bool.{cases_Bool}
use Rattle.std.proofs.lemmas.List.{map_push}
use Rattle.wire_message.specs.Content.{Content}
use Rattle.base_lists.specs.Update.{update}
use Rattle.base_lists.specs.Numbered.{element_at, change}
use Rattle.base_lists.specs.Put.{put}
use Rattle.base_lists.proofs.Update.{update-on}
use Rattle.base_lists.proofs.Put.{put_own}
use Rattle.spec_node.specs.Record.{Request, Run, Node}
use Rattle.spec_node.specs.Requests.{as_back, sent_at}
use Rattle.spec_node.specs.Behaviour.{Contact}
use Rattle.spec_node.specs.Step.{with_local, new_request, with_request, with_run}
use Rattle.spec_network.specs.World.{World}
use Rattle.spec_network.specs.Plain.{Plain, plain_of, plain_request, run_reply, is_back, put_pair, with_plain, with_plain_request}
use Rattle.spec_network.specs.Plain.{with_replied, with_credit}
use Rattle.spec_network.proofs.NodeChanges.{put_kept}

-- plain worlds with the same parts are the same
pub same_plain : {Local : Type 0} (p q : Plain Local) → p.requests ≡ q.requests → p.runs ≡ q.runs → p.back ≡ q.back
    → p.local ≡ q.local → p ≡ q
same_plain p q a b c d = λ t. record { requests = a t; runs = b t; back = c t; local = d t }

-- nothing changes where a pair gets what it had
put_pair_self : {X : Type 0} (f : ℕ → ℕ → X) (from to : ℕ) → put_pair f from to (f from to) ≡ f
put_pair_self f from to = ap (put f from) (put_own (f from) to) ∙ put_own f from

-- what is read by pair, where one node is changed at one peer
pair_put : {Local X Y : Type 0} (of : Node Local → ℕ → X) (g : X → Y) (world : World Local) (from to : ℕ)
    (x : Node Local)
    (y : X) → of x ≡ put (of (world from)) to y → (a b : ℕ)
    → g (of (put world from x a) b) ≡ put_pair (λ c d. g (of (world c) d)) from to (g y) a b
pair_put of g world from to x y e a b = elim (cases_Bool (eqb a from)) [
  | inl t ↦ rw t (ap (λ f. g (f b)) e ∙ elim (cases_Bool (eqb b to)) [ inl u ↦ rw u refl | inr u ↦ rw u refl ])
  | inr n ↦ rw n refl
]

-- the same with the pair the other way round
put_pair_turned : {X : Type 0} (f : ℕ → ℕ → X) (from to : ℕ) (y : X) (a b : ℕ)
    → put_pair (λ d c. f c d) to from y b a ≡ put_pair f from to y a b
put_pair_turned f from to y a b = elim (cases_Bool (eqb a from)) [
  | inl t ↦ (elim (cases_Bool (eqb b to))
      [ inl u ↦ rw (t, u) (rw t refl) | inr u ↦ rw (u, t) (rw u (ap (λ c. f c b) (eqb-true a from t))) ])
  | inr n ↦ (elim (cases_Bool (eqb b to))
      [ inl u ↦ rw (n, u) (rw n (ap (f a) (sym (eqb-true b to u)))) | inr u ↦ rw (n, u) refl ])
]

-- what the nodes keep, where one is changed
local_put : {Local : Type 0} (world : World Local) (i : ℕ) (x : Node Local) (a : ℕ)
    → (put world i x a).local ≡ put (λ c. (world c).local) i x.local a
local_put world i x a = elim (cases_Bool (eqb a i)) [ inl t ↦ rw t refl | inr n ↦ rw n refl ]

-- the requests of (i, j) were changed
plain_asked : {Local : Type 0} (world : World Local) (from to : ℕ) (x : Node Local) (ys : List Request)
    → x.asked ≡ put (world from).asked to ys → x.ran ≡ (world from).ran
    → plain_of (put world from x) ≡ record {
      requests = put_pair (plain_of world).requests from to (map plain_request ys);
      runs = (plain_of world).runs;
      back = put_pair
          (plain_of world).back from to (λ k. is_back (element_at ys k));
      local = put (plain_of world).local from x.local;
    }
plain_asked world from to x ys e kept = same_plain _ _
    (fun_ext (λ a. fun_ext (λ b. pair_put (λ n. n.asked) (map plain_request) world from to x ys e a b)))
    (fun_ext (λ a. fun_ext (λ b. ap (λ f. map run_reply (f a)) (put_kept (λ n. n.ran) world from x kept b))))
    (fun_ext (λ a. fun_ext (λ b. pair_put (λ n. n.asked) (λ l k. is_back (element_at l k)) world from to x ys e a b)))
    (fun_ext (λ a. local_put world from x a))

-- the runs of (i, j) were changed
plain_ran : {Local : Type 0} (world : World Local) (from to : ℕ) (x : Node Local) (ts : List Run)
    → x.asked ≡ (world to).asked
    → x.ran ≡ put (world to).ran from ts
    → plain_of (put world to x) ≡ record {
      requests = (plain_of world).requests;
      runs = put_pair (plain_of world).runs from to (map run_reply ts);
      back =
          (plain_of world).back;
      local = put (plain_of world).local to x.local;
    }
plain_ran world from to x ts kept e = same_plain _ _
    (fun_ext (λ a. fun_ext (λ b. ap (λ f. map plain_request (f b)) (put_kept (λ n. n.asked) world to x kept a))))
    (fun_ext (λ a. fun_ext
    (λ b. pair_put (λ n. n.ran) (map run_reply) world to from x ts e b a
    ∙ put_pair_turned (λ c d. map run_reply ((world d).ran c)) from to (map run_reply ts) a b)))
    (fun_ext (λ a. fun_ext
    (λ b. fun_ext (λ k. ap (λ f. is_back (element_at (f b) k)) (put_kept (λ n. n.asked) world to x kept a)))))
    (fun_ext (λ a. local_put world to x a))

-- a node keeps something else
pub plain_local : {Local : Type 0} (world : World Local) (i : ℕ) (x : Node Local) → x.asked ≡ (world i).asked
    → x.ran ≡ (world i).ran → plain_of (put world i x) ≡ record {
      requests = (plain_of world).requests;
      runs = (plain_of world).runs;
      back = (plain_of world).back;
      local = put
          (plain_of world).local i x.local;
    }
plain_local world i x kept kept_ran = same_plain _ _
    (fun_ext (λ a. fun_ext (λ b. ap (λ f. map plain_request (f b)) (put_kept (λ n. n.asked) world i x kept a))))
    (fun_ext (λ a. fun_ext (λ b. ap (λ f. map run_reply (f a)) (put_kept (λ n. n.ran) world i x kept_ran b))))
    (fun_ext (λ a. fun_ext
    (λ b. fun_ext (λ k. ap (λ f. is_back (element_at (f b) k)) (put_kept (λ n. n.asked) world i x kept a)))))
    (fun_ext (λ a. local_put world i x a))

-- a node is as before
pub plain_same : {Local : Type 0} (world : World Local) (i : ℕ) → plain_of (put world i (world i)) ≡ plain_of world
plain_same world i = ap plain_of (put_own world i)

-- one request more brings nothing back, by place
back_push_at : (requests : List Request) (request : Request) (p : ℕ) → request.back ≡ false
    → is_back (slice_get (requests ++ request ∷ []) p) ≡ is_back (slice_get requests p)
back_push_at [] request zero e = e
back_push_at [] request (suc p) e = refl
back_push_at (x ∷ requests) request zero e = refl
back_push_at (x ∷ requests) request (suc p) e = back_push_at requests request p e

-- one request more brings nothing back
back_push : (requests : List Request) (request : Request) (k : ℕ) → request.back ≡ false
    → is_back (element_at (requests ++ request ∷ []) k) ≡ is_back (element_at requests k)
back_push requests request zero e = refl
back_push requests request (suc p) e = back_push_at requests request p e

-- a request is accepted, and its node keeps this
pub plain_accepted : {Local : Type 0} (world : World Local) (i j now slot : ℕ) (c : Content) (l : Local)
    → plain_of (put world i (with_local (with_request (world i) now j slot c) l))
    ≡ with_plain (with_plain_request (plain_of world) i j (record { content = c; slot = slot })) i l
plain_accepted world i j now slot c l =
    let new = new_request now slot c in
    plain_asked world i j _ ((world i).asked j ++ new ∷ []) refl refl ∙ same_plain _ _
    (ap (put_pair (plain_of world).requests i j) (map_push plain_request ((world i).asked j) new))
    refl
    (ap (put_pair (plain_of world).back i j) (fun_ext (λ k. back_push ((world i).asked j) new k refl))
    ∙ put_pair_self (plain_of world).back i j)
    refl

-- a request is run
pub plain_run : {Local : Type 0} (world : World Local) (j : ℕ) (contact : Contact) (c : Content) (out : Local × Content)
    → plain_of (put world j (with_run (world j) contact c out))
    ≡ with_replied (plain_of world) contact.peer j (record { number = contact.number; reply = out.1 }) out.0
plain_run world j contact c out =
    let new : Run = record { number = contact.number; slot = contact.slot; content = c; reply = out.1 } in
    plain_ran world contact.peer j _ ((world j).ran contact.peer ++ new ∷ []) refl refl ∙ same_plain _ _
    refl
    (ap (put_pair (plain_of world).runs contact.peer j) (map_push run_reply ((world j).ran contact.peer) new))
    refl
    refl

-- a change at a place of neither content nor slot is not read
map_change_at : (f : Request → Request) (requests : List Request) (p : ℕ)
    → ((request : Request) → plain_request (f request) ≡ plain_request request)
    → map plain_request (update requests p f) ≡ map plain_request requests
map_change_at f [] p e = refl
map_change_at f (request ∷ requests) zero e = ap (λ y. y ∷ map plain_request requests) (e request)
map_change_at f (request ∷ requests) (suc p) e =
    ap (map plain_request) (update-on request requests p f) ∙ ap (λ l. plain_request request ∷ l) (map_change_at f requests p e)

-- a change of neither content nor slot is not read
map_change : (f : Request → Request) (requests : List Request) (k : ℕ)
    → ((request : Request) → plain_request (f request) ≡ plain_request request)
    → map plain_request (change f requests k) ≡ map plain_request requests
map_change f requests zero e = refl
map_change f requests (suc p) e = map_change_at f requests p e

-- a request sent again comes not back by that, by place
back_sent_at : (now : ℕ) (requests : List Request) (p q : ℕ)
    → is_back (slice_get (update requests p (sent_at now)) q) ≡ is_back (slice_get requests q)
back_sent_at now [] p q = refl
back_sent_at now (x ∷ requests) zero zero = refl
back_sent_at now (x ∷ requests) zero (suc q) = refl
back_sent_at now (x ∷ requests) (suc p) zero = ap (λ l. is_back (slice_get l 0)) (update-on x requests p (sent_at now))
back_sent_at now (x ∷ requests) (suc p) (suc q) =
    ap (λ l. is_back (slice_get l (suc q))) (update-on x requests p (sent_at now)) ∙ back_sent_at now requests p q

-- a request sent again comes not back by that
back_sent : (now : ℕ) (requests : List Request) (k l : ℕ)
    → is_back (element_at (change (sent_at now) requests k) l) ≡ is_back (element_at requests l)
back_sent now requests zero l = refl
back_sent now requests (suc p) zero = refl
back_sent now requests (suc p) (suc q) = back_sent_at now requests p q

-- a request is sent again, and nothing changes
pub plain_sent : {Local : Type 0} (world : World Local) (i j now k : ℕ)
    → plain_of (put world i
    (record (world i) { asked = put (world i).asked j (change (sent_at now) ((world i).asked j) k) })) ≡
    plain_of world
plain_sent world i j now k =
    plain_asked world i j _ (change (sent_at now) ((world i).asked j) k) refl refl ∙ same_plain _ _
    (ap (put_pair (plain_of world).requests i j) (map_change (sent_at now) ((world i).asked j) k (λ x. refl))
    ∙ put_pair_self (plain_of world).requests i j)
    refl
    (ap (put_pair (plain_of world).back i j) (fun_ext (λ l. back_sent now ((world i).asked j) k l))
    ∙ put_pair_self (plain_of world).back i j)
    (put_own (plain_of world).local i)

-- next numbers are equal where the numbers are
eqb_suc : (a b : ℕ) → eqb a b ≡ eqb (suc a) (suc b)
eqb_suc a b = grind (arith, nat_tests)

-- the request at a place comes back, and no other
back_back_at : (requests : List Request) (p q : ℕ) (request : Request) → slice_get requests p ≡ Some request
    → is_back (slice_get (update requests p as_back) q) ≡ cond (eqb q p) true (is_back (slice_get requests q))
back_back_at [] p q request e = absurd (cc)
back_back_at (z ∷ requests) zero zero request e = refl
back_back_at (z ∷ requests) zero (suc q) request e = grind (arith, nat_tests)
back_back_at (z ∷ requests) (suc p) zero request e =
    ap (λ l. is_back (slice_get l 0)) (update-on z requests p as_back) ∙ grind (arith, nat_tests)
back_back_at (z ∷ requests) (suc p) (suc q) request e =
    ap (λ l. is_back (slice_get l (suc q))) (update-on z requests p as_back)
    ∙ (back_back_at requests p q request e ∙ ap (λ b. cond b true (is_back (slice_get requests q))) (eqb_suc q p))

-- the request with this number comes back, and no other
back_back : (requests : List Request) (k l : ℕ) (request : Request) → element_at requests k ≡ Some request
    → is_back (element_at (change as_back requests k) l) ≡ put (λ n. is_back (element_at requests n)) k true l
back_back requests zero l request e = absurd (cc)
back_back requests (suc p) zero request e = grind (arith, nat_tests)
back_back requests (suc p) (suc q) request e =
    back_back_at requests p q request e ∙ ap (λ b. cond b true (is_back (slice_get requests q))) (eqb_suc q p)

-- a credit comes back
pub plain_back : {Local : Type 0} (world : World Local) (from to number : ℕ) (l : Local) (request : Request)
    → element_at ((world from).asked to) number ≡ Some request
    → plain_of (put world from
    (record (world from) {
      asked = put (world from).asked to (change as_back ((world from).asked to) number);
      local =
          l;
    }))
    ≡ with_credit (plain_of world) from to number l
plain_back world from to number l request e =
    plain_asked world from to _ (change as_back ((world from).asked to) number) refl refl ∙ same_plain _ _
    (ap (put_pair (plain_of world).requests from to) (map_change as_back ((world from).asked to) number (λ y. refl))
    ∙ put_pair_self (plain_of world).requests from to)
    refl
    (ap (put_pair (plain_of world).back from to) (fun_ext (λ n. back_back ((world from).asked to) number n request e)))
    refl
