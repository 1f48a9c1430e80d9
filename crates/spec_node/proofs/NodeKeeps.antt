-- What holds of the whole record of a node is kept by each change of it.
use Rattle.std.proofs.Common.{◌≡◌, ◌≢◌, inl, inr, ℕ, List, [], ◌∷◌, ◌++◌, Some, refl, sym, ap, ◌∙◌, subst}
use Rattle.std.specs.List.{slice_get}
use Rattle.std.proofs.lemmas.Bool.{cases_eq}
use Rattle.wire_message.specs.Parameters.{Parameters}
use Rattle.wire_message.specs.Message.{IsMessage}
use Rattle.base_lists.specs.Numbered.{element_at}
use Rattle.base_lists.specs.Put.{put}
use Rattle.base_lists.proofs.Numbered.{numbered_nil}
use Rattle.base_lists.proofs.Places.{slice_get_push}
use Rattle.base_lists.proofs.Put.{put_same, put_other}
use Rattle.spec_node.specs.Record.{Request, Run, Node, opening_node}
use Rattle.spec_node.specs.Credits.{limits_of}
use Rattle.spec_node.specs.Step.{with_local}
use Rattle.spec_node.specs.Invariant.{IsOrderly, NodeInvariant, request_message, reply_message}
use Rattle.spec_node.proofs.Orderly.{orderly_none}

-- what was asked of one peer is changed
pub asked_keeps : {Local : Type 0} (settings : Parameters) (IsKept : (me : ℕ) → Local → Type 0) (me to : ℕ)
    (r q : Node Local) (requests : List Request) → NodeInvariant settings IsKept me r
    → q.asked ≡ put r.asked to requests → q.ran ≡ r.ran → IsKept me q.local → (me ≡ to → requests ≡ [])
    → IsOrderly (limits_of settings me to) requests
    → ((k : ℕ) (request : Request) → element_at requests k ≡ Some request
    → IsMessage (request_message settings me to k request))
    → NodeInvariant settings IsKept me q
asked_keeps settings IsKept me to r q requests I asked ran kept own O spelled =
    let here : q.asked to ≡ requests = ap (λ f. f to) asked ∙ put_same r.asked to requests in
    let there : (peer : ℕ) → peer ≢ to → q.asked peer ≡ r.asked peer =
    λ peer n. ap (λ f. f peer) asked ∙ put_other r.asked to requests peer n in
    record {
      orderly = λ peer. elim (cases_eq peer to) [
        | inl e ↦ subst (λ p. IsOrderly (limits_of settings me p) (q.asked p)) (sym e)
            (subst (IsOrderly (limits_of settings me to)) (sym here) O)
        | inr n ↦ subst (IsOrderly (limits_of settings me peer)) (sym (there peer n)) (I.orderly peer)
      ];
      own = elim (cases_eq me to) [ inl e ↦ ap q.asked e ∙ (here ∙ own e) | inr n ↦ there me n ∙ I.own ];
      asked = λ peer k request f. elim (cases_eq peer to) [
        | inl e ↦ subst (λ p. IsMessage (request_message settings me p k request)) (sym e)
            (spelled k request (ap (λ ys. element_at ys k) (sym (ap q.asked e ∙ here)) ∙ f))
        | inr n ↦ I.asked peer k request (ap (λ ys. element_at ys k) (sym (there peer n)) ∙ f)
      ];
      replied = λ peer place t f.
          I.replied peer place t (ap (λ (g : ℕ → List Run). slice_get (g peer) place) (sym ran) ∙ f);
      kept = kept;
    }

-- a request of a peer runs
pub ran_keeps : {Local : Type 0} (settings : Parameters) (IsKept : (me : ℕ) → Local → Type 0) (me from : ℕ)
    (r q : Node Local) (run : Run) → NodeInvariant settings IsKept me r
    → q.asked ≡ r.asked → q.ran ≡ put r.ran from (r.ran from ++ run ∷ []) → IsKept me q.local
    → IsMessage (reply_message settings from me run) → NodeInvariant settings IsKept me q
ran_keeps settings IsKept me from r q run I asked ran kept spelled = record {
  orderly = λ peer. subst (IsOrderly (limits_of settings me peer)) (ap (λ f. f peer) (sym asked)) (I.orderly peer);
  own = ap (λ f. f me) asked ∙ I.own;
  asked = λ peer k x f.
      I.asked peer k x (ap (λ (g : ℕ → List Request). element_at (g peer) k) (sym asked) ∙ f);
  replied = λ peer place u f. elim (cases_eq peer from) [
    | inl e ↦ (let here : q.ran peer ≡ r.ran from ++ run ∷ [] =
        ap q.ran e ∙ (ap (λ g. g from) ran ∙ put_same r.ran from (r.ran from ++ run ∷ [])) in
        subst (λ p. IsMessage (reply_message settings p me u)) (sym e)
        (elim (slice_get_push (r.ran from) run place u (ap (λ l. slice_get l place) (sym here) ∙ f)) [
          | inl was ↦ I.replied from place u was
          | inr new ↦ subst (λ (v : Run). IsMessage (reply_message settings from me v)) new.1 spelled
        ]))
    | inr n ↦ I.replied peer place u
        (ap (λ l. slice_get l place) (sym (ap (λ g. g peer) ran ∙ put_other r.ran from (r.ran from ++ run ∷ []) peer n))
        ∙ f)
  ];
  kept = kept;
}

-- only what the node keeps beside its requests and runs is changed
pub same_keeps : {Local : Type 0} (settings : Parameters) (IsKept : (me : ℕ) → Local → Type 0) (me : ℕ)
    (r : Node Local) (local : Local) → NodeInvariant settings IsKept me r → IsKept me local
    → NodeInvariant settings IsKept me (with_local r local)
same_keeps settings IsKept me r local I kept =
    record { orderly = I.orderly; own = I.own; asked = I.asked; replied = I.replied; kept = kept }

-- nothing is asked and nothing ran
pub opening_keeps : {Local : Type 0} (settings : Parameters) (IsKept : (me : ℕ) → Local → Type 0) (me : ℕ)
    (start : Local) → IsKept me start → NodeInvariant settings IsKept me (opening_node start)
opening_keeps settings IsKept me start kept = record {
  orderly = λ peer. orderly_none (limits_of settings me peer);
  own = refl;
  asked = λ peer k x e. absurd (numbered_nil k x e);
  replied = λ peer place t e. absurd (cc);
  kept = kept;
}
