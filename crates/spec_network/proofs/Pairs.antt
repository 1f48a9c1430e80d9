-- What holds of a pair is kept where a request is accepted, is run, comes back, or is sent again.
use Rattle.std.proofs.Common.{◌≡◌, ◌≢◌, inl, inr, ℕ, ◌<◌, ◌≤◌, true, true≢false, List, [], ◌∷◌, ◌++◌, length, Option}
use Rattle.std.proofs.Common.{Some, sym, ap, ◌∙◌, subst, arith}
use Rattle.std.specs.List.{slice_get}
use Rattle.std.proofs.lemmas.Option.{same_Some}
use Rattle.base_lists.specs.Numbered.{element_at, change}
use Rattle.base_lists.proofs.Numbered.{numbered_nil, numbered_push, numbered_kept, numbered-change, numbered-changed}
use Rattle.base_lists.proofs.Places.{slice_get_push}
use Rattle.spec_node.specs.Credits.{Limits}
use Rattle.wire_message.specs.Content.{Content}
use Rattle.spec_node.specs.declared.answer.Why.{Why}
use Rattle.spec_node.specs.Record.{Request, Run}
use Rattle.spec_node.specs.Requests.{outstanding, as_back, sent_at}
use Rattle.spec_node.specs.Executed.{greatest, run_of}
use Rattle.spec_node.specs.Behaviour.{asks_well, replies_well}
use Rattle.spec_node.proofs.Runs.{greatest_bounds, run_of_kept}
use Rattle.spec_node.proofs.Orderly.{asks, orderly_none, orderly_accepts, orderly_back, orderly_sent, back_content}
use Rattle.spec_node.proofs.Orderly.{sent_content}
use Rattle.spec_network.specs.Invariant.{PairInvariant}

-- no request was accepted, and none ran
pub pair_none : (limits : Limits) (refuses : Content → Option Why) → PairInvariant limits refuses [] []
pair_none limits refuses = record {
  orderly = orderly_none limits;
  well = λ k x e. absurd (numbered_nil k x e);
  replies = λ p r e. absurd (cc);
  back_ran = λ k x e b. absurd (numbered_nil k x e);
  named = λ p r e. absurd (cc);
  once = λ p q r t e f h. absurd (cc);
}

-- a request is accepted
pub pair_accepts : (limits : Limits) (refuses : Content → Option Why) (requests : List Request) (runs : List Run)
    (c : Content)
    (now : ℕ) → PairInvariant limits refuses requests runs → asks_well refuses c ≡ true
    → outstanding requests < limits.credits
    → length requests < limits.last → PairInvariant limits refuses (requests ++ asks requests c now ∷ []) runs
pair_accepts limits refuses requests runs c now P good free left = record {
  orderly = orderly_accepts limits requests c now P.orderly free left;
  well = λ k x e. elim (numbered_push requests (asks requests c now) k x e) [
    | inl h ↦ P.well k x h
    | inr h ↦ subst (λ (request : Request). asks_well refuses request.content ≡ true) h.1 good
  ];
  replies = P.replies;
  back_ran = λ k x e b. elim (numbered_push requests (asks requests c now) k x e) [
    | inl h ↦ P.back_ran k x h b
    | inr h ↦ absurd (true≢false (sym b ∙ ap (λ (z : Request). z.back) (sym h.1)))
  ];
  named = λ p r e. let it = P.named p r e in
      (it.0, numbered_kept requests (asks requests c now) r.number it.0 it.1, it.2, it.3);
  once = P.once;
}

-- a request runs
pub pair_runs : (limits : Limits) (refuses : Content → Option Why) (requests : List Request) (runs : List Run) (k : ℕ)
    (request : Request)
    (reply : Content) → PairInvariant limits refuses requests runs → element_at requests k ≡ Some request
    → greatest request.slot runs < k
    → replies_well refuses reply ≡ true
    → PairInvariant limits refuses requests
    (runs ++ record { number = k; slot = request.slot; content = request.content; reply = reply } ∷ [])
pair_runs limits refuses requests runs k request reply P e g good =
    let new : Run = record { number = k; slot = request.slot; content = request.content; reply = reply } in
    let is_new : (p : ℕ) (run : Run) → slice_get runs p ≡ Some run → run.number ≢ k = λ p run f same.
    let it = P.named p run f in
    let i : it.0 ≡ request = same_Some _ _ (sym it.1 ∙ (ap (element_at requests) same ∙ e)) in
    let slot : run.slot ≡ request.slot = sym it.2 ∙ ap (λ (z : Request). z.slot) i in
    omega (arith, subst (λ q. run.number ≤ greatest q runs) slot (greatest_bounds runs p run f)) in
    record {
      orderly = P.orderly;
      well = P.well;
      replies =
          λ p run f. elim (slice_get_push runs new p run f)
          [ inl h ↦ P.replies p run h | inr h ↦ subst (λ (z : Run). replies_well refuses z.reply ≡ true) h.1 good ];
      back_ran = λ l y f b. let it = P.back_ran l y f b in (it.0, run_of_kept l runs new it.0 it.1);
      named = λ p run f. elim (slice_get_push runs new p run f) [
        | inl h ↦ P.named p run h
        | inr h ↦ (
          request,
          ap (λ (z : Run). element_at requests z.number) (sym h.1)
              ∙ e,
          ap (λ (z : Run). z.slot) h.1,
          ap (λ (z : Run). z.content) h.1,
        )
      ];
      once = λ p q run t f h same. elim (slice_get_push runs new p run f) [
        | inl a ↦ elim (slice_get_push runs new q t h) [
          | inl b ↦ P.once p q run t a b same
          | inr b ↦ absurd (is_new p run a (same ∙ ap (λ (z : Run). z.number) (sym b.1)))
        ]
        | inr a ↦ elim (slice_get_push runs new q t h) [
          | inl b ↦ absurd (is_new q t b (sym same ∙ ap (λ (z : Run). z.number) (sym a.1)))
          | inr b ↦ a.0 ∙ sym b.0
        ]
      ];
    }

-- a request that ran comes back
pub pair_back : (limits : Limits) (refuses : Content → Option Why) (requests : List Request) (runs : List Run) (k : ℕ)
    (run : Run)
    → PairInvariant limits refuses requests runs → run_of k runs ≡ Some run
    → PairInvariant limits refuses (change as_back requests k) runs
pair_back limits refuses requests runs k run P ran = record {
  orderly = orderly_back limits requests k P.orderly;
  well =
      λ l x e. let it =
      numbered-change as_back requests k l x e in
      subst (λ q. asks_well refuses q ≡ true) (sym (back_content it.2)) (P.well l it.0 it.1);
  replies = P.replies;
  back_ran = λ l x e b.
      let a = numbered-change as_back requests k l x e in
      elim a.2 [
        | inl v ↦ P.back_ran l a.0 a.1 (ap (λ (request : Request). request.back) (sym v.1) ∙ b)
        | inr v ↦ subst (λ q. (t : Run) × (run_of q runs ≡ Some t)) (sym v.0) (run, ran)
      ];
  named = λ p t e.
      let it = P.named p t e in
      let c = numbered-changed as_back requests k t.number it.0 it.1 in (
        c.0,
        c.1,
        elim c.2 [
          | inl v ↦ ap (λ (request : Request). request.slot) v ∙ it.2
          | inr v ↦ ap (λ (request : Request). request.slot) v
              ∙ it.2
        ],
        elim c.2 [
          | inl v ↦ ap (λ (request : Request). request.content) v
              ∙ it.3
          | inr v ↦ ap (λ (request : Request). request.content) v ∙ it.3
        ],
      );
  once = P.once;
}

-- a request is sent again
pub pair_sent : (limits : Limits) (refuses : Content → Option Why) (now : ℕ) (requests : List Request) (runs : List Run)
    (k : ℕ)
    → PairInvariant limits refuses requests runs → PairInvariant limits refuses (change (sent_at now) requests k) runs
pair_sent limits refuses now requests runs k P = record {
  orderly = orderly_sent limits now requests k P.orderly;
  well =
      λ l x e. let it =
      numbered-change (sent_at now) requests k l x e in
      subst (λ q. asks_well refuses q ≡ true) (sym (sent_content it.2)) (P.well l it.0 it.1);
  replies = P.replies;
  back_ran = λ l x e b.
      let a = numbered-change (sent_at now) requests k l x e in
      elim a.2 [
        | inl v ↦ P.back_ran l a.0 a.1 (ap (λ (request : Request). request.back) (sym v.1) ∙ b)
        | inr v ↦ P.back_ran l a.0 a.1 (ap (λ (request : Request). request.back) (sym v.1) ∙ b)
      ];
  named = λ p t e.
      let it = P.named p t e in
      let c = numbered-changed (sent_at now) requests k t.number it.0 it.1 in (
        c.0,
        c.1,
        elim c.2 [
          | inl v ↦ ap (λ (request : Request). request.slot) v ∙ it.2
          | inr v ↦ ap (λ (request : Request). request.slot) v
              ∙ it.2
        ],
        elim c.2 [
          | inl v ↦ ap (λ (request : Request). request.content) v
              ∙ it.3
          | inr v ↦ ap (λ (request : Request). request.content) v ∙ it.3
        ],
      );
  once = P.once;
}
