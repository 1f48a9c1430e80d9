use Rattle.std.proofs.Common.{◌≡◌, ◌∙◌, ℕ, ℤ, List, Some, Option, None, length, ap, sym, subst, false, refl}
use Rattle.std.specs.Prelude.{is_some}
use Rattle.part_handlers.specs.Tokens.{At, token_arrival, stage}
use Rattle.part_handlers.specs.Runs.{Outcome}
use Rattle.node_atomics.specs.declared.word.WordOp.{WordOp}
use Rattle.node_atomics.specs.BatchRequests.{BatchRequest, number_of_halves, ops_said, place_fault}
use Rattle.node_atomics.proofs.Served.{Says, after_request_is, request_said_so}
use Rattle.node_atomics.proofs.serving.serve_request.Goals as goal

none_there : {X : Type 0} (found : Option X) → is_some found ≡ false → found ≡ None
none_there None absent = refl
none_there (Some x) absent = cc

pub returns-clause-at : goal.returns-clause-at
returns-clause-at c cells opening outcome at =
    let ops = c.deref-2.result.now in
    let request : BatchRequest = record { local = c.number_at-local.result; tag = c.number_at-tag.result; ops = ops } in
    let token = c.args.token.now in
    let segment = c.args.segment.now in
    let same : c.deref.result.now ≡ ops = c.deref.ensures.0 ∙ sym c.deref-2.ensures.0 in
    let says : Says (length segment) (token_arrival token).args (token_arrival token).payload request = record {
      four = ap length (sym c.args-2.ensures) ∙ c.if-args-ne4.false;
      local = c.number_at-local.ensures ∙ ap (λ (args : List ℤ). number_of_halves args 0) c.args-3.ensures;
      tag = c.number_at-tag.ensures ∙ ap (λ (args : List ℤ). number_of_halves args 2) c.args-4.ensures;
      ops = ap ops_said (sym c.payload.ensures)
          ∙ (c.in-Some.ensures.some ∙ ap (λ (list : List WordOp). Some list) (sym c.deref-2.ensures.0));
      placed = ap (λ (list : List WordOp). place_fault (length segment) request.local list) (sym same)
          ∙ (ap (λ (len : ℕ). place_fault len request.local c.deref.result.now) (sym c.len.ensures)
          ∙ (sym c.fault_of_places.ensures
          ∙ none_there c.fault_of_places.result (sym c.is_some.ensures ∙ c.if-is_some.false)));
    } in
    subst (λ (done : Outcome). At opening done (stage c.do_batch.new.segment cells c.do_batch.new.token))
    (after_request_is opening outcome segment cells token request at
    (request_said_so (length segment) (token_arrival token).args (token_arrival token).payload request says))
    (c.do_batch.ensures.at cells opening outcome at)
