-- `of` takes the place out of the box: a walk of its MIR.
use Rattle.std.proofs.Common.{◌≡◌, List, [], ◌∷◌, ◌++◌, refl, ap, ◌∙◌}
use mir.Syntax.{Fn, Args, a_type, dcons, dnil}
use mir.MapTy.{inst_fn}
use mir.Raw.{raw as bare}
use mir.Val.{Val}
use base.Logic.{SProp, emp, never, id⊢, fst∗}
use base.Fml.{flft, ftrue}
use contract.Monad.{fact, fact_i}
use contract.Running.{tables}
use prog.Wp.{WpFn}
use types.Logic.{sem}
use types.Kit.{‵, raw, ◌⊛◌, some, later, prop, ◌$◌, ◌∵◌, !, qed, by, move, drop, split, join, fjoin, pick, use0, use1, await}
use types.Kit.{rewrite, regoal, feq_l}
use types.Run.{of_opd, no_more, and_then, returns, enter}
use types.Part.{agg}
use types.ByLocal.{alloc_all, pass_all, free_all, look_at, get, sets, lands_as}
use denote.RattleType.{RattleType, owns}
use denote.RawPtr.{Ptr, RawPtr, block_ptr, ptr_val, null_ptr, in_a_block}
use denote.Param.{param, layout, bounded}
use denote.Param.Laws.{param_laws}
use denote.Signature.{plain, types_at}
use denote.Steps.{nothing, only}
use denote.Triple.Call.{calls_at}
use denote.Triple.Clauses.{Lasts, lasts}
use denote.Triple.Spec.{triple_of}
use denote.Triple.Table.{framed}
use denote.Triple.Walked.{Stays, stay_dropped, walk_of}
use Rattle.std.proofs.alloc.Calls.{Goes-blank}
use Rattle.std.proofs.cell.Inside.{one}
use Rattle.std.proofs.raw_atomic.Walks.{proved_at, leaves}
use Rattle.std.specs.Box.Ownership.{box_owns}
use Rattle.std.specs.contracts.boxed.Box as box
use Rattle.std.proofs.boxed.Box.TheLaws as box_laws
use Rattle.std.specs.contracts.boxed.Box.into_raw as callee
use Rattle.std.proofs.boxed.Box.into_raw.Met.{met}
use Rattle.base_box.proofs.Values.{raw_val, fields_own, fields_made}
use Rattle.base_box.specs.contracts.RawBox.of.{ended, clauses}
use Rattle.base_box.specs.contracts.RawBox.of.Key.{name as #self}
use Rattle.base_box.proofs.RawBox.of.Statement.{statement}
use Rattle.base_box.proofs.RawBox.of.Code as code

pub of_spec : {M : Type 1} → statement M
of_spec 𝓤 𝓛 𝓜 𝓡 wired T A LT LA g d dt da allocates drops_t drops_a =
    let H = 𝓛.H in
    let 𝓣 = tables 𝓤 H 𝓜 𝓡 𝓡.env in
    let R : RattleType = param 0 T in
    let Boxed : RattleType = box.the_row R (param 1 A) g in
    let laws = box_laws.the_row_laws R (param 1 A) g (param_laws 0 T LT) (param_laws 1 A LA) in
    let En = ended T A g d dt da in
    let c = clauses T A g d dt da 𝓛 𝓜.mem 𝓡.returns in
    let given : Args = bounded (a_type ∷ a_type ∷ []) (T, (A, tt)) (dcons d (dcons dt (dcons da dnil))) in
    let fn : Fn = inst_fn given code.function in
    let stays : Stays En.signature.params En.kept = (stay_dropped (plain (λ _. Boxed)) En.kept.0, tt) in
    proved_at 𝓛 En stays c 𝓜 𝓡 (Goes-blank 𝓛 2 (plain (λ _. Boxed)) En.kept.0 (λ κs x f. tt), tt) (#self given) fn
    (code.unfolded 𝓤 H 𝓜 𝓡 wired (T, (A, tt)) d dt da) (λ z are.
    let κs = z.0.0 in
    let qs = z.0.1 in
    let whole = z.0.3.0 in
    let Post : Val → SProp 𝓤 = (walk_of 𝓛 En stays c).post z in
    let tokens = ‵ (flft κs.0 qs.0) ⊛ ‵ (flft κs.1.0 qs.1.0) ⊛ ‵ ftrue in
    let word = one (layout Boxed) z.0.4.0 ((laws.lawful 𝓛).typed whole z.0.4.0 are.0) in
    let call = triple_of 𝓛 (callee.signature T A g d da dt) (callee.spec T A g d da dt 𝓛 𝓜.mem 𝓡.returns) in
    let y : call.Ghost = ((κs, qs, tt, (whole, tt), (word.0 ∷ [], tt)), tt) in
    let Owns = λ (p : Ptr). box_owns (g.dealloc_token whole.alloc) R p whole.value in
    qed 𝓛 ((tokens ⊛ ‵ (owns (types_at En.signature.params κs) z.0.3 z.0.4)) ∷ raw ((c κs z.0.3).requires z.1) ∷ []) ∵
    rewrite ! 0 (λ (vs : List Val). tokens ⊛ ‵ (owns (types_at En.signature.params κs) z.0.3 (vs, tt))) word.1 refl $
    regoal ! (λ (vs : List Val). prop (WpFn 𝓤 H 𝓣.C 𝓣.Λ fn (vs ++ []) Post)) word.1 refl $
    join ! $ use1 𝓛 (raw (call.pre y)) (id⊢ 𝓤 _) $
    enter ! 𝓣.C 𝓣.Λ fn (word.0 ∷ []) Post $ alloc_all ! (λ l. pass_all ! refl (word.2, tt) $
    sets ! (of_opd ! (get ! refl)) refl word.2 $
    calls_at ! (framed 𝓤 H 𝓜 𝓣) call
    (met 𝓤 𝓛 𝓜 𝓡 (code.calls-std::boxed::Box::into_raw 𝓡.env wired) T A LT LA g d da dt allocates drops_a drops_t) y
    (and_then ! (get ! refl) (no_more !)) (λ u.
    use1 𝓛 (later (some (λ (p : Ptr). (tokens ⊛ ‵ (RawPtr.own_val p (u ∷ []))) ⊛
    some (λ (ws : Lasts (callee.ended T A g d da dt) κs y.0.3). ‵ (lasts (callee.ended T A g d da dt) κs y.0.3 ws) ⊛
    ‵ (Owns p))))) (id⊢ 𝓤 _) $
    await ! tt $ pick ! (λ p. split ! $ move ! (1 ∷ []) $ pick ! (λ _. split ! $ drop ! $
    in_a_block ! p Owns (fst∗ 𝓤 (never 𝓤) (sem 𝓛 (g.dealloc_token whole.alloc (bare (layout T)) null_ptr))) (λ b o at.
    move ! (1 ∷ []) $ split ! $ move ! (1 ∷ []) $ feq_l ! (λ is.
    -- [the tokens; the box's memory]
    lands_as ! (ap only is ∙ ap ptr_val at) refl (tt, tt) $
    sets ! (agg ! (no_more !)) refl (tt, tt) $
    sets ! (agg ! (and_then ! (get ! refl) (and_then ! (get ! refl) (no_more !)))) refl (tt, (tt, (tt, tt))) $
    returns ! (look_at ! 0 refl) $ free_all ! refl $
    let place : Ptr = block_ptr b o in
    move ! (1 ∷ []) $ use0 𝓛 (‵ (fields_own place (raw_val place ∷ []))) (fields_made 𝓛 place) $ fjoin ! $
    use0 𝓛 (raw (fact 𝓤 (whole.alloc ≡ whole.alloc))) (fact_i 𝓤 _ (emp 𝓤) refl) $
    use0 𝓛 (raw (fact 𝓤 (whole.value ≡ whole.value))) (fact_i 𝓤 _ (emp 𝓤) refl) $ join ! $
    nothing ! $ nothing ! $ fjoin ! $
    -- [what is left of the parameter; the clauses; the result; the tokens]
    move ! (3 ∷ 0 ∷ 2 ∷ 1 ∷ []) $
    by ! (leaves 𝓛 En stays c z (raw_val place)
    (record { at = place; marker = record {}; alloc = whole.alloc; value = whole.value })
    ((tt, (tt, tt)), tt) (tt, tt)))))))))
