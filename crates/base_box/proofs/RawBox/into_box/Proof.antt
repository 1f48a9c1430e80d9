-- `into_box` puts the place into a box again: a walk of its MIR.
use Rattle.std.proofs.Common.{◌≡◌, List, [], ◌∷◌, ◌++◌, refl, sym, ap, ◌∙◌}
use mir.Syntax.{Fn, Args, a_type, dcons, dnil}
use mir.MapTy.{inst_fn}
use mir.Raw.{raw as bare}
use mir.Val.{Val, vptr}
use base.Logic.{SProp, never, id⊢, fst∗}
use base.Fml.{flft, ftrue}
use contract.BorrowLft.{◌⊑◌}
use contract.Monad.{fact}
use contract.Running.{tables}
use prog.Wp.{Env, WpFn}
use types.Logic.{sem}
use types.Kit.{‵, raw, ◌⊛◌, some, later, prop, at_ret, ◌$◌, ◌∵◌, !, qed, by, move, drop, split, split3, join, fsplit, fjoin}
use types.Kit.{pick, use1, await, rewrite, regoal, feq_i}
use types.Run.{stop, fld, of_opd, no_more, and_then, first, blocks, exec, returns, enter}
use types.Part.{sub, whole}
use types.ByLocal.{alloc_all, pass_all, free_all, look_at, get, get_in, sets, lands_last, env}
use denote.Laws.{Is, shows}
use denote.RattleType.{RattleType, owns}
use denote.RawPtr.{Ptr, block_ptr, null_ptr, in_a_block}
use denote.Param.{param, layout, bounded}
use denote.Param.Laws.{param_laws}
use denote.Signature.{plain, types_at}
use denote.Steps.{nothing, heard, peeks}
use denote.Triple.Call.{calls_at_last}
use denote.Triple.Clauses.{Lasts, lasts}
use denote.Triple.Spec.{triple_of}
use denote.Triple.Table.{framed}
use denote.Triple.Walked.{Stays, stay_dropped, walk_of}
use Rattle.std.proofs.VecSteps.Shapes.{after}
use Rattle.std.proofs.alloc.Calls.{Goes-blank}
use Rattle.std.proofs.cell.Inside.{one}
use Rattle.std.proofs.raw_atomic.Walks.{proved_at, leaves}
use Rattle.std.specs.Box.Ownership.{box_owns}
use Rattle.std.specs.contracts.boxed.Box as box
use Rattle.std.proofs.boxed.Box.TheLaws as box_laws
use Rattle.std.specs.contracts.boxed.Box.from_raw as callee
use Rattle.std.proofs.boxed.Box.from_raw.Met.{met}
use Rattle.base_box.proofs.Values.{raw_val, raw_told}
use Rattle.base_box.specs.contracts.RawBox as raw_box
use Rattle.base_box.specs.contracts.RawBox.into_box.{ended, clauses}
use Rattle.base_box.specs.contracts.RawBox.into_box.Key.{name as #self}
use Rattle.base_box.proofs.RawBox.into_box.Statement.{statement}
use Rattle.base_box.proofs.RawBox.into_box.Code as code

pub into_box_spec : {M : Type 1} → statement M
into_box_spec 𝓤 𝓛 𝓜 𝓡 wired T A LT LA g d dt da allocates drops_t drops_a =
    let H = 𝓛.H in
    let 𝓣 = tables 𝓤 H 𝓜 𝓡 𝓡.env in
    let R : RattleType = param 0 T in
    let Z : RattleType = param 1 A in
    let Raw : RattleType = raw_box.the_row R Z g in
    let Boxed : RattleType = box.the_row R Z g in
    let laws = box_laws.the_row_laws R Z g (param_laws 0 T LT) (param_laws 1 A LA) in
    let En = ended T A g d dt da in
    let c = clauses T A g d dt da 𝓛 𝓜.mem 𝓡.returns in
    let given : Args = bounded (a_type ∷ a_type ∷ []) (T, (A, tt)) (dcons d (dcons dt (dcons da dnil))) in
    let fn : Fn = inst_fn given code.function in
    let stays : Stays En.signature.params En.kept =
    (stay_dropped (plain (λ _. Raw)) En.kept.0, (stay_dropped (plain (λ _. Z)) En.kept.1.0, tt)) in
    proved_at 𝓛 En stays c 𝓜 𝓡 (
      Goes-blank 𝓛 2 (plain (λ _. Raw)) En.kept.0 (λ κs x f. tt),
      (Goes-blank 𝓛 2 (plain (λ _. Z)) En.kept.1.0 (λ κs x f. tt), tt),
    )
    (#self given) fn (code.unfolded 𝓤 H 𝓜 𝓡 wired (T, (A, tt)) d dt da) (λ z are.
    let κs = z.0.0 in
    let qs = z.0.1 in
    let raw_box = z.0.3.0 in
    let alloc = z.0.3.1.0 in
    let vs = z.0.4.0 in
    let Post : Val → SProp 𝓤 = (walk_of 𝓛 En stays c).post z in
    let tokens = ‵ (flft κs.0 qs.0) ⊛ ‵ (flft κs.1.0 qs.1.0) ⊛ ‵ ftrue in
    let in_t = κs.0 ⊑ T.lives in
    let in_a = κs.1.0 ⊑ A.lives in
    let Same : Type 0 = alloc ≡ raw_box.alloc in
    let handle = one (layout Z) z.0.4.1.0 (((param_laws 1 A LA).lawful 𝓛).typed alloc z.0.4.1.0 are.1.0) in
    let Owns = λ (p : Ptr). box_owns (g.dealloc_token raw_box.alloc) R p raw_box.value in
    qed 𝓛 ((tokens ⊛ ‵ (owns (types_at En.signature.params κs) z.0.3 z.0.4)) ∷
    (raw (fact 𝓤 in_t) ⊛ raw (fact 𝓤 in_a) ⊛ raw (fact 𝓤 Same)) ∷ []) ∵
    move ! (1 ∷ []) $ split3 ! $ move ! (2 ∷ []) $ heard ! Same (λ same. join ! $
    -- [the lifetimes are long enough; the tokens with what the parameters own]
    move ! (1 ∷ []) $ split ! $ move ! (1 ∷ []) $ fsplit ! $ fsplit ! $ drop ! $
    in_a_block ! raw_box.at Owns
    (fst∗ 𝓤 (never 𝓤) (sem 𝓛 (g.dealloc_token raw_box.alloc (bare (layout T)) null_ptr))) (λ b o at.
    let place : Ptr = block_ptr b o in
    let call = triple_of 𝓛 (callee.signature T A g d da) (callee.spec T A g d da 𝓛 𝓜.mem 𝓡.returns) in
    let y : call.Ghost =
    ((κs, qs, tt, (alloc, (place, tt)), (handle.0 ∷ [], (vptr b o ∷ [], tt))), raw_box.value) in
    -- [the box's memory; the handle and nothing; the tokens; the lifetimes]
    rewrite ! 0 (λ (a : A.Denot). ‵ (box_owns (g.dealloc_token a) R place raw_box.value)) (sym same) refl $
    move ! (1 ∷ []) $ fsplit ! $
    rewrite ! 0 (λ (us : List Val). ‵ (Z.own_val alloc us)) handle.1 refl $
    -- [the handle; nothing; the memory; the tokens; the lifetimes]
    move ! (1 ∷ []) $ feq_i ! (List Val) (vptr b o ∷ []) (vptr b o ∷ []) refl $ fjoin ! $ move ! (1 ∷ 0 ∷ []) $ fjoin ! $
    move ! (2 ∷ 0 ∷ []) $ join ! $
    -- [the tokens with what the call's arguments own; the memory; the lifetimes]
    move ! (2 ∷ []) $ split ! $ move ! (1 ∷ 3 ∷ []) $ join ! $ move ! (1 ∷ 0 ∷ []) $ join ! $ move ! (1 ∷ 0 ∷ []) $ join ! $
    use1 𝓛 (raw (call.pre y)) (id⊢ 𝓤 _) $
    regoal ! (λ (us : List Val × List Val). prop (WpFn 𝓤 H 𝓣.C 𝓣.Λ fn (us.0 ++ (us.1 ++ [])) Post))
    (λ i. ((raw_told raw_box.at vs are.0.0 ∙ ap (λ (p : Ptr). raw_val p ∷ []) at) i, handle.1 i)) refl $
    enter ! 𝓣.C 𝓣.Λ fn (raw_val place ∷ handle.0 ∷ []) Post $
    alloc_all ! (λ l. pass_all ! refl ((tt, (tt, (tt, tt))), (handle.2, tt)) $
    let Ev : Env 𝓤 H = env fn.locals l in
    sets ! (of_opd ! (get_in ! (fld ! refl (stop !)) (sub ! 0 refl (whole !)))) refl (tt, tt) $
    first ! $ blocks ! $ sets ! (of_opd ! (get ! refl)) refl handle.2 $
    calls_at_last ! (framed 𝓤 H 𝓜 𝓣) call
    (met 𝓤 𝓛 𝓜 𝓡 (code.calls-std::boxed::Box::from_raw 𝓡.env wired) T A LT LA g d da allocates drops_a) y
    (and_then ! (get ! refl) (and_then ! (get ! refl) (no_more !))) (λ u.
    use1 𝓛 (later (some (λ (r : Boxed.Denot). (tokens ⊛ ‵ (Boxed.own_val r (u ∷ []))) ⊛
    some (λ (ws : Lasts (callee.ended T A g d da) κs y.0.3). ‵ (lasts (callee.ended T A g d da) κs y.0.3 ws) ⊛
    raw (fact 𝓤 (r.value ≡ raw_box.value)) ⊛ raw (fact 𝓤 (r.alloc ≡ alloc)))))) (id⊢ 𝓤 _) $
    await ! tt $ pick ! (λ r. split ! $ move ! (1 ∷ []) $ pick ! (λ _. split3 ! $ drop ! $ move ! (1 ∷ []) $ drop ! $
    move ! (1 ∷ []) $ split ! $ move ! (1 ∷ []) $
    -- [the box; the tokens; it has the value]
    peeks ! Boxed (Is Boxed) (shows 𝓛 Boxed) r (u ∷ []) (λ is.
    let good = ((laws.lawful 𝓛).typed r (u ∷ []) is).0 in
    lands_last ! refl good $ exec ! 𝓣.C 𝓣.Λ Ev (after 2 fn.body) (at_ret Ev Post) $
    sets ! (of_opd ! (get ! refl)) refl good $
    returns ! (look_at ! 0 refl) $ free_all ! refl $
    nothing ! $ nothing ! $ fjoin ! $ nothing ! $ fjoin ! $
    -- [what is left of the parameters; the box; the tokens; it has the value]
    move ! (2 ∷ []) $
    by ! (leaves 𝓛 En stays c z u r (tt, (tt, tt)) (tt, (tt, tt)))))))))))
