-- `of` keeps the place of what was boxed: a walk of its MIR.
use Rattle.std.proofs.Common.{◌≡◌, List, [], ◌∷◌, ◌++◌, refl, ap, ◌∙◌}
use mir.Raw.{raw as bare}
use mir.Val.{Val}
use base.Logic.{SProp, emp, never, fst∗}
use contract.Monad.{fact, fact_i}
use contract.Running.{tables}
use prog.Wp.{WpFn}
use types.Logic.{sem}
use types.Kit.{‵, raw, ◌⊛◌, prop, ◌$◌, ◌∵◌, !, qed, by, move, keep, drop, split, fsplit, fjoin, use0, regoal}
use types.Run.{stop, fld, of_opd, no_more, and_then, returns, enter}
use types.Part.{agg, sub, whole}
use types.ByLocal.{alloc_all, pass_all, free_all, look_at, get, get_in, sets}
use denote.Memory.{lone}
use denote.RattleType.{owns}
use denote.RawPtr.{Ptr, block_ptr, null_ptr, in_a_block}
use denote.Signature.{plain, types_at}
use denote.Steps.{nothing}
use denote.Triple.Entry.{alive}
use denote.Triple.Walked.{Stays, stay_dropped, walk_of}
use Rattle.std.proofs.alloc.Calls.{Goes-blank}
use Rattle.std.proofs.raw_atomic.Walks.{proved_at, leaves}
use Rattle.std.specs.Prelude.{Some}
use Rattle.std.specs.Box.Ownership.{box_owns}
use Rattle.std.specs.contracts.alloc.Global as heap
use Rattle.std.specs.contracts.impls.GlobalAllocator.TheImpl.{ghosts}
use Rattle.base_box.proofs.Values.{raw_val, raw_told}
use Rattle.base_box.specs.contracts.RawBox as raw_box
use Rattle.gasnet_c.proofs.Values.{place_val, place_own, place_made}
use Rattle.node_collectives.specs.contracts.collectives.Collectives as collectives
use Rattle.gasnet_c.specs.contracts.collectives_place.CollectivesPlace.of as f
use Rattle.gasnet_c.proofs.collectives_place.CollectivesPlace.of.Statement.{statement}
use Rattle.gasnet_c.proofs.collectives_place.CollectivesPlace.of.Code as code

pub of_spec : {M : Type 1} → statement M
of_spec 𝓤 𝓛 𝓜 𝓡 wired =
    let 𝓣 = tables 𝓤 𝓛.H 𝓜 𝓡 𝓡.env in
    let c = f.clauses 𝓛 𝓜.mem 𝓡.returns in
    let Raw = raw_box.the_row collectives.the_row heap.the_row ghosts in
    let stays : Stays f.ended.signature.params f.ended.kept = (stay_dropped (plain (λ _. Raw)) f.ended.kept.0, tt) in
    proved_at 𝓛 f.ended stays c 𝓜 𝓡 (Goes-blank 𝓛 0 (plain (λ _. Raw)) f.ended.kept.0 (λ κs x f. tt), tt)
    f.Key.name code.function (code.unfolded 𝓤 𝓛.H 𝓜 𝓡 wired) (λ z are.
    let taken = z.0.3.0 in
    let vs = z.0.4.0 in
    let Post : Val → SProp 𝓤 = (walk_of 𝓛 f.ended stays c).post z in
    let Owns = λ (p : Ptr). box_owns (ghosts.dealloc_token taken.alloc) collectives.the_row p taken.value in
    qed 𝓛 ((raw (alive 𝓛 f.signature z.0.0 z.0.1) ⊛ ‵ (owns (types_at f.signature.params z.0.0) z.0.3 z.0.4)) ∷
    raw ((c z.0.0 z.0.3).requires z.1) ∷ []) ∵
    split ! $ move ! (1 ∷ []) $ fsplit ! $ fsplit ! $ drop ! $
    in_a_block ! taken.at Owns
    (fst∗ 𝓤 (never 𝓤) (sem 𝓛 (ghosts.dealloc_token taken.alloc (bare (lone collectives.the_row.mir)) null_ptr))) (λ b o at.
    let place : Ptr = block_ptr b o in
    keep ! (0 ∷ []) $
    regoal ! (λ (us : List Val). prop (WpFn 𝓤 𝓛.H 𝓣.C 𝓣.Λ code.function (us ++ []) Post))
    (raw_told taken.at vs are.0.0 ∙ ap (λ (p : Ptr). raw_val p ∷ []) at) refl $
    enter ! 𝓣.C 𝓣.Λ code.function (raw_val place ∷ []) Post $
    alloc_all ! (λ l. pass_all ! refl ((tt, (tt, (tt, tt))), tt) $
    sets ! (of_opd ! (get_in ! (fld ! refl (stop !)) (sub ! 0 refl (whole !)))) refl (tt, tt) $
    sets ! (of_opd ! (get ! refl)) refl (tt, tt) $
    sets ! (agg ! (and_then ! (get ! refl) (no_more !))) refl (tt, (tt, tt)) $
    returns ! (look_at ! 0 refl) $ free_all ! refl $
    use0 𝓛 (‵ (place_own place (place_val place ∷ []))) (place_made 𝓛 place) $ fjoin ! $
    use0 𝓛 (raw (fact 𝓤 (Some taken.value ≡ Some taken.value))) (fact_i 𝓤 _ (emp 𝓤) refl) $
    nothing ! $ nothing ! $ fjoin ! $ nothing ! $
    -- [the tokens; what is left of the parameter; the clause; the slot]
    move ! (0 ∷ 1 ∷ 3 ∷ 2 ∷ []) $
    by ! (leaves 𝓛 f.ended stays c z (place_val place) (record { at = place; held = Some taken.value }) (tt, tt)
    (tt, tt)))))
