-- `into_raw` gives the place of what was boxed: a walk of its MIR.
use Rattle.std.proofs.Common.{◌≡◌, List, [], ◌∷◌, ◌++◌, refl, ap, ◌∙◌}
use Rattle.std.proofs.lemmas.Bool.{false≢true}
use mir.Raw.{raw as bare}
use mir.Val.{Val}
use base.Logic.{SProp, emp, never, fst∗}
use contract.Monad.{fact, fact_i}
use contract.Running.{tables}
use prog.Wp.{WpFn}
use types.Logic.{sem}
use types.Kit.{‵, raw, ◌⊛◌, prop, ◌$◌, ◌∵◌, !, qed, by, move, keep, drop, split, fsplit, fjoin, use0, rewrite, regoal}
use types.Run.{stop, fld, of_opd, no_more, and_then, returns, enter}
use types.Part.{agg, sub, whole}
use types.ByLocal.{alloc_all, pass_all, free_all, look_at, get, get_in, sets}
use denote.Memory.{lone}
use denote.RattleType.{owns}
use denote.RawPtr.{Ptr, block_ptr, null_ptr, in_a_block}
use denote.Signature.{plain, types_at}
use denote.Steps.{nothing, heard}
use denote.Triple.Entry.{alive}
use denote.Triple.Walked.{Stays, stay_dropped, walk_of}
use Rattle.std.proofs.alloc.Calls.{Goes-blank}
use Rattle.std.proofs.raw_atomic.Walks.{proved_at, leaves}
use Rattle.std.specs.Prelude.{Option, Some, None, IsSome}
use Rattle.std.specs.Box.Ownership.{box_owns}
use Rattle.std.specs.contracts.impls.GlobalAllocator.TheImpl.{ghosts}
use Rattle.std.specs.declared.alloc.Global.{Global}
use Rattle.base_box.proofs.Values.{raw_val, fields_own, fields_made}
use Rattle.node_collectives.specs.CollectivesState.{CollectivesState}
use Rattle.gasnet_c.specs.CollectivesHeld.{collectives_place_owns}
use Rattle.gasnet_c.proofs.Values.{place_val, place_told}
use Rattle.node_collectives.specs.contracts.collectives.Collectives as collectives
use Rattle.gasnet_c.specs.contracts.collectives_place.CollectivesPlace as slot
use Rattle.gasnet_c.specs.contracts.collectives_place.CollectivesPlace.into_raw as f
use Rattle.gasnet_c.proofs.collectives_place.CollectivesPlace.into_raw.Statement.{statement}
use Rattle.gasnet_c.proofs.collectives_place.CollectivesPlace.into_raw.Code as code

inside : {X : Type 0} (held : Option X) → IsSome held → (x : X) × (held ≡ Some x)
inside (Some x) some = (x, refl)
inside None some = absurd (false≢true some)

pub into_raw_spec : {M : Type 1} → statement M
into_raw_spec 𝓤 𝓛 𝓜 𝓡 wired =
    let 𝓣 = tables 𝓤 𝓛.H 𝓜 𝓡 𝓡.env in
    let c = f.clauses 𝓛 𝓜.mem 𝓡.returns in
    let alloc : Global = record { memory = record { seal = tt } } in
    let stays : Stays f.ended.signature.params f.ended.kept =
    (stay_dropped (plain (λ _. slot.the_row)) f.ended.kept.0, tt) in
    proved_at 𝓛 f.ended stays c 𝓜 𝓡 (Goes-blank 𝓛 0 (plain (λ _. slot.the_row)) f.ended.kept.0 (λ κs x f. tt), tt)
    f.Key.name code.function (code.unfolded 𝓤 𝓛.H 𝓜 𝓡 wired) (λ z are.
    let full = z.0.3.0 in
    let vs = z.0.4.0 in
    let Post : Val → SProp 𝓤 = (walk_of 𝓛 f.ended stays c).post z in
    qed 𝓛 ((raw (alive 𝓛 f.signature z.0.0 z.0.1) ⊛ ‵ (owns (types_at f.signature.params z.0.0) z.0.3 z.0.4)) ∷
    raw (fact 𝓤 (IsSome full.held)) ∷ []) ∵
    move ! (1 ∷ []) $ heard ! (IsSome full.held) (λ some.
    let x = (inside full.held some).0 in
    let has = (inside full.held some).1 in
    let Owns = λ (p : Ptr). box_owns (ghosts.dealloc_token alloc) collectives.the_row p x in
    split ! $ move ! (1 ∷ []) $ fsplit ! $ fsplit ! $ drop ! $
    rewrite ! 0 (λ (held : Option CollectivesState). ‵ (collectives_place_owns full.at held)) has refl $
    in_a_block ! full.at Owns
    (fst∗ 𝓤 (never 𝓤) (sem 𝓛 (ghosts.dealloc_token alloc (bare (lone collectives.the_row.mir)) null_ptr))) (λ b o at.
    let place : Ptr = block_ptr b o in
    keep ! (0 ∷ []) $
    regoal ! (λ (us : List Val). prop (WpFn 𝓤 𝓛.H 𝓣.C 𝓣.Λ code.function (us ++ []) Post))
    (place_told full.at vs are.0.0 ∙ ap (λ (p : Ptr). place_val p ∷ []) at) refl $
    enter ! 𝓣.C 𝓣.Λ code.function (place_val place ∷ []) Post $
    alloc_all ! (λ l. pass_all ! refl ((tt, (tt, tt)), tt) $
    sets ! (of_opd ! (get_in ! (fld ! refl (stop !)) (sub ! 0 refl (whole !)))) refl (tt, tt) $
    sets ! (of_opd ! (get ! refl)) refl (tt, tt) $
    sets ! (agg ! (no_more !)) refl (tt, tt) $
    sets ! (agg ! (and_then ! (get ! refl) (and_then ! (get ! refl) (no_more !)))) refl (tt, (tt, (tt, tt))) $
    returns ! (look_at ! 0 refl) $ free_all ! refl $
    use0 𝓛 (‵ (fields_own place (raw_val place ∷ []))) (fields_made 𝓛 place) $ fjoin ! $
    use0 𝓛 (raw (fact 𝓤 (full.held ≡ Some x))) (fact_i 𝓤 _ (emp 𝓤) has) $
    nothing ! $ nothing ! $ fjoin ! $ nothing ! $
    -- [the tokens; what is left of the parameter; the clause; what was boxed]
    move ! (0 ∷ 1 ∷ 3 ∷ 2 ∷ []) $
    by ! (leaves 𝓛 f.ended stays c z (raw_val place)
    (record { at = place; marker = record {}; alloc = alloc; value = x }) (tt, tt) (tt, tt))))))
