-- `empty` is made of a null pointer: a walk of its MIR.
use Rattle.std.proofs.Common.{◌≡◌, [], ◌∷◌, refl, lit<}
use mir.Val.{Val}
use base.Logic.{SProp, emp}
use contract.Monad.{fact, fact_i}
use contract.Running.{tables}
use types.Kit.{‵, raw, ◌⊛◌, ◌$◌, ◌∵◌, !, qed, by, move, keep, fjoin, use0}
use types.Run.{lit, no_more, and_then, returns, enter}
use types.Part.{agg}
use types.ByLocal.{alloc_all, pass_all, free_all, look_at, sets}
use denote.RattleType.{owns}
use denote.RawPtr.{null_ptr}
use denote.Signature.{types_at}
use denote.Steps.{nothing}
use denote.Triple.Entry.{alive}
use denote.Triple.Walked.{Stays, walk_of}
use Rattle.std.proofs.raw_atomic.Walks.{proved_at, leaves}
use Rattle.std.specs.Prelude.{Option, None}
use Rattle.node_endpoint.specs.EndpointState.{EndpointState}
use Rattle.gasnet_c.proofs.Values.{place_val, place_own, place_made}
use Rattle.gasnet_c.specs.contracts.node_place.NodePlace.empty as f
use Rattle.gasnet_c.proofs.node_place.NodePlace.empty.Statement.{statement}
use Rattle.gasnet_c.proofs.node_place.NodePlace.empty.Code as code

pub empty_spec : {M : Type 1} → statement M
empty_spec 𝓤 𝓛 𝓜 𝓡 wired =
    let 𝓣 = tables 𝓤 𝓛.H 𝓜 𝓡 𝓡.env in
    let c = f.clauses 𝓛 𝓜.mem 𝓡.returns in
    let stays : Stays f.ended.signature.params f.ended.kept = tt in
    let none : Option EndpointState = None in
    proved_at 𝓛 f.ended stays c 𝓜 𝓡 tt f.Key.name code.function (code.unfolded 𝓤 𝓛.H 𝓜 𝓡 wired) (λ z are.
    let Post : Val → SProp 𝓤 = (walk_of 𝓛 f.ended stays c).post z in
    qed 𝓛 ((raw (alive 𝓛 f.signature z.0.0 z.0.1) ⊛ ‵ (owns (types_at f.signature.params z.0.0) z.0.3 z.0.4)) ∷
    raw ((c z.0.0 z.0.3).requires z.1) ∷ []) ∵ keep ! [] $
    enter ! 𝓣.C 𝓣.Λ code.function [] Post $ alloc_all ! (λ l. pass_all ! refl tt $
    sets ! (agg ! (and_then ! (lit ! tt) (no_more !))) refl (tt, (record { fits = lit< tt }, tt)) $
    returns ! (look_at ! 0 refl) $ free_all ! refl $
    nothing ! $ use0 𝓛 (‵ (place_own null_ptr (place_val null_ptr ∷ []))) (place_made 𝓛 null_ptr) $ fjoin ! $
    use0 𝓛 (raw (fact 𝓤 (none ≡ none))) (fact_i 𝓤 _ (emp 𝓤) refl) $ nothing ! $ nothing ! $
    -- [the tokens; what is left of the parameters; the clause; the slot]
    move ! (0 ∷ 1 ∷ 3 ∷ 2 ∷ []) $
    by ! (leaves 𝓛 f.ended stays c z (place_val null_ptr) (record { at = null_ptr; held = none }) tt tt)))
