-- `into_bytes` gives the place of the bytes to the segment: a walk of its MIR.
use Rattle.std.proofs.Common.{◌≡◌, ℕ, ◌^◌, ◌<◌, List, [], ◌∷◌, ◌++◌, length, replicate, refl, ap, ◌∙◌}
use Rattle.std.proofs.lemmas.List.{length-replicate}
use mir.Val.{Val, vptr, vint}
use mir.Syntax.{w64}
use base.Logic.{SProp, never, id⊢}
use base.Fml.{fsep, ftrue}
use base.Fraction.{full_share}
use contract.Monad.{fact}
use contract.Running.{tables}
use prog.Wp.{Env, WpFn}
use types.Kit.{‵, raw, ◌⊛◌, some, later, prop, at_ret, ◌$◌, ◌∵◌, !, qed, by, move, drop, split, join, fsplit, fjoin}
use types.Kit.{pick, use1, await, rewrite, regoal, feq_i}
use types.Run.{stop, fld, of_opd, no_more, and_then, first, blocks, exec, returns, enter}
use types.Part.{sub, whole}
use types.ByLocal.{alloc_all, pass_all, free_all, look_at, get, get_in, sets, lands_last, env}
use denote.Array.{Array}
use denote.Builtin.{u8, usize}
use denote.Laws.{Is, shows}
use denote.RattleType.{owns}
use denote.RawPtr.{Ptr, block_ptr, lies_at, in_a_block}
use denote.Signature.{plain, types_at}
use denote.Steps.{nothing, heard, peeks}
use denote.Triple.Call.{calls_at_last}
use denote.Triple.Clauses.{Lasts, lasts}
use denote.Triple.Entry.{alive}
use denote.Triple.Spec.{triple_of}
use denote.Triple.Table.{framed}
use denote.Triple.Walked.{Stays, stay_dropped, walk_of, Goes-dropped}
use Rattle.std.proofs.VecSteps.Shapes.{after}
use Rattle.std.proofs.alloc.Calls.{Goes-blank}
use Rattle.std.proofs.raw_atomic.Walks.{proved_at, leaves}
use Rattle.part_segment.specs.contracts.raw.Bytes as bytes
use Rattle.part_segment.proofs.raw.Bytes.TheLaws as bytes_laws
use Rattle.part_segment.specs.contracts.raw.Bytes.given as callee
use Rattle.part_segment.proofs.raw.Bytes.given.Met.{met}
use Rattle.gasnet_c.proofs.Values.{place_val, place_told}
use Rattle.gasnet_c.specs.contracts.memory.Memory as memory
use Rattle.gasnet_c.specs.contracts.memory.Memory.into_bytes as f
use Rattle.gasnet_c.proofs.memory.Memory.into_bytes.Statement.{statement}
use Rattle.gasnet_c.proofs.memory.Memory.into_bytes.Code as code

pub into_bytes_spec : {M : Type 1} → statement M
into_bytes_spec 𝓤 𝓛 𝓜 𝓡 wired =
    let 𝓣 = tables 𝓤 𝓛.H 𝓜 𝓡 𝓡.env in
    let c = f.clauses 𝓛 𝓜.mem 𝓡.returns in
    let stays : Stays f.ended.signature.params f.ended.kept =
    (stay_dropped (plain (λ _. memory.the_row)) f.ended.kept.0, (stay_dropped (plain (λ _. usize)) f.ended.kept.1.0, tt)) in
    proved_at 𝓛 f.ended stays c 𝓜 𝓡 (
      Goes-blank 𝓛 0 (plain (λ _. memory.the_row)) f.ended.kept.0 (λ κs x f. tt),
      (Goes-dropped 𝓛 0 (plain (λ _. usize)) f.ended.kept.1.0 (λ κs x w. refl), tt),
    )
    f.Key.name code.function (code.unfolded 𝓤 𝓛.H 𝓜 𝓡 wired) (λ z are.
    let given = z.0.3.0 in
    let n : ℕ = z.0.3.1.0 in
    let vs = z.0.4.0 in
    let fits = are.1.0.1 in
    let zeros : List ℕ = replicate n 0 in
    let Post : Val → SProp 𝓤 = (walk_of 𝓛 f.ended stays c).post z in
    let Lies = λ (items : List ℕ) (p : Ptr). lies_at (Array u8 (length items)) full_share p items in
    qed 𝓛 ((raw (alive 𝓛 f.signature z.0.0 z.0.1) ⊛ ‵ (owns (types_at f.signature.params z.0.0) z.0.3 z.0.4)) ∷
    (raw (fact 𝓤 (n < 2 ^ 63)) ⊛ raw (fact 𝓤 (given.items ≡ zeros))) ∷ []) ∵
    move ! (1 ∷ []) $ split ! $ move ! (1 ∷ []) $ heard ! (given.items ≡ zeros) (λ same.
    -- [fewer than 2^63; the tokens with what the parameters own]
    move ! (1 ∷ []) $ split ! $ move ! (1 ∷ []) $ fsplit ! $ fsplit ! $ drop ! $
    in_a_block ! given.at (Lies given.items) (id⊢ 𝓤 (never 𝓤)) (λ b o at.
    let place : Ptr = block_ptr b o in
    rewrite ! 0 (λ (items : List ℕ). ‵ (Lies items place)) same refl $
    rewrite ! 0 (λ (k : ℕ). ‵ (lies_at (Array u8 k) full_share place zeros)) (length-replicate n 0) refl $
    -- [the zeros; the length and nothing; the tokens; fewer than 2^63]
    let call = triple_of 𝓛 callee.signature (callee.spec 𝓛 𝓜.mem 𝓡.returns) in
    let y : call.Ghost = ((tt, tt, tt, (place, (n, tt)), (vptr b o ∷ [], (vint w64 n ∷ [], tt))), tt) in
    move ! (1 ∷ []) $ rewrite ! 0 (λ (us : List Val). ‵ (fsep (usize.own_val n us) ftrue)) are.1.0.0 refl $
    feq_i ! (List Val) (vptr b o ∷ []) (vptr b o ∷ []) refl $ fjoin ! $ move ! (2 ∷ 0 ∷ []) $ join ! $
    -- [the tokens with what the call's arguments own; the zeros; fewer than 2^63]
    move ! (2 ∷ 1 ∷ []) $ join ! $ move ! (1 ∷ 0 ∷ []) $ join ! $ use1 𝓛 (raw (call.pre y)) (id⊢ 𝓤 _) $
    regoal ! (λ (us : List Val × List Val). prop (WpFn 𝓤 𝓛.H 𝓣.C 𝓣.Λ code.function (us.0 ++ (us.1 ++ [])) Post))
    (λ i. ((place_told given.at vs are.0.0 ∙ ap (λ (p : Ptr). place_val p ∷ []) at) i, are.1.0.0 i)) refl $
    enter ! 𝓣.C 𝓣.Λ code.function (place_val place ∷ vint w64 n ∷ []) Post $
    alloc_all ! (λ l. pass_all ! refl ((tt, (tt, tt)), ((tt, record { fits = fits }), tt)) $
    let Ev : Env 𝓤 𝓛.H = env code.function.locals l in
    sets ! (of_opd ! (get_in ! (fld ! refl (stop !)) (sub ! 0 refl (whole !)))) refl (tt, tt) $
    first ! $ blocks ! $
    calls_at_last ! (framed 𝓤 𝓛.H 𝓜 𝓣) call
    (met 𝓤 𝓛 𝓜 𝓡 (code.calls-part_segment::raw::Bytes::given 𝓡.env wired)) y
    (and_then ! (get ! refl) (and_then ! (get ! refl) (no_more !))) (λ u.
    use1 𝓛 (later (some (λ (r : bytes.the_row.Denot). (raw (alive 𝓛 f.signature z.0.0 z.0.1) ⊛
    ‵ (bytes.the_row.own_val r (u ∷ []))) ⊛
    some (λ (ws : Lasts callee.ended tt y.0.3). ‵ (lasts callee.ended tt y.0.3 ws) ⊛
    raw (fact 𝓤 (r.items ≡ zeros)))))) (id⊢ 𝓤 _) $
    await ! tt $ pick ! (λ r. split ! $ move ! (1 ∷ []) $ pick ! (λ _. split ! $ drop ! $
    move ! (1 ∷ []) $ split ! $ move ! (1 ∷ []) $
    -- [the bytes; the tokens; they are zeros]
    peeks ! bytes.the_row (Is bytes.the_row) (shows 𝓛 bytes.the_row) r (u ∷ []) (λ is.
    let good = ((bytes_laws.the_row_laws.lawful 𝓛).typed r (u ∷ []) is).0 in
    lands_last ! refl good $ exec ! 𝓣.C 𝓣.Λ Ev (after 2 code.function.body) (at_ret Ev Post) $
    sets ! (of_opd ! (get ! refl)) refl good $
    returns ! (look_at ! 0 refl) $ free_all ! refl $
    nothing ! $ nothing ! $ fjoin ! $ nothing ! $ fjoin ! $
    -- [what is left of the parameters; the bytes; the tokens; they are zeros]
    move ! (2 ∷ []) $
    by ! (leaves 𝓛 f.ended stays c z u r (tt, (tt, tt)) (tt, (tt, tt)))))))))))
