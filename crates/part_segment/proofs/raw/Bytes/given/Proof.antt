-- `given` keeps the place of the zeros: a walk of its MIR.
use Rattle.std.proofs.Common.{◌≡◌, ℕ, ◌^◌, ◌<◌, List, [], ◌∷◌, length, replicate, refl, sym, w64}
use Rattle.std.proofs.lemmas.List.{length-replicate}
use Rattle.std.proofs.raw_atomic.Walks.{proved, leaves}
use mathlib.Core.Path.{subst}
use mir.Val.{vint}
use base.Logic.{emp, id⊢}
use base.Fraction.{full_share}
use contract.Monad.{fact, fact_i}
use contract.Running.{tables}
use prog.Wp.{WpFn}
use types.Kit.{‵, raw, ◌⊛◌, prop, ◌$◌, ◌∵◌, !, qed, by, move, keep, split, fjoin, flt_i, use0, rewrite, regoal}
use types.Run.{no_more, and_then, returns, enter}
use types.Part.{agg}
use types.ByLocal.{alloc_all, pass_all, free_all, look_at, get, sets}
use denote.Array.{Array}
use denote.Builtin.{u8, usize}
use denote.Exit.{yes}
use denote.Plain.{uint_vals, uint_Tells}
use denote.RawPtr.{Ptr, RawPtr, block_ptr, ptr_val, lies_at, in_a_block, rawptr_vals, rawptr_Tells}
use denote.Signature.{plain}
use denote.Steps.{nothing, heard}
use denote.Triple.Entry.{on_entry}
use denote.Triple.Walked.{Stays, walk_of, stay_dropped, Goes-dropped}
use Rattle.part_segment.proofs.Values.{bytes_val, fields_own, fields_made}
use Rattle.part_segment.specs.contracts.raw.Bytes.given as f
use Rattle.part_segment.proofs.raw.Bytes.given.Statement.{statement}
use Rattle.part_segment.proofs.raw.Bytes.given.Code as code

abbrev stayed : Stays f.ended.signature.params f.ended.kept
stayed = (stay_dropped (plain (λ _. RawPtr)) yes, (stay_dropped (plain (λ _. usize)) yes, tt))

pub given_spec : {M : Type 1} → statement M
given_spec 𝓤 𝓛 𝓜 𝓡 wired =
    let c = f.clauses 𝓛 𝓜.mem 𝓡.returns in
    let W = walk_of 𝓛 f.ended stayed c in
    let 𝓣 = tables 𝓤 𝓛.H 𝓜 𝓡 𝓡.env in
    proved 𝓛 f.ended stayed c 𝓜 𝓡 (
      Goes-dropped 𝓛 0 (plain (λ _. RawPtr)) yes (λ κs x w. refl),
      (Goes-dropped 𝓛 0 (plain (λ _. usize)) yes (λ κs x w. refl), tt),
    )
    f.Key.name code.function (code.unfolded 𝓤 𝓛.H 𝓜 𝓡 wired)
    (λ κs. (rawptr_vals, (uint_vals w64, tt))) (λ κs. (rawptr_Tells, (uint_Tells w64, tt))) (λ κs qs bounds a _ are.
    let n : ℕ = a.1.0 in let fits = are.1.0.1 in let zs : List ℕ = replicate n 0 in
    let y : Ptr → W.Ghost = λ p. ((κs, qs, bounds, (p, (n, tt)), (rawptr_vals p, (vint w64 n ∷ [], tt))), tt) in
    qed 𝓛 (raw (on_entry 𝓛 f.signature κs qs a (y a.0).0.4) ∷ (raw (fact 𝓤 (n < 2 ^ 63)) ⊛
    ‵ (lies_at (Array u8 n) full_share a.0 zs)) ∷ []) ∵
    move ! (1 ∷ []) $ split ! $ heard ! (n < 2 ^ 63) (λ few.
    in_a_block ! a.0 (λ p. lies_at (Array u8 n) full_share p zs) (id⊢ 𝓤 _) (λ b o e.
    regoal ! (λ p. prop (WpFn 𝓤 𝓛.H 𝓣.C 𝓣.Λ code.function (ptr_val p ∷ vint w64 n ∷ []) (W.post (y p)))) e refl $
    keep ! (0 ∷ []) $
    enter ! _ _ _ _ _ $ alloc_all ! (λ l. pass_all ! refl ((tt, tt), ((tt, record { fits = fits }), tt)) $
    sets ! (agg ! (and_then ! (get ! refl) (no_more !))) refl (tt, (tt, tt)) $
    returns ! (look_at ! 0 refl) $ free_all ! refl $
    let p : Ptr = block_ptr b o in let long = length-replicate n 0 in
    rewrite ! 0 (λ (j : ℕ). ‵ (lies_at (Array u8 j) full_share p zs)) (sym long) refl $
    flt_i ! (length zs) (2 ^ 63) (subst (λ (j : ℕ). j < 2 ^ 63) (sym long) few) $ fjoin ! $
    use0 𝓛 (‵ (fields_own p (bytes_val p ∷ []))) (fields_made 𝓛 p) $ fjoin ! $
    use0 𝓛 (raw (fact 𝓤 (zs ≡ zs))) (fact_i 𝓤 (zs ≡ zs) (emp 𝓤) refl) $
    nothing ! $ nothing ! $ fjoin ! $ nothing ! $ fjoin ! $ nothing ! $ move ! (0 ∷ 1 ∷ 3 ∷ 2 ∷ []) $
    by ! (leaves 𝓛 f.ended stayed c (y p) (bytes_val p) (record { at = p; items = zs }) (tt, (tt, tt))
    (tt, (tt, tt)))))))
