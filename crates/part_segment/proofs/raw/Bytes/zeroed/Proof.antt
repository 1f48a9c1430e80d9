-- `zeroed` asks for a block and clears it: a walk of its MIR.
use Rattle.std.proofs.Common.{◌≡◌, ℕ, ◌*◌, ◌^◌, ◌<◌, List, length, replicate, sym, ap, [], ◌∷◌, ◌++◌, refl, ◌∙◌, arith}
use Rattle.std.proofs.Common.{lit<, w64, Some, None}
use mir.Syntax.{Ty, Fn, Args, a_type, dcons, dnil}
use mir.Val.{Val, vint, vptr, vcons, vnil}
use mir.MapTy.{inst_fn}
use base.Logic.{SProp, emp, id⊢}
use base.Fml.{Lft, Share, ftrue, flft}
use prog.Capped.{capped_is}
use prog.Wp.{Env, WpFn}
use contract.BorrowLft.{◌⊑◌, ⊑_trans}
use contract.Monad.{fact, fact_i}
use contract.Running.{tables}
use types.Kit.{‵, raw, ◌⊛◌, later, prop, at_ret, ◌$◌, ◌∵◌, !, qed, by, move, drop, use0, use1, use2, split, join}
use types.Kit.{regoal, fsplit, fjoin, await}
use types.Part.{whole, agg}
use types.Match.{live, vrt, in_variant}
use types.Run.{stop, fld, lit, of_opd, no_more, and_then, first, switches_on, exec, returns, enter}
use types.ByLocal.{alloc_all, pass_all, free_all, look_at, get, get_in, get_tag, sets, sets_last, lands_as, env}
use denote.RattleType.{RattleType, owns}
use denote.RawPtr.{Ptr, block_ptr}
use denote.Param.{param, bounded}
use denote.Signature.{types_at, type_at}
use denote.Steps.{nothing, heard}
use denote.Struct.Tuple.{Tuple}
use denote.Triple.Entry.{alive}
use denote.Triple.Call.{calls_at}
use denote.Triple.Walked.{Stays, stay_dropped, walk_of, Goes-dropped}
use Rattle.std.proofs.alloc.Calls.{Al, seen, Takes, at_takes, Answered, Takes-goes, Takes-gives, answers}
use Rattle.std.proofs.alloc.Shapes.{after, head, arm_body}
use denote.Triple.Table.{framed}
use Rattle.part_segment.proofs.Made.{Some-of, none_of, pair_of, pair_val}
use Rattle.std.proofs.raw_atomic.Walks.{proved_at, leaves}
use Rattle.part_segment.proofs.Walks.{slot_at, then_runs, out_of_block}
use Rattle.part_segment.proofs.Values.{bytes_val, fields_own, fields_made, lease_val, lease_own, lease_made}
use Rattle.part_segment.specs.Ownership.{bytes_type}
use Rattle.part_segment.specs.contracts.raw.Bytes as bytes
use Rattle.part_segment.specs.contracts.raw.Lease as lease
use Rattle.std.proofs.lemmas.List.{length-replicate}
use mathlib.Core.Path.{subst}
use base.Fraction.{full_share}
use types.Kit.{some, pick, feq_i, feq_l, flt_i, settles, rewrite}
use types.Run.{blocks}
use types.ByLocal.{lands_last}
use mir.Syntax.{place}
use denote.Array.{Array}
use denote.Builtin.{u8, unit}
use denote.RawPtr.{lies_at, rawptr_vals}
use denote.Steps.{only}
use denote.Triple.Call.{calls_at_last}
use denote.Triple.Clauses.{lasts}
use denote.Triple.Spec.{triple_of}
use Rattle.part_segment.specs.contracts.raw.clear as k
use Rattle.part_segment.proofs.raw.clear.Met.{met as clear_met}
use Rattle.part_segment.specs.contracts.raw.Bytes.zeroed.{ended, clauses}
use Rattle.part_segment.specs.contracts.raw.Bytes.zeroed.Key.{name as #self}
use Rattle.part_segment.proofs.raw.Bytes.zeroed.Statement.{statement}
use Rattle.part_segment.proofs.raw.Bytes.zeroed.Code as compiled

pub zeroed_spec : {M : Type 1} → statement M
zeroed_spec 𝓤 𝓛 𝓜 𝓡 wired A L g d dd met md =
    let H = 𝓛.H in
    let En₀ = ended A g d dd in
    let c₀ = clauses A g d dd 𝓛 𝓜.mem 𝓡.returns in
    let args : Args = bounded (a_type ∷ []) (A, tt) (dcons d (dcons dd dnil)) in
    let fn : Fn = inst_fn args compiled.function in
    let stays : Stays En₀.signature.params En₀.kept = (
      stay_dropped (slot_at 0 En₀.signature.params) En₀.kept.0,
      (stay_dropped (slot_at 1 En₀.signature.params) En₀.kept.1.0, tt),
    ) in
    let c = c₀ in
    let C = (tables 𝓤 H 𝓜 𝓡 𝓡.env).C in
    let Λ = (tables 𝓤 H 𝓜 𝓡 𝓡.env).Λ in
    proved_at 𝓛 En₀ stays c 𝓜 𝓡 (
      Goes-dropped 𝓛 2 (slot_at 0 En₀.signature.params) En₀.kept.0 (λ κs x f. refl),
      (Goes-dropped 𝓛 2 (slot_at 1 En₀.signature.params) En₀.kept.1.0 (λ κs x f. refl), tt),
    ) (#self args) fn
    (compiled.unfolded 𝓤 H 𝓜 𝓡 wired (A, tt) d dd) (λ z are.
    let Post : Val → SProp 𝓤 = (walk_of 𝓛 En₀ stays c).post z in
    let a = z.0.3 in
    let vss = z.0.4 in
    let Y : Al = record { row = A; laws = L; g = g; d = d; drops = dd } in
    let κ : Lft = z.0.0.0 in
    let q : Share = z.0.1.0 in
    let Z : RattleType = param 0 A in
    let h = a.0.now in
    let at = a.0.ref_ptr in
    let n = a.1.0 in
    let τ : Ty = bytes_type n in
    let y = at_takes Y 𝓛 𝓜.mem 𝓡.returns κ q at h n 1 τ in
    let Out : RattleType = type_at En₀.signature.result z.0.0 in
    let Pair : RattleType = Tuple (bytes.the_row ∷ lease.the_row Z g ∷ []) in
    let Asked : Type 0 = n < 2 ^ 63 in
    qed 𝓛 ((raw (alive 𝓛 En₀.signature z.0.0 z.0.1) ⊛ ‵ (owns (types_at En₀.signature.params z.0.0) a vss)) ∷
    (raw (fact 𝓤 (z.0.0.1.0 ⊑ A.lives)) ⊛ raw (fact 𝓤 Asked)) ∷ []) ∵
    move ! (1 ∷ []) $ split ! $ heard ! (z.0.0.1.0 ⊑ A.lives) (λ le. heard ! Asked (λ asked. split ! $ move ! (1 ∷ []) $
    fsplit ! $ fsplit ! $ drop ! $ move ! (1 ∷ []) $ drop ! $ use1 𝓛 (‵ (seen Y κ at h)) (id⊢ 𝓤 _) $ move ! (1 ∷ []) $
    use1 𝓛 (‵ (flft κ q) ⊛ ‵ (flft z.0.0.1.0 z.0.1.1.0) ⊛ ‵ ftrue) (id⊢ 𝓤 _) $ split ! $ move ! (2 ∷ 0 ∷ []) $
    regoal ! (λ (us : List Val). prop (WpFn 𝓤 H C Λ fn us Post)) (λ i. are.0.0 i ++ (are.1.0.0 i ++ [])) refl $
    enter ! C Λ fn (vptr at.0 at.1 ∷ vint w64 n ∷ []) Post $
    alloc_all ! (λ l. pass_all ! refl ((tt, tt), ((tt, record { fits = are.1.0.1 }), tt)) $
    let En : Env 𝓤 𝓛.H = env fn.locals l in
    use2 𝓛 (raw ((Takes Y 𝓛 𝓜.mem 𝓡.returns).pre y))
    (Takes-goes Y 𝓛 𝓜.mem 𝓡.returns κ q at h (⊑_trans κ z.0.0.1.0 A.lives z.0.2.0 le) n 1 τ
    (capped_is (n * 1) (omega arith) ∙ omega arith) refl are.1.0.1 (lit< tt)) $
    calls_at ! (framed 𝓤 𝓛.H 𝓜 (tables 𝓤 𝓛.H 𝓜 𝓡 𝓡.env)) (Takes Y 𝓛 𝓜.mem 𝓡.returns) (met.allocate dd) y
    (and_then ! (get ! refl) (and_then ! (get ! refl) (and_then ! (lit ! tt) (no_more !)))) (λ v.
    use1 𝓛 (later (raw (Answered Y 𝓛 𝓜.mem 𝓡.returns h τ v) ⊛ ‵ (flft κ q)))
    (Takes-gives Y 𝓛 𝓜.mem 𝓡.returns κ q at h n 1 τ v) $ await ! tt $ split ! $
    answers Y ! 𝓜.mem 𝓡.returns h τ v
    (λ b o e. move ! (2 ∷ 3 ∷ []) $ join ! $ move ! (1 ∷ 2 ∷ []) $
    lands_as ! (e) refl (tt, (record { fits = lit< tt }, (tt, tt))) $
    first ! $ switches_on ! (get_tag ! (vrt ! refl (fld ! refl (stop !))) (whole !)) $
    exec ! C Λ En (arm_body 0 (head (after 1 fn.body))) (then_runs 𝓛 C Λ En (after 2 fn.body) (at_ret En Post)) $
    sets ! (of_opd ! (get_in ! (vrt ! refl (fld ! refl (stop !))) (in_variant ! 0 0 refl refl (whole !)))) refl
    (tt, tt) $
    let arm = arm_body 0 (head (after 1 fn.body)) in
    let after_arm = then_runs 𝓛 C Λ En (after 2 fn.body) (at_ret En Post) in
    let p : Ptr = block_ptr b o in let zs : List ℕ = replicate n 0 in let fits = are.1.0.1 in
    let G = triple_of 𝓛 k.signature (k.spec 𝓛 𝓜.mem 𝓡.returns) in
    let w : G.Ghost = ((tt, tt, tt, (p, (n, tt)), (rawptr_vals p, (vint w64 n ∷ [], tt))), tt) in
    first ! $ blocks ! $
    nothing ! $ flt_i ! n (2 ^ 64) fits $ feq_i ! (List Val) (vint w64 n ∷ []) (vint w64 n ∷ []) refl $ fjoin ! $
    fjoin ! $ feq_i ! (List Val) (vptr b o ∷ []) (vptr b o ∷ []) refl $ fjoin ! $ nothing ! $ join ! $ join ! $
    use1 𝓛 (raw (G.pre w)) (id⊢ 𝓤 _) $
    calls_at_last ! (framed 𝓤 𝓛.H 𝓜 (tables 𝓤 𝓛.H 𝓜 𝓡 𝓡.env)) G
    (clear_met 𝓤 𝓛 𝓜 𝓡 (compiled.calls-part_segment::raw::clear 𝓡.env wired)) w
    (and_then ! (get ! refl) (and_then ! (get ! refl) (no_more !))) (λ v'.
    use1 𝓛 (later
    (some (λ (r : Unit {0}). (‵ ftrue ⊛ ‵ (unit.own_val r (v' ∷ []))) ⊛ some
    (λ (ws : Unit {0} × (Unit {0} × Unit {0})). ‵ (lasts k.ended tt (p, (n, tt)) ws) ⊛
    ‵ (lies_at (Array u8 n) full_share p zs))))) (id⊢ 𝓤 _) $
    await ! tt $ pick ! (λ r. split ! $ split ! $ drop ! $ feq_l ! (λ is_unit. pick ! (λ ws. split ! $ drop ! $
    regoal ! (λ (u : Val). settles En (place 7 []) u (out_of_block 𝓛 (then_runs 𝓛 C Λ En (after 2 arm) after_arm)))
    (ap only is_unit) refl $ lands_last ! refl (tt, tt) $
    exec ! C Λ En (after 2 arm) after_arm $
    sets ! (agg ! (no_more !)) refl (tt, tt) $
    sets ! (agg ! (and_then ! (get ! refl) (no_more !))) refl (tt, (tt, tt)) $
    sets ! (agg ! (and_then ! (get ! refl) (no_more !))) refl (tt, (tt, tt)) $
    sets ! (agg ! (and_then ! (get ! refl) (and_then ! (get ! refl) (no_more !)))) refl
    (tt, ((tt, tt), ((tt, tt), tt))) $
    sets_last ! (agg ! (and_then ! (lit ! tt) (and_then ! (get ! refl) (no_more !)))) refl
    (tt, (record { fits = lit< tt }, (((tt, tt), ((tt, tt), tt)), tt))) $
    exec ! C Λ En (after 2 fn.body) (at_ret En Post) $
    sets ! (of_opd ! (get ! refl)) refl (tt, (record { fits = lit< tt }, (((tt, tt), ((tt, tt), tt)), tt))) $
    returns ! (look_at ! 0 refl) $ free_all ! refl $
    -- [the zeros; the token of the block; the tokens of the lifetimes]
    let x : (bytes.the_row).Denot = record { at = p; items = zs } in
    let m : (lease.the_row Z g).Denot = record { marker = record {}; alloc = h; at = p; len = n } in
    let v : Val = pair_val (bytes_val p) lease_val in let long = length-replicate n 0 in
    let Said : Type 0 = (zs ≡ zs) × (h ≡ h) × (p ≡ p) × (n ≡ n) in
    rewrite ! 0 (λ (j : ℕ). ‵ (lies_at (Array u8 j) full_share p zs)) (sym long) refl $
    flt_i ! (length zs) (2 ^ 63) (subst (λ (j : ℕ). j < 2 ^ 63) (sym long) asked) $ fjoin ! $
    use0 𝓛 (‵ (fields_own p (bytes_val p ∷ []))) (fields_made 𝓛 p) $ fjoin ! $ move ! (1 ∷ []) $
    use0 𝓛 (‵ (lease_own (lease_val ∷ []))) (lease_made 𝓛) $ fjoin ! $ move ! (1 ∷ 0 ∷ []) $
    use2 𝓛 (‵ ((Tuple (bytes.the_row ∷ lease.the_row Z g ∷ [])).own_val (x, m) (v ∷ [])))
    (pair_of 𝓛 (bytes.the_row) (lease.the_row Z g) x m (bytes_val p) lease_val) $
    use1 𝓛 (‵ (Out.own_val (Some (x, m)) (live 1 (vcons v vnil) ∷ []))) (Some-of 𝓛 Pair (x, m) v) $
    use0 𝓛 (raw (fact 𝓤 Said)) (fact_i 𝓤 Said (emp 𝓤) (refl, refl, refl, refl)) $ nothing ! $ nothing ! $ fjoin ! $
    nothing ! $ fjoin ! $ move ! (3 ∷ 0 ∷ 2 ∷ 1 ∷ []) $
    by ! (leaves 𝓛 En₀ stays c z (live 1 (vcons v vnil)) (Some (x, m)) (tt, (tt, tt)) (tt, (tt, tt))))))))
    (λ e. join ! $ lands_as ! (e) refl (tt, (record { fits = lit< tt }, (tt, tt))) $
    first ! $ switches_on ! (get_tag ! (vrt ! refl (fld ! refl (stop !))) (whole !)) $
    exec ! C Λ En (arm_body 1 (head (after 1 fn.body))) (then_runs 𝓛 C Λ En (after 2 fn.body) (at_ret En Post)) $
    sets_last ! (agg ! (and_then ! (lit ! tt) (no_more !))) refl (tt, (record { fits = lit< tt }, tt)) $
    exec ! C Λ En (after 2 fn.body) (at_ret En Post) $
    sets ! (of_opd ! (get ! refl)) refl (tt, (record { fits = lit< tt }, tt)) $
    returns ! (look_at ! 0 refl) $ free_all ! refl $
    use0 𝓛 (‵ (Out.own_val None (live 0 vnil ∷ []))) (none_of 𝓛 Pair) $
    use0 𝓛 (raw (fact 𝓤 (Unit {0}))) (fact_i 𝓤 (Unit {0}) (emp 𝓤) (tt)) $ nothing ! $ nothing ! $ fjoin ! $ nothing ! $
    fjoin ! $ move ! (3 ∷ 0 ∷ 2 ∷ 1 ∷ []) $
    by ! (leaves 𝓛 En₀ stays c z (live 0 vnil) (None) (tt, (tt, tt)) (tt, (tt, tt)))))))))
