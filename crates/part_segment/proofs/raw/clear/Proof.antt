-- `clear` writes the bytes one by one: a walk of its MIR.
use Rattle.std.proofs.Common.{◌≡◌, ℕ, ◌+◌, ◌-◌, ◌≤◌, ◌<◌, ◌^◌, List, [], ◌∷◌, ◌++◌, length, sym, refl, ap, ◌∙◌, arith}
use Rattle.std.proofs.Common.{lit<, ltb→lt, nltb→le, w8, w64, replicate}
use Rattle.std.proofs.lemmas.List.{replicate_more, length-replicate}
use Rattle.std.proofs.VecSteps.Shapes.{after}
use Rattle.std.proofs.raw_atomic.Walks.{proved}
use mathlib.Core.Path.{subst}
use mathlib.Core.WellFounded.InvImage
use Prim.Native.Nat.{suc}
use lib.WfN.{lt-wf_rel}
use seplogic.Ra.Ura.{Ura}
use base.Fraction.{full_share}
use base.Logic.{SProp, ent, sep, id⊢}
use base.Fml.{Fml, fat, froom}
use mir.Syntax.{ty_int, ty_array}
use mir.Val.{Val, vunit, vint, vptr}
use contract.Running.{tables, tables_of}
use prog.Wp.{Env, Out, Wp, WpFn, Tables, at_return, after_seq, after_block, after_turn}
use types.Logic.{Logic, sem}
use types.Kit.{Item, Sq, any_q, runs, ‵, raw, ◌⊛◌, prop, at_ret, ◌$◌, ◌∵◌, !, qed, by, move, keep, drop, use1, use2}
use types.Kit.{split, join, rewrite, regoal, fjoin, feq_i, suffices, group, done}
use types.Run.{stop, lit, bin, unit_lit, of_opd, init, assigns, first, blocks, skips, jumps, branches, exec, returns}
use types.Run.{enter, loops, again, Below}
use types.ByLocal.{alloc_all, pass_all, free_all, look_at, get, through, sets, sets_last, env, holding, forget_but}
use denote.Array.{Array}
use denote.ArrayMemory.{Array-whole}
use denote.Builtin.{u8, usize}
use denote.Exit.{yes}
use denote.Index.{row, whole_out}
use denote.Memory.{mem, part_at}
use denote.Plain.{uint_in, uint_vals, uint_Tells}
use denote.RawPtr.{Ptr, RawPtr, block_ptr, ptr_val, lies_at, room_at, in_a_block, rawptr_vals, rawptr_Tells}
use denote.Signature.{plain}
use denote.Steps.{nothing}
use denote.Triple.Entry.{on_entry}
use denote.Triple.Walked.{Stays, walk_of, stay_dropped, Goes-dropped, ends_at}
use borrow.Table.Elements.{at_byte, join_app}
use Rattle.part_segment.specs.contracts.raw.clear as f
use Rattle.part_segment.proofs.Cells.{bytes_at}
use Rattle.part_segment.proofs.raw.clear.Statement.{statement}
use Rattle.part_segment.proofs.raw.clear.Code as code

abbrev stayed : Stays f.ended.signature.params f.ended.kept
stayed = (stay_dropped (plain (λ _. RawPtr)) yes, (stay_dropped (plain (λ _. usize)) yes, tt))

module _ {M : Type 1} {𝓤 : Ura M} (𝓛 : Logic 𝓤) (𝓣 : Tables 𝓤 𝓛.H) (b o n : ℕ) (fn : n < 2 ^ 64) (Post : Val
    → SProp 𝓤) where
  open 𝓛 use {H}

  -- how many are written
  abbrev Written : Type 0
  Written = (i : ℕ) × (i ≤ n)

  abbrev Nearer : Written → Written → Type 0
  Nearer t u = n - t.0 < n - u.0

  abbrev zeros : ℕ → Fml
  zeros i = bytes_at 𝓛 (replicate i 0) b o

  abbrev left : ℕ → Fml
  left i = froom (ty_array (ty_int w8) (n - i)) b (i + o)

  one_out : (i : ℕ) → i < n
      → ent 𝓤 (sem 𝓛 (left i)) (sep 𝓤 (sem 𝓛 (froom (ty_int w8) b (i + o))) (sem 𝓛 (left (i + 1))))
  one_out i h =
      let e : suc (n - (i + 1)) ≡ n - i = omega arith in let p : i + o + 1 ≡ i + 1 + o = omega arith in
      subst (λ (k : ℕ). ent 𝓤 (sem 𝓛 (froom (ty_array (ty_int w8) k) b (i + o)))
      (sep 𝓤 (sem 𝓛 (froom (ty_int w8) b (i + o))) (sem 𝓛 (left (i + 1))))) e
      (subst (λ (k : ℕ). ent 𝓤 (sem 𝓛 (froom (ty_array (ty_int w8) (suc (n - (i + 1)))) b (i + o)))
      (sep 𝓤 (sem 𝓛 (froom (ty_int w8) b (i + o))) (sem 𝓛 (froom (ty_array (ty_int w8) (n - (i + 1))) b k)))) p
      (𝓛.laws.room_uncons (ty_int w8) (n - (i + 1)) b (i + o)))

  one_in : (i : ℕ)
      → ent 𝓤 (sep 𝓤 (sem 𝓛 (zeros i)) (sem 𝓛 (fat full_share (ty_int w8) b (i + o) (vint w8 0))))
      (sem 𝓛 (zeros (i + 1)))
  one_in i =
      let zs : List ℕ = replicate i 0 in
      qed 𝓛 (‵ (zeros i) ∷ ‵ (fat full_share (ty_int w8) b (i + o) (vint w8 0)) ∷ []) ∵ move ! (1 ∷ []) $
      use1 𝓛 (‵ (part_at u8 full_share 0 b (i + o))) (uint_in 𝓛 full_share w8 0 b (i + o)) $ nothing ! $
      move ! (1 ∷ 0 ∷ []) $ fjoin ! $
      use1 𝓛 (‵ (bytes_at 𝓛 (0 ∷ []) b (i + o))) (id⊢ 𝓤 _) $
      rewrite ! 0 (λ (k : ℕ). ‵ (bytes_at 𝓛 (0 ∷ []) b k)) (ap (λ (k : ℕ). k + o) (sym (length-replicate i 0))
      ∙ sym (at_byte o (length zs))) refl $ move ! (1 ∷ 0 ∷ []) $
      use2 𝓛 (‵ (bytes_at 𝓛 (zs ++ 0 ∷ []) b o)) (join_app 𝓛 (mem u8) zs (0 ∷ []) b o) $
      rewrite ! 0 (λ (z : List ℕ). ‵ (bytes_at 𝓛 z b o)) (replicate_more i 0) refl $ done !

  -- all of them, as an array
  all_in : ent 𝓤 (sem 𝓛 (zeros n)) (sem 𝓛 (lies_at (Array u8 n) full_share (block_ptr b o) (replicate n 0)))
  all_in =
      let zs : List ℕ = replicate n 0 in
      qed 𝓛 (‵ (zeros n) ∷ []) ∵ use1 𝓛 (‵ (row u8 full_share zs b o)) (whole_out 𝓛 u8 zs b o) $
      feq_i ! ℕ (length zs) n (length-replicate n 0) $ fjoin ! $
      by ! (Array-whole 𝓛 u8 full_share n zs b o)

  module _ (l : ℕ
      → ℕ) (ends : ent 𝓤 (sem 𝓛 (lies_at (Array u8 n) full_share (block_ptr b o) (replicate n 0))) (Post vunit)) where
    abbrev En : Env 𝓤 H
    En = env (code.function).locals l

    abbrev Now : Written → List (Item 𝓤)
    Now t = ‵ (zeros t.0) ∷ ‵ (left t.0) ∷ holding 𝓛 En ((1, vptr b o) ∷ (2, vint w64 n) ∷ (3, vint w64 t.0) ∷ [])

    abbrev Turned : Written → Out → SProp 𝓤
    Turned t =
        after_turn 𝓤 H (Below 𝓛 Nearer Now t)
        (after_block 𝓤 H
        (after_seq 𝓤 H (Wp 𝓤 H 𝓣.C 𝓣.Λ En code.Mir.t-3 (at_return 𝓤 H En Post)) (at_return 𝓤 H En Post)))

    turns : (t : Written) → Sq 𝓛 (Now t) (runs 𝓣.C 𝓣.Λ En code.Mir.turn-1 (any_q (Turned t)))
    unfolding after_turn
    turns t =
        let i : ℕ = t.0 in let le = t.1 in
        sets ! (bin ! (get ! refl) (get ! refl) tt) refl (tt, tt) $ first ! $ branches ! (get ! refl)
        (λ less. let h : i < n = ltb→lt i n less in let fj : i + 1 < 2 ^ 64 = omega (arith, h, fn) in
        skips ! $ exec ! 𝓣.C 𝓣.Λ En (after 2 code.Mir.turn-1) (any_q (Turned t)) $
        sets ! (bin ! (get ! refl) (get ! refl) tt) refl (tt, tt) $
        move ! (1 ∷ []) $ use1 𝓛 (‵ (froom (ty_int w8) b (i + o)) ⊛ ‵ (left (i + 1))) (one_out i h) $ split ! $
        assigns ! (of_opd ! (lit ! tt)) (through ! refl (stop !)) (init ! 0 refl (tt, record { fits = lit< tt })) $
        move ! (2 ∷ 0 ∷ []) $ use2 𝓛 (‵ (zeros (i + 1))) (one_in i) $
        sets_last ! (bin ! (get ! refl) (lit ! tt) (record { fits = fj })) refl (tt, record { fits = fj }) $
        forget_but ! En (1 ∷ 2 ∷ 3 ∷ []) refl $
        again ! Nearer Now t (i + 1, omega (arith, h)) (omega (arith, h)))
        (λ over. let ge = nltb→le i n over in let all : i ≡ n = omega arith in
        jumps ! $ exec ! 𝓣.C 𝓣.Λ En code.Mir.t-3 (at_ret En Post) $ rewrite ! 0 (λ (k : ℕ). ‵ (zeros k)) all refl $
        sets ! (of_opd ! (unit_lit !)) refl (tt, tt) $ returns ! (look_at ! 0 refl) $ free_all ! refl $
        keep ! (0 ∷ []) $
        use1 𝓛 (‵ (lies_at (Array u8 n) full_share (block_ptr b o) (replicate n 0))) all_in $ by ! ends)

pub clear_spec : {M : Type 1} → statement M
unfolding tables_of
clear_spec 𝓤 𝓛 𝓜 𝓡 wired =
    let c = f.clauses 𝓛 𝓜.mem 𝓡.returns in let W = walk_of 𝓛 f.ended stayed c in
    let 𝓣 : Tables 𝓤 𝓛.H = tables_of 𝓤 𝓛.H 𝓜 (tables 𝓤 𝓛.H 𝓜 𝓡 𝓡.env) in
    proved 𝓛 f.ended stayed c 𝓜 𝓡 (
      Goes-dropped 𝓛 0 (plain (λ _. RawPtr)) yes (λ κs x w. refl),
      (Goes-dropped 𝓛 0 (plain (λ _. usize)) yes (λ κs x w. refl), tt),
    )
    f.Key.name code.function (code.unfolded 𝓤 𝓛.H 𝓜 𝓡 wired)
    (λ κs. (rawptr_vals, (uint_vals w64, tt))) (λ κs. (rawptr_Tells, (uint_Tells w64, tt))) (λ κs qs bounds a _ are.
    let n : ℕ = a.1.0 in let fn = are.1.0.1 in
    let y : Ptr → W.Ghost = λ p. ((κs, qs, bounds, (p, (n, tt)), (rawptr_vals p, (vint w64 n ∷ [], tt))), tt) in
    qed 𝓛 (raw (on_entry 𝓛 f.signature κs qs a (y a.0).0.4) ∷ ‵ (room_at (Array u8 n) a.0) ∷ []) ∵ drop ! $
    in_a_block ! a.0 (λ p. room_at (Array u8 n) p) (id⊢ 𝓤 _) (λ b o e.
    regoal ! (λ p. prop (WpFn 𝓤 𝓛.H 𝓣.C 𝓣.Λ code.function (ptr_val p ∷ vint w64 n ∷ []) (W.post (y p)))) e refl $
    enter ! _ _ _ _ _ $ alloc_all ! (λ l. pass_all ! refl ((tt, tt), ((tt, record { fits = fn }), tt)) $
    sets ! (of_opd ! (lit ! tt)) refl (tt, record { fits = lit< tt }) $
    -- [the room; the locals]
    let P : Val → SProp 𝓤 = W.post (y (block_ptr b o)) in
    let whole : n ≡ n - 0 = omega arith in let start : o ≡ 0 + o = omega arith in
    let ends : ent 𝓤 (sem 𝓛 (lies_at (Array u8 n) full_share (block_ptr b o) (replicate n 0))) (P vunit) =
    qed 𝓛 (‵ (lies_at (Array u8 n) full_share (block_ptr b o) (replicate n 0)) ∷ []) ∵
    suffices ! _ (ends_at 𝓛 f.ended stayed c (y (block_ptr b o)) vunit tt (tt, (tt, tt)) (tt, (tt, tt))) $
    feq_i ! _ (vunit ∷ []) _ refl $ nothing ! $ nothing ! $ join ! $ nothing ! $ join ! $ nothing ! $ group ! 3 $
    done ! in
    rewrite ! 0 (λ (k : ℕ). ‵ (froom (ty_array (ty_int w8) k) b o)) whole refl $
    rewrite ! 0 (λ (k : ℕ). ‵ (froom (ty_array (ty_int w8) (n - 0)) b k)) start refl $ nothing ! $
    first ! $ blocks ! $
    loops ! 𝓣 (Nearer 𝓛 𝓣 b o n fn P) (InvImage.wf (λ (t : Written 𝓛 𝓣 b o n fn P). n - t.0) lt-wf_rel.wf)
    (Now 𝓛 𝓣 b o n fn P l ends) (turns 𝓛 𝓣 b o n fn P l ends) (0, omega arith))))
