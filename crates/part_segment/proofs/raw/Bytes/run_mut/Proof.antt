-- `run_mut` lends a run of the bytes, and they follow it: a walk of its MIR.
use Rattle.std.proofs.Common.{◌≡◌, ℕ, ◌+◌, ◌≤◌, ◌<◌, ◌^◌, List, [], ◌∷◌, ◌++◌, length, take, sym, refl, ap, ◌∙◌, arith}
use Rattle.std.proofs.Common.{w64}
use Rattle.std.proofs.Common.{drop as drop_l}
use Rattle.std.proofs.raw_atomic.Walks.{proved}
use mathlib.Core.Path.{subst}
use seplogic.Ra.Ura.{Ura}
use base.Logic.{ent, sep, id⊢}
use base.Fml.{Fml, GName, ftrue, flft, fsep, feq}
use base.Fraction.{full_share}
use mir.Syntax.{named}
use mir.Val.{Val, vint}
use contract.Monad.{fact}
use contract.Running.{tables}
use types.Logic.{Logic, sem}
use types.Kit.{‵, raw, ◌⊛◌, some, later, at_ret, ◌$◌, ◌∵◌, !, qed, move, keep, drop, use1, use2, split, split3, join}
use types.Kit.{group, pick, rewrite, fsplit, fsplit3, fjoin, flt_l, flt_i, feq_i, fpack, await, suffices, frame, done}
use types.Part.{whole, sub, agg, look_in}
use types.Run.{enter, stop, fld, load, of_opd, bin, and_then, no_more, first, blocks, exec, returns}
use types.ByLocal.{alloc_all, pass_all, free_all, look_at, get, through, sets, sets_last, env}
use types.SemTy.{cells}
use denote.Array.{Array}
use denote.ArrayMemory.{Array-apart, Array-whole}
use denote.Builtin.{u8, usize}
use denote.Exit.{yes, no}
use denote.Follow.{follows}
use denote.FollowSlice.{lends_Elements}
use denote.Index.{row, whole_in, whole_out}
use denote.Laws.{shows}
use denote.Memory.{mem, cell_at, part_at, part_of}
use denote.Plain.{uint_vals, uint_Tells}
use denote.RattleType.{RattleType, owns}
use denote.RawPtr.{Ptr, block_ptr, lies_at, in_a_block}
use denote.Ref.{MutRef, mut_vals, mut_Tells}
use denote.Signature.{plain, mut_ref_to}
use denote.Slice.{MutSlice, Room, slice_val}
use denote.Steps.{nothing, heard, opens, peeks}
use denote.Struct.Owning.{shape}
use denote.Struct.Struct.{Struct}
use denote.Triple.Walked.{Stays, walk_of, says, stay_dropped, Goes-dropped, Goes-spent_ref, ends_at}
use Rattle.part_segment.specs.Bytes.{part, with_lent}
use Rattle.part_segment.specs.RawLending.{with_written_run}
use Rattle.part_segment.proofs.Cells.{bytes_at, Round, mid_out, mid_in}
use Rattle.part_segment.proofs.Lists.{three, part_long, with_lent_is, same_long}
use Rattle.part_segment.specs.declared.raw.Bytes.{Bytes}
use Rattle.part_segment.specs.contracts.raw.Bytes.{the_row as R, the_type}
use Rattle.part_segment.proofs.raw.Bytes.TheLaws.{lowers}
use Rattle.part_segment.specs.contracts.raw.Bytes.run_mut as f
use Rattle.part_segment.proofs.raw.Bytes.run_mut.Statement.{statement}
use Rattle.part_segment.proofs.raw.Bytes.run_mut.Code as code

abbrev stayed : Stays f.ended.signature.params f.ended.kept
stayed = (
  stay_dropped (mut_ref_to (0 ∷ []) tt (plain (λ _. R))) no,
  (stay_dropped (plain (λ _. usize)) yes, (stay_dropped (plain (λ _. usize)) yes, tt)),
)

abbrev Words : RattleType
Words = Struct (shape the_type)

-- the bytes lie at the offset p of the block m, and the struct at o of b
module _ {M : Type 1} {𝓤 : Ura M} (𝓛 : Logic 𝓤) (h : Bytes) (b o m p : ℕ) (at : h.at ≡ block_ptr m p) (i n : ℕ)
    (inside : i + n ≤ length h.items) (small : length h.items < 2 ^ 63) where
  abbrev xs : List ℕ
  xs = h.items

  abbrev before : List ℕ
  before = take i xs

  abbrev behind : List ℕ
  behind = drop_l (i + n) xs

  begins : length before + p ≡ i + p
  begins = ap (λ (k : ℕ). k + p) (Rattle.std.proofs.lemmas.List.length-take-le i xs (omega arith))

  -- the struct's own cell, at its one word
  abbrev Word : Fml
  Word = fsep (Words.own_val (h.at, tt) (lowers.lowered (record h { at = block_ptr m p }) ∷ []))
      (cell_at full_share R.mir (lowers.lowered (record h { at = block_ptr m p }) ∷ []) b o)

  abbrev Rest : Fml
  Rest = fsep (Round 𝓛 before behind m p (i + p) begins (length (part xs i n))) Word

  back : (ws : List ℕ) → length ws ≡ length (part xs i n)
      → ent 𝓤 (sep 𝓤 (sem 𝓛 (cells (mem u8) ws m (i + p))) (sem 𝓛 Rest))
      (sem 𝓛 ((mem R).own_at (with_written_run h i n ws) b o))
  unfolding part_of
  back ws l =
      let zs : List ℕ = with_lent xs i n ws in let ys : List ℕ = before ++ (ws ++ behind) in
      let is : zs ≡ ys = with_lent_is xs i n ws inside l in
      let long : length zs ≡ length xs = ap (λ (z : List ℕ). length z) is
      ∙ same_long xs i n ws inside (l ∙ part_long xs i n inside) in
      let word : List Val = lowers.lowered (record h { at = block_ptr m p }) ∷ [] in
      qed 𝓛 (‵ (bytes_at 𝓛 ws m (i + p)) ∷ ‵ Rest ∷ []) ∵ move ! (1 ∷ []) $ fsplit ! $ move ! (2 ∷ 0 ∷ []) $
      use2 𝓛 (‵ (bytes_at 𝓛 ys m p)) (mid_in 𝓛 before behind m p (i + p) begins ws (length (part xs i n)) l) $
      use1 𝓛 (‵ (row u8 full_share ys m p)) (whole_out 𝓛 u8 ys m p) $ feq_i ! ℕ (length ys) (length ys) refl $ fjoin ! $
      use1 𝓛 (‵ (part_at (Array u8 (length ys)) full_share ys m p)) (Array-whole 𝓛 u8 full_share (length ys) ys m p) $
      rewrite ! 0 (λ (z : List ℕ). ‵ (lies_at (Array u8 (length z)) full_share (block_ptr m p) z)) (sym is) refl $
      rewrite ! 0 (λ (z : Ptr). ‵ (lies_at (Array u8 (length zs)) full_share z zs)) (sym at) refl $
      flt_i ! (length zs) (2 ^ 63) (subst (λ (k : ℕ). k < 2 ^ 63) (sym long) small) $ fjoin ! $
      move ! (1 ∷ []) $ fsplit ! $ move ! (0 ∷ 2 ∷ 1 ∷ []) $ fjoin ! $ move ! (1 ∷ 0 ∷ []) $ fjoin ! $
      fpack ! (List Val)
      (λ us. fsep (cell_at full_share R.mir us b o) (R.own_val (with_written_run h i n ws) us)) word $ done !

pub run_mut_spec : {M : Type 1} → statement M
run_mut_spec 𝓤 𝓛 𝓜 𝓡 wired =
    let c = f.clauses 𝓛 𝓜.mem 𝓡.returns in let W = walk_of 𝓛 f.ended stayed c in let 𝓣 = tables 𝓤 𝓛.H 𝓜 𝓡 𝓡.env in
    let num = Goes-dropped 𝓛 1 (plain (λ _. usize)) yes (λ κs x w. refl) in
    proved 𝓛 f.ended stayed c 𝓜 𝓡 (Goes-spent_ref 𝓛 1 (0 ∷ []) tt (plain (λ _. R)), (num, (num, tt)))
    f.Key.name code.function (code.unfolded 𝓤 𝓛.H 𝓜 𝓡 wired)
    (λ κs. (mut_vals, (uint_vals w64, (uint_vals w64, tt))))
    (λ κs. (mut_Tells (named 0) κs.0 R, (uint_Tells w64, (uint_Tells w64, tt))))
    (λ κs qs bounds a _ are.
    let κ = κs.0 in let q = qs.0 in let b = a.0.ref_ptr.0 in let o = a.0.ref_ptr.1 in let γ = a.0.ghost_name in
    let h : Bytes = a.0.now in let xs : List ℕ = h.items in
    let i : ℕ = a.1.0 in let n : ℕ = a.1.1.0 in let fi = are.1.0.1 in let fn = are.1.1.0.1 in
    let y : W.Ghost = ((κs, qs, bounds, a, (mut_vals a.0, (vint w64 i ∷ [], (vint w64 n ∷ [], tt)))), tt) in
    qed 𝓛 (((‵ (flft κ q) ⊛ ‵ ftrue) ⊛ ‵ (owns (MutRef (named 0) κ R ∷ usize ∷ usize ∷ []) a y.0.4)) ∷ raw
    (fact 𝓤 (i + n ≤ length xs)) ∷ []) ∵
    move ! (1 ∷ []) $
    heard ! _ (λ inside. split ! $ move ! (1 ∷ []) $ fsplit ! $ move ! (2 ∷ []) $ split ! $ move ! (2 ∷ 0 ∷ []) $
    keep ! (0 ∷ 1 ∷ []) $
    -- [the reference; the token]
    enter ! _ _ _ _ _ $
    alloc_all ! (λ l. pass_all ! refl ((tt, tt), ((tt, record { fits = fi }), ((tt, record { fits = fn }), tt))) $
    fsplit3 ! $ drop ! $ move ! (0 ∷ 1 ∷ 2 ∷ []) $ opens ! tt R b o (λ us.
    move ! (1 ∷ []) $ peeks ! R _ (shows 𝓛 R) h us (λ is. fsplit ! $ move ! (1 ∷ []) $ fsplit ! $ flt_l ! (λ small.
    in_a_block ! h.at (λ p. lies_at (Array u8 (length xs)) full_share p xs) (id⊢ 𝓤 _) (λ m p e.
    let run : List ℕ = part xs i n in let ln : length run ≡ n = part_long xs i n inside in
    let F : List ℕ → Bytes = with_written_run h i n in
    let room : Room u8 (length run) = (omega (arith, ln, fn), omega (arith, ln, small, inside)) in
    let word = lowers.val_is h us is ∙ ap (λ (z : Ptr). lowers.lowered (record h { at = z }) ∷ []) e in
    -- [the bytes; what the fields own; the struct's cell; the open borrow, in three entries]
    use1 𝓛 (‵ (fsep (feq ℕ (length xs) (length xs)) (row u8 full_share xs m p)))
    (Array-apart 𝓛 u8 full_share tt (length xs) xs m p) $ fsplit ! $ drop ! $
    use1 𝓛 (‵ (bytes_at 𝓛 xs m p)) (whole_in 𝓛 u8 xs m p) $
    rewrite ! 1 (λ (ws : List Val). ‵ (Words.own_val (h.at, tt) ws)) word refl $
    rewrite ! 2 (λ (ws : List Val). ‵ (cell_at full_share R.mir ws b o)) word refl $
    first ! $ blocks ! $
    sets ! (of_opd ! (load ! (through ! refl (fld ! refl (stop !))) (look_in ! 2 (sub ! 0 refl (whole !))))) refl
    (tt, tt) $
    sets ! (bin ! (get ! refl) (get ! refl) tt) refl (tt, tt) $
    sets_last ! (agg ! (and_then ! (get ! refl) (and_then ! (get ! refl) (no_more !)))) refl
    (tt, (tt, (record { fits = fn }, tt))) $
    exec ! 𝓣.C 𝓣.Λ (env code.Mir.locals l) code.Mir.t-2 (at_ret _ (W.post y)) $
    sets ! (of_opd ! (get ! refl)) refl (tt, (tt, (record { fits = fn }, tt))) $
    rewrite ! 0 (λ (z : List ℕ). ‵ (bytes_at 𝓛 z m p)) (three xs i n) refl $
    use1 𝓛 (‵ (bytes_at 𝓛 run m (i + p)) ⊛
    ‵ (Round 𝓛 (take i xs) (drop_l (i + n) xs) m p (i + p) (begins 𝓛 h b o m p e i n inside small) (length run)))
    (mid_out 𝓛 (take i xs) (drop_l (i + n) xs) m p (i + p) (begins 𝓛 h b o m p e i n inside small) run) $
    split ! $
    move ! (2 ∷ 3 ∷ []) $ fjoin ! $ move ! (2 ∷ 0 ∷ []) $ fjoin ! $ move ! (2 ∷ 3 ∷ 4 ∷ 1 ∷ 0 ∷ []) $ group ! 5 $
    use1 𝓛 (later
    (some (λ (γ' : GName).
    ‵ ((MutSlice (named 0) κ u8).own_val (record { ref_ptr = (m, i + p); ghost_name = γ'; now = run })
    (slice_val (m, i + p) (length run) ∷ [])) ⊛ ‵ (flft κ q) ⊛ ‵ (follows R (Array u8 0) γ γ' F))))
    (lends_Elements 𝓛 R u8 F (named 0) κ q b o m (i + p) γ run room (sem 𝓛 (Rest 𝓛 h b o m p e i n inside small))
    (back 𝓛 h b o m p e i n inside small) (R.coded.code h) (R.coded.code h)) $ await ! tt $ pick ! (λ γ'. split3 ! $
    returns ! (look_at ! 0 refl) $ free_all ! refl $ keep ! (0 ∷ 1 ∷ 2 ∷ []) $
    rewrite ! 0
    (λ (k : ℕ). ‵ ((MutSlice (named 0) κ u8).own_val (record { ref_ptr = (m, i + p); ghost_name = γ'; now = run })
    (slice_val (m, i + p) k ∷ []))) ln refl $
    suffices ! _
    (ends_at 𝓛 f.ended stayed c y (slice_val (m, i + p) n) (record {
      ref_ptr = (m, i + p);
      ghost_name = γ';
      now =
          run;
    }) (tt, (tt, (tt, tt))) (tt, (tt, (tt, tt)))) $
    nothing ! $ nothing ! $ fjoin ! $ nothing ! $ fjoin ! $ nothing ! $ fjoin ! $ join ! $ nothing ! $
    move ! (2 ∷ 0 ∷ []) $ join ! $ join ! $ frame ! $ says ! refl $ done !))))))))
