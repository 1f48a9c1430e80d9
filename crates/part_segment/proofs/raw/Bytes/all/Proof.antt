-- `all` lends the bytes by a `&`: a walk of its MIR.
use Rattle.std.proofs.Common.{◌≡◌, ℕ, ◌+◌, ◌*◌, ◌^◌, List, [], ◌∷◌, length, refl, ap, arith, w64}
use Rattle.std.proofs.Words.{pointer_in, pointer_out}
use Rattle.std.proofs.raw_atomic.Walks.{proved}
use seplogic.Ra.Ura.{Ura}
use base.Logic.{ent, sep}
use base.Fml.{Fml, Lft, ftrue, flft, fhide}
use mir.Syntax.{named}
use mir.Val.{Val, vint, vptr}
use contract.Monad.{fact}
use contract.Running.{tables}
use types.Logic.{Logic, sem}
use types.Kit.{‵, raw, ◌⊛◌, at_ret, ◌$◌, ◌∵◌, !, qed, move, keep, drop, use1, split, join, fsplit, fjoin, flt_l, flt_i}
use types.Kit.{feq_i, suffices, frame, done}
use types.Part.{agg}
use types.Run.{enter, stop, fld, load, look, of_opd, and_then, no_more, first, blocks, exec, returns}
use types.ByLocal.{alloc_all, pass_all, free_all, look_at, get, through, sets, sets_last, env}
use denote.Builtin.{usize}
use denote.Exit.{yes}
use denote.Memory.{hidden_shr}
use denote.Opens.{shr_dup, unhide, hide}
use denote.Plain.{uint_vals, uint_Tells}
use denote.RattleType.{RattleType, RowLaws, owns}
use denote.RawPtr.{RawPtr, block_of, count_of, InBlock, ptr_row_laws}
use denote.Ref.{ShrRef, shr_vals, shr_Tells}
use denote.Signature.{plain}
use denote.Slice.{slice_val}
use denote.Steps.{nothing, heard}
use denote.Struct.Lending.{in_block_says, lent_out}
use denote.Struct.Owning.{shape}
use denote.Struct.Struct.{Struct, Struct-row_laws}
use denote.Triple.Walked.{Stays, walk_of, says, stay_dropped, stay_none_ref, Goes-dropped, Goes-none_ref, ends_at}
use Rattle.part_segment.specs.declared.raw.Bytes.{Bytes}
use Rattle.part_segment.specs.contracts.raw.Bytes.{the_row as R, the_type, struct as the_struct, the_codes, the_heap}
use Rattle.part_segment.specs.contracts.raw.Bytes.{the_lent}
use Rattle.part_segment.proofs.raw.Bytes.TheLaw.Met.{shares as law}
use Rattle.part_segment.specs.contracts.raw.Bytes.all as f
use Rattle.part_segment.proofs.raw.Bytes.all.Statement.{statement}
use Rattle.part_segment.proofs.raw.Bytes.all.Code as code

abbrev stayed : Stays f.ended.signature.params f.ended.kept
stayed = (stay_none_ref (0 ∷ []) tt (plain (λ _. R)) yes, (stay_dropped (plain (λ _. usize)) yes, tt))

abbrev Words : RattleType
Words = Struct (shape the_type)

-- a `&` to the one field
module _ {M : Type 1} {𝓤 : Ura M} (𝓛 : Logic 𝓤) (κ : Lft) (b o : ℕ) (h : Bytes) where
  abbrev S : Fml
  S = hidden_shr Words κ (h.at, tt) b o

  laws : RowLaws Words
  laws = Struct-row_laws (shape the_type) (ptr_row_laws, tt)

  shows_at : ent 𝓤 (sem 𝓛 S) (sep 𝓤 (sem 𝓛 (hidden_shr RawPtr κ h.at b (o + 0))) (sem 𝓛 S))
  shows_at = qed 𝓛 (‵ S ∷ []) ∵ shr_dup ! Words laws (h.at, tt) b o κ $ unhide ! $ fsplit ! $ fsplit ! $ hide ! $
      keep ! (0 ∷ 3 ∷ []) $ done !

pub all_spec : {M : Type 1} → statement M
all_spec 𝓤 𝓛 𝓜 𝓡 wired =
    let c = f.clauses 𝓛 𝓜.mem 𝓡.returns in let W = walk_of 𝓛 f.ended stayed c in let 𝓣 = tables 𝓤 𝓛.H 𝓜 𝓡 𝓡.env in
    proved 𝓛 f.ended stayed c 𝓜 𝓡 (
      Goes-none_ref 𝓛 1 (0 ∷ []) tt (plain (λ _. R)) yes,
      (Goes-dropped 𝓛 1 (plain (λ _. usize)) yes (λ κs x w. refl), tt),
    )
    f.Key.name code.function (code.unfolded 𝓤 𝓛.H 𝓜 𝓡 wired)
    (λ κs. (shr_vals, (uint_vals w64, tt))) (λ κs. (shr_Tells (named 0) κs.0 R, (uint_Tells w64, tt)))
    (λ κs qs bounds a _ are.
    let κ = κs.0 in let q = qs.0 in let b = a.0.ref_ptr.0 in let o = a.0.ref_ptr.1 in let h : Bytes = a.0.now in
    let n : ℕ = a.1.0 in let fn = are.1.0.1 in
    let at : ℕ × ℕ = (block_of h.at, count_of h.at) in
    let y : W.Ghost = ((κs, qs, bounds, a, (shr_vals a.0, (vint w64 n ∷ [], tt))), tt) in
    qed 𝓛 (((‵ (flft κ q) ⊛ ‵ ftrue) ⊛ ‵ (owns (ShrRef (named 0) κ R ∷ usize ∷ []) a y.0.4)) ∷ raw
    (fact 𝓤 (n ≡ length h.items)) ∷ []) ∵
    move ! (1 ∷ []) $
    heard ! _ (λ all. split ! $ move ! (1 ∷ []) $ fsplit ! $ move ! (2 ∷ []) $ split ! $ move ! (2 ∷ 0 ∷ []) $
    keep ! (0 ∷ 1 ∷ []) $
    -- [the reference; the token]
    enter ! _ _ _ _ _ $ alloc_all ! (λ l. pass_all ! refl ((tt, tt), ((tt, record { fits = fn }), tt)) $
    fsplit ! $ drop ! $ shr_dup ! R law.shr_laws h b o κ $
    use1 𝓛 (‵ (hidden_shr Words κ (h.at, tt) b o) ⊛ ‵ (fhide (the_lent h h.at κ)))
    (lent_out 𝓛 the_struct the_codes the_heap the_lent κ h b o) $ split ! $ move ! (1 ∷ []) $
    unhide ! $ fsplit ! $ flt_l ! (λ small. fsplit ! $ use1 𝓛 (raw (fact 𝓤 (InBlock h.at))) (in_block_says 𝓛 h.at) $
    heard ! (InBlock h.at) (λ inb. fsplit ! $ drop ! $ hide ! $
    -- [a `&` to the bytes; to the fields; to the struct; the token]
    move ! (1 ∷ 3 ∷ []) $ first ! $ blocks ! $
    pointer_in ! tt h.at inb b (o + 0) (shows_at 𝓛 κ b o h) (λ q'.
    sets ! (of_opd ! (load ! (through ! refl (fld ! refl (stop !))) (look ! 1 refl))) refl (tt, tt) $
    pointer_out ! tt h.at inb b (o + 0) $
    sets_last ! (agg ! (and_then ! (get ! refl) (and_then ! (get ! refl) (no_more !)))) refl
    (tt, (tt, (record { fits = fn }, tt))) $
    exec ! 𝓣.C 𝓣.Λ (env code.Mir.locals l) code.Mir.t-2 (at_ret _ (W.post y)) $
    sets ! (of_opd ! (get ! refl)) refl (tt, (tt, (record { fits = fn }, tt))) $
    returns ! (look_at ! 0 refl) $ free_all ! refl $
    -- [the token; a `&` to the fields; to the bytes; to the struct]
    keep ! (0 ∷ 3 ∷ 2 ∷ []) $
    suffices ! _ (ends_at 𝓛 f.ended stayed c y (slice_val at n) (record { ref_ptr = at; now = h.items }) (tt, (tt, tt))
    (tt, (tt, tt))) $ says ! refl $
    nothing ! $ move ! (1 ∷ 0 ∷ []) $ join ! $ frame ! $ feq_i ! (List Val) (vptr b o ∷ []) (vptr b o ∷ []) refl $
    fjoin ! $ nothing ! $ nothing ! $ fjoin ! $ move ! (1 ∷ 0 ∷ []) $ fjoin ! $ frame ! $
    flt_i ! (length h.items * 1) (2 ^ 63) (omega (arith, small)) $
    flt_i ! (length h.items) (2 ^ 64) (omega (arith, small)) $ fjoin ! $
    feq_i ! (List Val) (slice_val at n ∷ []) (slice_val at (length h.items) ∷ [])
    (ap (λ (k : ℕ). slice_val at k ∷ []) all) $ fjoin ! $ fjoin ! $ done !))))))
