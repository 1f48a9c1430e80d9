-- The cells of a row of bytes: the second of three lists comes out, and goes back.
use mathlib.Core.Path.{◌≡◌, refl, sym, ap, ◌∙◌}
use Prim.Native.Nat.{ℕ, ◌+◌}
use mathlib.Core.List.{List, [], ◌∷◌, ◌++◌}
use lib.ListN.{length}
use seplogic.Ra.Ura.{Ura}
use base.Logic.{ent, sep}
use base.Fml.{Fml, fsep}
use types.Logic.{Logic, sem}
use types.Kit.{‵, ◌⊛◌, ◌$◌, ◌∵◌, !, qed, move, use1, use2, split, rewrite, fsplit, fjoin, done}
use types.SemTy.{SemTy, cells, Arr}
use denote.Memory.{mem}
use denote.Builtin.{u8}
use borrow.Table.Elements.{at, at_byte, cut_app, join_app}

abbrev pub L : ℕ → SemTy
L n = Arr (mem u8) n

module _ {M : Type 1} {𝓤 : Ura M} (𝓛 : Logic 𝓤) where
  open 𝓛 use {H, A}

  abbrev pub bytes_at : List ℕ → ℕ → ℕ → Fml
  bytes_at xs b o = cells (mem u8) xs b o

  -- the second of three lists comes out, and goes back
  module _ (p r : List ℕ) (b o o' : ℕ) (i : length p + o ≡ o') where
    abbrev pub Round : ℕ → Fml
    Round n = fsep (bytes_at p b o) (bytes_at r b (n + o'))

    pub mid_out : (q : List ℕ)
        → ent 𝓤 (sem 𝓛 (bytes_at (p ++ (q ++ r)) b o)) (sep 𝓤 (sem 𝓛 (bytes_at q b o')) (sem 𝓛 (Round (length q))))
    mid_out q = qed 𝓛 (‵ (bytes_at (p ++ (q ++ r)) b o) ∷ []) ∵
        use1 𝓛 (‵ (bytes_at p b o) ⊛ ‵ (bytes_at (q ++ r) b (at o (mem u8).size (length p))))
        (cut_app 𝓛 (mem u8) p (q ++ r) b o) $ split ! $ move ! (1 ∷ []) $
        rewrite ! 0 (λ (k : ℕ). ‵ (bytes_at (q ++ r) b k)) (at_byte o (length p) ∙ i) refl $
        use1 𝓛 (‵ (bytes_at q b o') ⊛ ‵ (bytes_at r b (at o' (mem u8).size (length q)))) (cut_app 𝓛 (mem u8) q r b o') $
        split ! $
        rewrite ! 1 (λ (k : ℕ). ‵ (bytes_at r b k)) (at_byte o' (length q)) refl $ move ! (2 ∷ 1 ∷ []) $ fjoin ! $
        move ! (1 ∷ 0 ∷ []) $ done !

    pub mid_in : (q : List ℕ) (n : ℕ) → length q ≡ n
        → ent 𝓤 (sep 𝓤 (sem 𝓛 (bytes_at q b o')) (sem 𝓛 (Round n))) (sem 𝓛 (bytes_at (p ++ (q ++ r)) b o))
    mid_in q n l = qed 𝓛 (‵ (bytes_at q b o') ∷ ‵ (Round n) ∷ []) ∵ move ! (1 ∷ []) $ fsplit ! $ move ! (2 ∷ 1 ∷ []) $
        rewrite ! 1 (λ (k : ℕ). ‵ (bytes_at r b k)) (ap (λ (k : ℕ). k + o') (sym l)
        ∙ sym (at_byte o' (length q))) refl $
        use2 𝓛 (‵ (bytes_at (q ++ r) b o')) (join_app 𝓛 (mem u8) q r b o') $
        rewrite ! 0 (λ (k : ℕ). ‵ (bytes_at (q ++ r) b k)) (sym i ∙ sym (at_byte o (length p))) refl $
        move ! (1 ∷ 0 ∷ []) $
        use2 𝓛 (‵ (bytes_at (p ++ (q ++ r)) b o)) (join_app 𝓛 (mem u8) p (q ++ r) b o) $ done !
