use Rattle.std.proofs.Common.{◌≡◌, ℕ, List, [], ◌∷◌, ◌++◌, length, take, drop, refl, ap, sym, ◌∙◌, arith}
use Rattle.base_io.proofs.Outboxes.{past_done, past_fault, all_gathered}
use Rattle.std.specs.List.{flat_map}
use Rattle.std.proofs.lemmas.Bool.{eqb-true}
use Rattle.std.proofs.lemmas.List.{take-append-drop}
use Rattle.std.proofs.lemmas.List.Concat.{flat_map-append}
use Rattle.base_text.specs.HexBytes.{hex_byte}
use Rattle.base_text.proofs.digit_writer.write_digits.Goals as goal

-- the digits of bytes that were cut in two
cut_digits : (rest prefix back : List ℕ) (n : ℕ) → prefix ≡ take n rest → back ≡ drop n rest
    → flat_map hex_byte rest ≡ flat_map hex_byte prefix ++ flat_map hex_byte back
cut_digits rest prefix back n before after =
    ap (λ (z : List ℕ). flat_map hex_byte z) (sym (take-append-drop n rest))
    ∙ flat_map-append hex_byte (take n rest) (drop n rest)
    ∙ ap (λ (z : List ℕ). flat_map hex_byte z ++ flat_map hex_byte (drop n rest)) (sym before)
    ∙ ap (λ (z : List ℕ). flat_map hex_byte prefix ++ flat_map hex_byte z) (sym after)

no_digits : (rest : List ℕ) → length rest ≡ 0 → flat_map hex_byte rest ≡ []
no_digits [] none = refl
no_digits (byte ∷ rest) none = absurd (omega arith)

pub returns-in-Fault : goal.returns-in-Fault
returns-in-Fault g c =
    past_fault _ _ _ _ _ _ _ (cut_digits c.loop-rest.rest.now c.split_at.result.0.now c.split_at.result.1.now
    c.min.result c.split_at.ensures.front c.split_at.ensures.back) c.loop-rest.invariant c.in-Fault.ensures

pub loop-rest-preserved : goal.loop-rest-preserved
loop-rest-preserved g c =
    past_done _ _ _ _ _ _ _ (cut_digits c.loop-rest.rest.now c.split_at.result.0.now c.split_at.result.1.now
    c.min.result c.split_at.ensures.front c.split_at.ensures.back) c.loop-rest.invariant c.in_default.ensures

pub returns : goal.returns
returns g c = all_gathered _ _ _ _ (no_digits c.loop-rest.rest.now (eqb-true (length c.loop-rest.rest.now) 0
    (sym c.is_empty.ensures ∙ c.loop-rest-test.false))) c.loop-rest.invariant
