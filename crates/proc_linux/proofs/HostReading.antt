-- Hosts are read word by word.
use Rattle.std.specs.Prelude.{◌≡◌, ℕ, ◌+◌, ◌<◌, ◌≤◌, ◌==◌, true, false, cond, List, [], ◌∷◌, ◌++◌, length, filter, Option, Some, None, refl}
use Rattle.std.proofs.Common.{sym, ◌∙◌, ap, subst, arith}
use Rattle.std.specs.List.{AllZip, slice_split}
use Rattle.std.specs.Net.Grammar.{IsIpText}
use Rattle.std.specs.declared.net.ip_addr.IpAddr.{IpAddr}
use borrow.Author.Tests.{eqb-true}
use Rattle.std.proofs.lemmas.Iterator.{YieldsList}
use Rattle.std.proofs.lemmas.List.{append-nil, append_assoc, length-append}
use Rattle.std.proofs.lemmas.Slice.Zip.{AllZip-long}
use Rattle.proc_linux.specs.HostTexts.{HasHosts, has_bytes, host_words, is_between}

-- these hosts were read, and these pieces are left
pub record AreRead (text : List ℕ) (hosts : List IpAddr) (left : List (List ℕ)) : Type 0 where
  pub words : List (List ℕ)
  pub texts : AllZip IsIpText words hosts
  pub all : host_words text ≡ words ++ filter has_bytes left
  pub most : length hosts ≤ 256

-- the pieces that an iterator has left
module _ {S A B : Type 0} (steps : S → Option A → S → Type 0) (v : A → B) (s : S) where
  pub with_first : (ys : List B) (x : A) (t : S) → YieldsList steps v s ys → steps s (Some x) t → (more : List B) × (ys ≡ v x ∷ more) × YieldsList steps v t more
  with_first [] x t h k = absurd (h.runs x t k)
  with_first (y ∷ ys) x t h k = let n = h.runs.1 x t k in (ys, ap (λ z. z ∷ ys) (sym n.0), record { runs = n.1 })

  pub with_none : (ys : List B) (t : S) → YieldsList steps v s ys → steps s None t → ys ≡ []
  with_none [] t h k = refl
  with_none (y ∷ ys) t h k = absurd (h.runs.0 t k)

zip_last : {A B : Type 0} (R : A → B → Type 0) (xs : List A) (ys : List B) (x : A) (y : B) → AllZip R xs ys → R x y → AllZip R (xs ++ x ∷ []) (ys ++ y ∷ [])
zip_last R [] [] x y h r = (r, tt)
zip_last R [] (b ∷ ys) x y h r = absurd h
zip_last R (a ∷ xs) [] x y h r = absurd h
zip_last R (a ∷ xs) (b ∷ ys) x y h r = (h.0, zip_last R xs ys x y h.1 r)

-- what stands beside the second part of a list
zip_behind : {A B : Type 0} (R : A → B → Type 0) (xs more : List A) (all : List B) → AllZip R (xs ++ more) all → (behind : List B) × AllZip R more behind × (length all ≡ length xs + length behind)
zip_behind R [] more all h = (all, h, omega arith)
zip_behind R (x ∷ xs) more [] h = absurd h
zip_behind R (x ∷ xs) more (y ∷ ys) h = let r = zip_behind R xs more ys h.1 in (r.0, r.1, omega (arith, r.2))

full : (w : List ℕ) → (length w == 0) ≡ false → has_bytes w ≡ true
full [] h = cc
full (b ∷ w) h = refl

bare : (w : List ℕ) → (length w == 0) ≡ true → has_bytes w ≡ false
bare [] h = refl
bare (b ∷ w) h = let none : length (b ∷ w) ≡ 0 = eqb-true (length (b ∷ w)) 0 h in absurd (omega arith)

kept : (w : List ℕ) (left : List (List ℕ)) → (length w == 0) ≡ false → filter has_bytes (w ∷ left) ≡ w ∷ filter has_bytes left
kept w left h = ap (λ b. cond b (w ∷ filter has_bytes left) (filter has_bytes left)) (full w h)

dropped : (w : List ℕ) (left : List (List ℕ)) → (length w == 0) ≡ true → filter has_bytes (w ∷ left) ≡ filter has_bytes left
dropped w left h = ap (λ b. cond b (w ∷ filter has_bytes left) (filter has_bytes left)) (bare w h)

-- there is one beside the first, if there is a first
first_behind : (w : List ℕ) (words : List (List ℕ)) (behind : List IpAddr) → AllZip IsIpText (w ∷ words) behind → (n all : ℕ) → all ≡ n + length behind → (host : IpAddr) × IsIpText w host × (n < all)
first_behind w words [] h n all e = absurd h
first_behind w words (host ∷ behind) h n all e = (host, h.0, omega arith)

module _ (text : List ℕ) (hosts : List IpAddr) where
  pub empty_passed : (w : List ℕ) (left : List (List ℕ)) → AreRead text hosts (w ∷ left) → (length w == 0) ≡ true → AreRead text hosts left
  empty_passed w left h e = record { words = h.words; texts = h.texts; all = h.all ∙ ap (λ l. h.words ++ l) (dropped w left e); most = h.most }

  pub one_read : (w : List ℕ) (left : List (List ℕ)) (host : IpAddr) → AreRead text hosts (w ∷ left) → (length w == 0) ≡ false → IsIpText w host → length hosts < 256 → AreRead text (hosts ++ host ∷ []) left
  one_read w left host h e is room =
      record {
        words = h.words ++ w ∷ [];
        texts = zip_last IsIpText h.words hosts w host h.texts is;
        all = h.all ∙ ap (λ l. h.words ++ l) (kept w left e) ∙ sym (append_assoc h.words (w ∷ []) (filter has_bytes left));
        most = omega (arith, length-append hosts (host ∷ []));
      }

  -- the hosts of a text that goes on with this word
  goes_on : (w : List ℕ) (left : List (List ℕ)) (all : List IpAddr) → AreRead text hosts (w ∷ left) → (length w == 0) ≡ false → HasHosts text all
      → (host : IpAddr) × IsIpText w host × (length hosts < length all)
  goes_on w left all h e has =
      let words : host_words text ≡ h.words ++ w ∷ filter has_bytes left = h.all ∙ ap (λ l. h.words ++ l) (kept w left e) in
      let r = zip_behind IsIpText h.words (w ∷ filter has_bytes left) all (subst (λ (l : List (List ℕ)). AllZip IsIpText l all) words has.texts) in
      first_behind w (filter has_bytes left) r.0 r.1 (length hosts) (length all) (omega (arith, r.2, AllZip-long IsIpText h.words hosts h.texts))

  pub bad_word : (w : List ℕ) (left : List (List ℕ)) → AreRead text hosts (w ∷ left) → (length w == 0) ≡ false → ((host : IpAddr) → IsIpText w host → ⊥) → (all : List IpAddr) → HasHosts text all → ⊥
  bad_word w left h e bad all has = let r = goes_on w left all h e has in bad r.0 r.1

  pub too_many : (w : List ℕ) (left : List (List ℕ)) → AreRead text hosts (w ∷ left) → (length w == 0) ≡ false → 256 ≤ length hosts → (all : List IpAddr) → HasHosts text all → ⊥
  too_many w left h e many all has = let r = goes_on w left all h e has in omega (arith, r.2, has.most)

  last_words : AreRead text hosts [] → AllZip IsIpText (host_words text) hosts
  last_words h = subst (λ (l : List (List ℕ)). AllZip IsIpText l hosts) (sym (h.all ∙ append-nil h.words)) h.texts

  pub all_read : AreRead text hosts [] → 1 ≤ length hosts → HasHosts text hosts
  all_read h some = record { texts = last_words h; some = some; most = h.most }

  pub none_read : AreRead text hosts [] → length hosts ≡ 0 → (all : List IpAddr) → HasHosts text all → ⊥
  none_read h none all has = omega (arith, AllZip-long IsIpText (host_words text) hosts (last_words h), AllZip-long IsIpText (host_words text) all has.texts, has.some, none)

-- before the first piece
pub none_yet : (text : List ℕ) (hosts : List IpAddr) → hosts ≡ [] → AreRead text hosts (slice_split is_between text)
none_yet text hosts e =
    record {
      words = [];
      texts = subst (λ (l : List IpAddr). AllZip {A = List ℕ} IsIpText [] l) (sym e) tt;
      all = refl;
      most = omega (arith, ap length e);
    }
