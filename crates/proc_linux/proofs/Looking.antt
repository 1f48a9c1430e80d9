-- Strays are dropped one after the other.
use Rattle.std.specs.Prelude.{◌≡◌, ℕ, ◌+◌, ◌<◌, List, [], ◌∷◌, ◌++◌, length, map, take, Option, Some, None, Ok, Err, refl}
use Rattle.std.proofs.Common.{sym, ◌∙◌, ap, arith, inl, inr}
use Rattle.std.specs.IoError.{error_kind}
use Rattle.std.specs.List.{AllByRecursion}
use Rattle.std.specs.declared.io.Error.{Error}
use Rattle.std.specs.declared.io.ErrorKind.TheVariants.{WouldBlock}
use Rattle.std.specs.declared.net.ip_addr.IpAddr.{IpAddr}
use Rattle.std.specs.declared.net.socket_addr.SocketAddr.{SocketAddr}
use Rattle.std.proofs.lemmas.List.{append-nil, append_assoc, length-append, map-append}
use Rattle.base_io.specs.Told.{and_all, and_then}
use Rattle.proc_linux.specs.declared.arrivals.Bound.{Bound}
use Rattle.proc_linux.specs.Arrivals.{Arrival, FindsSender, TakesFirst}

-- so many strays were dropped, and nothing else came
pub record AreDropped (hosts : List IpAddr) (bound : Bound) (count : ℕ) (old new : Option (List Arrival)) : Type 0 where
  pub strays : List (List ℕ × SocketAddr)
  pub arrived : new ≡ and_all old (map Ok strays)
  pub each : AllByRecursion (λ stray. FindsSender hosts bound stray.1 None) strays
  pub counted : count ≡ length strays

and_more : {A : Type 0} (told : Option (List A)) (xs ys : List A) → and_all (and_all told xs) ys ≡ and_all told (xs ++ ys)
and_more None xs ys = refl
and_more (Some list) xs ys = ap Some (append_assoc list xs ys)

and_none : {A : Type 0} (told : Option (List A)) → told ≡ and_all told []
and_none None = refl
and_none (Some list) = ap Some (sym (append-nil list))

all_last : {A : Type 0} (P : A → Type 0) (xs : List A) (x : A) → AllByRecursion P xs → P x → AllByRecursion P (xs ++ x ∷ [])
all_last P [] x h p = (p, tt)
all_last P (y ∷ xs) x h p = (h.0, all_last P xs x h.1 p)

module _ (hosts : List IpAddr) (bound : Bound) (old : Option (List Arrival)) where
  pub none_dropped : AreDropped hosts bound 0 old old
  none_dropped = record { strays = []; arrived = and_none old; each = tt; counted = refl }

  -- what is told once something came after strays
  came : (count : ℕ) (new newer : Option (List Arrival)) (one : Arrival) → (h : AreDropped hosts bound count old new) → newer ≡ and_then new one → newer ≡ and_all old (map Ok h.strays ++ one ∷ [])
  came count new newer one h e = e ∙ ap (λ (t : Option (List Arrival)). and_then t one) h.arrived ∙ and_more old (map Ok h.strays) (one ∷ [])

  pub one_dropped : (count : ℕ) (new newer : Option (List Arrival)) (stray : List ℕ × SocketAddr) → AreDropped hosts bound count old new → newer ≡ and_then new (Ok stray) → FindsSender hosts bound stray.1 None → AreDropped hosts bound (count + 1) old newer
  one_dropped count new newer stray h e none =
      record {
        strays = h.strays ++ stray ∷ [];
        arrived = came count new newer (Ok stray) h e ∙ ap (and_all old) (sym (map-append {B = Arrival} Ok h.strays (stray ∷ [])));
        each = all_last (λ d. FindsSender hosts bound d.1 None) h.strays stray h.each none;
        counted = omega (arith, h.counted, length-append h.strays (stray ∷ []));
      }

  pub peer_taken : (count : ℕ) (new newer : Option (List Arrival)) (buf : List ℕ) (len peer : ℕ) (from : SocketAddr) → AreDropped hosts bound count old new → newer ≡ and_then new (Ok (take len buf, from)) → FindsSender hosts bound from (Some peer) → count < 64
      → TakesFirst hosts bound buf (record { strays = count; found = Ok (len, peer) }) old newer
  peer_taken count new newer buf len peer from h e finds room =
      record {
        strays = h.strays;
        last = Ok (take len buf, from) ∷ [];
        arrived = came count new newer (Ok (take len buf, from)) h e;
        each = h.each;
        counted = h.counted;
        ends = (from, refl, finds, room);
      }

  pub error_came : (count : ℕ) (new newer : Option (List Arrival)) (buf : List ℕ) (error : Error) → AreDropped hosts bound count old new → newer ≡ and_then new (Err error) → count < 64
      → TakesFirst hosts bound buf (record { strays = count; found = Err error }) old newer
  error_came count new newer buf error h e room =
      record {
        strays = h.strays;
        last = Err error ∷ [];
        arrived = came count new newer (Err error) h e;
        each = h.each;
        counted = h.counted;
        ends = inl (refl, room);
      }

  pub all_dropped : (count : ℕ) (new : Option (List Arrival)) (buf : List ℕ) (error : Error) → AreDropped hosts bound count old new → count ≡ 64 → error_kind error ≡ WouldBlock
      → TakesFirst hosts bound buf (record { strays = count; found = Err error }) old new
  all_dropped count new buf error h full kind =
      record {
        strays = h.strays;
        last = [];
        arrived = h.arrived ∙ ap (and_all old) (sym (append-nil (map Ok h.strays)));
        each = h.each;
        counted = h.counted;
        ends = inr (refl, full, kind);
      }
