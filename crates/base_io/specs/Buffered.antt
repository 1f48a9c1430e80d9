-- Sinks that gather bytes before another sink.
use Rattle.std.specs.Prelude.{◌≡◌, ◌≤◌, ℕ, ⊤, List, [], ◌++◌, take, Option}
use Rattle.std.specs.Io.KnownBytes.{Appends}
use Rattle.base_io.specs.Faults.{Rose}
use Rattle.base_io.specs.declared.sink.Put.{Put}
use Rattle.base_io.specs.declared.sink.Put.TheVariants as put
use Rattle.base_io.specs.declared.writing.Wrote.{Wrote}
use Rattle.base_io.specs.declared.writing.Wrote.TheVariants as wrote
use Rattle.base_io.specs.declared.buffered.TheConstants.{CAPACITY}

-- a sink that gathers: the sink behind it, the bytes that wait to go there, and how many more there is room for
pub record Gathering (K : Type 0) : Type 0 where
  pub inner : K
  pub pending : List ℕ
  pub room : ℕ

-- what went on to the sink behind, where it tells that; what waits; and the count of faults of the sink behind
pub record Outbox : Type 0 where
  pub given : Option (List ℕ)
  pub pending : List ℕ
  pub faults : ℕ

-- the outbox of a gathering sink, by what the sink behind it tells as taken, and by its count of faults
abbrev pub outbox : {K : Type 0} → (taken : K → Option (List ℕ)) → (faults : K → ℕ) → Gathering K → Outbox
outbox taken faults sink =
    record { given = taken sink.inner; pending = sink.pending; faults = faults sink.inner }

-- bytes went in behind those that waited; a prefix of all these went on, and the rest waits. Faults aren't forgotten
pub record Gathers (old new : Outbox) (bytes : List ℕ) : Type 0 where
  pub gone : List ℕ
  pub whole : old.pending ++ bytes ≡ gone ++ new.pending
  pub given : Appends old.given new.given gone
  pub later : old.faults ≤ new.faults

-- a prefix of the bytes went in, up to the rest
pub record GathersUpTo (old new : Outbox) (bytes rest : List ℕ) : Type 0 where
  pub prefix : List ℕ
  pub whole : bytes ≡ prefix ++ rest
  pub gathered : Gathers old new prefix

-- the sink behind failed, and no more bytes went in; some that waited may have gone on
pub record GathersNone (old new : Outbox) : Type 0 where
  pub gathered : Gathers old new []
  pub rose : Rose old.faults new.faults

-- the sink behind failed, and a prefix of the bytes went in, up to the rest
pub record GathersPrefix (old new : Outbox) (bytes : List ℕ) : Type 0 where
  pub rest : List ℕ
  pub went : GathersUpTo old new bytes rest
  pub rose : Rose old.faults new.faults

-- the bytes that a write took went in
abbrev pub GathersPut : Outbox → Outbox → Put → List ℕ → Type 0
GathersPut old new (put.Put n) bytes = Gathers old new (take n bytes)
GathersPut old new put.Failed bytes = GathersNone old new

-- all of the bytes went in, or at a fault of the sink behind a prefix of them
abbrev pub GathersAll : Outbox → Outbox → List ℕ → Wrote → Type 0
GathersAll old new bytes wrote.Done = Gathers old new bytes
GathersAll old new bytes wrote.Fault = GathersPrefix old new bytes

-- nothing more went in; after `Done` nothing waits
abbrev pub Flushes : Outbox → Outbox → Wrote → Type 0
Flushes old new wrote.Done = Gathers old new [] × (new.pending ≡ [])
Flushes old new wrote.Fault = GathersNone old new

-- after `Done` there is room for so many bytes
abbrev pub HasRoom : Wrote → (count room : ℕ) → Type 0
HasRoom wrote.Done count room = count ≤ room
HasRoom wrote.Fault count room = ⊤

-- the part of the buffer that waits; an empty one stands at the buffer's beginning
pub record IsInBuffer (start end : ℕ) : Type 0 where
  pub order : start ≤ end
  pub room : end ≤ CAPACITY
  pub empty : start ≡ end → end ≡ 0
