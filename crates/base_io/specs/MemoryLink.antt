-- What the link in memory is, and what each of its calls does, exactly.
use Rattle.std.specs.Prelude.{◌≡◌, ℕ, true, false, List, [], ◌∷◌, ◌++◌, length, take, drop, min, Option, Some}
use Rattle.std.specs.Prelude.{slice_index_or, slice_set}
use Rattle.base_io.specs.Faults.{one_more}
use Rattle.base_io.specs.Memory.{is_listed}
use Rattle.base_io.specs.declared.link.LinkAnswer.{LinkAnswer}
use Rattle.base_io.specs.declared.link.LinkAnswer.TheVariants as answer
use Rattle.base_io.specs.declared.link.Received.{Received}
use Rattle.base_io.specs.declared.link.Received.TheVariants as received

-- a link in memory: what it is bound to, the datagrams sent, received and waiting, the numbers of the calls that are to
-- fail, the calls so far, and the faults
pub record LinkState : Type 0 where
  pub bound : Option (ℕ × ℕ × ℕ)
  pub sent : List (ℕ × List ℕ)
  pub received : List (List ℕ)
  pub waiting : List (List ℕ)
  pub fail : List ℕ
  pub calls : ℕ
  pub faults : ℕ

-- the link after a call that did nothing else
abbrev pub link_called : LinkState → LinkState
link_called state = record state { calls = one_more state.calls }

-- the link after a call that failed
abbrev pub call_failed : LinkState → LinkState
call_failed state = record state { calls = one_more state.calls; faults = one_more state.faults }

-- a bind: `Failed` exactly where its number is listed
abbrev pub BindsNext : LinkState → LinkState → LinkAnswer → ℕ × ℕ × ℕ → Type 0
BindsNext old new answer.Done place =
    (is_listed old.fail (one_more old.calls) ≡ false) × (new ≡ record (link_called old) { bound = Some place })
BindsNext old new answer.Failed place =
    (is_listed old.fail (one_more old.calls) ≡ true) × (new ≡ call_failed old)

-- a send: the datagram is the last one sent, and the call's number isn't listed; or `Failed`, as a listed call, or for
-- want of memory
abbrev pub SendsNext : LinkState → LinkState → LinkAnswer → ℕ × List ℕ → Type 0
SendsNext old new answer.Done datagram =
    (is_listed old.fail (one_more old.calls) ≡ false)
    × (new ≡ record (link_called old) { sent = old.sent ++ datagram ∷ [] })
SendsNext old new answer.Failed datagram = new ≡ call_failed old

-- the first of what waits goes into the beginning of the buffer, as much of it as there is room for
pub record ReceivesFirst (old new : LinkState) (n : ℕ) (room filled : List ℕ) : Type 0 where
  pub first : List ℕ
  pub rest : List (List ℕ)
  pub waiting : old.waiting ≡ first ∷ rest
  pub count : n ≡ min (length first) (length room)
  pub filled_is : filled ≡ take n first ++ drop n room
  pub new_is : new ≡ record (link_called old) { received = old.received ++ take n first ∷ []; waiting = rest }

-- a receive: `Failed` exactly where its number is listed; else `Empty` exactly where nothing waits; else the first
abbrev pub ReceivesNext : LinkState → LinkState → Received → List ℕ → List ℕ → Type 0
ReceivesNext old new (received.Got n) room filled =
    (is_listed old.fail (one_more old.calls) ≡ false) × ReceivesFirst old new n room filled
ReceivesNext old new received.Empty room filled =
    (is_listed old.fail (one_more old.calls) ≡ false) × (old.waiting ≡ []) × (new ≡ link_called old) × (filled ≡ room)
ReceivesNext old new received.Failed room filled =
    (is_listed old.fail (one_more old.calls) ≡ true) × (new ≡ call_failed old) × (filled ≡ room)

-- a datagram that is given out: its place among the datagrams and how many bytes of it go, with the datagrams and the
-- buffer before and after
pub record Giving : Type 0 where
  pub place : ℕ
  pub count : ℕ
  pub old : List (List ℕ)
  pub new : List (List ℕ)
  pub room : List ℕ
  pub filled : List ℕ

-- the datagram at this place is cut to so many bytes, and they go into the beginning of the buffer
pub record GivesDatagramAt (giving : Giving) : Type 0 where
  pub count : giving.count ≡ min (length (slice_index_or giving.old giving.place [])) (length giving.room)
  pub filled_is : giving.filled
      ≡ take giving.count (slice_index_or giving.old giving.place []) ++ drop giving.count giving.room
  pub new_is : giving.new
      ≡ slice_set giving.old giving.place (take giving.count (slice_index_or giving.old giving.place []))
