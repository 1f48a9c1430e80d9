-- What the source and the sink in memory are, and what each of their calls does, exactly.
use Rattle.std.specs.Prelude.{◌≡◌, ℕ, ◌==◌, Bool, true, false, List, ◌++◌, length, take, drop, min}
use Rattle.std.specs.List.{list_any}
use Rattle.base_io.specs.Faults.{one_more}
use Rattle.base_io.specs.declared.source.Got.{Got}
use Rattle.base_io.specs.declared.source.Got.TheVariants as got
use Rattle.base_io.specs.declared.sink.Put.{Put}
use Rattle.base_io.specs.declared.sink.Put.TheVariants as put

-- a source in memory: the bytes left, the numbers of the calls that are to fail, the calls so far, and the faults
pub record SourceState : Type 0 where
  pub left : List ℕ
  pub fail : List ℕ
  pub calls : ℕ
  pub faults : ℕ

-- a sink in memory: the bytes taken, the numbers of the calls that are to fail, the calls so far, and the faults
pub record SinkState : Type 0 where
  pub taken : List ℕ
  pub fail : List ℕ
  pub calls : ℕ
  pub faults : ℕ

-- the call with this number is one that is to fail
abbrev pub is_listed : List ℕ → ℕ → Bool
is_listed fail call = list_any (λ listed. listed == call) fail

-- the source after a call that gave this many bytes
abbrev pub gave : SourceState → ℕ → SourceState
gave state n = record {
  left = drop n state.left;
  fail = state.fail;
  calls = one_more state.calls;
  faults = state.faults;
}

-- the source after a call that failed
abbrev pub read_failed : SourceState → SourceState
read_failed state = record {
  left = state.left;
  fail = state.fail;
  calls = one_more state.calls;
  faults = one_more state.faults;
}

-- a read: `Failed` exactly where its number is listed; else the end exactly where nothing is left; else the beginning of
-- what is left that there is room for
abbrev pub ReadsNext : SourceState → SourceState → Got → List ℕ → List ℕ → Type 0
ReadsNext old new (got.Got n) room filled =
    (is_listed old.fail (one_more old.calls) ≡ false)
    × ((length old.left == 0) ≡ false)
    × (n ≡ min (length old.left) (length room))
    × (new ≡ gave old n)
    × (filled ≡ take n old.left ++ drop n room)
ReadsNext old new got.End room filled =
    (is_listed old.fail (one_more old.calls) ≡ false) × (length old.left ≡ 0) × (new ≡ gave old 0) × (filled ≡ room)
ReadsNext old new got.Failed room filled =
    (is_listed old.fail (one_more old.calls) ≡ true) × (new ≡ read_failed old) × (filled ≡ room)

-- the sink after a call that took these bytes
abbrev pub took : SinkState → List ℕ → SinkState
took state bytes = record {
  taken = state.taken ++ bytes;
  fail = state.fail;
  calls = one_more state.calls;
  faults = state.faults;
}

-- the sink after a call that failed
abbrev pub write_failed : SinkState → SinkState
write_failed state = record {
  taken = state.taken;
  fail = state.fail;
  calls = one_more state.calls;
  faults = one_more state.faults;
}

-- a write: all of the bytes, and then its number isn't listed; or `Failed`, as a listed call, or for want of memory
abbrev pub WritesNext : SinkState → SinkState → Put → List ℕ → Type 0
WritesNext old new (put.Put n) bytes =
    (is_listed old.fail (one_more old.calls) ≡ false) × (n ≡ length bytes) × (new ≡ took old bytes)
WritesNext old new put.Failed bytes = new ≡ write_failed old
