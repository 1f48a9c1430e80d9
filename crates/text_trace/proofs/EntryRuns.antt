-- Reading entries one after the other, as the loop does.
use Rattle.std.proofs.Common.{◌≡◌, ℕ, zero, suc, ◌+◌, ◌-◌, ◌<◌, List, [], ◌∷◌, ◌++◌, length, Some, None, Result, Ok}
use Rattle.std.proofs.Common.{Err, refl, sym, ap, ◌∙◌, append_assoc, arith}
use Rattle.std.proofs.lemmas.List.{append-nil, length-append}
use Rattle.base_turns.specs.declared.entry.Entry.{Entry}
use Rattle.text_trace.specs.declared.fault.TraceFault.{TraceFault}
use Rattle.text_trace.specs.declared.fault.TraceFault.TheVariants as faults
use Rattle.text_trace.specs.TraceReading.{BadLine, behind_entries, read_line, entry_or_end, entries_at}
use Rattle.text_trace.specs.TraceRead.{FailsAt}

regroup : (prefix : List Entry) (e : Entry) (read : Result (List Entry × List ℕ) BadLine)
    → behind_entries prefix (behind_entries (e ∷ []) read) ≡ behind_entries (prefix ++ e ∷ []) read
regroup prefix e (Ok x) = ap (λ (es : List Entry). Ok (es, x.1)) (simp append_assoc)
regroup prefix e (Err f) = refl

-- what was read so far, and what is read on, with this room at first
abbrev pub IsSoFar : (room threads line : ℕ) → List ℕ → List Entry → Result (List Entry × List ℕ) BadLine → Type 0
IsSoFar room threads line rest prefix total = behind_entries prefix (entries_at (room - length prefix) threads line rest)
    ≡ total

room_left : (room : ℕ) (prefix : List Entry) (e : Entry) → length prefix < room → room - length prefix
    ≡ suc (room - length (prefix ++ e ∷ []))
room_left room prefix e lt = simp length-append (omega arith)

pub entry_goes_on : (room threads line : ℕ) (rest after : List ℕ) (prefix : List Entry) (e : Entry)
    (total : Result (List Entry × List ℕ) BadLine)
    → length prefix < room → read_line line (entry_or_end threads) rest ≡ Ok (Some e, after) → IsSoFar room threads line rest
    prefix total → IsSoFar room threads (line + 1) after (prefix ++ e ∷ []) total
unfolding entries_at
entry_goes_on room threads line rest after prefix e total lt h so_far =
    let k = room_left room prefix e lt in
    let one : behind_entries prefix (entries_at (room - length prefix) threads line rest) ≡ behind_entries (prefix ++ e ∷ [])
    (entries_at (room - length (prefix ++ e ∷ [])) threads (line + 1) after) = rw (k, h) (regroup prefix e _) in
    sym one ∙ so_far

at_fault : (k threads line : ℕ) (rest : List ℕ) (bad : BadLine) → 0 < k → read_line line (entry_or_end threads) rest
    ≡ Err bad → entries_at k threads line rest ≡ Err bad
unfolding entries_at
at_fault zero threads line rest bad some h = absurd (omega arith)
at_fault (suc k) threads line rest bad some h = rw h refl

at_end : (k threads line : ℕ) (rest after : List ℕ) → 0 < k → read_line line (entry_or_end threads) rest ≡ Ok (None, after)
    → entries_at k threads line rest ≡ Ok ([], after)
unfolding entries_at
at_end zero threads line rest after some h = absurd (omega arith)
at_end (suc k) threads line rest after some h = rw h refl

pub entry_fails : (fault : TraceFault) (room threads line : ℕ) (rest : List ℕ) (prefix : List Entry)
    (total : Result (List Entry × List ℕ) BadLine)
    → length prefix < room → FailsAt fault (read_line line (entry_or_end threads) rest) → IsSoFar room threads line rest prefix
    total → FailsAt fault total
entry_fails faults.NoMemory room threads line rest prefix total lt h so_far = tt
entry_fails (faults.Bad at why) room threads line rest prefix total lt h so_far =
    let bad : BadLine = record { line = at; why = why } in
    let one : behind_entries prefix (entries_at (room - length prefix) threads line rest) ≡ Err bad =
    rw (at_fault (room - length prefix) threads line rest bad (omega arith) h) refl in
    sym so_far ∙ one

pub entries_end : (room threads line : ℕ) (rest after : List ℕ) (prefix : List Entry)
    (total : Result (List Entry × List ℕ) BadLine)
    → length prefix < room → read_line line (entry_or_end threads) rest ≡ Ok (None, after) → IsSoFar room threads line rest
    prefix total → total ≡ Ok (prefix, after)
entries_end room threads line rest after prefix total lt h so_far =
    let one : behind_entries prefix (entries_at (room - length prefix) threads line rest) ≡ Ok (prefix, after) =
    rw (at_end (room - length prefix) threads line rest after (omega arith) h)
    (ap (λ (es : List Entry). Ok (es, after)) (append-nil prefix)) in
    sym so_far ∙ one
