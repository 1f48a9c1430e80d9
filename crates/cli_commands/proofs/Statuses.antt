-- What an exit status says, whatever the command.
use Rattle.std.proofs.Common.{◌≡◌, ◌⊎◌, inl, inr, ℕ, List, Option, Some, None, refl, ap, subst, arith}
use Rattle.std.specs.Prelude.{if◌then◌else◌, ◌==◌}
use Rattle.std.specs.List.{Contains}
use Rattle.base_text.specs.declared.why.LineWhy.{LineWhy}
use Rattle.cli_commands.specs.Outsides.{Call, took_in}
use Rattle.cli_commands.specs.Commands.{code_of}
use Rattle.cli_commands.specs.HowEnds.{EndsHow, EndMeans}
use Rattle.cli_commands.specs.Statuses.{CodeMeans}
use Rattle.cli_commands.specs.declared.ending.CommandEnd.{CommandEnd}
use Rattle.cli_commands.specs.declared.ending.CommandEnd.TheVariants as ends

-- the end with this exit status, if there is just one
abbrev end_at : ℕ → Option CommandEnd
end_at code =
    if code == 0 then Some ends.Done else
    if code == 1 then Some ends.Violations else
    if code == 2 then Some ends.Usage else
    if code == 4 then Some ends.ReadFault else
    if code == 5 then Some ends.WriteFault else
    if code == 6 then Some ends.LinkFault else
    if code == 7 then Some ends.SpawnFault else
    if code == 8 then Some ends.NoMemory else
    if code == 9 then Some ends.Stuck else
    if code == 10 then Some ends.JournalFull else None

known : (end : CommandEnd) → (end_at (code_of end) ≡ Some end) ⊎ (end_at (code_of end) ≡ None)
known ends.Done = inl refl
known ends.Violations = inl refl
known ends.Usage = inl refl
known (ends.BadJob line reason) = inr refl
known ends.ReadFault = inl refl
known ends.WriteFault = inl refl
known ends.LinkFault = inl refl
known ends.SpawnFault = inl refl
known ends.NoMemory = inl refl
known ends.Stuck = inl refl
known ends.JournalFull = inl refl
known (ends.NotARun node entry) = inr refl
known (ends.Child rank code) = inr refl

one_end : (end other : CommandEnd) → end_at (code_of other) ≡ Some other → code_of end ≡ code_of other → end ≡ other
one_end end other is same =
    let told = ap end_at same in
    elim (known end) [
      | inl its ↦ cc
      | inr none ↦ absurd (cc)
    ]

-- that of a bad job
a_bad_job : (end : CommandEnd) → code_of end ≡ 3 → (line : ℕ) × (reason : LineWhy) × (end ≡ ends.BadJob line reason)
a_bad_job (ends.BadJob line reason) e = (line, reason, refl)
a_bad_job ends.Done e = absurd (omega (arith, e))
a_bad_job ends.Violations e = absurd (omega (arith, e))
a_bad_job ends.Usage e = absurd (omega (arith, e))
a_bad_job ends.ReadFault e = absurd (omega (arith, e))
a_bad_job ends.WriteFault e = absurd (omega (arith, e))
a_bad_job ends.LinkFault e = absurd (omega (arith, e))
a_bad_job ends.SpawnFault e = absurd (omega (arith, e))
a_bad_job ends.NoMemory e = absurd (omega (arith, e))
a_bad_job ends.Stuck e = absurd (omega (arith, e))
a_bad_job ends.JournalFull e = absurd (omega (arith, e))
a_bad_job (ends.NotARun node entry) e = absurd (omega (arith, e))
a_bad_job (ends.Child rank code) e = absurd (omega (arith, e))

-- that of traces that are no run
not_a_run : (end : CommandEnd) → code_of end ≡ 11 → (node entry : ℕ) × (end ≡ ends.NotARun node entry)
not_a_run (ends.NotARun node entry) e = (node, entry, refl)
not_a_run (ends.BadJob line reason) e = absurd (omega (arith, e))
not_a_run (ends.Child rank code) e = absurd (omega (arith, e))
not_a_run ends.Done e = absurd (omega (arith, e))
not_a_run ends.Violations e = absurd (omega (arith, e))
not_a_run ends.Usage e = absurd (omega (arith, e))
not_a_run ends.ReadFault e = absurd (omega (arith, e))
not_a_run ends.WriteFault e = absurd (omega (arith, e))
not_a_run ends.LinkFault e = absurd (omega (arith, e))
not_a_run ends.SpawnFault e = absurd (omega (arith, e))
not_a_run ends.NoMemory e = absurd (omega (arith, e))
not_a_run ends.Stuck e = absurd (omega (arith, e))
not_a_run ends.JournalFull e = absurd (omega (arith, e))

-- that of a node that ended badly
a_child : (end : CommandEnd) → code_of end ≡ 12 → (rank status : ℕ) × (end ≡ ends.Child rank status)
a_child (ends.Child rank status) e = (rank, status, refl)
a_child (ends.BadJob line reason) e = absurd (omega (arith, e))
a_child (ends.NotARun node entry) e = absurd (omega (arith, e))
a_child ends.Done e = absurd (omega (arith, e))
a_child ends.Violations e = absurd (omega (arith, e))
a_child ends.Usage e = absurd (omega (arith, e))
a_child ends.ReadFault e = absurd (omega (arith, e))
a_child ends.WriteFault e = absurd (omega (arith, e))
a_child ends.LinkFault e = absurd (omega (arith, e))
a_child ends.SpawnFault e = absurd (omega (arith, e))
a_child ends.NoMemory e = absurd (omega (arith, e))
a_child ends.Stuck e = absurd (omega (arith, e))
a_child ends.JournalFull e = absurd (omega (arith, e))

-- how a call ended, by its end
abbrev EndedBy : Call → EndsHow → CommandEnd → Type 0
EndedBy call Ends end = EndMeans Ends (took_in call) call.given end

pub code_means : (call : Call) (Ends : EndsHow) (codes : List ℕ) (end : CommandEnd) → Contains codes (code_of end)
    → EndedBy call Ends end → CodeMeans call Ends codes (code_of end)
code_means call Ends codes end is_status h = record {
  is_status = is_status;
  ok = λ e. subst (EndedBy call Ends) (one_end end ends.Done refl e) h;
  violations = λ e. subst (EndedBy call Ends) (one_end end ends.Violations refl e) h;
  usage = λ e. subst (EndedBy call Ends) (one_end end ends.Usage refl e) h;
  bad_job = λ e. let bad = a_bad_job end e in (bad.0, bad.1, subst (EndedBy call Ends) bad.2 h);
  read_fault = λ e. subst (EndedBy call Ends) (one_end end ends.ReadFault refl e) h;
  write_fault = λ e. subst (EndedBy call Ends) (one_end end ends.WriteFault refl e) h;
  link_fault = λ e. subst (EndedBy call Ends) (one_end end ends.LinkFault refl e) h;
  spawn_fault = λ e. subst (EndedBy call Ends) (one_end end ends.SpawnFault refl e) h;
  no_memory = λ e. subst (EndedBy call Ends) (one_end end ends.NoMemory refl e) h;
  stuck = λ e. subst (EndedBy call Ends) (one_end end ends.Stuck refl e) h;
  journal_full = λ e. subst (EndedBy call Ends) (one_end end ends.JournalFull refl e) h;
  not_a_run = λ e. let none = not_a_run end e in (none.0, none.1, subst (EndedBy call Ends) none.2 h);
  child = λ e. let child = a_child end e in (child.0, child.1, subst (EndedBy call Ends) child.2 h);
}
