-- How children ended, and the files that are kept of them.
use Rattle.std.specs.Prelude.{ℕ, List, ◌++◌, Option, Some, None, codes, decimal, fold, ◌==◌, ℤ, if◌then◌else◌}
use Rattle.proc_linux.specs.declared.child_ends.ChildEnd.{ChildEnd}

-- how the last child of this rank ended, by all ends in order
abbrev pub last_end : (rank : ℕ) → List (ℕ × ChildEnd) → Option ChildEnd
last_end rank ends = fold (λ last end. if end.0 == rank then Some end.1 else last) None ends

-- the path of a child's file in a folder
abbrev pub kept_path : (folder : List ℕ) (rank : ℕ) (ending : List ℕ) → List ℕ
kept_path folder rank ending = folder ++ (codes "/" ++ (decimal rank ++ (codes "." ++ ending)))

-- the first child that couldn't be started, with the number of the error, once this one couldn't
abbrev pub first_unstarted : Option (ℕ × ℤ) → (rank : ℕ) → Option ℤ → Option (ℕ × ℤ)
first_unstarted (Some first) rank code = Some first
first_unstarted None rank (Some code) = Some (rank, code)
first_unstarted None rank None = None
