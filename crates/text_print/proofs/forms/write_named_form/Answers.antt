use Rattle.std.proofs.Common.{refl, ap, ℕ, List, ◌++◌}
use Rattle.base_io.proofs.Outboxes.{gathers_first, nothing_yet, past_done, past_fault, past_last}
use Rattle.text_print.specs.Writing.{last_text}
use Rattle.text_print.proofs.Pieces.{words_parts}
use Rattle.text_print.proofs.forms.write_named_form.Goals as goal

pub returns-in-Fault : goal.returns-in-Fault
returns-in-Fault g c =
    gathers_first _ _ _ _ c.in-Fault.ensures

pub returns-in-Fault-write_spaced : goal.returns-in-Fault-write_spaced
returns-in-Fault-write_spaced g c =
    past_fault _ _ _ _ _ _ _ refl
    (past_done _ _ _ _ _ _ _ (ap (λ (rest : List ℕ). c.args.name.now ++ rest) (words_parts c.args.words.now
    (last_text c.args.last))) (nothing_yet _ _) c.in_default.ensures)
    c.in-Fault-write_spaced.ensures

pub returns : goal.returns
returns g c =
    past_last _ _ _ _ _ _
    (past_done _ _ _ _ _ _ _ refl (past_done _ _ _ _ _ _ _ (ap (λ (rest : List ℕ). c.args.name.now ++ rest)
    (words_parts c.args.words.now (last_text c.args.last))) (nothing_yet _ _) c.in_default.ensures)
    c.in_default-write_spaced.ensures)
    c.write_last.ensures
