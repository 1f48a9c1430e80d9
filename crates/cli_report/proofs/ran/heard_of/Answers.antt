-- A text that was made, or none.
use Rattle.std.proofs.Common.{◌≡◌, ℕ, List, Result, Ok, Err, String, Global, IfOk, inl, inr, subst, sym, string_bytes}
use Rattle.std.specs.declared.alloc.AllocError.{AllocError}
use Rattle.cli_report.specs.Facts.{IsDroppedText, IsEndsText, IsLinkText, IsStartText}
use Rattle.cli_report.specs.Ran.{IsFindings, IsOrNothing, made_or_nothing}
use Rattle.cli_report.proofs.ran.heard_of.Goals as goal

or_nothing : (is : List ℕ → Type 0) (made : Result (String Global) AllocError) (text : List ℕ)
    → IfOk made (λ (own : String Global). is (string_bytes own)) → text ≡ made_or_nothing made → IsOrNothing is text
or_nothing is (Ok own) text so e = inl (subst is (sym e) so)
or_nothing is (Err fault) text so e = inr e

pub returns-clause-dropped : goal.returns-clause-dropped
returns-clause-dropped g c =
    or_nothing (IsDroppedText c.args.facts) c.dropped_text.result (string_bytes c.or_nothing.result)
    c.dropped_text.ensures c.or_nothing.ensures

pub returns-clause-findings : goal.returns-clause-findings
returns-clause-findings g c =
    or_nothing (IsFindings g.T.Texts g.R.Replays c.args.command.now c.args.outputs.items) c.findings.result
    (string_bytes c.or_nothing-2.result) c.findings.ensures c.or_nothing-2.ensures

pub returns-clause-ends : goal.returns-clause-ends
returns-clause-ends g c =
    or_nothing (IsEndsText (g.C.Children.ended c.args.children.now)) c.children_text.result
    (string_bytes c.or_nothing-3.result) c.children_text.ensures c.or_nothing-3.ensures

pub returns-clause-link : goal.returns-clause-link
returns-clause-link g c =
    or_nothing (IsLinkText c.args.facts.fault) c.link_text.result (string_bytes c.or_nothing-4.result)
    c.link_text.ensures c.or_nothing-4.ensures

pub returns-clause-start : goal.returns-clause-start
returns-clause-start g c =
    or_nothing (IsStartText c.args.facts.unstarted) c.start_text.result (string_bytes c.or_nothing-5.result)
    c.start_text.ensures c.or_nothing-5.ensures
