-- The job at the prefix and the outputs behind it are all, or why they are not.
use Rattle.std.proofs.Common.{ℕ, ◌+◌, sym, subst, ap, ◌∙◌}
use Rattle.std.proofs.lemmas.Result.{err_from_is_err_and}
use Rattle.cli_check.specs.CheckInputs.{IsBadInput, lines_in}
use Rattle.base_text.specs.declared.why.LineWhy.TheVariants as why
use Rattle.cli_check.proofs.Inputs.{bad_behind_all, begins_within, behind_refused, prefix_refused, is_input}
use Rattle.cli_check.proofs.input.input_of.Goals as goal

pub outputs_from-requires : goal.outputs_from-requires
outputs_from-requires c = record {
  few = c.requires;
  from = begins_within c.in-Ok.prefix.0 c.in-Ok.prefix.1 c.args.bytes.now c.in-Ok.ensures.found;
}

pub returns-in-Err-Bad : goal.returns-in-Err-Bad
returns-in-Err-Bad c =
    rw (c.in-Err-Bad.line-is, c.in-Err-Bad.why-is)
    (prefix_refused c.args.bytes.now c.in-Err-Bad.field-0 c.in-Err-Bad.line c.in-Err-Bad.why c.requires
    c.in-Err-Bad.field-0-is
    c.in-Err-Bad.ensures.bad c.in-Err-Bad.ensures.meant c.in-Err-Bad.ensures.none c.in-Err-Bad.ensures.told)

pub returns-in_err-outputs : goal.returns-in_err-outputs
returns-in_err-outputs c =
    let failed = err_from_is_err_and c.from_residual.result c.from_residual.ensures.1 in
    rw (failed.1, failed.2)
    (behind_refused c.in-Ok.prefix.0 c.in-Ok.prefix.1 c.args.bytes.now c.in_err-outputs.field-0.0
    c.in-Ok.ensures.found c.in-Ok.ensures.one c.requires c.in_err-outputs.ensures c.in-Ok.ensures.told)

pub returns-then-end-bytes : goal.returns-then-end-bytes
returns-then-end-bytes c =
    subst (λ (line : ℕ). IsBadInput c.args.bytes.now line why.After)
    (sym (ap (λ (count : ℕ). count + 1) (c.lines_in.ensures.is ∙ ap lines_in c.split_at.ensures.front)))
    (bad_behind_all c.in-Ok.prefix.0 c.in-Ok.prefix.1 c.args.bytes.now c.in_ok-outputs.outputs.items
    c.in_ok-outputs.end c.in-Ok.ensures.found c.in-Ok.ensures.one c.requires c.in_ok-outputs.ensures
    c.if-end-bytes.true c.in-Ok.ensures.told)

pub returns : goal.returns
returns c =
    is_input c.in-Ok.prefix.0 c.in-Ok.prefix.1 c.args.bytes.now c.in_ok-outputs.outputs.items
    c.in_ok-outputs.end c.in-Ok.ensures.found c.in-Ok.ensures.one c.requires c.in_ok-outputs.ensures
    c.if-end-bytes.false c.in-Ok.ensures.told
