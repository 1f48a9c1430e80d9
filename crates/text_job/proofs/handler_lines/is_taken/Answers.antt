use Rattle.std.proofs.Common.{rules, tests, sym, ◌∙◌, ◌==◌}
use Rattle.std.proofs.lemmas.Iterator.{YieldsList-from_slice}
use Rattle.std.proofs.lemmas.Iterator.Search.{any_from_yields_List}
use Rattle.base_text.proofs.Prefixes.{list_any_map}
use Rattle.text_job.proofs.handler_lines.is_taken.Goals as goal

pub returns : goal.returns
returns c =
    any_from_yields_List (λ h. h.index == c.args.index) _ _ c.any.result c.any.ensures.ran
    (YieldsList-from_slice c.args.handlers.now cc) (λ x b q k. search (rules, tests)) ∙ sym
    (list_any_map (λ t. t == c.args.index) (λ h. h.index) c.args.handlers.now)
