use Rattle.std.proofs.Common.{◌≡◌, ◌≤◌, ℕ, false, sym, ◌∙◌, refl}
use Rattle.std.specs.Prelude.{nat_lt}
use Rattle.std.proofs.lemmas.Bool.{le-ltb}
use Rattle.node_vis.proofs.Judging.{fault_known}
use Rattle.node_vis.proofs.runs.judged.Goals as goal

few : {many : ℕ} → many ≤ 1024 → nat_lt 1024 many ≡ false
few {many} is = le-ltb 1024 many is

pub returns-then-some_source : goal.returns-then-some_source
returns-then-some_source c =
    fault_known c.args.settings.now c.args.way c.args.runs.now _ _ _ _ (few c.requires.few)
    (sym c.some_source.ensures ∙ c.if-some_source.true) refl refl

pub returns-then-some_offset : goal.returns-then-some_offset
returns-then-some_offset c =
    fault_known c.args.settings.now c.args.way c.args.runs.now _ _ _ _ (few c.requires.few)
    (sym c.some_source.ensures ∙ c.if-some_source.false) (sym c.some_offset.ensures ∙ c.if-some_offset.true) refl

pub returns-then-meets : goal.returns-then-meets
returns-then-meets c =
    fault_known c.args.settings.now c.args.way c.args.runs.now _ _ _ _ (few c.requires.few)
    (sym c.some_source.ensures ∙ c.if-some_source.false) (sym c.some_offset.ensures ∙ c.if-some_offset.false)
    (sym c.in-Ok.ensures ∙ c.if-meets.true)

pub returns : goal.returns
returns c =
    fault_known c.args.settings.now c.args.way c.args.runs.now _ _ _ _ (few c.requires.few)
    (sym c.some_source.ensures ∙ c.if-some_source.false) (sym c.some_offset.ensures ∙ c.if-some_offset.false)
    (sym c.in-Ok.ensures ∙ c.if-meets.false)
