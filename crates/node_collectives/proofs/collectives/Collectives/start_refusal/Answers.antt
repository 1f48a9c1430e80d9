-- The first refusal of a start, by its tests.
use Rattle.std.proofs.Common.{ℕ, true, false, ap, refl, sym, ◌∙◌}
use Rattle.std.proofs.lemmas.Bool.{le-ltb, lt-ltb}
use Rattle.std.specs.Prelude.{◌+◌, nat_lt}
use Rattle.node_collectives.specs.CollectivesState.{CollectivesState, progress_of}
use Rattle.node_collectives.specs.Progress.{start_refusal}
use Rattle.node_collectives.specs.contracts.collectives.Collectives.{the_view}
use Rattle.node_collectives.proofs.Beginning.{all_started, bad_root, not_all_started, refusal_is}
use Rattle.node_collectives.proofs.collectives.Collectives.start_refusal.Goals as goal

pub returns-then-self-clause-refusal : goal.returns-then-self-clause-refusal
returns-then-self-clause-refusal c =
    refusal_is (the_view c.self.inside) c.args.shape c.args.from true _ _ _ _ (lt-ltb _ _ c.if-self.true) refl refl refl
    refl
    ∙ ap (λ (it : CollectivesState).
    start_refusal it.area it.settings.segment (progress_of it) c.args.shape c.args.from) c.self.view_is

pub returns-then-is_bad_root-clause-refusal : goal.returns-then-is_bad_root-clause-refusal
returns-then-is_bad_root-clause-refusal c =
    let root = sym (ap (bad_root c.args.shape) c.nodes.ensures.nodes)
    ∙ (sym c.is_bad_root.ensures ∙ c.if-is_bad_root.true) in
    refusal_is (the_view c.self.inside) c.args.shape c.args.from false true _ _ _ (le-ltb _ _ c.if-self.false) root refl
    refl refl
    ∙ ap (λ (it : CollectivesState).
    start_refusal it.area it.settings.segment (progress_of it) c.args.shape c.args.from) c.self.view_is

pub returns-then-is_bad_len-clause-refusal : goal.returns-then-is_bad_len-clause-refusal
returns-then-is_bad_len-clause-refusal c =
    let root = sym (ap (bad_root c.args.shape) c.nodes.ensures.nodes)
    ∙ (sym c.is_bad_root.ensures ∙ c.if-is_bad_root.false) in
    let len = sym c.is_bad_len.ensures ∙ c.if-is_bad_len.true in
    refusal_is (the_view c.self.inside) c.args.shape c.args.from false false true _ _ (le-ltb _ _ c.if-self.false) root
    len refl refl
    ∙ ap (λ (it : CollectivesState).
    start_refusal it.area it.settings.segment (progress_of it) c.args.shape c.args.from) c.self.view_is

pub returns-then-is_past-clause-refusal : goal.returns-then-is_past-clause-refusal
returns-then-is_past-clause-refusal c =
    let root = sym (ap (bad_root c.args.shape) c.nodes.ensures.nodes)
    ∙ (sym c.is_bad_root.ensures ∙ c.if-is_bad_root.false) in
    let len = sym c.is_bad_len.ensures ∙ c.if-is_bad_len.false in
    let past = sym (ap (λ (n : ℕ). nat_lt n (c.args.from + c.args.shape.len)) c.segment.ensures)
    ∙ (sym c.is_past.ensures ∙ c.if-is_past.true) in
    refusal_is (the_view c.self.inside) c.args.shape c.args.from false false false true _ (le-ltb _ _ c.if-self.false)
    root len past refl
    ∙ ap (λ (it : CollectivesState).
    start_refusal it.area it.settings.segment (progress_of it) c.args.shape c.args.from) c.self.view_is

pub returns-then-self-2-clause-refusal : goal.returns-then-self-2-clause-refusal
returns-then-self-2-clause-refusal c =
    let root = sym (ap (bad_root c.args.shape) c.nodes.ensures.nodes)
    ∙ (sym c.is_bad_root.ensures ∙ c.if-is_bad_root.false) in
    let len = sym c.is_bad_len.ensures ∙ c.if-is_bad_len.false in
    let past = sym (ap (λ (n : ℕ). nat_lt n (c.args.from + c.args.shape.len)) c.segment.ensures)
    ∙ (sym c.is_past.ensures ∙ c.if-is_past.false) in
    refusal_is (the_view c.self.inside) c.args.shape c.args.from false false false false true
    (le-ltb _ _ c.if-self.false) root len past (all_started _ c.if-self-2.true)
    ∙ ap (λ (it : CollectivesState).
    start_refusal it.area it.settings.segment (progress_of it) c.args.shape c.args.from) c.self.view_is

pub returns-clause-refusal : goal.returns-clause-refusal
returns-clause-refusal c =
    let root = sym (ap (bad_root c.args.shape) c.nodes.ensures.nodes)
    ∙ (sym c.is_bad_root.ensures ∙ c.if-is_bad_root.false) in
    let len = sym c.is_bad_len.ensures ∙ c.if-is_bad_len.false in
    let past = sym (ap (λ (n : ℕ). nat_lt n (c.args.from + c.args.shape.len)) c.segment.ensures)
    ∙ (sym c.is_past.ensures ∙ c.if-is_past.false) in
    refusal_is (the_view c.self.inside) c.args.shape c.args.from false false false false false
    (le-ltb _ _ c.if-self.false) root len past (not_all_started _ c.self.invariant.count c.if-self-2.false)
    ∙ ap (λ (it : CollectivesState).
    start_refusal it.area it.settings.segment (progress_of it) c.args.shape c.args.from) c.self.view_is
