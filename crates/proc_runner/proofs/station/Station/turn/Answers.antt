use Rattle.std.proofs.Common.{sym, subst, ap, ◌∙◌, ◌≡◌, None, rules, arith, true, false}
use Rattle.proc_runner.specs.Facts.{Facts}
use Rattle.proc_runner.specs.declared.ends.StationEnd.TheVariants.{Over, Stuck, JournalFull}
use Rattle.std.proofs.Common.{inl, inr, refl}
use Rattle.proc_runner.proofs.Keeping.{ended_keeps, goes_keeps, goes_counts, goes_threads}
use Rattle.proc_runner.proofs.station.Station.turn.Goals as goal

pub returns-clause-facts : goal.returns-clause-facts
returns-clause-facts g c s journal h =
    let begun : c.args.self.now.kept ≡ None = search rules in
    goes_keeps g.M.Machine g.L.Link g.C.Clock g.K.Recorder s journal c.args.self.now h c.args.thread begun c.requires c.go.new.self
    c.go.result (c.is_full.ensures.room c.if-is_full.false) c.go.ensures

pub returns-then-is_full-clause-facts : goal.returns-then-is_full-clause-facts
returns-then-is_full-clause-facts g c s journal h =
    let begun : c.args.self.now.kept ≡ None = search rules in (
      journal,
      inl refl,
      subst (Facts g.M.Machine g.L.Link g.C.Clock g.K.Recorder s journal) (sym c.keep-then-is_full.ensures.kept)
          (ended_keeps g.M.Machine g.L.Link g.C.Clock g.K.Recorder s journal c.args.self.now h JournalFull begun
          (c.is_full.ensures.full c.if-is_full.true)
          (λ f. elim f [ inl x ↦ absurd (cc x) | inr x ↦ absurd (cc x) ])),
    )

pub returns-then-over-clause-facts : goal.returns-then-over-clause-facts
returns-then-over-clause-facts g c s journal h =
    let v = c.self.view_is in
    let begun : c.args.self.now.kept ≡ None = search rules in
    let spent : c.args.self.now.quiet ≡ c.args.self.now.patience = omega
    (arith, ap (λ b. b.quiet) v, ap (λ b. b.patience) v, c.self.invariant, c.if-self.true) in
    let over : g.M.Machine.is_over c.args.self.now.machine ≡ true = ap (λ b. g.M.Machine.is_over b.machine) (sym v)
    ∙ sym c.over.ensures ∙ c.if-over.true in (
      journal,
      inl refl,
      subst (Facts g.M.Machine g.L.Link g.C.Clock g.K.Recorder s journal) (sym c.keep.ensures.kept)
          (ended_keeps g.M.Machine g.L.Link g.C.Clock g.K.Recorder s journal c.args.self.now h Over begun
          (spent, over)
          (λ f. elim f [ inl x ↦ absurd (cc x) | inr x ↦ absurd (cc x) ])),
    )

pub returns-then-self-clause-facts : goal.returns-then-self-clause-facts
returns-then-self-clause-facts g c s journal h =
    let v = c.self.view_is in
    let begun : c.args.self.now.kept ≡ None = search rules in
    let spent : c.args.self.now.quiet ≡ c.args.self.now.patience = omega
    (arith, ap (λ b. b.quiet) v, ap (λ b. b.patience) v, c.self.invariant, c.if-self.true) in
    let over : g.M.Machine.is_over c.args.self.now.machine ≡ false = ap (λ b. g.M.Machine.is_over b.machine) (sym v)
    ∙ sym c.over.ensures ∙ c.if-over.false in (
      journal,
      inl refl,
      subst (Facts g.M.Machine g.L.Link g.C.Clock g.K.Recorder s journal) (sym c.keep-then-self.ensures.kept)
          (ended_keeps g.M.Machine g.L.Link g.C.Clock g.K.Recorder s journal c.args.self.now h Stuck begun
          (spent, over)
          (λ f. elim f [ inl x ↦ absurd (cc x) | inr x ↦ absurd (cc x) ])),
    )

pub returns-clause-count : goal.returns-clause-count
returns-clause-count g c =
    goes_counts g.M.Machine g.L.Link g.C.Clock g.K.Recorder c.args.thread c.args.self.now c.go.new.self c.go.result c.go.ensures

pub returns-clause-threads : goal.returns-clause-threads
returns-clause-threads g c =
    goes_threads g.M.Machine g.L.Link g.C.Clock g.K.Recorder c.args.thread c.args.self.now c.go.new.self c.go.result c.go.ensures
