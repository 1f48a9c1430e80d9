use Rattle.std.proofs.Common.{ℕ, [], refl, sym, subst, inl, inr}
use Rattle.base_io.specs.Buffered.{Gathers, GathersPrefix, outbox}
use Rattle.text_trace.specs.TraceText.{head_text}
use Rattle.proc_station.specs.NodeRuns.{whole_text}
use Rattle.proc_station.proofs.Texts.{head_cut, runs_open}
use Rattle.proc_station.proofs.node.run_node.Goals as goal

-- the sink failed within the first lines
pub returns-in-Fault : goal.returns-in-Fault
returns-in-Fault g c =
    let k = g.K.Sink in
    let settings = c.args.node.settings in
    let rank = c.args.node.address.rank in
    let old = outbox k.taken k.faults c.args.sink in
    let new = outbox k.taken k.faults c.print_head.new.sink in
    let headed = subst (λ (v : ℕ). GathersPrefix old new (head_text v settings.job rank)) c.version.ensures.version
    (subst (λ (j : ℕ). GathersPrefix old new (head_text c.version.result j rank)) c.job.ensures c.in-Fault.ensures) in
    inr (record {
      after_is = refl;
      written = subst (λ s. GathersPrefix old (outbox k.taken k.faults s) (whole_text settings rank []))
          (sym c.over-in-Fault.ensures) (head_cut k settings rank old new headed);
    })

pub returns-in-Done : goal.returns-in-Done
returns-in-Done g c =
    let k = g.K.Sink in
    let settings = c.args.node.settings in
    let rank = c.args.node.address.rank in
    let old = outbox k.taken k.faults c.args.sink in
    let new = outbox k.taken k.faults c.print_head.new.sink in
    let headed = subst (λ (v : ℕ). Gathers old new (head_text v settings.job rank)) c.version.ensures.version
    (subst (λ (j : ℕ). Gathers old new (head_text c.version.result j rank)) c.job.ensures c.in-Done.ensures) in
    inl (runs_open g.M.Machine g.L.Link g.C.Clock k c.args.node c.args.sink c.over.result c.run_to_end.result
    c.write_end.result
    (subst (λ s. Gathers old (outbox k.taken k.faults s) (head_text settings.version settings.job rank))
    (sym c.over.ensures) headed)
    c.write_end.ensures c.run_to_end.ensures)
