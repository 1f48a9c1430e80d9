-- What is written of a node, put together.
use Rattle.std.proofs.Common.{◌≡◌, ◌≢◌, ℕ, List, [], ◌∷◌, ◌++◌, true, false, true≢false, refl, sym, ap, ◌∙◌, subst}
use Rattle.std.proofs.Common.{append_assoc}
use Rattle.std.specs.Prelude.{map, codes}
use Rattle.base_io.specs.Buffered.{Outbox, Gathers, GathersUpTo, GathersPrefix, GathersAll}
use Rattle.base_io.specs.declared.sink.Sink.{Ghosts as SinkGhosts}
use Rattle.base_io.specs.declared.writing.Wrote.{Wrote}
use Rattle.base_io.specs.declared.writing.Wrote.TheVariants as wrotes
use Rattle.base_io.proofs.Outboxes.{nothing_yet, past_done, past_fault, past_last, gathers_more, gathers_first}
use Rattle.base_turns.specs.declared.entry.Entry.{Entry}
use Rattle.proc_runner.specs.declared.ends.StationEnd.{StationEnd}
use Rattle.proc_runner.specs.declared.ends.StationEnd.TheVariants.{Over, Stuck, LinkFault, WriteFault, JournalFull, NoMemory}
use Rattle.proc_runner.specs.Facts.{texts}
use Rattle.base_text.specs.LineTexts.{line_text, spell, Line}
use Rattle.text_trace.specs.TraceText.{entry_line, entry_lines, head_lines, head_text}
use Rattle.std.proofs.Common.{inl, inr}
use Rattle.base_io.specs.Buffered.{Gathering, outbox}
use Rattle.base_io.specs.declared.link.Link.{Ghosts as LinkGhosts}
use Rattle.base_io.specs.declared.clock.Clock.{Ghosts as ClockGhosts}
use Rattle.base_io.proofs.Outboxes.{gathers_none}
use Rattle.base_turns.specs.declared.turns.Machine.{Ghosts as MachineGhosts}
use Rattle.proc_runner.specs.declared.ends.EndedStation.{EndedStation}
use Rattle.proc_station.specs.NodeRuns.{RunsOver, RunsOpen, RunsSome, Finishes}
use Rattle.proc_station.specs.declared.node.Node.{Node}
use Rattle.proc_station.specs.NodeRuns.{EndLine, WritesAt, has_last_line, open_text, tracing, whole_text, written_end}
use Rattle.wire_message.specs.Parameters.{Parameters}

spell_all : (ls ms : List Line) → spell (ls ++ ms) ≡ spell ls ++ spell ms
spell_all [] ms = refl
spell_all (x ∷ ls) ms = ap (λ w. line_text x ++ w) (spell_all ls ms) ∙ sym (append_assoc (line_text x) (spell ls) (spell ms))

module _ {K : Type 0} (k : SinkGhosts K) where
  entries_text : (J : List Entry) → spell (entry_lines J) ≡ texts (tracing k) J ++ codes "end\n"
  entries_text [] = refl
  entries_text (e ∷ es) = ap (λ w. line_text (entry_line e) ++ w) (entries_text es)
      ∙ sym (append_assoc (line_text (entry_line e)) (texts (tracing k) es) (codes "end\n"))

  whole_is : (settings : Parameters) (rank : ℕ) (J : List Entry) → whole_text settings rank J
      ≡ head_text settings.version settings.job rank ++ (texts (tracing k) J ++ codes "end\n")
  whole_is settings rank J = spell_all (head_lines settings.version settings.job rank) (entry_lines J)
      ∙ ap (λ w. head_text settings.version settings.job rank ++ w) (entries_text J)

  texts_lines : (J : List Entry) → spell (map entry_line J) ≡ texts (tracing k) J
  texts_lines [] = refl
  texts_lines (e ∷ es) = ap (λ w. line_text (entry_line e) ++ w) (texts_lines es)

  open_is : (settings : Parameters) (rank : ℕ) (J : List Entry) → open_text settings rank J
      ≡ head_text settings.version settings.job rank ++ texts (tracing k) J
  open_is settings rank J = spell_all (head_lines settings.version settings.job rank) (map entry_line J)
      ∙ ap (λ w. head_text settings.version settings.job rank ++ w) (texts_lines J)

  -- the sink failed within the first lines
  pub head_cut : (settings : Parameters) (rank : ℕ) (o n : Outbox)
      → GathersPrefix o n (head_text settings.version settings.job rank) → GathersPrefix o n (whole_text settings rank [])
  head_cut settings rank o n h = subst (GathersPrefix o n) (sym (whole_is settings rank []))
      (gathers_first o n (head_text settings.version settings.job rank) (texts (tracing k) [] ++ codes "end\n") h)

  module _ (settings : Parameters) (rank : ℕ) (J : List Entry) (o before now new : Outbox) (wrote : Wrote)
      (head : Gathers o before (head_text settings.version settings.job rank)) where
    abbrev all : List ℕ
    all = whole_text settings rank J

    headed : GathersUpTo o before all (texts (tracing k) J ++ codes "end\n")
    headed = past_done o o before all (head_text settings.version settings.job rank)
        (texts (tracing k) J ++ codes "end\n") all (whole_is settings rank J) (nothing_yet o all) head

    ended : Gathers before now (texts (tracing k) J) → GathersAll now new (codes "end\n") wrote
        → GathersAll o new all wrote
    ended some line = past_last o now new all (codes "end\n") wrote
        (past_done o before now all (texts (tracing k) J) (codes "end\n") (texts (tracing k) J ++ codes "end\n") refl
        headed some) line

    pub writes : (end : StationEnd) → (end ≢ WriteFault → Gathers before now (texts (tracing k) J))
        → (end ≡ WriteFault → GathersPrefix before now (texts (tracing k) J)) → EndLine now new end wrote
        → WritesAt settings rank J o new end wrote
    writes Over some prefix line = ended (some (λ e. absurd (cc e))) line
    writes Stuck some prefix line = ended (some (λ e. absurd (cc e))) line
    writes LinkFault some prefix line = ended (some (λ e. absurd (cc e))) line
    writes JournalFull some prefix line = ended (some (λ e. absurd (cc e))) line
    writes WriteFault some prefix line =
        subst (λ n. GathersPrefix o n all) (sym line)
        (past_fault o before now all (texts (tracing k) J) (codes "end\n") (texts (tracing k) J ++ codes "end\n") refl
        headed (prefix refl))
    writes NoMemory some prefix line =
        subst (λ n. Gathers o n (open_text settings rank J)) (sym line)
        (subst (Gathers o now) (sym (open_is settings rank J))
        (gathers_more o before now (head_text settings.version settings.job rank) (texts (tracing k) J) head
        (some (λ e. absurd (cc e)))))

-- where no last line is written, the end stays
same_end : (end : StationEnd) → has_last_line end ≡ false → written_end end wrotes.Done ≡ end
same_end NoMemory none = refl
same_end WriteFault none = refl
same_end Over none = refl
same_end Stuck none = refl
same_end LinkFault none = refl
same_end JournalFull none = refl

no_line : (out : Outbox) (end : StationEnd) → has_last_line end ≡ false → EndLine out out end wrotes.Done
no_line out NoMemory none = refl
no_line out WriteFault none = refl
no_line out Over none = absurd (true≢false none)
no_line out Stuck none = absurd (true≢false none)
no_line out LinkFault none = absurd (true≢false none)
no_line out JournalFull none = absurd (true≢false none)

-- the last line was to be written
some_line : (old new : Outbox) (wrote : Wrote) (end : StationEnd) → has_last_line end ≡ true
    → GathersAll old new (codes "end\n") wrote → EndLine old new end wrote
some_line old new wrote NoMemory some line = absurd (true≢false (sym some))
some_line old new wrote WriteFault some line = absurd (true≢false (sym some))
some_line old new wrote Over some line = line
some_line old new wrote Stuck some line = line
some_line old new wrote LinkFault some line = line
some_line old new wrote JournalFull some line = line

-- what threads left, after the last line
module _ {M L C K : Type 0} (k : SinkGhosts K) where
  pub finished : (left : EndedStation M L C (Gathering K)) → has_last_line left.end ≡ false → Finishes k left left
  finished left none = record {
    wrote = wrotes.Done;
    after_is = ap (λ (end : StationEnd). record left { end = end }) (sym (same_end left.end none));
    line = no_line (outbox k.taken k.faults left.recorder) left.end none;
  }

  pub finishes : (left after : EndedStation M L C (Gathering K)) (wrote : Wrote) → has_last_line left.end ≡ true
      → after ≡ record left { recorder = after.recorder; end = written_end left.end wrote }
      → GathersAll (outbox k.taken k.faults left.recorder) (outbox k.taken k.faults after.recorder) (codes "end\n") wrote
      → Finishes k left after
  finishes left after wrote some after_is line = record {
    wrote = wrote;
    after_is = after_is;
    line = some_line (outbox k.taken k.faults left.recorder) (outbox k.taken k.faults after.recorder) wrote left.end some
        line;
  }

-- the head went in, the node ran, and its last line was written
module _ {M L C K : Type 0} (m : MachineGhosts M) (l : LinkGhosts L) (c : ClockGhosts C) (k : SinkGhosts K)
    (node : Node M L C) (sink opened : Gathering K) (left after : EndedStation M L C (Gathering K))
    (head : Gathers (outbox k.taken k.faults sink) (outbox k.taken k.faults opened)
    (head_text node.settings.version node.settings.job node.address.rank)) (f : Finishes k left after) where
  abbrev at : Gathering K → Outbox
  at s = outbox k.taken k.faults s

  written : (J : List Entry) → RunsOver m l c (tracing k) node opened J left
      → WritesAt node.settings node.address.rank J (at sink) (at after.recorder) left.end f.wrote
  written J (inl ran) =
      subst (λ j. WritesAt node.settings node.address.rank j (at sink) (at after.recorder) left.end f.wrote) ran.1
      (writes k node.settings node.address.rank ran.0.leaves.journal (at sink) (at opened) (at left.recorder) (at after.recorder) f.wrote
      head left.end ran.0.leaves.written ran.0.leaves.prefix f.line)
  written J (inr un) =
      let u = un.0 in
      let same : left.recorder ≡ opened = ap (λ w. w.recorder) u.left_is in
      let fault : left.end ≡ LinkFault = ap (λ w. w.end) u.left_is in
      subst (λ j. WritesAt node.settings node.address.rank j (at sink) (at after.recorder) left.end f.wrote) (sym un.1)
      (writes k node.settings node.address.rank [] (at sink) (at opened) (at left.recorder) (at after.recorder) f.wrote
      head left.end (λ _. subst (λ r. Gathers (at opened) (at r) []) (sym same) (gathers_none (at opened)))
      (λ w. absurd (cc (sym fault ∙ w))) f.line)

  pub runs_open : RunsSome m l c (tracing k) node opened left → RunsOpen m l c k node sink after
  runs_open some = record {
    opened = opened;
    left = left;
    journal = some.0;
    head = head;
    ran = some.1;
    wrote = f.wrote;
    after_is = f.after_is;
    written = written some.0 some.1;
  }
