-- The last line of a call, after its other lines; and what the sink behind took in the end.
use Rattle.std.proofs.Common.{◌≡◌, ℕ, List, [], ◌++◌, refl, sym, subst, inl, inr}
use Rattle.base_io.specs.Buffered.{Outbox, Gathers, GathersAll, Flushes}
use Rattle.base_io.specs.declared.writing.Wrote.{Wrote}
use Rattle.base_io.specs.declared.writing.Wrote.TheVariants as wrote
use Rattle.base_io.proofs.Outboxes.{flushed, prefix_given, gathers_more}
use Rattle.base_io.proofs.Outboxes.{gathers_none, gathers_then, rose_later}
use Rattle.base_text.specs.LineTexts.{Line, spell, line_text}
use Rattle.sim_drill.proofs.LinesWritten.{one_more}
use Rattle.cli_commands.specs.Outsides.{Output, TakesBytes}
use Rattle.cli_commands.specs.Commands.{status_line}
use Rattle.cli_commands.specs.HowEnds.{After, Cut, EndsHow, EndMeans, SaysAlone, IsToldEnd, gives, nothing, said_last, claims_nothing}
use Rattle.cli_commands.specs.TopParts.{EndsBy, GivesOn, SaysEnd}
use Rattle.cli_commands.specs.declared.ending.CommandEnd.{CommandEnd}
use Rattle.cli_commands.specs.declared.ending.CommandEnd.TheVariants as ends
use Rattle.cli_commands.specs.declared.ending.EndedCommand.{EndedCommand}
use Rattle.cli_commands.specs.declared.ending.Given.{Given}

-- ---- what is claimed of what is given

-- what a command says where something is claimed of what it gives it says where nothing is
abbrev pub Weakens : EndsHow → Type 0
Weakens Ends = (end : CommandEnd) (given : Given) (said : List ℕ) → Ends end (gives given) said → Ends end claims_nothing said

pub weak_alone : (end : CommandEnd) (given : Given) (said : List ℕ) → SaysAlone end (gives given) said
    → SaysAlone end claims_nothing said
weak_alone end given said h = record { nothing_given = tt; said_is = h.said_is }

-- ---- the last line

-- an end whose line is said
abbrev pub IsSaid : CommandEnd → Type 0
IsSaid ends.WriteFault = ⊥
IsSaid _ = Unit {0}

-- all that it says went in
all_told : (Ends : EndsHow) (took : List ℕ → Wrote → Type 0) (end : CommandEnd) (given : Given) → IsSaid end
    → IsToldEnd Ends took end given → EndMeans Ends took given end
all_told Ends took ends.WriteFault given said h = absurd said
all_told Ends took end given said h = h

-- a command says the line of such an end behind these lines
pub says_last : (Ends : EndsHow) (old middle new : Outbox) (prefix : List Line) (end : CommandEnd) (given : Given)
    (ended : EndedCommand)
    → Weakens Ends → IsSaid end → Ends end (gives given) (said_last prefix end) → Gathers old middle (spell prefix)
    → SaysEnd end given middle new ended → EndsBy Ends old new ended
says_last Ends old middle new prefix end given ended weak is_said ends_so h says = elim says [
  | inl done ↦ subst (λ (e : EndedCommand). EndsBy Ends old new e) (sym done.0)
      (all_told Ends (GathersAll old new) end given is_said (record {
        said = said_last prefix end;
        ends = ends_so;
        written = rw (one_more prefix (status_line end))
            (gathers_more old middle new (spell prefix) (line_text (status_line end)) h done.1);
      }))
  | inr failed ↦ subst (λ (e : EndedCommand). EndsBy Ends old new e) (sym failed.0) (record {
    end = end;
    said = said_last prefix end;
    ends = weak end given (said_last prefix end) ends_so;
    cut = rw (one_more prefix (status_line end))
        (gathers_then old middle new (spell prefix) (line_text (status_line end)) wrote.Fault h failed.1);
    nothing_given = refl;
  })
]

-- ---- a part of how a command may end

-- what the one says the other says
abbrev pub Widens : (part whole : EndsHow) → Type 1
Widens part whole = (end : CommandEnd) (after : After) (said : List ℕ) → part end after said → whole end after said

pub widened : (part whole : EndsHow) (took : List ℕ → Wrote → Type 0) (given : Given) (end : CommandEnd) → Widens part whole
    → EndMeans part took given end → EndMeans whole took given end
widened part whole took given ends.WriteFault wide h = record {
  end = h.end;
  said = h.said;
  ends = wide h.end claims_nothing h.said h.ends;
  cut = h.cut;
  nothing_given = h.nothing_given;
}
widened part whole took given end wide h =
    record { said = h.said; ends = wide end (gives given) h.said h.ends; written = h.written }

-- ---- a status line alone

-- behind nothing
pub says_alone : (Ends : EndsHow) (old new : Outbox) (end : CommandEnd) (ended : EndedCommand)
    → Weakens Ends → IsSaid end → Ends end (gives nothing) (said_last [] end) → SaysEnd end nothing old new ended
    → EndsBy Ends old new ended
says_alone Ends old new end ended weak is_said ends_so says =
    says_last Ends old old new [] end nothing ended weak is_said ends_so (gathers_none old) says

-- it says so
pub alone : (end : CommandEnd) → SaysAlone end (gives nothing) (said_last [] end)
alone end = record { nothing_given = refl; said_is = refl }

-- ---- what waited is given on

-- what the sink took, by another account of it
means_by : (Ends : EndsHow) (took other : List ℕ → Wrote → Type 0) (given : Given) (end : CommandEnd)
    → ((end ≡ ends.WriteFault → ⊥) → (bytes : List ℕ) → took bytes wrote.Done → other bytes wrote.Done)
    → (end ≡ ends.WriteFault → (bytes : List ℕ) → took bytes wrote.Fault → other bytes wrote.Fault)
    → EndMeans Ends took given end → EndMeans Ends other given end
means_by Ends took other given ends.WriteFault done fault h =
    record { end = h.end; said = h.said; ends = h.ends; cut = fault refl _ h.cut; nothing_given = h.nothing_given }
means_by Ends took other given end done fault h =
    record { said = h.said; ends = h.ends; written = done (λ e. (cc)) _ h.written }

-- all that it says went in, and then the sink failed
cut_after : (Ends : EndsHow) (took other : List ℕ → Wrote → Type 0) (given : Given) (end : CommandEnd)
    → Weakens Ends → (end ≡ ends.WriteFault → ⊥)
    → ((bytes : List ℕ) → took bytes wrote.Done → other bytes wrote.Fault) → EndMeans Ends took given end
    → Cut Ends other nothing
cut_after Ends took other given ends.WriteFault weak other_end by h = absurd (other_end refl)
cut_after Ends took other given end weak other_end by h = record {
  end = end;
  said = h.said;
  ends = weak end given h.said h.ends;
  cut = by _ h.written;
  nothing_given = refl;
}

-- the sink behind one that gathers
abbrev pub behind : Outbox → Output
behind out = record { taken = out.given; faults = out.faults }

-- a prefix of the bytes went in where nothing waited: the sink behind took a prefix of them
took_prefix : (old new : Outbox) (bytes : List ℕ) → old.pending ≡ [] → GathersAll old new bytes wrote.Fault
    → TakesBytes (behind old) (behind new) bytes wrote.Fault
took_prefix old new bytes none h = (h.rose, new.pending ++ h.rest, prefix_given old new bytes h.rest none h.went)

-- all went in where nothing waited, and then not all was given on
took_some : (old middle new : Outbox) (bytes : List ℕ) → old.pending ≡ [] → Gathers old middle bytes
    → Flushes middle new wrote.Fault → TakesBytes (behind old) (behind new) bytes wrote.Fault
took_some old middle new bytes none h flush =
    let rest = flushed old middle new bytes wrote.Fault none h flush in
    (rose_later old.faults middle.faults new.faults h.later flush.rose, rest.0, rest.1)

-- how a command ended, once what waited was given on
pub means : (Ends : EndsHow) (old middle new : Outbox) (before after : EndedCommand)
    → Weakens Ends → old.pending ≡ [] → EndsBy Ends old middle before → GivesOn middle new before after
    → EndMeans Ends (TakesBytes (behind old) (behind new)) after.given after.end
means Ends old middle new before after weak none h given =
    let took = TakesBytes (behind old) (behind new) in
    let So : EndedCommand → Type 0 = λ ended. EndMeans Ends took ended.given ended.end in
    elim given [
      | inl failed ↦ subst So (sym failed.1)
          (means_by Ends (GathersAll old middle) took before.given before.end
          (λ other. absurd (other failed.0))
          (λ is bytes prefix.
          subst (λ (out : Outbox). TakesBytes (behind old) (behind out) bytes wrote.Fault) (sym failed.2)
          (took_prefix old middle bytes none prefix)) h)
      | inr (inl done) ↦ subst So (sym done.1)
          (means_by Ends (GathersAll old middle) took before.given before.end
          (λ other bytes whole. flushed old middle new bytes wrote.Done none whole done.2)
          (λ is. absurd (done.0 is)) h)
      | inr (inr failed) ↦ subst So (sym failed.1)
          (cut_after Ends (GathersAll old middle) took before.given before.end weak failed.0
          (λ bytes whole. took_some old middle new bytes none whole failed.2) h)
    ]
