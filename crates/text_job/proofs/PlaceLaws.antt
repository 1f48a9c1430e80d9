-- Reading the line at a place is the inverse of writing it.
use Rattle.std.proofs.Common.{◌≡◌, ℕ, ◌<◌, List, [], ◌∷◌, ◌++◌, length, get_or, Bool, true, false, cond, eqb, Option}
use Rattle.std.proofs.Common.{Some, None, refl, ap, ◌∙◌, arith, codes, decimal, append_assoc}
use Rattle.std.specs.Str.{bytes_eq}
use Rattle.std.specs.Str.Parse.{AllDigits}
use Rattle.std.proofs.lemmas.Str.Parse.{digit_from_value}
use Rattle.std.proofs.lemmas.Fmt.{digits_decimal, decimal_nonempty}
use Rattle.std.proofs.lemmas.Bool.{ne_eqb}
use Rattle.wire_message.specs.Parameters.{Parameters}
use Rattle.wire_message.specs.declared.pairs.PairCredits.{PairCredits}
use Rattle.base_text.specs.Lines.{◌>>=◌, is_stop, first_word, behind_word}
use Rattle.text_calls.specs.Forms.{none_at, none_text, none_fits, entry_text}
use Rattle.text_steps.specs.Bodies.{action_at, action_text, IsAction}
use Rattle.text_steps.specs.Events.{timed_at, IsTimed}
use Rattle.text_steps.specs.Scripts.{step_at, step_text, IsStep}
use Rattle.node_vis.specs.declared.shapes.Way.{Way}
use Rattle.node_vis.specs.declared.shapes.Way.TheVariants.{Put, Get}
use Rattle.text_vis.specs.VisLines.{entry_by}
use Rattle.text_vis.specs.declared.vis.VisShape.{VisShape}
use Rattle.text_vis.specs.declared.vis.VisShape.TheVariants as shapes
use Rattle.text_job.specs.Places.{Setting, Version, Nodes, Credits, Threads, Segment, Last, Resend, Patience}
use Rattle.text_job.specs.Places as places
use Rattle.text_job.specs.Places.{Place, AtSetting, AtSieve, AtPairs, AtHandlers, AtBody, AtScripts, AtSteps}
use Rattle.text_job.specs.Places.{AtAtomics, AtCollect, AtSchedule, AtDone, Over}
use Rattle.text_job.specs.Places.{collect_row, collect_entry, collect_fits, collect_at, collect_text}
use Rattle.text_job.specs.Places.{IsCollectLine}
use Rattle.text_job.specs.Places.{collect_or_later_at, collect_or_later_text, IsCollectOrLater}
use Rattle.text_job.specs.Places.{atomics_row, atomics_entry, atomics_fit, atomics_at, atomics_text}
use Rattle.text_job.specs.Places.{IsAtomicsLine}
use Rattle.text_job.specs.Places.{atomics_or_later_at, atomics_or_later_text, IsAtomicsOrLater}
use Rattle.text_calls.specs.declared.scope.Scope.{Scope}
use Rattle.text_job.specs.Places.{setting_row, setting_entry, setting_fits, sieve_row, sieve_entry, pair_row}
use Rattle.text_job.specs.Places.{pair_entry, pair_fits}
use Rattle.text_job.specs.Places.{NamedOr, Named, Other, header_row, header_entry, header_fits, header_at}
use Rattle.text_job.specs.Places.{sections, section_entry, section_fits, section_at, end_or, end_or_text}
use Rattle.text_job.specs.Places.{end_or_fits}
use Rattle.text_job.specs.Places.{pair_at, named_or, named_or_text, named_or_fits, pair_text, header_text}
use Rattle.text_job.specs.Places.{section_text, IsPairLine, IsHeader, IsSection, header_or_section_at}
use Rattle.text_job.specs.Places.{header_or_section_text, IsHeaderOrSection}
use Rattle.text_job.specs.Places.{done_at, Item, item_at, item_text, IsItem}
use Rattle.text_steps.specs.declared.steps.Action.TheVariants as action
use Rattle.text_job.specs.declared.job.CollectArea.{CollectArea}
use Rattle.text_steps.specs.declared.steps.CollectiveText.TheVariants as collective
use Rattle.text_calls.specs.declared.scheduled.ScheduledCall.TheVariants as call
use Rattle.text_steps.specs.declared.steps.ScriptStep.TheVariants as step
use Rattle.text_job.specs.declared.job.SieveRule.{SieveRule}
use Rattle.part_transfers.specs.declared.operation.Transfer.TheVariants as transfer
use Rattle.text_steps.specs.declared.steps.WaitingStep.TheVariants as waiting
use Rattle.text_job.specs.declared.sections.HandlerHeader.{HandlerHeader}
use Rattle.text_job.specs.declared.sections.Section.{Section}
use Rattle.text_job.specs.declared.sections.Section.TheVariants as section
use Rattle.base_text.proofs.Decimals.{own}
use Rattle.base_text.proofs.Prefixes.{cond_yes, cond_no}
use Rattle.base_text.proofs.Takes.{Takes, takes_some, takes_none, takes_then, takes_if}
use Rattle.text_calls.proofs.WordLaws.{same_word}
use Rattle.text_calls.proofs.FormLaws.{IsExact, IsTable, IsEntryOf, entry_of, table_exact, none_exact, IsFlat}
use Rattle.base_text.proofs.Seams.{whole}
use Rattle.text_steps.proofs.BodyLaws.{actions_exact}
use Rattle.text_steps.proofs.EventLaws.{event_line, timed_line, timed_exact}
use Rattle.text_steps.proofs.ScriptLaws.{steps_exact}

-- ---- settings

setting_again : (setting : Setting) (number : ℕ) → IsEntryOf (setting_row setting ∷ []) (setting_entry setting) number
setting_again Version number = entry_of refl refl refl
setting_again places.Job number = entry_of refl refl refl
setting_again Nodes number = entry_of refl refl refl
setting_again Credits number = entry_of refl refl refl
setting_again Threads number = entry_of refl refl refl
setting_again Segment number = entry_of refl refl refl
setting_again Last number = entry_of refl refl refl
setting_again Resend number = entry_of refl refl refl
setting_again Patience number = entry_of refl refl refl

setting_table : (setting : Setting) (test : ℕ → Bool) → IsTable (setting_row setting ∷ []) (setting_entry setting) test
setting_table setting test = record { makes = (λ v. refl, tt); again = λ number h. setting_again setting number }

sieve_again : (rule : SieveRule) → IsEntryOf (sieve_row ∷ []) sieve_entry rule
sieve_again rule = record { makes = refl; first = refl; runs = refl }

sieve_table : IsTable (sieve_row ∷ []) sieve_entry (λ rule. true)
sieve_table = record { makes = (λ v. refl, tt); again = λ rule h. sieve_again rule }

pair_again : (pair : PairCredits) → IsEntryOf (pair_row ∷ []) pair_entry pair
pair_again pair = record { makes = refl; first = refl; runs = refl }

pair_table : (settings : Parameters) → IsTable (pair_row ∷ []) pair_entry (pair_fits settings)
pair_table settings = record { makes = (λ v. refl, tt); again = λ pair h. pair_again pair }

atomics_again : (line : Unit {0}) → IsEntryOf (atomics_row ∷ []) atomics_entry line
atomics_again line = record { makes = refl; first = refl; runs = refl }

atomics_table : (scope : Scope) → IsTable (atomics_row ∷ []) atomics_entry (atomics_fit scope)
atomics_table scope = record { makes = (λ v. refl, tt); again = λ line h. atomics_again line }

collect_again : (area : CollectArea) → IsEntryOf (collect_row ∷ []) collect_entry area
collect_again area = record { makes = refl; first = refl; runs = refl }

collect_table : (scope : Scope) → IsTable (collect_row ∷ []) collect_entry (collect_fits scope)
collect_table scope = record { makes = (λ v. refl, tt); again = λ area h. collect_again area }

header_again : (header : HandlerHeader) → IsEntryOf (header_row ∷ []) header_entry header
header_again header = record { makes = refl; first = refl; runs = refl }

header_table : IsTable (header_row ∷ []) header_entry header_fits
header_table = record { makes = (λ v. refl, tt); again = λ header h. header_again header }

section_again : (s : Section) → IsEntryOf sections section_entry s
section_again (section.Script node thread) = entry_of refl refl refl
section_again section.Schedule = entry_of refl refl refl
section_again section.Done = entry_of refl refl refl

sections_table : (nodes threads : ℕ) → IsTable sections section_entry (section_fits nodes threads)
sections_table nodes threads = record {
  makes = (λ v. refl, (λ v. refl, (λ v. refl, tt)));
  again = λ s h. section_again s;
}

pairs_exact : (settings : Parameters) → IsExact (pair_at settings) pair_text (IsPairLine settings)
unfolding pair_at
pairs_exact settings = table_exact none_at none_text none_fits (pair_row ∷ []) pair_entry
    (pair_fits settings) none_exact (pair_table settings)

atomics_exact : (scope : Scope) → IsExact (atomics_at scope) atomics_text (IsAtomicsLine scope)
unfolding atomics_at
atomics_exact scope = table_exact none_at none_text none_fits (atomics_row ∷ []) atomics_entry
    (atomics_fit scope) none_exact (atomics_table scope)

collect_exact : (scope : Scope) → IsExact (collect_at scope) collect_text (IsCollectLine scope)
unfolding collect_at
collect_exact scope = table_exact none_at none_text none_fits (collect_row ∷ []) collect_entry
    (collect_fits scope) none_exact (collect_table scope)

headers_exact : IsExact header_at header_text IsHeader
unfolding header_at
headers_exact = table_exact none_at none_text none_fits (header_row ∷ []) header_entry header_fits none_exact
    header_table

sections_exact : (nodes threads : ℕ) → IsExact (section_at nodes threads) section_text (IsSection nodes threads)
unfolding section_at
sections_exact nodes threads = table_exact none_at none_text none_fits sections section_entry
    (section_fits nodes threads) none_exact (sections_table nodes threads)

-- ---- two kinds of line, told apart by their first word

-- a line that begins with the name, and one that doesn't
abbrev pub Begins : {A : Type 0} → (A → List ℕ) → List ℕ → Bool → Type 0
Begins {A} text name b = (item : A) (rest : List ℕ) → bytes_eq (first_word (text item ++ 10 ∷ rest)) name ≡ b

named_or_takes : {A B : Type 0} (name : List ℕ) (at : List ℕ → Option (A × List ℕ)) (text : A → List ℕ)
    (fits : A → Type 0) (other_at : List ℕ → Option (B × List ℕ)) (other : B → List ℕ) (other_fits : B → Type 0)
    → IsExact at text fits → IsExact other_at other other_fits → (bytes : List ℕ) → Takes
    (λ x. (bytes ≡ named_or_text text other x.0 ++ x.1) × named_or_fits fits other_fits x.0)
    (named_or name at other_at bytes)
named_or_takes {A} {B} name at text fits other_at other other_fits one two bytes = takes_if {P = λ
    (x : NamedOr A B × List ℕ). (bytes ≡ named_or_text text other x.0 ++ x.1) × named_or_fits fits other_fits x.0}
    {b = bytes_eq (first_word bytes) name} {r = ◌>>=◌ {B = NamedOr A B × List ℕ} (at bytes) (λ x. Some (Named x.0, x.1))}
    {s = ◌>>=◌ {B = NamedOr A B × List ℕ} (other_at bytes) (λ x. Some (Other x.0, x.1))}
    (λ b. takes_then (λ (x : A × List ℕ). (bytes ≡ text x.0 ++ x.1) × fits x.0)
    (one.takes bytes) (λ x h. takes_some {x = (Named x.0, x.1)} h))
    (λ b. takes_then (λ (x : B × List ℕ). (bytes ≡ other x.0 ++ x.1) × other_fits x.0)
    (two.takes bytes) (λ x h. takes_some {x = (Other x.0, x.1)} h))

named_or_again : {A B : Type 0} (name : List ℕ) (at : List ℕ → Option (A × List ℕ)) (text : A → List ℕ)
    (fits : A → Type 0) (other_at : List ℕ → Option (B × List ℕ)) (other : B → List ℕ) (other_fits : B → Type 0)
    → IsExact at text fits → IsExact other_at other other_fits → Begins text name true → Begins other name false
    → (x : NamedOr A B) (rest : List ℕ) → named_or_fits fits other_fits x → named_or name at other_at
    (named_or_text text other x ++ 10 ∷ rest) ≡ Some (x, 10 ∷ rest)
named_or_again name at text fits other_at other other_fits one two begins other_begins (Named a) rest h =
    cond_yes _ _ _ (begins a rest) ∙ rw (one.again a rest h) refl
named_or_again name at text fits other_at other other_fits one two begins other_begins (Other b) rest h =
    cond_no _ _ _ (other_begins b rest) ∙ rw (two.again b rest h) refl

named_or_flat : {A B : Type 0} (at : List ℕ → Option (A × List ℕ)) (text : A → List ℕ)
    (fits : A → Type 0) (other_at : List ℕ → Option (B × List ℕ)) (other : B → List ℕ) (other_fits : B → Type 0)
    → IsExact at text fits → IsExact other_at other other_fits → (x : NamedOr A B) → named_or_fits fits other_fits x
    → IsFlat (named_or_text text other x)
named_or_flat at text fits other_at other other_fits one two (Named a) h = one.flat a h
named_or_flat at text fits other_at other other_fits one two (Other b) h = two.flat b h

named_or_exact : {A B : Type 0} (name : List ℕ) (at : List ℕ → Option (A × List ℕ)) (text : A → List ℕ)
    (fits : A → Type 0) (other_at : List ℕ → Option (B × List ℕ)) (other : B → List ℕ) (other_fits : B → Type 0)
    → IsExact at text fits → IsExact other_at other other_fits → Begins text name true → Begins other name false
    → IsExact (named_or name at other_at) (named_or_text text other) (named_or_fits fits other_fits)
named_or_exact name at text fits other_at other other_fits one two begins other_begins = record {
  takes = named_or_takes name at text fits other_at other other_fits one two;
  again = named_or_again name at text fits other_at other other_fits one two begins other_begins;
  flat = named_or_flat at text fits other_at other other_fits one two;
}

-- a line that begins with no `handler`, with no `collect`, with no `atomics`, and with no `pair`
section_unnamed : Begins section_text (codes "handler") false
section_unnamed (section.Script node thread) rest = refl
section_unnamed section.Schedule rest = refl
section_unnamed section.Done rest = refl

later_unnamed : Begins header_or_section_text (codes "collect") false
later_unnamed (Named header) rest = refl
later_unnamed (Other (section.Script node thread)) rest = refl
later_unnamed (Other section.Schedule) rest = refl
later_unnamed (Other section.Done) rest = refl

collect_unnamed : Begins collect_or_later_text (codes "atomics") false
collect_unnamed (Named area) rest = refl
collect_unnamed (Other (Named header)) rest = refl
collect_unnamed (Other (Other (section.Script node thread))) rest = refl
collect_unnamed (Other (Other section.Schedule)) rest = refl
collect_unnamed (Other (Other section.Done)) rest = refl

other_unnamed : Begins atomics_or_later_text (codes "pair") false
other_unnamed (Named line) rest = refl
other_unnamed (Other (Named area)) rest = refl
other_unnamed (Other (Other (Named header))) rest = refl
other_unnamed (Other (Other (Other (section.Script node thread)))) rest = refl
other_unnamed (Other (Other (Other section.Schedule))) rest = refl
other_unnamed (Other (Other (Other section.Done))) rest = refl

headers_or_sections_exact : (settings : Parameters) → IsExact (header_or_section_at settings) header_or_section_text
    (IsHeaderOrSection settings)
headers_or_sections_exact settings =
    named_or_exact (codes "handler") header_at header_text IsHeader (section_at settings.nodes settings.threads)
    section_text (IsSection settings.nodes settings.threads) headers_exact
    (sections_exact settings.nodes settings.threads) (λ header rest. refl) section_unnamed

collect_or_later_exact : (scope : Scope) → IsExact (collect_or_later_at scope) collect_or_later_text
    (IsCollectOrLater scope)
collect_or_later_exact scope =
    named_or_exact (codes "collect") (collect_at scope) collect_text (IsCollectLine scope)
    (header_or_section_at scope.settings) header_or_section_text (IsHeaderOrSection scope.settings)
    (collect_exact scope) (headers_or_sections_exact scope.settings) (λ area rest. refl) later_unnamed

atomics_or_later_exact : (scope : Scope) → IsExact (atomics_or_later_at scope) atomics_or_later_text
    (IsAtomicsOrLater scope)
atomics_or_later_exact scope =
    named_or_exact (codes "atomics") (atomics_at scope) atomics_text (IsAtomicsLine scope)
    (collect_or_later_at scope) collect_or_later_text (IsCollectOrLater scope)
    (atomics_exact scope) (collect_or_later_exact scope) (λ line rest. refl) collect_unnamed

-- the bytes of a word that was found, and those after it
found_word : (bytes name : List ℕ) → bytes_eq (first_word bytes) name ≡ true → bytes ≡ name ++ behind_word bytes
found_word bytes name b = whole bytes ∙ ap (λ (w : List ℕ). w ++ behind_word bytes) (same_word (first_word bytes) name b)

-- a line that isn't the line `end`
abbrev pub IsOther : {A : Type 0} → (A → List ℕ) → (A → Type 0) → Type 0
IsOther {A} text fits = (item : A) (rest : List ℕ) → fits item → bytes_eq (first_word (text item ++ 10 ∷ rest))
    (codes "end") ≡ false

end_or_takes : {A : Type 0} (at : List ℕ → Option (A × List ℕ)) (text : A → List ℕ) (fits : A → Type 0)
    → IsExact at text fits → (bytes : List ℕ) → Takes (λ x. (bytes ≡ end_or_text text x.0 ++ x.1)
    × end_or_fits fits x.0) (end_or at bytes)
end_or_takes {A} at text fits exact bytes = takes_if
    (λ b. takes_some {x = (None, behind_word bytes)} (found_word bytes (codes "end") b, tt))
    (λ b. takes_then (λ (x : A × List ℕ). (bytes ≡ text x.0 ++ x.1) × fits x.0) (exact.takes bytes)
    (λ x h. takes_some {x = (Some x.0, x.1)} h))

end_or_again : {A : Type 0} (at : List ℕ → Option (A × List ℕ)) (text : A → List ℕ) (fits : A → Type 0)
    → IsExact at text fits → IsOther text fits → (x : Option A) (rest : List ℕ) → end_or_fits fits x → end_or at
    (end_or_text text x ++ 10 ∷ rest) ≡ Some (x, 10 ∷ rest)
end_or_again at text fits exact other None rest h = refl
end_or_again at text fits exact other (Some item) rest h = cond_no _ _ _ (other item rest h) ∙ rw
    (exact.again item rest h) refl

end_or_flat : {A : Type 0} (at : List ℕ → Option (A × List ℕ)) (text : A → List ℕ) (fits : A → Type 0)
    → IsExact at text fits → (x : Option A) → end_or_fits fits x → IsFlat (end_or_text text x)
end_or_flat at text fits exact None h = (refl, (refl, (refl, tt)))
end_or_flat at text fits exact (Some item) h = exact.flat item h

end_or_exact : {A : Type 0} (at : List ℕ → Option (A × List ℕ)) (text : A → List ℕ) (fits : A → Type 0)
    → IsExact at text fits → IsOther text fits → IsExact (end_or at) (end_or_text text) (end_or_fits fits)
end_or_exact at text fits exact other = record {
  takes = end_or_takes at text fits exact;
  again = end_or_again at text fits exact other;
  flat = end_or_flat at text fits exact;
}

-- an action isn't the line `end`
action_other : IsOther action_text IsAction
action_other (action.Add cell operand) rest h = refl
action_other _ rest h = refl

-- a step isn't the line `end`
vis_other : (way : Way) (shape : VisShape) (register from to : ℕ) (rest : List ℕ)
    → bytes_eq (first_word (entry_text none_text (entry_by way shape register from to) ++ 10 ∷ rest)) (codes "end") ≡ false
vis_other Put (shapes.Strided remote local len levels) register from to rest = refl
vis_other Get (shapes.Strided remote local len levels) register from to rest = refl
vis_other Put (shapes.Indexed remote local) register from to rest = refl
vis_other Get (shapes.Indexed remote local) register from to rest = refl

step_other : (scope : Scope) → IsOther step_text (IsStep scope)
step_other scope (step.Call (call.Begin register (transfer.Put to remote local len))) rest h = refl
step_other scope (step.Call (call.Begin register (transfer.Get to remote local len))) rest h = refl
step_other scope (step.Call (call.Begin register (transfer.Memset to remote len byte))) rest h = refl
step_other scope (step.Call (call.BeginImplicit (transfer.Put to remote local len))) rest h = refl
step_other scope (step.Call (call.BeginImplicit (transfer.Get to remote local len))) rest h = refl
step_other scope (step.Call (call.BeginImplicit (transfer.Memset to remote len byte))) rest h = refl
step_other scope (step.Call _) rest h = refl
step_other scope (step.Vis vis) rest h =
    let words = vis.words in vis_other words.way words.shape words.register words.from words.to rest
step_other scope (step.Collective (collective.Start shape from)) rest h = refl
step_other scope (step.Collective collective.Step) rest h = refl
step_other scope (step.Collective (collective.Try dest)) rest h = refl
step_other scope (step.Waiting (waiting.Until cell operand)) rest h = refl
step_other scope (step.Waiting (waiting.Transfer (transfer.Put to remote local len))) rest h = refl
step_other scope (step.Waiting (waiting.Transfer (transfer.Get to remote local len))) rest h = refl
step_other scope (step.Waiting (waiting.Transfer (transfer.Memset to remote len byte))) rest h = refl
step_other scope (step.Waiting (waiting.PutBegin register put)) rest h = refl
step_other scope (step.Waiting (waiting.PutImplicit put)) rest h = refl
step_other scope (step.Waiting (waiting.Wait register)) rest h = refl
step_other scope (step.Waiting (waiting.WaitAll registers)) rest h = refl
step_other scope (step.Waiting (waiting.WaitSome registers)) rest h = refl
step_other scope (step.Waiting (waiting.WaitImplicit which)) rest h = refl
step_other scope (step.Waiting (waiting.BarrierWait id flags)) rest h = refl
step_other scope (step.Waiting (waiting.UntilWord offset number)) rest h = refl
step_other scope (step.Waiting (waiting.Collective shape from dest)) rest h = refl

-- by whether a word ends at the first byte
prefix_by : (t : Bool) (b : ℕ) (w : List ℕ) → eqb b 101 ≡ false → bytes_eq (cond t [] (b ∷ w)) (codes "end") ≡ false
prefix_by true b w e = refl
prefix_by false b w e = rw e refl

-- another first byte
pub no_end : (bs : List ℕ) → eqb (get_or bs 0 0) 101 ≡ false → bytes_eq (first_word bs) (codes "end") ≡ false
no_end [] e = refl
no_end (b ∷ bs) e = prefix_by (is_stop b) b (first_word bs) e

-- bytes that begin with digits begin with no `e`
digits_first : (ds rest : List ℕ) → 0 < length ds → AllDigits 10 ds → eqb (get_or (ds ++ rest) 0 0) 101 ≡ false
digits_first [] rest lt h = absurd (omega arith)
digits_first (d ∷ ds) rest lt h = let r = digit_from_value d h.0 in ne_eqb d 101 (λ e. omega arith)

-- a line of a schedule isn't the line `end`
timed_other : (scope : Scope) → IsOther (timed_line scope) (IsTimed scope)
timed_other scope t rest h =
    let lt = h.time in
    no_end (timed_line scope t ++ 10 ∷ rest)
    (rw (append_assoc (decimal t.time) (32 ∷ event_line scope t.event) (10 ∷ rest))
    (digits_first (decimal t.time) (32 ∷ (event_line scope t.event ++ 10 ∷ rest))
    (decimal_nonempty t.time lt) (digits_decimal own t.time lt)))

-- ---- each place

done_exact : IsExact done_at (λ u. codes "done") (λ u. Unit {0})
done_exact = record {
  takes = λ bytes. takes_if (λ b. takes_some {x = (tt, behind_word bytes)} (found_word bytes (codes "done") b, tt))
      (λ b. takes_none);
  again = λ u rest h. refl;
  flat = λ u h. (refl, (refl, (refl, (refl, tt))));
}

pub place_exact : (place : Place) (scope : Scope) → IsExact (item_at place scope)
    (item_text place scope) (IsItem place scope)
place_exact (AtSetting setting) scope = table_exact none_at none_text none_fits (setting_row setting ∷ [])
    (setting_entry setting) (setting_fits setting scope.settings) none_exact (setting_table setting
    (setting_fits setting scope.settings))
place_exact AtSieve scope = table_exact none_at none_text none_fits (sieve_row ∷ []) sieve_entry
    (λ rule. true) none_exact sieve_table
place_exact AtPairs scope =
    named_or_exact (codes "pair") (pair_at scope.settings) pair_text (IsPairLine scope.settings)
    (atomics_or_later_at scope) atomics_or_later_text (IsAtomicsOrLater scope) (pairs_exact scope.settings)
    (atomics_or_later_exact scope) (λ pair rest. refl) other_unnamed
place_exact AtAtomics scope = atomics_or_later_exact scope
place_exact AtCollect scope = collect_or_later_exact scope
place_exact AtHandlers scope = headers_or_sections_exact scope.settings
place_exact AtScripts scope = sections_exact scope.settings.nodes scope.settings.threads
place_exact (AtSteps script) scope =
    end_or_exact (step_at scope) step_text (IsStep scope) (steps_exact scope) (step_other scope)
place_exact (AtBody handler) scope = end_or_exact action_at action_text IsAction actions_exact action_other
place_exact AtSchedule scope =
    end_or_exact (timed_at scope) (timed_line scope) (IsTimed scope) (timed_exact scope) (timed_other scope)
place_exact AtDone scope = done_exact
place_exact Over scope = record { takes = λ bytes. takes_none; again = λ x rest h. absurd h; flat = λ x h. absurd h }
