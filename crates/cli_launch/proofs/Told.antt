-- What a spawner tells after one start more, and after one finish more.
use Rattle.std.proofs.Common.{◌≡◌, ℕ, ◌+◌, ◌≤◌, ◌<◌, List, [], ◌∷◌, ◌++◌, length, Option, Some, None, refl, sym, ap}
use Rattle.std.proofs.Common.{◌∙◌, append_assoc, append-nil, add-one, arith, subst}
use Rattle.std.specs.Prelude.{option_map}
use Rattle.std.proofs.lemmas.List.Elements.{All-push}
use Rattle.std.proofs.lemmas.Option.{slice_get_past}
use Rattle.base_io.specs.Faults.{Rose}
use Rattle.base_io.specs.Spawner.{AppendsOutput, ChildEnd, IsFinishFailed, SpawnTold, ToldCall, child_end}
use Rattle.base_io.specs.Spawner.{told_call, told_end}
use Rattle.base_io.specs.Spawner.ToldCall.{Start}
use Rattle.base_io.specs.declared.spawner.Finished.{Finished}
use Rattle.base_io.specs.declared.spawner.Finished.TheVariants as finished
use Rattle.base_io.proofs.Outboxes.{rose_earlier, rose_later}
use Rattle.base_lists.proofs.Cases.{none_some}
use Rattle.cli_check.proofs.Pushed.{pushed_at}
use Rattle.cli_launch.specs.Children.{IsOutputWithin, SpawnerSeen, Spawns, all_told, starts_below, with_ends}
use Rattle.cli_launch.specs.Children.{with_starts}
use Rattle.cli_launch.proofs.Plain.{plain_more}

-- ---- starts

-- nothing was started yet
pub starts_none : (port : ℕ) (input : List ℕ) (old : Option SpawnTold) → old ≡ option_map (with_starts 0 port input) old
starts_none port input None = refl
starts_none port input (Some told) =
    ap (λ (calls : List ToldCall). Some (record told { calls = calls })) (sym (append-nil told.calls))

-- one start more
pub starts_more : (rank port : ℕ) (input : List ℕ) (old middle new : Option SpawnTold)
    → middle ≡ option_map (with_starts rank port input) old
    → new ≡ option_map (told_call (Start rank port input)) middle
    → new ≡ option_map (with_starts (rank + 1) port input) old
starts_more rank port input old middle new before after =
    after ∙ ap (option_map (told_call (Start rank port input))) before ∙ both old
  where
    all : (told : SpawnTold) → (told.calls ++ starts_below rank port input) ++ Start rank port input ∷ []
        ≡ told.calls ++ starts_below (rank + 1) port input
    all told = rw add-one (append_assoc told.calls (starts_below rank port input) (Start rank port input ∷ []))

    both : (old : Option SpawnTold)
        → option_map (told_call (Start rank port input)) (option_map (with_starts rank port input) old)
        ≡ option_map (with_starts (rank + 1) port input) old
    both None = refl
    both (Some told) = ap (λ (calls : List ToldCall). Some (record told { calls = calls })) (all told)

-- ---- finishes

ends_more : (ends : List ChildEnd) (end : ChildEnd) (told : SpawnTold)
    → with_ends (ends ++ end ∷ []) told ≡ told_end end (with_ends ends told)
ends_more [] end told = refl
ends_more (first ∷ ends) end told = ends_more ends end (told_end first told)

-- one finish more
finishes_more : (started port : ℕ) (input : List ℕ) (ends : List ChildEnd) (end : ChildEnd)
    (old middle new : Option SpawnTold)
    → middle ≡ option_map (λ told. with_ends ends (with_starts started port input told)) old
    → new ≡ option_map (told_end end) middle
    → new ≡ option_map (λ told. with_ends (ends ++ end ∷ []) (with_starts started port input told)) old
finishes_more started port input ends end old middle new before after =
    after ∙ ap (option_map (told_end end)) before ∙ both old
  where
    both : (old : Option SpawnTold)
        → option_map (told_end end) (option_map (λ told. with_ends ends (with_starts started port input told)) old)
        ≡ option_map (λ told. with_ends (ends ++ end ∷ []) (with_starts started port input told)) old
    both None = refl
    both (Some told) =
        ap (λ (told : SpawnTold). Some told) (sym (ends_more ends end (with_starts started port input told)))

-- ---- children

plain_none : (started port : ℕ) (input : List ℕ) (told : SpawnTold)
    → with_starts started port input told ≡ all_told started port input [] told
plain_none started port input told =
    ap (λ (calls : List ToldCall). record { calls = calls; ended = told.ended })
    (sym (append-nil (told.calls ++ starts_below started port input)))
    ∙ ap (λ (ended : List ChildEnd). record {
      calls = told.calls ++ starts_below started port input ++ [];
      ended = ended;
    }) (sym (append-nil told.ended))

-- so many were started, and none was finished yet
pub spawns_none : (nodes port : ℕ) (input : List ℕ) (before after : SpawnerSeen) (started : ℕ) → started ≤ nodes
    → after.told ≡ option_map (with_starts started port input) before.told → before.faults ≤ after.faults
    → (started < nodes → Rose before.faults after.faults) → Spawns nodes port input before after started []
spawns_none nodes port input before after started few told later unstarted = record {
  few = few;
  told = told;
  plain = λ first at none.
      told ∙ (ap (option_map (with_starts started port input)) at
      ∙ ap (λ (told : SpawnTold). Some told) (plain_none started port input first));
  ranks = λ rank end at.
      let past = slice_get_past {X = ChildEnd} [] rank (omega arith) in absurd (none_some (sym past ∙ at));
  within = λ place default inside. absurd (omega arith);
  later = later;
  unstarted = unstarted;
  unfinished = λ place default inside. absurd (omega arith);
}

-- one was finished more
pub spawns_more : (nodes port : ℕ) (input : List ℕ) (before middle after : SpawnerSeen) (started : ℕ)
    (ends : List ChildEnd) (end : ChildEnd) → Spawns nodes port input before middle started ends
    → end.rank ≡ length ends → length ends < started → IsOutputWithin end
    → after.told ≡ option_map (told_end end) middle.told
    → middle.faults ≤ after.faults → (IsFinishFailed end.answer → Rose middle.faults after.faults)
    → Spawns nodes port input before after started (ends ++ end ∷ [])
spawns_more nodes port input before middle after started ends end spawns rank less within told later cause = record {
  few = spawns.few;
  told = finishes_more started port input ends end before.told middle.told after.told spawns.told told;
  plain = λ first at none.
      told ∙ (ap (option_map (told_end end)) (spawns.plain first at none)
      ∙ ap (λ (told : SpawnTold). Some told) (plain_more started port input ends end first none rank less));
  ranks = pushed_at (λ (place : ℕ) (it : ChildEnd). it.rank ≡ place) ends end spawns.ranks rank;
  within = All-push IsOutputWithin ends end spawns.within within;
  later = (let first = spawns.later in omega arith);
  unstarted = λ less. rose_earlier before.faults middle.faults after.faults later (spawns.unstarted less);
  unfinished =
      All-push (λ (it : ChildEnd). IsFinishFailed it.answer → Rose before.faults after.faults) ends end
      (λ place default inside failed.
      rose_earlier before.faults middle.faults after.faults later (spawns.unfinished place default inside failed))
      (λ failed. rose_later before.faults middle.faults after.faults spawns.later (cause failed));
}

-- ---- what a finish leaves in the vector that was empty

pub appended_within : (answer : Finished) (before after : List ℕ) → before ≡ [] → AppendsOutput answer before after
    → length after ≤ 67108864
appended_within answer before after none appends =
    by_answer answer (subst (λ (b : List ℕ). AppendsOutput answer b after) none appends)
  where
    by_answer : (answer : Finished) → AppendsOutput answer [] after → length after ≤ 67108864
    by_answer (finished.Ended code) h = h.1
    by_answer finished.Failed h = (let size = ap length h in omega arith)
    by_answer finished.NoMemory h = (let size = ap length h in omega arith)

-- the end that is told is that of the child
pub told_so : (rank : ℕ) (answer : Finished) (before after : List ℕ) (old new : Option SpawnTold) → before ≡ []
    → new ≡ option_map (told_end (child_end rank answer before after)) old
    → (let end : ChildEnd = record { rank = rank; output = after; answer = answer } in
    new ≡ option_map (told_end end) old)
told_so rank answer before after old new none told =
    told ∙ ap (λ (b : List ℕ). option_map (told_end (child_end rank answer b after)) old) none
