-- The ends of children, one by one.
use Rattle.std.proofs.Common.{◌≡◌, ◌⊎◌, inl, inr, ℕ, ◌+◌, ◌<◌, ◌≤◌, List, [], ◌∷◌, ◌++◌, length, Option, Some, None}
use Rattle.std.proofs.Common.{Result, Ok, Err, Vec, sym, ap, subst, ◌∙◌, arith, slice_get}
use Rattle.std.specs.Global.{Global}
use Rattle.std.specs.Prelude.{All, IsSomeAnd, option_map}
use Rattle.std.proofs.lemmas.Bool.{cases_eq}
use Rattle.std.proofs.lemmas.List.{length-map}
use Rattle.std.proofs.lemmas.Option.{get_or_from_slice_get, same_Some, slice_get-map, slice_get_cases, slice_get_within}
use Rattle.base_io.specs.Faults.{Rose}
use Rattle.base_io.specs.Spawner.{ChildEnd, IsFinishFailed}
use Rattle.base_io.specs.declared.spawner.Finished.{Finished}
use Rattle.base_io.specs.declared.spawner.Finished.TheVariants as finished
use Rattle.text_trace.specs.declared.output.Output.{Output}
use Rattle.text_job.specs.declared.job.Job.{Job as JobState}
use Rattle.base_lists.proofs.Appended.{get-append_kept, get-append_right}
use Rattle.base_lists.proofs.Cases.{none_some}
use Rattle.cli_launch.specs.Children.{AreRanked, SpawnerSeen, Spawns, end_of_child, ends_of}
use Rattle.cli_launch.specs.LaunchEnds.{EndsLaunch, HasEnds, Launch}
use Rattle.cli_launch.specs.Outputs.{AreGiven, GiveOrNot, GivesOrNot, GivesOutput, IsFirstFailing, SomeFailed}
use Rattle.cli_launch.specs.declared.children.Child.{Child}
use Rattle.cli_launch.specs.declared.fault.LaunchFault.{LaunchFault}
use Rattle.cli_launch.specs.declared.fault.LaunchFault.TheVariants as faults

-- ---- places

-- what holds of all holds of the one at a place
pub all_at : {A : Type 0} (P : A → Type 0) (xs : List A) (place : ℕ) (x : A) → All P xs → slice_get xs place ≡ Some x
    → P x
all_at P xs place x all there =
    subst P (get_or_from_slice_get xs place x x there) (all place x (slice_get_within xs place x there))

-- the end of the child at a place
pub end_at : (children : List Child) (place : ℕ) (child : Child) → slice_get children place ≡ Some child
    → slice_get (ends_of children) place ≡ Some (end_of_child child)
end_at children place child there = slice_get-map end_of_child children place ∙ ap (option_map end_of_child) there

-- the child whose end stands at a place
pub child_at : (children : List Child) (place : ℕ) (end : ChildEnd) → slice_get (ends_of children) place ≡ Some end
    → (child : Child) × (slice_get children place ≡ Some child) × (end_of_child child ≡ end)
child_at children place end there = elim (slice_get_cases children place).1 [
  | inl found ↦ (
    found.0,
    found.2,
    same_Some (end_of_child found.0) end (sym (end_at children place found.0 found.2) ∙ there),
  )
  | inr past ↦
      absurd
      (none_some (sym (slice_get-map end_of_child children place ∙ ap (option_map end_of_child) past.1) ∙ there))
]

-- ---- faults

-- no finish before this place failed
abbrev pub NoneFailed : List Child → ℕ → Type 0
NoneFailed children count = (place : ℕ) → place < count → (child : Child) → slice_get children place ≡ Some child
    → child.answer ≡ finished.Failed → ⊥

pub one_more : (children : List Child) (count : ℕ) (child : Child) → slice_get children count ≡ Some child
    → (((code : ℕ) × (child.answer ≡ finished.Ended code)) ⊎ (child.answer ≡ finished.NoMemory))
    → NoneFailed children count → NoneFailed children (count + 1)
one_more children count child there answer none place low other at failed = elim (cases_eq place count) [
  | inl same ↦
      let is : child ≡ other =
      same_Some child other (sym there ∙ ap (λ n. slice_get children n) (sym same) ∙ at) in
      let failed_so : child.answer ≡ finished.Failed = ap (λ (it : Child). it.answer) is ∙ failed in
      elim answer [
        | inl ended ↦ let so = ended.1 in absurd (cc)
        | inr short ↦ absurd (cc)
      ]
  | inr apart ↦ none place (omega arith) other at failed
]

pub none_failed : (children : List Child) (count : ℕ) → length children ≤ count → NoneFailed children count
    → SomeFailed (ends_of children) → ⊥
none_failed children count all none some =
    let found = child_at children some.rank some.end some.at in
    let inside = slice_get_within children some.rank found.0 found.1 in
    none some.rank (omega arith) found.0 found.1
    (ap (λ (end : ChildEnd). end.answer) found.2 ∙ some.failed)

-- the spawner's count of faults rose where a finish failed
pub rose_at : (ends : List ChildEnd) (before after : SpawnerSeen)
    → All (λ end. IsFinishFailed end.answer → Rose before.faults after.faults) ends → SomeFailed ends
    → Rose before.faults after.faults
rose_at ends before after unfinished some =
    all_at (λ (end : ChildEnd). IsFinishFailed end.answer → Rose before.faults after.faults) ends some.rank some.end
    unfinished some.at
    (subst (λ (answer : Finished). IsFinishFailed answer) (sym some.failed) tt)

-- ---- outputs

-- each child before this place gave the output at its place
abbrev pub Gave : JobState → List Child → List Output → ℕ → Type 0
Gave job children outputs count = (place : ℕ) → place < count → (child : Child) → slice_get children place ≡ Some child
    → IsSomeAnd (slice_get outputs place) (λ (output : Output). GivesOutput job (end_of_child child) output)

some_output : (o : Option Output) (P : Output → Type 0) → IsSomeAnd o P → (output : Output) × P output
some_output None P h = absurd h
some_output (Some output) P h = (output, h)

kept : (outputs : List Output) (output : Output) (place : ℕ) (P : Output → Type 0)
    → IsSomeAnd (slice_get outputs place) P → IsSomeAnd (slice_get (outputs ++ output ∷ []) place) P
kept outputs output place P h = elim (slice_get_cases outputs place).1 [
  | inl found ↦
      let there : P found.0 = subst (λ (o : Option Output). IsSomeAnd o P) found.2 h in
      subst (λ (o : Option Output). IsSomeAnd o P)
      (sym (get-append_kept outputs (output ∷ []) place found.0 found.2)) there
  | inr past ↦ absurd (subst (λ (o : Option Output). IsSomeAnd o P) past.1 h)
]

pub gave_one_more : (job : JobState) (children : List Child) (outputs new : List Output) (count : ℕ) (child : Child)
    (output : Output) → slice_get children count ≡ Some child → GivesOutput job (end_of_child child) output
    → length outputs ≡ count → new ≡ outputs ++ output ∷ [] → Gave job children outputs count
    → Gave job children new (count + 1)
gave_one_more job children outputs new count child output there gives all is gave place low other at =
    subst (λ (all : List Output). IsSomeAnd (slice_get all place) P) (sym is) so
  where
    P : Output → Type 0
    P one = GivesOutput job (end_of_child other) one

    last : slice_get (outputs ++ output ∷ []) count ≡ Some output
    last =
        let same : length outputs + 0 ≡ count = omega arith in
        ap (λ n. slice_get (outputs ++ output ∷ []) n) (sym same) ∙ get-append_right outputs (output ∷ []) 0

    so : IsSomeAnd (slice_get (outputs ++ output ∷ []) place) P
    so = elim (cases_eq place count) [
      | inl same ↦
          let one : child ≡ other =
          same_Some child other (sym there ∙ ap (λ n. slice_get children n) (sym same) ∙ at) in
          let gives_so : P output = subst (λ (it : Child). GivesOutput job (end_of_child it) output) one gives in
          subst (λ (o : Option Output). IsSomeAnd o P)
          (sym (ap (λ n. slice_get (outputs ++ output ∷ []) n) same ∙ last)) gives_so
      | inr apart ↦ kept outputs output place P (gave place (omega arith) other at)
    ]

-- all children gave outputs
pub all_given : (job : JobState) (children : List Child) (outputs : List Output) (count : ℕ)
    → length outputs ≡ count → length children ≤ count → count ≤ length children → Gave job children outputs count
    → AreGiven job (ends_of children) outputs
all_given job children outputs count all low high gave = record {
  count = (let ends = length-map children end_of_child in omega arith);
  each = λ rank end at.
      let found = child_at children rank end at in
      let inside = slice_get_within children rank found.0 found.1 in
      subst (λ (it : ChildEnd). IsSomeAnd (slice_get outputs rank) (λ (output : Output). GivesOutput job it output))
      found.2 (gave rank (omega arith) found.0 found.1);
}

-- the one at this place is the first that gave none
pub first_fault : (job : JobState) (children : List Child) (outputs : List Output) (place : ℕ) (child : Child)
    (fault : LaunchFault) → AreRanked (ends_of children) → slice_get children place ≡ Some child
    → Gave job children outputs place → GivesOrNot job (end_of_child child) (Err fault)
    → GiveOrNot job (ends_of children) (Err fault)
first_fault job children outputs place child (faults.Child rank code) ranks there gave fails =
    let is : rank ≡ place = fails.0 ∙ ranks place (end_of_child child) (end_at children place child there) in
    subst (λ n. IsFirstFailing job (ends_of children) n code) (sym is) (record {
      end = end_of_child child;
      at = end_at children place child there;
      fails = fails.1;
      first = λ other less end at.
          let found = child_at children other end at in
          let given = some_output (slice_get outputs other) _ (gave other less found.0 found.1) in
          (given.0, subst (λ (it : ChildEnd). GivesOutput job it given.0) found.2 given.1);
    })
first_fault job children outputs place child faults.SpawnFault ranks there gave failed =
    record { rank = place; end = end_of_child child; at = end_at children place child there; failed = failed }
first_fault job children outputs place child faults.NoMemory ranks there gave short = tt

-- ---- the launch

-- the children of its nodes have these ends
pub has_ends : (job : JobState) (port : ℕ) (input : List ℕ) (before after : SpawnerSeen) (children : List Child)
    (nodes : ℕ) → nodes ≡ job.settings.nodes
    → Spawns nodes port input before after (length children) (ends_of children)
    → (let launch : Launch = record { job = job; port = port; input = input } in
    HasEnds launch before after (ends_of children))
has_ends job port input before after children nodes is spawned =
    subst (λ n. Spawns n port input before after (length (ends_of children)) (ends_of children)) is
    (subst (λ n. Spawns nodes port input before after n (ends_of children))
    (sym (length-map children end_of_child)) spawned)

-- all were started, and no finish failed
pub launched : (launch : Launch) (before after : SpawnerSeen) (ends : List ChildEnd)
    (result : Result (Vec Output Global) LaunchFault) → HasEnds launch before after ends
    → launch.job.settings.nodes ≤ length ends → (SomeFailed ends → ⊥) → GiveOrNot launch.job ends result
    → EndsLaunch launch before after result
launched launch before after ends (Ok outputs) spawned all none given = record {
  ends = ends;
  spawned = spawned;
  all = (let few = spawned.few in omega arith);
  given = given;
}
launched launch before after ends (Err (faults.Child rank code)) spawned all none given = record {
  ends = ends;
  spawned = spawned;
  all = (let few = spawned.few in omega arith);
  finished = none;
  first = given;
}
launched launch before after ends (Err faults.SpawnFault) spawned all none given = absurd (none given)
launched launch before after ends (Err faults.NoMemory) spawned all none given =
    inr (record { ends = ends; spawned = spawned })
