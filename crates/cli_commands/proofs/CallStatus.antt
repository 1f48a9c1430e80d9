-- What the exit status of a call says, by its words, and what the call leaves alone.
use Rattle.std.proofs.Common.{◌≡◌, ℕ, ◌<◌, ◌^◌, List, [], Option, Some, None, refl, sym, ap, subst, ◌∙◌, arith, codes}
use Rattle.std.proofs.Common.{get_or}
use Rattle.std.specs.Prelude.{if◌then◌else◌, bytes_eq, decimal}
use Rattle.std.specs.Str.Parse.{digits_value}
use Rattle.std.proofs.lemmas.Fmt.{decimal_is_IsNumeral}
use Rattle.base_text.specs.Lines.{Word}
use Rattle.cli_commands.specs.Outsides.{Call, Course, Spawning, course_in, spawning_in, took_in}
use Rattle.cli_commands.specs.Commands.{Asks, AsksNothing, IsAsked, IsCommand, code_of, command_words}
use Rattle.cli_commands.specs.HowEnds.{EndMeans}
use Rattle.cli_commands.specs.TopCall.{IsComplete, LeavesAlone, StatusMeans}
use Rattle.cli_commands.specs.TopParts.{Ends, KeepsOutside}
use Rattle.cli_commands.specs.declared.ending.CommandEnd.{CommandEnd}
use Rattle.cli_commands.specs.declared.words.Command.{Command}
use Rattle.cli_commands.specs.declared.words.Command.TheVariants as commands
use Rattle.cli_commands.proofs.LastLine.{Weakens}
use Rattle.cli_commands.proofs.WorldCommand.{weak_world, world_completes, world_means}
use Rattle.cli_commands.proofs.UpgradeCommand.{upgrade_completes, upgrade_means, weak_upgrade}
use Rattle.cli_commands.proofs.CheckCommand.{check_completes, check_means, weak_check}
use Rattle.cli_commands.proofs.LaunchCommand.{launch_completes, launch_means, weak_launch}
use Rattle.cli_commands.proofs.NodeCommand.{node_completes, node_means, weak_node}
use Rattle.cli_commands.proofs.DrillCommand.{drill_completes, drill_means, weak_drill}
use Rattle.cli_commands.proofs.NoCommand.{usage_means, weak_usage}

-- what each command says where something is claimed of what it gives it says where nothing is
pub weak_ends : (asked : Option Command) (course : Course) (spawning : Spawning) → Weakens (Ends asked course spawning)
weak_ends None course spawning = weak_usage
weak_ends (Some commands.World) course spawning = weak_world course.reading
weak_ends (Some commands.Upgrade) course spawning = weak_upgrade course.reading
weak_ends (Some commands.Check) course spawning = weak_check course.reading
weak_ends (Some (commands.Launch port)) course spawning = weak_launch port course.reading spawning
weak_ends (Some (commands.Node rank port)) course spawning = weak_node rank port course
weak_ends (Some (commands.Drill seed)) course spawning = weak_drill seed

-- ---- the words of a command are those of no other one

-- the command of these words, if they are those of one
named : List Word → Command
named words =
    let name = get_or words 0 [] in
    if bytes_eq name (codes "world") then commands.World else
    if bytes_eq name (codes "upgrade") then commands.Upgrade else
    if bytes_eq name (codes "check") then commands.Check else
    if bytes_eq name (codes "launch") then commands.Launch (digits_value 10 (get_or words 1 [])) else
    if bytes_eq name (codes "node")
    then commands.Node (digits_value 10 (get_or words 1 [])) (digits_value 10 (get_or words 2 []))
    else
    commands.Drill (digits_value 10 (get_or words 1 []))

names : (command : Command) → IsCommand command → named (command_words command) ≡ command
unfolding named
names commands.World h = refl
names commands.Upgrade h = refl
names commands.Check h = refl
names (commands.Launch port) h =
    let short : port < 2 ^ 64 = (let high = h.1 in omega arith) in
    ap (λ (n : ℕ). commands.Launch n) (decimal_is_IsNumeral port short).1
names (commands.Node rank port) h =
    let few : rank < 2 ^ 64 = (let low = h.0 in omega arith) in
    let short : port < 2 ^ 64 = (let high = h.2 in omega arith) in
    ap (λ (n : ℕ). commands.Node n (digits_value 10 (decimal port))) (decimal_is_IsNumeral rank few).1
    ∙ ap (λ (n : ℕ). commands.Node rank n) (decimal_is_IsNumeral port short).1
names (commands.Drill seed) h = ap (λ (n : ℕ). commands.Drill n) (decimal_is_IsNumeral seed h).1

-- what words ask for is what they are the words of
pub is_asked : (words : List Word) (asked : Option Command) (command : Command) → IsAsked words asked
    → Asks words command → asked ≡ Some command
is_asked words None command nothing asks = absurd (nothing command asks)
is_asked words (Some other) command is asks =
    ap (λ (c : Command). Some c)
    (sym (names other is.in_range) ∙ ap named (sym is.words_are ∙ asks.words_are) ∙ names command asks.in_range)

-- where they ask for nothing, nothing is asked
none_asked : (words : List Word) (asked : Option Command) → IsAsked words asked → AsksNothing words → asked ≡ None
none_asked words None is nothing = refl
none_asked words (Some command) is nothing = absurd (nothing command is)

-- ---- exit statuses

-- how what was asked for ended
abbrev EndedAs : Call → CommandEnd → Option Command → Type 0
EndedAs call end asked = EndMeans (Ends asked (course_in call) (spawning_in call)) (took_in call) call.given end

-- a call with the words of this command ended as the command does
ended_as : (call : Call) (asked : Option Command) (end : CommandEnd) (command : Command) → IsAsked call.words asked
    → EndedAs call end asked → Asks call.words command → EndedAs call end (Some command)
ended_as call asked end command is h asks =
    subst (EndedAs call end) (is_asked call.words asked command is asks) h

pub status_means : (call : Call) (asked : Option Command) (end : CommandEnd) → IsAsked call.words asked
    → EndedAs call end asked → StatusMeans call (code_of end)
status_means call asked end is h = record {
  world = λ asks. world_means call end (ended_as call asked end commands.World is h asks);
  upgrade = λ asks. upgrade_means call end (ended_as call asked end commands.Upgrade is h asks);
  check = λ asks. check_means call end (ended_as call asked end commands.Check is h asks);
  launch = λ port asks. launch_means call port end (ended_as call asked end (commands.Launch port) is h asks);
  node = λ rank port asks.
      node_means call rank port end (ended_as call asked end (commands.Node rank port) is h asks);
  drill = λ seed asks. drill_means call seed end (ended_as call asked end (commands.Drill seed) is h asks);
  usage = λ nothing. usage_means call end (subst (EndedAs call end) (none_asked call.words asked is nothing) h);
}

pub completes : (call : Call) (asked : Option Command) (end : CommandEnd) → IsAsked call.words asked
    → EndedAs call end asked → IsComplete call (code_of end)
completes call asked end is h = record {
  world = λ asks. world_completes call end (ended_as call asked end commands.World is h asks);
  upgrade = λ asks. upgrade_completes call end (ended_as call asked end commands.Upgrade is h asks);
  check = λ asks. check_completes call end (ended_as call asked end commands.Check is h asks);
  launch = λ port asks. launch_completes call port end (ended_as call asked end (commands.Launch port) is h asks);
  node = λ rank port asks.
      node_completes call rank port end (ended_as call asked end (commands.Node rank port) is h asks);
  drill = λ seed asks. drill_completes call seed end (ended_as call asked end (commands.Drill seed) is h asks);
}

-- ---- what is left alone

-- what of the outside stands as it did after what was asked for
abbrev KeptAs : Call → Option Command → Type 0
KeptAs call asked = KeepsOutside asked (course_in call) (spawning_in call)

unlaunched : (call : Call) (asked : Option Command) → IsAsked call.words asked → KeptAs call asked
    → ((port : ℕ) → Asks call.words (commands.Launch port) → ⊥) → call.after.spawner ≡ call.before.spawner
unlaunched call None is kept none = kept.2
unlaunched call (Some commands.World) is kept none = kept.1
unlaunched call (Some commands.Upgrade) is kept none = kept.1
unlaunched call (Some commands.Check) is kept none = kept.1
unlaunched call (Some (commands.Launch port)) is kept none = absurd (none port is)
unlaunched call (Some (commands.Node rank port)) is kept none = kept
unlaunched call (Some (commands.Drill seed)) is kept none = kept.2

no_node_ran : (call : Call) (asked : Option Command) → IsAsked call.words asked → KeptAs call asked
    → ((rank port : ℕ) → Asks call.words (commands.Node rank port) → ⊥) → call.after.devices ≡ call.before.devices
no_node_ran call None is kept none = kept.1
no_node_ran call (Some commands.World) is kept none = kept.0
no_node_ran call (Some commands.Upgrade) is kept none = kept.0
no_node_ran call (Some commands.Check) is kept none = kept.0
no_node_ran call (Some (commands.Launch port)) is kept none = kept
no_node_ran call (Some (commands.Node rank port)) is kept none = absurd (none rank port is)
no_node_ran call (Some (commands.Drill seed)) is kept none = kept.1

pub leaves_alone : (call : Call) (asked : Option Command) → IsAsked call.words asked → KeptAs call asked
    → LeavesAlone call
leaves_alone call asked is kept = record {
  spawner = unlaunched call asked is kept;
  devices = no_node_ran call asked is kept;
  drill = λ seed asks. (subst (KeptAs call) (is_asked call.words asked (commands.Drill seed) is asks) kept).0;
  usage = λ nothing. (subst (KeptAs call) (none_asked call.words asked is nothing) kept).0;
}
