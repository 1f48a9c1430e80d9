-- What is told of the outputs of the nodes of a run, one part after the other.
use Rattle.std.specs.Prelude.{◌≡◌, ℕ, List, [], ◌++◌, true, false}
use Rattle.std.specs.Bool.{MatchBool}
use Rattle.std.specs.List.{flat_map, list_any}
use Rattle.cli_report.specs.Findings.{blocked_told, counts_told, difference_told, is_blocked, is_stuck, status_told}
use Rattle.cli_report.specs.Gathering.{AddsBy, GivesOne, GivesTo}
use Rattle.cli_report.specs.Replays.{AreSent, IsPrefixText}
use Rattle.cli_report.specs.Unsent.{gaps_text, is_searched}
use Rattle.cli_report.specs.declared.command.CommandKind.{CommandKind}
use Rattle.cli_report.specs.declared.command.CommandKind.TheVariants as kinds
use Rattle.cli_report.specs.declared.findings.NodeFinding.{NodeFinding}
use Rattle.cli_report.specs.declared.replays.Replays.{Ghosts as Replays}
use Rattle.cli_report.specs.declared.report.Judged.{Judged}
use Rattle.cli_report.specs.declared.status.Ending.{Ending}
use Rattle.cli_report.specs.declared.status.Ending.TheVariants as endings
use Rattle.cli_report.specs.declared.texts.Texts.{Ghosts as Texts}
use Rattle.cli_report.specs.declared.unsent.Gap.{Gap}
use Rattle.cli_report.specs.declared.unsent.SentMessage.{SentMessage}

-- what no node sent was added, by all that was sent
pub record AddsUnsent {R : Type 0} (given : Replays R) (nodes : List NodeFinding) (replays : R)
    (sent : List SentMessage) (old new : List ℕ) : Type 0 where
  pub gaps : List Gap
  pub are : GivesTo (GivesOne (given.gaps replays)) (given.places replays) gaps
  pub is : new ≡ old ++ gaps_text gaps sent (list_any is_blocked nodes)

-- where the replays stop was added, and what no node sent, where that is looked for
pub record AddsGaps {R : Type 0} (given : Replays R) (nodes : List NodeFinding) (replays : R)
    (old new : List ℕ) : Type 0 where
  pub sent : List SentMessage
  pub are : GivesTo (AreSent given replays) (given.places replays) sent
  pub is : MatchBool (is_searched nodes sent)
      (AddsUnsent given nodes replays sent (old ++ flat_map blocked_told nodes) new)
      (new ≡ old ++ flat_map blocked_told nodes)

-- so it was of traces that are no run
abbrev pub AddsNoRun : {R : Type 0} → Replays R → Ending → List NodeFinding → R → (old new : List ℕ) → Type 0
AddsNoRun given endings.Run nodes replays old new = new ≡ old
AddsNoRun given endings.NoRun nodes replays old new = AddsGaps given nodes replays old new
AddsNoRun given endings.Failed nodes replays old new = new ≡ old

-- where a node got stuck, what is told of the patience was added
abbrev pub AddsPatience : {T : Type 0} → Texts T → List NodeFinding → (job old new : List ℕ) → Type 0
AddsPatience texts nodes job old new =
    MatchBool (list_any is_stuck nodes) (AddsBy (texts.warns job) old new) (new ≡ old)

-- of a check, how the nodes ended: of their own, and then stuck
unfoldable pub statuses_text : CommandKind → List NodeFinding → List ℕ
statuses_text kinds.Check nodes = flat_map (status_told false) nodes ++ flat_map (status_told true) nodes
statuses_text kinds.Launch nodes = []
statuses_text kinds.World nodes = []
statuses_text kinds.Other nodes = []

-- all of it, in this order, by what the output of each node tells: the steps, the counts and the differences, with
-- what is told of no run behind them, and of the patience, and then how the nodes ended
pub record IsToldBy {T R : Type 0} (texts : Texts T) (given : Replays R) (judged : Judged) (job : List ℕ)
    (nodes : List NodeFinding) (replays : R) (text : List ℕ) : Type 0 where
  pub prefix : List ℕ
  pub judged_text : List ℕ
  pub patient_text : List ℕ
  pub is_prefix : IsPrefixText texts given judged.ending job replays prefix
  pub no_run : AddsNoRun given judged.ending nodes replays
      ((prefix ++ flat_map (counts_told judged.ending) nodes) ++ flat_map difference_told nodes) judged_text
  pub patience : AddsPatience texts nodes job judged_text patient_text
  pub is : text ≡ patient_text ++ statuses_text judged.kind nodes
