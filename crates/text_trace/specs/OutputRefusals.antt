-- Which lines may stand where in what a node writes, so that a refusal of one has its meaning.
use Rattle.std.specs.Prelude.{◌≡◌, Bool, false, if◌then◌else◌, List, [], ◌∷◌, codes}
use Rattle.std.specs.Str.{bytes_eq}
use Rattle.text_trace.specs.declared.output.NodeStatus.{NodeStatus}
use Rattle.text_trace.specs.declared.output.NodeStatus.TheVariants as status
use Rattle.text_trace.specs.declared.output.Output.{Output}
use Rattle.text_trace.specs.declared.output.Wanted.{Wanted}
use Rattle.text_trace.specs.LineRefusals.{TextKind}
use Rattle.base_text.specs.LineTexts.{Line}
use Rattle.text_trace.specs.OutputText.{IsOutput, output_text}
use Rattle.text_trace.specs.TraceRefusals as traces
use Rattle.text_trace.specs.TraceRefusals.{IsNamed}
use Rattle.text_trace.specs.TraceText.{line_of_number}

-- the words of the line of a status
abbrev pub status_line : NodeStatus → Line
status_line status.Ok = codes "status" ∷ codes "0" ∷ codes "ok" ∷ []
status_line status.Violations = codes "status" ∷ codes "1" ∷ codes "violations" ∷ []
status_line status.LinkFault = codes "status" ∷ codes "6" ∷ codes "link-fault" ∷ []
status_line status.Stuck = codes "status" ∷ codes "9" ∷ codes "stuck" ∷ []
status_line status.JournalFull = codes "status" ∷ codes "10" ∷ codes "journal-full" ∷ []

-- what line comes next
pub data OutputPlace : Type 0 where
  AtVersion : OutputPlace
  AtJob : OutputPlace
  AtRank : OutputPlace
  AtEntries : OutputPlace  -- an entry, or the line `end`
  AtStatus : OutputPlace

-- whether the words are those of the line `end`
abbrev pub is_end : Line → Bool
is_end [] = false
is_end (word ∷ []) = bytes_eq word (codes "end")
is_end (word ∷ more ∷ others) = false

-- behind these lines that follow the first three
abbrev pub place_among : List Line → OutputPlace
place_among [] = AtEntries
place_among (line ∷ lines) = if is_end line then AtStatus else place_among lines

-- behind these lines
abbrev pub place_behind : List Line → OutputPlace
place_behind [] = AtVersion
place_behind (first ∷ []) = AtJob
place_behind (first ∷ second ∷ []) = AtRank
place_behind (first ∷ second ∷ third ∷ lines) = place_among lines

-- the words are those of a status
abbrev pub IsStatus : Line → Type 0
IsStatus words = (ended : NodeStatus) × (words ≡ status_line ended)

-- the line has the form of its place
abbrev pub HasForm : OutputPlace → Line → Type 0
HasForm AtVersion words = IsNamed (codes "trace") words
HasForm AtJob words = IsNamed (codes "job") words
HasForm AtRank words = IsNamed (codes "rank") words
HasForm AtEntries words = traces.HasForm traces.AtEntries words
HasForm AtStatus words = IsStatus words

-- an output of the node that is wanted may have such a line there
abbrev pub MayStand : Wanted → OutputPlace → Line → Type 0
MayStand wanted AtVersion words = words ≡ line_of_number (codes "trace") wanted.version
MayStand wanted AtJob words = words ≡ line_of_number (codes "job") wanted.job
MayStand wanted AtRank words = words ≡ line_of_number (codes "rank") wanted.rank
MayStand wanted AtEntries words = traces.MayStand wanted.version wanted.threads traces.AtEntries words
MayStand wanted AtStatus words = IsStatus words

-- the texts of outputs of the node that is wanted
abbrev pub output_kind : Wanted → TextKind Output
output_kind wanted = record {
  IsOne = IsOutput wanted;
  text_of = output_text wanted.version;
  HasForm = λ before words. HasForm (place_behind before) words;
  MayStand = λ before words. MayStand wanted (place_behind before) words;
}
