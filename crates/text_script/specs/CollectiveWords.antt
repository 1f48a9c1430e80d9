-- The words of the answers to calls of collectives.
use Rattle.std.specs.Prelude.{List, [], ◌∷◌, codes, decimal}
use Rattle.node_collectives.specs.declared.answers.Argument.{Argument}
use Rattle.node_collectives.specs.declared.answers.Argument.TheVariants as argument
use Rattle.node_collectives.specs.declared.answers.EndAnswer.{EndAnswer}
use Rattle.node_collectives.specs.declared.answers.EndAnswer.TheVariants as ended
use Rattle.node_collectives.specs.declared.answers.StartAnswer.{StartAnswer}
use Rattle.node_collectives.specs.declared.answers.StartAnswer.TheVariants as started
use Rattle.node_collectives.specs.declared.answers.StepAnswer.{StepAnswer}
use Rattle.node_collectives.specs.declared.answers.StepAnswer.TheVariants as stepped
use Rattle.text_script.specs.AnswerWords.{forbidden_words}
use Rattle.base_text.specs.Lines.{Word}
use Rattle.base_text.specs.LineTexts.{Line}
use Rattle.text_script.specs.declared.collective_texts.CollectiveAnswer.{CollectiveAnswer}
use Rattle.text_script.specs.declared.collective_texts.CollectiveAnswer.TheVariants as answers

-- the word of the argument of a call that is bad
abbrev pub argument_word : Argument → Word
argument_word argument.Root = codes "root"
argument_word argument.Length = codes "length"
argument_word argument.Source = codes "source"
argument_word argument.Destination = codes "dest"

-- the words of a call of which an argument is bad
abbrev pub bad_argument_words : Argument → Line
bad_argument_words argument = codes "bad-arg" ∷ argument_word argument ∷ []

-- the words of the answer to a start
abbrev pub started_words : StartAnswer → Line
started_words started.Started = codes "ok" ∷ []
started_words started.Busy = codes "busy" ∷ []
started_words (started.BadArg argument) = bad_argument_words argument
started_words started.Exhausted = codes "worn-out" ∷ []
started_words (started.Forbidden rule) = forbidden_words rule
started_words (started.LockBusy lock) = codes "lock-busy" ∷ decimal lock ∷ []
started_words started.NoMemory = codes "no-memory" ∷ []

-- the words of the answer to a step
abbrev pub stepped_words : StepAnswer → Line
stepped_words (stepped.Sent to) = codes "sent" ∷ decimal to ∷ []
stepped_words stepped.Nothing = codes "nothing" ∷ []
stepped_words (stepped.Forbidden rule) = forbidden_words rule
stepped_words stepped.NoMemory = codes "no-memory" ∷ []

-- the words of the answer to a try to end a collective
abbrev pub ended_words : EndAnswer → Line
ended_words ended.Ended = codes "ok" ∷ []
ended_words (ended.Mismatch node) = codes "mismatch-with" ∷ decimal node ∷ []
ended_words ended.NotReady = codes "not-ready" ∷ []
ended_words ended.NotStarted = codes "not-started" ∷ []
ended_words (ended.BadArg argument) = bad_argument_words argument
ended_words (ended.Exhausted node) = codes "worn-out" ∷ decimal node ∷ []
ended_words (ended.Forbidden rule) = forbidden_words rule
ended_words ended.NoMemory = codes "no-memory" ∷ []

-- the words of an answer
abbrev pub collective_words : CollectiveAnswer → Line
collective_words (answers.Start answer) = started_words answer
collective_words (answers.Step answer) = stepped_words answer
collective_words (answers.End answer) = ended_words answer
