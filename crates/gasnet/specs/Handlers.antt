-- What a handler finds and leaves, and what makes its run lawful.
pub use Rattle.part_handlers.specs.Runs.{Arrival, Frame, Start, Outcome, nothing_done, judgement, after_attempt}
pub use Rattle.part_handlers.specs.Runs.{writing}
pub use Rattle.part_handlers.specs.Runs.{lock_refusal, unlock_refusal, took_lock, gave_lock}
pub use Rattle.part_handlers.specs.Runs.{answer, replying, after_answer, IsReplyContent, IsGood, IsLawful, IsLawfulRun}
pub use Rattle.part_handlers.specs.Runs.{Meaning, IsLawfulMeaning}
