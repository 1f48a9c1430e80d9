-- That runs are lawful: a lemma for each thing that a handler may do.
pub use Rattle.part_handlers.proofs.Lawful.{lawful-untouched, lawful-cells, lawful-attempted, lawful-took_lock}
pub use Rattle.part_handlers.proofs.Lawful.{lawful-gave_lock, lawful-writing, lawful-replying}
pub use Rattle.part_handlers.proofs.Lawful.{short_reply-content, medium_reply-content, long_reply-content}
