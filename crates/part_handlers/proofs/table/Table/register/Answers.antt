-- The new entry's locks join those of the table.
use Rattle.std.proofs.Common.{◌-◌, List, Option, ap, ◌∙◌, slice_get}
use Rattle.part_handlers.specs.declared.table.Entry.{Entry}
use Rattle.part_handlers.proofs.Entries.{registered}
use Rattle.part_handlers.proofs.table.Table.register.Goals as goal

pub invariant_of-self : goal.invariant_of-self
invariant_of-self c =
    registered c.self.inside.places.items (c.in_ok-index.index - 128) (record {
      index = c.in_ok-index.index;
      serves = c.args.entry.serves;
      locks = c.args.entry.locks;
    }) c.self.inside.reply_locks c.locks_in_replies.result c.self.invariant
    (ap (λ (table : List (Option Entry)). slice_get table (c.in_ok-index.index - 128)) c.self.view_is
    ∙ c.in_ok-index.ensures.free) c.locks_in_replies.ensures
