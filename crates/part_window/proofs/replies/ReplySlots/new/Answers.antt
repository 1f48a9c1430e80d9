use Rattle.std.proofs.Common.{length, ap, ◌∙◌, length-set}
use Rattle.std.specs.Prelude.{slice_get, map}
use Rattle.base_lists.proofs.Cut.{length-cut}
use Rattle.part_window.specs.TableState.{TableState}
use Rattle.part_window.specs.TableState.{counts_of, new_table}
use Rattle.part_window.specs.ReplyViews.{reply_of, replies_view}
use Rattle.part_window.proofs.RepliesViewed.{parts-new}
use Rattle.part_window.proofs.replies.ReplySlots.new.Goals as goal

pub returns : goal.returns
returns c =
    let credits = c.args.credits.now in
    let me = c.args.me in
    let is = c.in_ok-new.ensures in
    record {
      nodes =
          ap (λ (u : TableState). length (replies_view u).peers) is
          ∙ (length-cut (counts_of credits me) (map reply_of (new_table credits me).slots) ∙ length-set credits me 0);
      peers =
          λ j number at. ap (λ (u : TableState). slice_get (replies_view u).peers j) is
          ∙ parts-new credits me j number at;
    }
