-- A function of a number that was changed at one place: `base_lists` has these.
pub use Rattle.base_lists.proofs.Put.{put_same, put_other, put_own}
