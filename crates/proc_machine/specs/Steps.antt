-- What a step waits for and how it is tried, for those who stand on the machine of a node and not on its steps.
pub use Rattle.proc_steps.specs.Forms.{as_synced, begun_handle, is_issued, cell_reached, step_form, tried_while}
pub use Rattle.proc_steps.specs.Forms.{waiting_form, waits_of, word_reached}
