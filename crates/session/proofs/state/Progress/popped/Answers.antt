-- `Progress::popped` meets its contract.
use Rattle.session.specs.State.{popped_progress}
use Rattle.session.proofs.state.Progress.popped.Goals as goal

pub returns : goal.returns
unfolding popped_progress
returns c = rw (c.one_more.ensures, c.saturating_sub-2.ensures, c.saturating_sub.ensures, c.place_back.ensures.0, c.unshifted.ensures, c.slot_in.ensures)
