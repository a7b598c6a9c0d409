-- `Progress::pushed` meets its contract.
use Rattle.session.specs.State.{pushed_progress}
use Rattle.session.proofs.state.Progress.pushed.Goals as goal

pub returns : goal.returns
unfolding pushed_progress
returns c =
    rw (c.banks_after.ensures, c.one_more-2.ensures, c.deeper.ensures, c.one_more.ensures, c.struct_known-1.given, c.shifted.ensures)
