-- `rounded_gaps` meets its contract: the loop fills the rounded gaps from the front.
use mathlib.Core.Path.{◌≡◌}
use lib.ListN.{take, length}
use Rattle.session.specs.State.{rounded_gaps}
use Rattle.session.proofs.changes.rounded_gaps.Given as goal

abbrev pub invariant-loop-place : goal.invariant-loop-place
invariant-loop-place l = (take l.place l.cycles-items ≡ take l.place (rounded_gaps l.opening l.gaps)) × (length l.cycles-items ≡ 20)
