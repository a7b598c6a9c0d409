-- `gap_steps` meets its contract: the loop fills the steps from the front.
use mathlib.Core.Path.{◌≡◌}
use lib.ListN.{take, length}
use Rattle.scan.specs.Rows.{gap_steps}
use Rattle.scan.proofs.steps.gap_steps.Given as goal

abbrev pub invariant-loop-n : goal.invariant-loop-n
invariant-loop-n l = (take l.n l.step-items ≡ take l.n (gap_steps l.rounded)) × (length l.step-items ≡ 21)
