-- `table` meets its contract.
use native.Mathlib.Omega.{arith}
use Rattle.std.proofs.lemmas.Grind.{common_steps}
use Rattle.timing.specs.Table.{ungrouped, grouped, ungrouped_since1, grouped_since1}
use Rattle.timing.proofs.table.table.Goals as goal

pub returns-in-true-true : goal.returns-in-true-true
unfolding ungrouped
returns-in-true-true c = grind (arith, common_steps)

pub returns-in-true-false : goal.returns-in-true-false
unfolding grouped
returns-in-true-false c = grind (arith, common_steps)

pub returns-in-false-true : goal.returns-in-false-true
unfolding ungrouped_since1
returns-in-false-true c = grind (arith, common_steps)

pub returns-in-false-false : goal.returns-in-false-false
unfolding grouped_since1
returns-in-false-false c = grind (arith, common_steps)
