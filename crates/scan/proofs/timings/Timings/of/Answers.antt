-- `Timings::of` meets its contract.
use mathlib.Core.Path.{sym}
use native.Mathlib.Omega.{arith}
use Rattle.scan.proofs.StepLaws.{gap_steps_at, gap_steps_below}
use Rattle.scan.proofs.timings.Timings.of.Goals as goal

pub invariant_of-result : goal.invariant_of-result
invariant_of-result c =
    let rounded = c.args.terms.now.rounded in
    record { layer_is = c.table.ensures; steps_low = rw c.gap_steps.ensures (gap_steps_below rounded); no_step = rw c.gap_steps.ensures (sym (gap_steps_at rounded 0 (omega arith))) }
