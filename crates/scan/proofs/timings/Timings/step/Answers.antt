-- `Timings::step` meets its contract.
use Rattle.std.proofs.Common.{arith}
use Rattle.timing.specs.Rules.{class_number}
use Rattle.timing.proofs.TableLaws.{gap_low}
use Rattle.scan.proofs.timings.Timings.step.Goals as goal

pub offset_bounds-self-gap_number : goal.offset_bounds-self-gap_number
offset_bounds-self-gap_number c =
    let a = c.args in
    omega (arith, c.gap_number.ensures, gap_low a.self.now.opening (class_number c.class_for-class.result) a.first a.second)

pub bounds-self-gap_number : goal.bounds-self-gap_number
bounds-self-gap_number c =
    let a = c.args in
    omega (arith, c.gap_number.ensures, gap_low a.self.now.opening (class_number c.class_for-class.result) a.first a.second)
