-- `judged` meets its contract: the library's quotient, where it fits.
use mathlib.Core.Path.{sym, ◌∙◌}
use native.Mathlib.Omega.{arith}
use Rattle.datasheet.proofs.SheetLaws.{judged_fits, judged_over}
use Rattle.datasheet.proofs.sheet.Picoseconds.judged.Goals as goal

pub returns-in_err-gap : goal.returns-in_err-gap
returns-in_err-gap c =
    c.from_residual.ensures
    ∙ judged_over c.args.tck c.args.self c.requires.0 (grind arith) c.try_from.result (rw c.div_ceil.ensures at c.try_from.ensures) (sym c.ok.ensures.value ∙ c.in_err-gap.was)

pub returns : goal.returns
returns c = judged_fits c.args.tck c.args.self c.requires.0 (grind arith) c.try_from.result (rw c.div_ceil.ensures at c.try_from.ensures) c.in_ok-gap.gap (sym c.ok.ensures.value ∙ c.in_ok-gap.was)
