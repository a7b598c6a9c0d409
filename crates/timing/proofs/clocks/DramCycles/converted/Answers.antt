-- `converted` meets its contract.
use native.Mathlib.Omega.{arith}
use Rattle.timing.proofs.Rounding.{rounding_library}
use Rattle.timing.proofs.clocks.DramCycles.converted.Goals as goal

pub returns : goal.returns
returns c = rw (c.div_ceil-rounded.ensures, c.from-gap.ensures, c.from-ratio.ensures, rounding_library c.args.opening.ratio (omega (arith, c.if-opening-eq0.false)) c.args.self.0)
