-- `put_decimal` meets its contract.
use native.Mathlib.Omega.{arith}
use Rattle.std.proofs.lemmas.Grind.{common_steps}
use Rattle.text.proofs.LineLaws.{as_written}
use Rattle.text.proofs.lines.Line.put_decimal.Goals as goal

pub returns : goal.returns
returns c = let e = as_written c.args.number (omega arith) in grind (arith, common_steps, e)
