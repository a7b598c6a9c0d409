-- `banks_after` meets its contract.
use native.Mathlib.Omega.{arith}
use Rattle.session.proofs.BankLaws.{after_bits}
use Rattle.session.proofs.banks.banks_after.Goals as goal

pub returns : goal.returns
returns c = rw (c.opening_bits-opening.ensures, c.closing_bits-closing.ensures, c.first_bit-first.ensures.0) (after_bits _ _ (omega arith))
