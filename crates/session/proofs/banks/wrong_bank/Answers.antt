-- `wrong_bank` meets its contract: line 12 where the edition has it.
use Prim.Native.Nat.{◌≤◌}
use native.Mathlib.Omega.{arith}
use borrow.Author.Tests.{le-leb}
use Rattle.timing.specs.Editions.{bank_states}
use Rattle.session.proofs.BankLaws.{looks}
use Rattle.session.proofs.banks.wrong_bank.Goals as goal

pub returns : goal.returns
returns c =
    let a = c.args in
    let has-states : bank_states ≤ a.opening.edition = omega arith in
    rw (le-leb _ _ has-states, c.wanted.ensures, c.looked_at.ensures, c.bit_for-bit.ensures.0)
    (looks a.up a.placed.command.rank a.placed.command.bank a.placed.command.kind)
