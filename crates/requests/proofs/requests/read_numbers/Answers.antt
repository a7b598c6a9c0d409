-- `read_numbers` meets its contract: the numbers so far stand before those still to be read.
use native.Mathlib.Omega.{arith}
use lib.ListN.{length-set}
use Rattle.requests.proofs.RequestLaws.{read_end, read_bad, read_next}
use Rattle.requests.proofs.requests.read_numbers.Goals as goal

pub returns-in_err-numbers : goal.returns-in_err-numbers
returns-in_err-numbers c =
    let l = c.loop-word in
    rw c.from_residual.ensures (read_bad c.args.form _ _ l.numbers l.count l.invariant.2 _ _ c.in-Some.ensures.0 (rw c.place_at.ensures at c.in_err-numbers.ensures))

pub loop-word-preserved : goal.loop-word-preserved
loop-word-preserved c =
    let l = c.loop-word in
    let less = c.in-Some.ensures.1 in (
      omega (arith, l.invariant.0, less),
      simp length-set l.invariant.1,
      read_next c.args.form _ _ l.numbers l.count l.invariant.2 _ _ c.in-Some.ensures.0 c.in_ok-numbers.field-0 (rw c.place_at.ensures at c.in_ok-numbers.ensures) (omega (arith, l.invariant.0, l.invariant.1, less)),
    )

pub returns : goal.returns
returns c =
    let l = c.loop-word in
    read_end c.args.form _ _ l.numbers l.count l.invariant.2 c.in_default.ensures (omega (arith, l.invariant.0, l.invariant.1))
