-- `number_of` meets its contract: the value under way makes the same number with the bytes left.
use mathlib.Core.Path.{sym, ◌∙◌}
use native.Mathlib.Omega.{arith}
use Rattle.requests.proofs.WordLaws.{number_large, number_next, number_end}
use Rattle.requests.proofs.words.number_of.Goals as goal

pub returns-in_err-checked_mul : goal.returns-in_err-checked_mul
returns-in_err-checked_mul c =
    let l = c.loop-byte in
    c.from_residual-in_err-checked_mul.ensures ∙ sym (l.invariant.1 ∙ number_large _ l.value l.byte-index _ c.loop-byte-test.true c.in_ok-digit.ensures (omega (arith, c.in_err-checked_mul.ensures)))

pub returns-in_err-value : goal.returns-in_err-value
returns-in_err-value c =
    let l = c.loop-byte in
    c.from_residual-in_err-value.ensures ∙ sym (l.invariant.1 ∙ number_large _ l.value l.byte-index _ c.loop-byte-test.true c.in_ok-digit.ensures (omega (arith, c.in_ok-checked_mul.ensures, c.in_err-value.ensures)))

pub loop-byte-preserved : goal.loop-byte-preserved
loop-byte-preserved c =
    let l = c.loop-byte in
    let value = c.in_ok-value.ensures in
    (omega (arith, value), l.invariant.1 ∙ rw (value.1, c.in_ok-checked_mul.ensures.1) (number_next _ l.value l.byte-index _ c.loop-byte-test.true c.in_ok-digit.ensures))

pub returns : goal.returns
returns c = let l = c.loop-byte in sym (l.invariant.1 ∙ number_end _ l.value l.byte-index l.invariant.0 c.loop-byte-test.false)
