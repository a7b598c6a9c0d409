-- `put_numbers` meets its contract.
use Rattle.text.specs.Text.{text}
use Rattle.text.proofs.LineLaws.{spaced_none, spaced_more}
use Rattle.text.proofs.lines.Line.put_numbers.Goals as goal

pub loop-number-init : goal.loop-number-init
loop-number-init c = spaced_none _

pub loop-number-preserved : goal.loop-number-preserved
unfolding text
loop-number-preserved c =
    let l = c.loop-number in
    spaced_more _ l.self c.put.new.self c.put_decimal.new.self c.args.numbers.now l.number-index c.loop-number-test.true l.invariant c.put.ensures c.put_decimal.ensures
