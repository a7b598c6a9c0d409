-- `put_numbers` meets its contract.
use lib.ListN.{take}
use Rattle.text.specs.Text.{spaced}
use Rattle.text.specs.Lines.{Appended}
use Rattle.text.proofs.lines.Line.put_numbers.Given as goal

abbrev pub invariant-loop-number : goal.invariant-loop-number
invariant-loop-number l = Appended l.initial.self (spaced (take l.number-index l.numbers)) l.self
