-- `earliest_of` meets its contract.
use mathlib.Core.Path.{sym, ◌∙◌, ap}
use Rattle.scan.specs.Scan.{unpacked}
use Rattle.scan.proofs.RankLaws.{lent_largest}
use Rattle.scan.proofs.earliest.earliest_of.Goals as goal

pub returns-clause-lent : goal.returns-clause-lent
returns-clause-lent c lent =
    let a = c.args in
    let s = a.session.now in
    (rw (c.spot_of.ensures, c.known_ask.ensures a.timings.now.steps (sym c.step_of_four.ensures)) at c.earliest.ensures)
    ∙ ap unpacked (lent_largest a.timings.now s.last s.terms s.progress a.placed.command lent a.placed.bank_low)
