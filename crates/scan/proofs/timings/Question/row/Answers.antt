-- `Question::row` meets its contract.
use mathlib.Core.Path.{◌∙◌}
use native.Mathlib.Omega.{arith}
use Rattle.scan.proofs.RowLaws.{step_beside, near_whole}
use Rattle.scan.proofs.timings.Question.row.Goals as goal

pub returns : goal.returns
returns c =
    let q = c.args.self.now in
    let first = c.args.first in
    c.near_ask.ensures
    ∙ rw (c.row_of.ensures.stamps, c.row_of.ensures.place, c.beside-beside.ensures, c.step-own.ensures, c.step-mate.ensures, c.step-others.ensures, step_beside q.timings.now.steps q.last.now q.timings.now.opening q.second q.spot first)
    (near_whole q.timings.now.steps q.last.now q.timings.now.opening q.second q.spot first (omega arith))
