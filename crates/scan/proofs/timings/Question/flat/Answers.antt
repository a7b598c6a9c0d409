-- `Question::flat` meets its contract.
use mathlib.Core.Path.{◌∙◌}
use Rattle.scan.proofs.RowLaws.{flat_whole}
use Rattle.scan.proofs.timings.Question.flat.Goals as goal

pub returns : goal.returns
returns c =
    let q = c.args.self.now in
    c.flat_ask.ensures
    ∙ rw (c.row_of.ensures.stamps, c.row_of.ensures.place, c.step-all.ensures) (flat_whole q.timings.now.steps q.last.now q.timings.now.opening q.second q.spot c.args.first c.requires)
