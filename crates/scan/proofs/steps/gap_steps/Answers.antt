-- `gap_steps` meets its contract: the loop fills the steps from the front.
use mathlib.Core.Path.{◌≡◌, ◌∙◌}
use lib.ListN.{length-set}
use native.Mathlib.Omega.{arith}
use Rattle.timing.proofs.Fill.{fill_more, fill_all}
use Rattle.scan.specs.Rows.{gap_steps}
use Rattle.scan.proofs.StepLaws.{step_from_lem, gap_steps_size, gap_steps_at}
use Rattle.scan.proofs.steps.gap_steps.Goals as goal

pub loop-n-preserved : goal.loop-n-preserved
loop-n-preserved c =
    let rounded = c.args.rounded.now in
    let l = c.loop-n in (
      fill_more 0 l.step-items (gap_steps rounded) l.n c.step_of.result (omega arith) (omega (arith, gap_steps_size rounded)) l.invariant.0
          (c.step_of.ensures ∙ step_from_lem rounded l.n (omega arith) ∙ gap_steps_at rounded l.n (omega arith)),
      simp length-set l.invariant.1,
    )

pub returns : goal.returns
returns c =
    let rounded = c.args.rounded.now in
    let l = c.loop-n in
    let all : l.n ≡ 21 = omega arith in
    fill_all 0 l.step-items (gap_steps rounded) 21 (omega arith) (omega (arith, gap_steps_size rounded)) (rw all at l.invariant.0)
