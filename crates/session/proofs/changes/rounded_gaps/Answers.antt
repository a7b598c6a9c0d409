-- `rounded_gaps` meets its contract: the loop fills the rounded gaps from the front.
use mathlib.Core.Path.{◌≡◌, ◌∙◌, ap}
use lib.ListN.{length-set}
use native.Mathlib.Omega.{arith}
use Rattle.timing.specs.declared.clocks.Converted.{Converted}
use Rattle.timing.specs.Clocks.{cycles, rounded_up}
use Rattle.timing.proofs.Fill.{fill_more, fill_all}
use Rattle.session.specs.State.{rounded_gaps}
use Rattle.session.proofs.RoundedLaws.{rounded_size, rounded_at}
use Rattle.session.proofs.changes.rounded_gaps.Goals as goal

pub loop-place-preserved : goal.loop-place-preserved
loop-place-preserved c =
    let a = c.args in
    let l = c.loop-place in
    let size = rounded_size a.opening a.gaps ∙ c.well_formed.1.0.1.0.1 in (
      fill_more (cycles (rounded_up a.opening (record { 0 = 0 }))) l.cycles-items (rounded_gaps a.opening a.gaps) l.place c.converted.result.rounded (omega arith) (omega arith)
          l.invariant.0 (ap (λ (x : Converted). x.rounded) c.converted.ensures ∙ rounded_at a.opening a.gaps l.place),
      simp length-set l.invariant.1,
    )

pub returns : goal.returns
returns c =
    let a = c.args in
    let l = c.loop-place in
    let size = rounded_size a.opening a.gaps ∙ c.well_formed.1.0.1.0.1 in
    let all : l.place ≡ 20 = omega arith in
    fill_all (cycles 0) l.cycles-items (rounded_gaps a.opening a.gaps) 20 (omega arith) (omega arith) (rw all at l.invariant.0)
