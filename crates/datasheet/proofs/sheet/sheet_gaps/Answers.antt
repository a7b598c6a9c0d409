-- `sheet_gaps` meets its contract: the loop fills the gaps from the front, and no gap number that it passed is faulty.
use mathlib.Core.Path.{◌≡◌, sym, ◌∙◌, ap}
use Prim.Native.Nat.{◌+◌}
use lib.ListN.{get_or, length-set}
use native.Mathlib.Omega.{arith}
use Rattle.timing.proofs.Fill.{fill_more, fill_all}
use Rattle.datasheet.specs.Sheet.{dram, gap_for, gaps_for, accepted}
use Rattle.datasheet.proofs.SheetLaws.{none, judged_gap, judged_faulty, gaps_size, gaps_at, lowest_past, lowest_here, lowest_end, answer_13, answer_14, answer_0}
use Rattle.datasheet.proofs.sheet.sheet_gaps.Goals as goal

pub returns-then-not-tck_in_range : goal.returns-then-not-tck_in_range
returns-then-not-tck_in_range c =
    let a = c.args in
    sym (answer_13 a.tck a.times (sym c.tck_in_range.ensures ∙ c.if-not-tck_in_range.true))

pub returns-in_default : goal.returns-in_default
returns-in_default c =
    let loop = c.loop-place in
    let a = c.args in
    let size = c.well_formed.1.0.1.0.1 in
    let fault = judged_faulty a.tck (get_or a.times loop.place none) (sym c.judged.ensures ∙ c.in_default.is) in
    sym
    (answer_14 a.tck a.times loop.place (sym c.tck_in_range.ensures ∙ c.if-not-tck_in_range.false)
    (loop.invariant.2 ∙ lowest_here a.tck a.times (loop.place + 1) loop.place (omega arith) fault))

pub loop-place-preserved : goal.loop-place-preserved
loop-place-preserved c =
    let loop = c.loop-place in
    let a = c.args in
    let size = gaps_size a.tck a.times ∙ c.well_formed.1.0.1.0.1 in
    let gap = judged_gap a.tck (get_or a.times loop.place none) (sym c.judged.ensures ∙ c.in-Some.is) in (
      simp length-set loop.invariant.0,
      fill_more (dram (gap_for a.tck none)) loop.gaps (gaps_for a.tck a.times) loop.place _ (omega arith) (omega arith) loop.invariant.1 (gap.1 ∙ gaps_at a.tck a.times loop.place),
      loop.invariant.2 ∙ lowest_past a.tck a.times (loop.place + 1) loop.place (omega arith) gap.0,
    )

pub returns : goal.returns
returns c =
    let loop = c.loop-place in
    let a = c.args in
    let times = c.well_formed.1.0.1.0.1 in
    let size = gaps_size a.tck a.times ∙ times in
    let all : loop.place ≡ 20 = omega arith in
    let gaps = fill_all (dram 0) loop.gaps (gaps_for a.tck a.times) 20 (omega arith) (omega arith) (rw all at loop.invariant.1) in
    ap accepted gaps
    ∙ sym
    (answer_0 a.tck a.times (sym c.tck_in_range.ensures ∙ c.if-not-tck_in_range.false)
    (loop.invariant.2 ∙ lowest_end a.tck a.times (loop.place + 1) loop.place (omega arith)))
