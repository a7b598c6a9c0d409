-- `gap_number` meets its contract: the entry of a table that agrees with the list.
use mathlib.Core.Path.{◌∙◌}
use Prim.Native.Nat.{◌<◌}
use native.Mathlib.Omega.{arith}
use borrow.Author.Tests.{le-ltb}
use Rattle.timing.specs.Rules.{class_number, table_gap}
use Rattle.timing.proofs.TableLaws.{class_below, table_entry}
use Rattle.timing.proofs.table.gap_number.Goals as goal

pub returns-then-opening-ge3 : goal.returns-then-opening-ge3
unfolding table_gap
returns-then-opening-ge3 c = rw (le-ltb _ _ c.if-opening-ge3.true)

pub returns : goal.returns
returns c =
    let mode-known : c.args.opening.mode < 3 = omega (arith, c.if-opening-ge3.false) in
    c.from.ensures
    ∙ rw (c.number.ensures, c.place_of-row.ensures.0, c.place_of-column.ensures.0, c.requires) (table_entry c.args.opening (class_number c.args.class) c.args.first c.args.second mode-known (class_below c.args.class))
