-- `sheet_gaps` meets its contract: the loop fills the gaps from the front, and no gap number that it passed is faulty.
use mathlib.Core.Path.{◌≡◌}
use Prim.Native.Nat.{◌+◌}
use lib.ListN.{take, drop, length}
use Rattle.datasheet.specs.Sheet.{gaps_for, lowest_faulty}
use Rattle.datasheet.proofs.sheet.sheet_gaps.Given as goal

abbrev pub invariant-loop-place : goal.invariant-loop-place
invariant-loop-place l =
    (length l.gaps ≡ 20) × (take l.place l.gaps ≡ take l.place (gaps_for l.tck l.time-items))
    × (lowest_faulty l.tck 1 l.time-items ≡ lowest_faulty l.tck (l.place + 1) (drop l.place l.time-items))
