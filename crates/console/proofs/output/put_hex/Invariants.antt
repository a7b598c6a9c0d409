-- `put_hex` meets its contract: both digits of a byte are written each turn.
use mathlib.Core.Path.{◌≡◌}
use Prim.Native.Nat.{◌*◌}
use lib.Seq.{paste}
use Rattle.console.specs.Output.{hex_text}
use Rattle.console.proofs.output.put_hex.Given as goal

abbrev pub invariant-loop-i : goal.invariant-loop-i
invariant-loop-i l = l.out ≡ paste l.initial.out l.at (hex_text l.bytes) (2 * l.i)
