-- `read_numbers` meets its contract: the numbers so far stand before those still to be read.
use mathlib.Core.Path.{◌≡◌}
use Prim.Native.Nat.{◌+◌, ◌≤◌}
use lib.ListN.{length, take}
use Rattle.requests.specs.Words.{words}
use Rattle.requests.specs.Requests.{read_from}
use Rattle.requests.proofs.RequestLaws.{onto}
use Rattle.requests.proofs.requests.read_numbers.Given as goal

abbrev pub invariant-loop-word : goal.invariant-loop-word
invariant-loop-word l =
    (l.count + length l.rest ≤ 4096) × (length l.numbers ≡ 4096) × (read_from l.form 0 (words l.line) ≡ onto (take l.count l.numbers) (read_from l.form l.count (words l.rest)))

abbrev pub decreases-loop-word : goal.decreases-loop-word
decreases-loop-word l = length l.rest
