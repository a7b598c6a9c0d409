-- `number_of` meets its contract: the value under way makes the same number with the bytes left.
use mathlib.Core.Path.{◌≡◌}
use Prim.Native.Nat.{◌≤◌}
use lib.ListN.{drop}
use Rattle.requests.specs.Words.{number_of}
use Rattle.requests.proofs.WordLaws.{number_from}
use Rattle.requests.proofs.words.number_of.Given as goal

abbrev pub invariant-loop-byte : goal.invariant-loop-byte
invariant-loop-byte l = (l.value ≤ 18446744073709551615) × (number_of l.word ≡ number_from l.value (drop l.byte-index l.word))
