-- `gaps_said` meets its contract: a gap is added each turn behind the two first numbers.
use mathlib.Core.Path.{◌≡◌}
use mathlib.Core.List.{◌∷◌, map}
use lib.ListN.{take}
use Rattle.console.proofs.say.gaps_said.Given as goal

abbrev pub invariant-loop-gap : goal.invariant-loop-gap
invariant-loop-gap l = l.numbers.items ≡ l.given.number ∷ l.given.gap_number ∷ map (λ g. g.0) (take l.gap-index l.given.gaps)
