-- Text as bytes, and numbers in decimal.
use Rattle.std.specs.Prelude.{ℕ, zero, suc, ◌+◌, ◌/◌, ◌%◌, cond, ltb}
use Prim.Native.Char.{code}
use Prim.Native.String.{String, [], ◌∷◌}
use mathlib.Core.List

unfoldable pub text : String → List.List ℕ
text [] = List.[]
text (c ∷ s) = List.◌∷◌ (code c) (text s)

-- a number in at most so many decimal digits, with no leading zero
unfoldable pub digits : ℕ → ℕ → List.List ℕ
digits zero n = List.[]
digits (suc more) n = let high = digits more (n / 10) in List.◌++◌ (cond (ltb n 10) List.[] high) (List.◌∷◌ (48 + n % 10) List.[])

-- twenty digits hold every number below 2 to the 64
abbrev pub decimal : ℕ → List.List ℕ
decimal n = digits 20 n

-- numbers, each after a space
unfoldable pub spaced : List.List ℕ → List.List ℕ
spaced List.[] = List.[]
spaced (List.◌∷◌ n ns) = List.◌++◌ (List.◌++◌ (text " ") (decimal n)) (spaced ns)
