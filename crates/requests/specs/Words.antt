-- A line's words, and words as numbers.
use Rattle.std.specs.Prelude.{◌≡◌, ◌<◌, Bool, cond, not, ◌&&◌, ◌||◌, List, [], ◌∷◌, ℕ, ◌+◌, ◌-◌, ◌*◌, eqb, leb, length, Option, Some, None}
use Rattle.std.specs.List.{filter, list_all, position, slice_split}
use Rattle.std.specs.Str.{bytes_eq}
use Rattle.std.specs.Borrow.{Bor}

-- a space or a tab
abbrev pub is_blank : ℕ → Bool
is_blank b = eqb b 32 || eqb b 9

abbrev pub in_line : ℕ → Bool
in_line b = not (eqb b 10)

abbrev pub is_empty : List ℕ → Bool
is_empty word = eqb (length word) 0

-- THE WORDS OF A LINE: what stands between its blanks, where anything does
abbrev pub words : List ℕ → List (List ℕ)
words line = filter (λ w. not (is_empty w)) (slice_split is_blank line)

-- the first word and what stands behind it, if a word is left
abbrev pub TakesWord : List ℕ → Option (Bor (List ℕ) × Bor (List ℕ)) → Type 0
TakesWord line None = words line ≡ []
TakesWord line (Some part) = (words line ≡ part.0.now ∷ words part.1.now) × (length part.1.now < length line)

-- decimal digits, and what they come to behind a value
abbrev pub is_digit : ℕ → Bool
is_digit b = leb 48 b && leb b 57

unfoldable pub value_from : ℕ → List ℕ → ℕ
value_from v [] = v
value_from v (b ∷ bs) = value_from (v * 10 + (b - 48)) bs

abbrev pub value_of : List ℕ → ℕ
value_of word = value_from 0 word

-- a number: decimal digits, of a value that 64 bits hold
abbrev pub is_number : List ℕ → Bool
is_number word = not (is_empty word) && list_all is_digit word && leb (value_of word) 18446744073709551615

abbrev pub number_of : List ℕ → Option ℕ
number_of word = cond (is_number word) (Some (value_of word)) None

-- the place of the first word that is the same, if one is
abbrev pub index_of : List ℕ → List (List ℕ) → Option ℕ
index_of word ws = position (λ w. bytes_eq w word) ws
