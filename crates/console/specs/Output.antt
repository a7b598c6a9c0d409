-- Bytes as hexadecimal, and the line under way in what was read.
use Rattle.std.specs.Prelude.{cond, List, [], ◌∷◌, ℕ, ◌+◌, ◌-◌, ◌/◌, ◌%◌, min, leb, ltb, length, take, drop}

-- 0 to 9, a to f
abbrev pub hex_digit : ℕ → ℕ
hex_digit n = cond (ltb n 10) (48 + n) (87 + n)

unfoldable pub hex_text : List ℕ → List ℕ
hex_text [] = []
hex_text (b ∷ bs) = hex_digit (b / 16) ∷ hex_digit (b % 16) ∷ hex_text bs

-- of the line under way, from a place to an end, 4,097 bytes are kept: one more than a line may have
abbrev pub under_way : List ℕ → ℕ → ℕ → List ℕ
under_way bytes from end = cond (leb end (length bytes)) (take (min (end - from) 4097) (drop from bytes)) []
