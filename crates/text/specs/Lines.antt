-- A line of text under way: at most 512 bytes. A word and 22 numbers fit.
use Rattle.std.specs.Prelude.{◌≡◌, cond, List, ◌++◌, ℕ, ◌+◌, ◌≤◌, leb, length, take, drop}
use Rattle.text.specs.declared.lines.Line.{Line}

abbrev pub line_size : ℕ
line_size = 512

abbrev pub shown : Line → List ℕ
shown l = l.bytes.items

-- the bytes xs stand behind what was there, if they fit
abbrev pub Appended : Line → List ℕ → Line → Type 0
Appended l xs r = length (shown l) + length xs ≤ line_size → shown r ≡ shown l ++ xs

-- the line is these bytes
abbrev pub IsLine : List ℕ → Line → Type 0
IsLine xs r = shown r ≡ xs

-- bytes put at a place of a buffer, and the place behind them; where there is no room for all of them, nothing
pub record Put (xs : List ℕ) (at : ℕ) (before after : List ℕ) (behind : ℕ) : Type 0 where
  pub bytes : after ≡ cond (leb (at + length xs) (length before)) (take at before ++ xs ++ drop (at + length xs) before) before
  pub place : behind ≡ cond (leb (at + length xs) (length before)) (at + length xs) at
