-- Lines put together from a word and numbers.
use mathlib.Core.Path.{◌≡◌, ◌∙◌, ap}
use mathlib.Core.List.{List, [], ◌∷◌, ◌++◌, append-nil}
use Prim.Native.Nat.{ℕ, ◌+◌, ◌-◌, ◌*◌, ◌≤◌}
use native.Mathlib.Omega.{arith}
use borrow.Author.Tests.{ne_eqb}
use lib.ListN.{length, take, replicate, length-append}
use Rattle.std.proofs.Math.Seq.{take-append_seam}
use Rattle.text.specs.Text.{text, spaced}
use Rattle.text.specs.declared.lines.Line.{Line}
use Rattle.text.specs.Lines.{shown, Appended, IsLine}
use Rattle.text.proofs.LineLaws.{decimal_most}
use Rattle.requests.specs.declared.forms.Request.{Request}
use Rattle.requests.specs.declared.forms.Request.TheVariants as asks
use Rattle.requests.specs.Forms.{word_of}
use Rattle.console.specs.Say.{in_array, line_text}

-- the words of the table are short
pub word_short : (q : Request) → length (word_of q) ≤ 8
unfolding word_of text
word_short asks.Nothing = search arith
word_short asks.Malformed = search arith
word_short asks.Open = search arith
word_short asks.Offer = search arith
word_short asks.Ask = search arith
word_short asks.Back = search arith
word_short asks.Status = search arith
word_short asks.Stretch = search arith
word_short asks.Lend = search arith
word_short asks.Restore = search arith
word_short asks.Poke = search arith
word_short asks.Bytes = search arith
word_short asks.Gaps = search arith
word_short asks.Burst = search arith

pub spaced_most : (ns : List ℕ) → length (spaced ns) ≤ 21 * length ns
unfolding spaced text
spaced_most [] = omega arith
spaced_most (n ∷ ns) = simp length-append (omega (arith, spaced_most ns, decimal_most 20 n))

put_is : (xs ys : List ℕ) (l r : Line) → IsLine xs l → length xs + length ys ≤ 512 → Appended l ys r → IsLine (xs ++ ys) r
put_is xs ys l r is fits put = put (rw is fits) ∙ ap (λ (z : List ℕ). z ++ ys) is

-- the numbers come back out of their array
pub array_front : (ns : List ℕ) → take (length ns) (in_array ns) ≡ ns
array_front ns = take-append_seam ns (replicate (22 - length ns) 0)

-- a line empty, with its word, with its numbers, and with a space behind them
module _ (q : Request) (ns : List ℕ) (hex : ℕ) (e w l : Line) (few : length ns ≤ 22) (empty : shown e ≡ []) (named : Appended e (word_of q) w) (numbered : Appended w (spaced ns) l) where
  both_is : IsLine (word_of q ++ spaced ns) l
  both_is = put_is (word_of q) (spaced ns) w l (put_is [] (word_of q) e w empty (omega (arith, word_short q)) named) (omega (arith, word_short q, spaced_most ns, few)) numbered

  pub line_plain : hex ≡ 0 → IsLine (line_text q ns hex) l
  unfolding line_text
  line_plain none = rw (none, append-nil (word_of q ++ spaced ns)) both_is

  pub line_bytes : (hex ≡ 0 → ⊥) → (r : Line) → Appended l (text " ") r → IsLine (line_text q ns hex) r
  unfolding line_text text
  line_bytes some r put =
      let size = length-append (word_of q) (spaced ns) in
      rw (ne_eqb hex 0 some) (put_is (word_of q ++ spaced ns) (text " ") l r both_is (omega (arith, size, word_short q, spaced_most ns, few)) put)
