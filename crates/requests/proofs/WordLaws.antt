-- Laws of words and of numbers.
use mathlib.Core.Path.{◌≡◌, refl, sym, ◌∙◌, ap}
use mathlib.Core.Bool.{Bool, true, false, cond, not, ◌&&◌, and-false}
use mathlib.Core.List.{List, [], ◌∷◌}
use Prim.Native.Nat.{ℕ, suc, ◌+◌, ◌-◌, ◌*◌, ◌≤◌, ◌<◌}
use native.Mathlib.Numerals.{add-one}
use native.Mathlib.Omega.{arith}
use lib.Dec.{leb, ltb}
use lib.ListN.{length, take, drop, get_or, drop_of_length-le, length-drop}
use lib.Seq.{drop-cons}
use borrow.Author.Tests.{lt-leb, le-leb, ltb-true, ltb-false, ne_eqb}
use Rattle.std.specs.Prelude.{Option, Some, None}
use Rattle.std.proofs.Common.{take_all, length-take-le}
use Rattle.std.proofs.lemmas.List.Sums.{prefix_len-le-length, prefix_len_stops}
use Rattle.std.specs.List.{list_all, filter, slice_split, position, position_or_len}
use Rattle.requests.specs.Words.{is_blank, is_empty, words, is_digit, value_from}

-- digits read from the left: a value under way, and the number that it makes with those behind it
abbrev pub number_from : ℕ → List ℕ → Option ℕ
number_from v w = cond (list_all is_digit w && leb (value_from v w) 18446744073709551615) (Some (value_from v w)) None

value_most : (v : ℕ) (w : List ℕ) → v ≤ value_from v w
unfolding value_from
value_most v [] = omega arith
value_most v (b ∷ bs) = omega (arith, value_most (v * 10 + (b - 48)) bs)

too_large : (v : ℕ) (w : List ℕ) → 18446744073709551615 < v → number_from v w ≡ None
too_large v w large = rw (lt-leb (value_from v w) 18446744073709551615 (omega (arith, value_most v w)), and-false (list_all is_digit w))

-- the byte at hand is a digit
module _ (w : List ℕ) (v i d : ℕ) (more : i < length w) (digit : Some d ≡ cond (is_digit (get_or w i 0)) (Some (get_or w i 0 - 48)) None) where
  digit_is : (is_digit (get_or w i 0) ≡ true) × (d ≡ get_or w i 0 - 48)
  digit_is = go (is_digit (get_or w i 0)) digit
    where
      go : (t : Bool) → Some d ≡ cond t (Some (get_or w i 0 - 48)) None → (t ≡ true) × (d ≡ get_or w i 0 - 48)
      go true e = (refl, cc)
      go false e = cc

  pub number_next : number_from v (drop i w) ≡ number_from (v * 10 + d) (drop (i + 1) w)
  unfolding value_from
  number_next = rw (add-one, drop-cons w i 0 more, digit_is.0, digit_is.1)

  pub number_large : 18446744073709551615 < v * 10 + d → number_from v (drop i w) ≡ None
  number_large large = number_next ∙ too_large (v * 10 + d) (drop (i + 1) w) large

pub number_end : (w : List ℕ) (v i : ℕ) → v ≤ 18446744073709551615 → length w ≤ i → number_from v (drop i w) ≡ Some v
unfolding value_from
number_end w v i fits done = rw (drop_of_length-le w {i = i} done, le-leb v 18446744073709551615 fits)

-- the words of a line are those behind its blanks
behind_blanks : (line : List ℕ) → words line ≡ words (drop (position_or_len (λ b. not (is_blank b)) line) line)
behind_blanks [] = refl
behind_blanks (b ∷ bs) = go (is_blank b) refl (behind_blanks bs)
  where
    n : ℕ
    n = position_or_len (λ b. not (is_blank b)) (b ∷ bs)

    go : (t : Bool) → is_blank b ≡ t → words bs ≡ words (drop (position_or_len (λ b. not (is_blank b)) bs) bs) → words (b ∷ bs) ≡ words (drop n (b ∷ bs))
    go true e more = let past : n ≡ suc (position_or_len (λ b. not (is_blank b)) bs) = rw e (omega arith) in rw (past, e) more
    go false e more = let here : n ≡ 0 = rw e in rw here

-- what a line's bytes are cut into: its bytes before the first blank, and parts that are the words behind these
parts_behind : (line : List ℕ) → (parts : List (List ℕ)) × (slice_split is_blank line ≡ take (position_or_len is_blank line) line ∷ parts) × (filter (λ w. not (is_empty w)) parts ≡ words (drop (position_or_len is_blank line) line))
parts_behind [] = ([], refl, refl)
parts_behind (b ∷ bs) = go (is_blank b) refl (parts_behind bs)
  where
    n : ℕ
    n = position_or_len is_blank (b ∷ bs)

    go : (t : Bool) → is_blank b ≡ t → ((parts : List (List ℕ)) × (slice_split is_blank bs ≡ take (position_or_len is_blank bs) bs ∷ parts) × (filter (λ w. not (is_empty w)) parts ≡ words (drop (position_or_len is_blank bs) bs)))
        → (parts : List (List ℕ)) × (slice_split is_blank (b ∷ bs) ≡ take n (b ∷ bs) ∷ parts) × (filter (λ w. not (is_empty w)) parts ≡ words (drop n (b ∷ bs)))
    go true e later = let here : n ≡ 0 = rw e in (slice_split is_blank bs, rw e, rw (here, e))
    go false e later = let here : n ≡ suc (position_or_len is_blank bs) = rw e (omega arith) in (later.0, rw (here, e, later.1), rw here later.2)

front_word : (line : List ℕ) → 0 < position_or_len is_blank line → words line ≡ take (position_or_len is_blank line) line ∷ words (drop (position_or_len is_blank line) line)
front_word line some =
    let n = position_or_len is_blank line in
    let cut = parts_behind line in
    let size : length (take n line) ≡ n = length-take-le n line (prefix_len-le-length (λ b. not (is_blank b)) line) in
    rw (cut.1, ne_eqb (length (take n line)) 0 (λ e. absurd (omega (arith, e, size, some)))) (ap (λ ws. take n line ∷ ws) cut.2)

-- the first place at which a test passes, as the library's `position` gives it
module _ (p : ℕ → Bool) (xs : List ℕ) where
  at_none : (t : Bool) → ltb (position_or_len p xs) (length xs) ≡ t → ◌≡◌ {A = Option ℕ} None (cond t (Some (position_or_len p xs)) None) → position_or_len p xs ≡ length xs
  at_none true low is = cc
  at_none false low is = omega (arith, ltb-false (position_or_len p xs) (length xs) low, prefix_len-le-length (λ x. not (p x)) xs)

  at_some : (i : ℕ) (t : Bool) → ltb (position_or_len p xs) (length xs) ≡ t → Some i ≡ cond t (Some (position_or_len p xs)) None → (i ≡ position_or_len p xs) × (i < length xs)
  at_some i true low is = let here : i ≡ position_or_len p xs = cc in (here, omega (arith, here, ltb-true (position_or_len p xs) (length xs) low))
  at_some i false low is = cc

-- A WORD SPLIT OFF, from its first byte to the next blank
module _ (line : List ℕ) where
  abbrev in_word : ℕ → Bool
  in_word b = not (is_blank b)

  pub no_word : None ≡ position in_word line → words line ≡ []
  no_word is = behind_blanks line ∙ ap (λ n. words (drop n line)) (at_none in_word line (ltb (position_or_len in_word line) (length line)) refl is) ∙ rw (drop_of_length-le line {i = length line} (omega arith))

  pub some_left : (i : ℕ) → Some i ≡ position in_word line → 0 < length line
  some_left i is = omega (arith, at_some in_word line i (ltb (position_or_len in_word line) (length line)) refl is)

  module _ (i : ℕ) (is : Some i ≡ position in_word line) (rest : List ℕ) (behind : rest ≡ take (length line - i) (drop i line)) where
    low : (i ≡ position_or_len in_word line) × (i < length line)
    low = at_some in_word line i (ltb (position_or_len in_word line) (length line)) refl is

    not_blank : is_blank (get_or line i 0) ≡ false
    not_blank = go (is_blank (get_or line i 0)) (rw low.0 (prefix_len_stops (λ b. not (in_word b)) line 0 (omega (arith, low))))
      where
        go : (t : Bool) → not (not t) ≡ false → t ≡ false
        go true e = e
        go false e = refl

    here : rest ≡ get_or line i 0 ∷ drop (suc i) line
    here = behind ∙ take_all (length line - i) (drop i line) (omega (arith, length-drop i line)) ∙ drop-cons line i 0 low.1

    first_word : words line ≡ take (position_or_len is_blank rest) rest ∷ words (drop (position_or_len is_blank rest) rest)
    first_word =
        let same : drop (position_or_len in_word line) line ≡ rest = rw (← low.0, here) (drop-cons line i 0 low.1) in
        let some : position_or_len is_blank rest ≡ suc (position_or_len is_blank (drop (suc i) line)) = rw (here, not_blank) (omega arith) in
        behind_blanks line ∙ ap words same ∙ front_word rest (omega (arith, some))

    pub last_word : None ≡ position is_blank rest → words line ≡ rest ∷ []
    last_word is =
        let all = at_none is_blank rest (ltb (position_or_len is_blank rest) (length rest)) refl is in
        first_word ∙ rw (all, take_all (length rest) rest (omega arith), drop_of_length-le rest {i = length rest} (omega arith))

    module _ (e : ℕ) (to : Some e ≡ position is_blank rest) (after : List ℕ) (beyond : after ≡ take (length rest - (e + 1)) (drop (e + 1) rest)) where
      end : (e ≡ position_or_len is_blank rest) × (e < length rest)
      end = at_some is_blank rest e (ltb (position_or_len is_blank rest) (length rest)) refl to

      blank : is_blank (get_or rest e 0) ≡ true
      blank = go (is_blank (get_or rest e 0)) (rw end.0 (prefix_len_stops (λ b. not (is_blank b)) rest 0 (omega (arith, end))))
        where
          go : (t : Bool) → not t ≡ false → t ≡ true
          go true e = refl
          go false e = sym e

      left : after ≡ drop (suc e) rest
      left = rw (beyond, add-one) (take_all (length rest - suc e) (drop (suc e) rest) (omega (arith, length-drop (suc e) rest)))

      pub next_word : words line ≡ take e rest ∷ words after
      next_word = first_word ∙ rw (← end.0, drop-cons rest e 0 end.1, blank, left)

      pub less_left : length after < length line
      less_left =
          let size : length rest ≡ suc (length (drop (suc i) line)) = ap length here in
          let most : length after ≡ length (drop (suc e) rest) = ap length left in
          omega (arith, most, size, length-drop (suc i) line, length-drop (suc e) rest, end, low)
