-- A number of a line fits its place, so that a reduction to the place's width changes none.
use mathlib.Core.Path.{◌≡◌, refl, sym, ◌∙◌, ap}
use mathlib.Core.Bool.{Bool, true, false, cond}
use mathlib.Core.List.{List, [], ◌∷◌}
use Prim.Native.Nat.{ℕ, zero, suc, ◌+◌, ◌%◌, ◌≤◌, ◌<◌}
use native.Mathlib.Omega.{arith}
use native.Mathlib.Nat.{mod-eq_of_lt}
use lib.Dec.{ltb, eqb, leb}
use lib.ListN.{length, get_or}
use borrow.Author.Tests.{leb-true, le-ltb, lt-ltb}
use Rattle.requests.specs.declared.forms.Form.{Form}
use Rattle.requests.specs.declared.forms.Place.TheVariants.{UpTo}
use Rattle.requests.specs.declared.forms.Request.{Request}
use Rattle.requests.specs.declared.forms.Request.TheVariants.{Open, Poke}
use Rattle.requests.specs.Words.{words, number_of}
use Rattle.requests.specs.Forms.{form_of, place_in, index_in, place_at, is_whole}
use Rattle.requests.specs.Requests.{within, number_at, also, read_from, Asking, named, filled, asked_by, without_return, asked}
use Rattle.std.specs.Prelude.{Option, Some, None}

number_fits : (most : ℕ) (w : List ℕ) (n : ℕ) → number_at (UpTo most) w ≡ Some n → n ≤ most
unfolding number_at
number_fits most w n e = go (number_of w) e
  where
    low : (m : ℕ) (t : Bool) → leb m most ≡ t → cond t (Some m) None ≡ Some n → n ≤ most
    low m true f is = let same : m ≡ n = cc in omega (arith, leb-true m most f)
    low m false f is = cc

    go : (number : Option ℕ) → within most number ≡ Some n → n ≤ most
    go (Some m) is = low m (leb m most) refl is
    go None is = cc

module _ (f : Form) (most : ℕ) where
  read_fits : (ws : List (List ℕ)) (i k : ℕ) (ns : List ℕ) → read_from f i ws ≡ Some ns → place_at f (i + k) ≡ UpTo most → get_or ns k 0 ≤ most
  unfolding read_from
  read_fits [] i k ns e at = let none : ns ≡ [] = cc in rw none (omega arith)
  read_fits (w ∷ ws) i k ns e at = go (λ k ms. read_fits ws (suc i) k ms) (number_at (place_at f i) w) refl (read_from f (suc i) ws) refl k e at
    where
      go : ((k : ℕ) (ms : List ℕ) → read_from f (suc i) ws ≡ Some ms → place_at f (suc i + k) ≡ UpTo most → get_or ms k 0 ≤ most) → (number : Option ℕ) → number_at (place_at f i) w ≡ number → (read : Option (List ℕ)) → read_from f (suc i) ws ≡ read → (k : ℕ) → also number read ≡ Some ns → place_at f (i + k) ≡ UpTo most → get_or ns k 0 ≤ most
      go later (Some n) is (Some ms) more zero e at =
          let here : i + 0 ≡ i = omega arith in
          let all : ns ≡ n ∷ ms = cc in
          rw all (number_fits most w n (rw (← (sym (ap (place_at f) here) ∙ at)) is))
      go later (Some n) is (Some ms) more (suc k) e at =
          let there : i + suc k ≡ suc i + k = omega arith in
          let all : ns ≡ n ∷ ms = cc in
          rw all (later k ms more (rw there at at))
      go later (Some n) is None more k e at = cc
      go later None is read more k e at = cc

-- the numbers of what is asked, at the places of its request
module _ (k most : ℕ) where
  abbrev Fits : Asking → Type 0
  Fits a = place_at (form_of a.request) k ≡ UpTo most → get_or a.numbers k 0 ≤ most

  either : (t : Bool) (a b : Asking) → Fits a → Fits b → Fits (cond t a b)
  either true a b fa fb = fa
  either false a b fa fb = fb

  none_fits : (q : Request) → Fits (record { request = q; numbers = [] })
  none_fits q at = omega arith

  filled_fits : (q : Request) (ws : List (List ℕ)) (read : Option (List ℕ)) → read_from (form_of q) 0 ws ≡ read → Fits (filled q read)
  unfolding filled
  filled_fits q ws (Some ns) e =
      let first : 0 + k ≡ k = omega arith in
      either (is_whole (form_of q) (length ns)) _ _ (λ at. read_fits (form_of q) most ws 0 k ns e (rw first at)) (none_fits _)
  filled_fits q ws None e = none_fits _

  words_fit : (in_file : Bool) (ws : List (List ℕ)) → Fits (asked_by in_file ws)
  unfolding asked_by
  words_fit in_file [] = none_fits _
  words_fit in_file (word ∷ ws) = either (eqb (get_or word 0 0) 35) _ _ (none_fits _) (filled_fits (named in_file word) ws _ refl)

  pub asked_fits : (line : List ℕ) (ended in_file : Bool) → Fits (asked line ended in_file)
  unfolding asked
  asked_fits line true in_file = either (ltb 4096 (length line)) _ _ (none_fits _) (words_fit in_file (words (without_return line)))
  asked_fits [] false in_file = none_fits _
  asked_fits (b ∷ bs) false in_file = none_fits _

-- WHAT IS REDUCED to the width of its place stays as the line has it: a client, a gap and a byte
module _ (line : List ℕ) (ended in_file : Bool) where
  abbrev number : ℕ → ℕ
  number k = get_or (asked line ended in_file).numbers k 0

  whole : (k most : ℕ) → place_at (form_of (asked line ended in_file).request) k ≡ UpTo most → number k % suc most ≡ number k
  whole k most at = mod-eq_of_lt (omega (arith, asked_fits k most line ended in_file at))

  abbrev Asks : Request → Type 0
  Asks q = (asked line ended in_file).request ≡ q

  pub client_whole : Asks Open → number 3 % 4294967296 ≡ number 3
  unfolding form_of place_in index_in place_at
  client_whole is = whole 3 4294967295 (rw is)

  pub gap_whole : Asks Open → (i : ℕ) → i < 20 → number (4 + i) % 65536 ≡ number (4 + i)
  unfolding form_of place_in index_in place_at
  gap_whole is i low = whole (4 + i) 65535 (rw (is, le-ltb (4 + i) 0 (omega arith), le-ltb (4 + i) 3 (omega arith), le-ltb (4 + i) 4 (omega arith), lt-ltb (4 + i) 24 (omega arith)))

  pub byte_whole : Asks Poke → number 1 % 256 ≡ number 1
  unfolding form_of place_in index_in place_at
  byte_whole is = whole 1 255 (rw is)
