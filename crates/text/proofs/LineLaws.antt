-- Laws of a line under way, and of decimal digits.
use mathlib.Core.Path.{◌≡◌, refl, sym, ◌∙◌, ap}
use mathlib.Core.Bool.{Bool, true, false}
use mathlib.Core.List.{List, [], ◌∷◌, ◌++◌, append_assoc, append-nil}
use Prim.Native.Nat.{ℕ, zero, suc, ◌+◌, ◌/◌, ◌%◌, ◌^◌, ◌≤◌, ◌<◌}
use native.Mathlib.Nat.{pow-suc, div-lt_iff_lt-mul}
use native.Mathlib.Numerals.{add-one}
use native.Mathlib.Omega.{arith}
use lib.Dec.{ltb}
use lib.ListN.{length, take, get_or, length-append}
use lib.Seq.{take-suc}
use borrow.Author.Tests.{le-ltb, lt-ltb, ltb-false}
use Rattle.std.specs.Fmt as std
use Rattle.std.proofs.lemmas.Fmt.{decimal_by_steps}
use Rattle.text.specs.declared.lines.Line.{Line}
use Rattle.text.specs.Text.{text, digits, decimal, spaced}
use Rattle.text.specs.Lines.{shown, Appended}

-- nothing appended, and one word after another
pub appended_none : (l : Line) → Appended l [] l
appended_none l = λ fits. sym (append-nil (shown l))

pub appended_on : (l m r : Line) (xs ys : List ℕ) → Appended l xs m → Appended m ys r → Appended l (xs ++ ys) r
appended_on l m r xs ys p q fits =
    let size = length-append xs ys in
    let first = p (omega arith) in
    let second = q (omega (arith, ap length first, length-append (shown l) xs)) in
    second ∙ rw first (append_assoc (shown l) xs ys)

-- numbers, one after another
spaced_last : (ns : List ℕ) (n : ℕ) → spaced (ns ++ (n ∷ [])) ≡ spaced ns ++ (text " " ++ decimal n)
unfolding spaced
spaced_last [] n = append-nil (text " " ++ decimal n)
spaced_last (m ∷ ns) n = rw (spaced_last ns n) (sym (append_assoc (text " " ++ decimal m) (spaced ns) (text " " ++ decimal n)))

pub spaced_none : (l : Line) → Appended l (spaced []) l
unfolding spaced
spaced_none l = appended_none l

pub spaced_more : (l m p r : Line) (ns : List ℕ) (i : ℕ) → i < length ns → Appended l (spaced (take i ns)) m → Appended m (text " ") p → Appended p (decimal (get_or ns i 0)) r → Appended l (spaced (take (i + 1) ns)) r
spaced_more l m p r ns i low first second third =
    rw (add-one, take-suc ns i 0 low, spaced_last (take i ns) (get_or ns i 0))
    (appended_on l m r (spaced (take i ns)) (text " " ++ decimal (get_or ns i 0)) first (appended_on m p r (text " ") (decimal (get_or ns i 0)) second third))

tenth : (n k : ℕ) → n < 10 ^ suc k → n / 10 < 10 ^ k
tenth n k low = (div-lt_iff_lt-mul {k = 10} {x = n} {y = 10 ^ k} (omega arith)).1 (rw pow-suc at low)

-- so many digits are those of the number, if it is as short
abbrev Enough : ℕ → List ℕ → Type 0
Enough n ds = (k : ℕ) → n < 10 ^ suc k → digits (suc k) n ≡ ds

one_digit : (n : ℕ) → n < 10 → Enough n ((48 + n) ∷ [])
unfolding digits
one_digit n low k short = let same : n % 10 ≡ n = omega arith in rw (lt-ltb n 10 low, same)

one_digit_more : (n : ℕ) (ds : List ℕ) → 10 ≤ n → Enough (n / 10) ds → Enough n (ds ++ ((48 + n % 10) ∷ []))
unfolding digits
one_digit_more n ds high before zero short = absurd (omega arith)
one_digit_more n ds high before (suc k) short = rw (le-ltb n 10 high, before k (tenth n (suc k) short))

-- what the library writes of a number of 64 bits
pub as_written : (n : ℕ) → n < 2 ^ 64 → std.decimal n ≡ decimal n
as_written n low = sym (decimal_by_steps Enough one_digit one_digit_more n low 19 (omega arith))

-- how many digits there are: one more than those of a tenth
one_more_lem : (m n k : ℕ) (t : Bool) → ltb n 10 ≡ t → (t ≡ false → length (digits m (n / 10)) ≤ k) → length (digits (suc m) n) ≤ suc k
unfolding digits
one_more_lem m n k true e more = rw e (omega arith)
one_more_lem m n k false e more = rw e (simp length-append (omega (arith, more refl)))

pub decimal_most : (m n : ℕ) → length (digits m n) ≤ m
unfolding digits
decimal_most zero n = omega arith
decimal_most (suc m) n = one_more_lem m n m (ltb n 10) refl (λ e. decimal_most m (n / 10))

-- a number below 10 to the k has at most k digits
pub decimal_short : (m k n : ℕ) → n < 10 ^ suc k → length (digits m n) ≤ suc k
unfolding digits
decimal_short zero k n low = omega arith
decimal_short (suc m) zero n low = one_more_lem m n zero (ltb n 10) refl (λ e. absurd (omega (arith, ltb-false n 10 e)))
decimal_short (suc m) (suc k) n low =
    one_more_lem m n (suc k) (ltb n 10) refl (λ e. decimal_short m k (n / 10) (tenth n (suc k) low))
