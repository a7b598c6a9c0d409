-- Bytes put into a buffer.
use mathlib.Core.Path.{◌≡◌, refl, sym, ◌∙◌}
use mathlib.Core.Bool.{Bool, true, false}
use mathlib.Core.List.{List, ◌++◌}
use Prim.Native.Nat.{ℕ, ◌+◌, ◌≤◌, ◌<◌, min}
use native.Mathlib.Omega.{arith}
use lib.Dec.{leb}
use lib.ListN.{length, take, drop}
use lib.Seq.{take_all, paste}
use borrow.Author.Tests.{leb-true, leb-false, le-leb, lt-leb}
use Rattle.text.specs.Lines.{Put}

module _ (xs : List ℕ) (at : ℕ) (before : List ℕ) where
  pub put_none : length before < at + length xs → Put xs at before before at
  put_none short = let e = lt-leb (at + length xs) (length before) short in record { bytes = rw e; place = rw e }

  pub put_here : (after : List ℕ) (behind : ℕ) → at + length xs ≤ length before → after ≡ take at before ++ xs ++ drop (at + length xs) before → behind ≡ at + length xs → Put xs at before after behind
  put_here after behind room is place = let e = le-leb (at + length xs) (length before) room in record { bytes = rw e is; place = rw e place }

  -- a copy of n bytes of s is a put of those bytes
  pub put_paste : (s after : List ℕ) (n behind : ℕ) → xs ≡ take n s → length xs ≡ n → at + n ≤ length before → after ≡ paste before at s n → behind ≡ at + n → Put xs at before after behind
  put_paste s after n behind e size room is place = put_here after behind (omega arith) (is ∙ rw (size, e)) (omega arith)

-- more than there is, is all of it
pub take_min : (l : List ℕ) (n most len : ℕ) → length l ≡ most → len ≡ min n most → take n l ≡ take len l
take_min l n most len size e = go (leb n most) refl
  where
    go : (t : Bool) → leb n most ≡ t → take n l ≡ take len l
    go true f = let same : n ≡ len = omega (arith, leb-true n most f) in rw same
    go false f = take_all n l (omega (arith, leb-false n most f)) ∙ sym (take_all len l (omega (arith, leb-false n most f)))
