-- Laws of the step from picoseconds to DRAM cycles, of the gaps one by one, and of the lowest faulty gap number from some time on.
use mathlib.Core.Path.{◌≡◌, refl, sym, ◌∙◌}
use mathlib.Core.Bool.{Bool, true, false, cond}
use mathlib.Core.List.{List}
use Prim.Native.Nat.{ℕ, ◌+◌, ◌<◌, ◌≤◌}
use native.Mathlib.Numerals.{add-one}
use native.Mathlib.Omega.{arith}
use lib.Dec.{leb}
use lib.ListN.{length, get_or, drop, length-map, get_or-map}
use lib.Seq.{drop-cons, drop-length}
use borrow.Author.Tests.{leb-true, le-leb, lt-leb, lt-ltb, le-ltb, ne_eqb}
use Rattle.std.specs.Prelude.{Some, None, Result, Ok, Err, OkIff}
use Rattle.std.specs.Result.{result_ok}
use Rattle.std.specs.Int.{div_ceil}
use Rattle.std.specs.declared.num.TryFromIntError.{TryFromIntError}
use Rattle.timing.proofs.Rounding.{rounding_library}
use Rattle.timing.specs.declared.clocks.DramCycles.{DramCycles}
use Rattle.timing.proofs.Truth.{and_true}
use Rattle.datasheet.specs.declared.sheet.Picoseconds.{Picoseconds}
use Rattle.datasheet.specs.Sheet.{last_tck, time_bound, last_gap, dram, picoseconds, tck_in_range, gap_for, faulty, judged_at, gaps_for, lowest_faulty, zeros, accepted, gaps_in}

abbrev pub none : Picoseconds
none = picoseconds 0

pub tck_range : (tck : Picoseconds) → tck_in_range tck ≡ true → (0 < tck.0) × (tck.0 ≤ last_tck)
tck_range tck e = let w = and_true (leb 1 tck.0) (leb tck.0 last_tck) e in (leb-true 1 tck.0 w.0, leb-true tck.0 last_tck w.1)

pub range_tck : (tck : Picoseconds) → 0 < tck.0 → tck.0 ≤ last_tck → tck_in_range tck ≡ true
range_tck tck l h = rw (le-leb 1 tck.0 l, le-leb tck.0 last_tck h)

-- the library's quotient, where it fits sixteen bits
module _ (tck time : Picoseconds) (above : 0 < tck.0) (low : time.0 < time_bound) where
  abbrev quotient : ℕ
  quotient = div_ceil time.0 tck.0

  pub judged_over : (r : Result ℕ TryFromIntError) → OkIff r (quotient < 65536) quotient → result_ok r ≡ None → None ≡ judged_at tck time
  judged_over (Ok x) is e = absurd (let z : ◌≡◌ {A = ℕ} 0 1 = cc in omega arith)
  judged_over (Err f) is e =
      let over : last_gap < gap_for tck time = omega (arith, is, rounding_library tck.0 above time.0) in
      rw (lt-leb time_bound time.0 low, lt-ltb last_gap (gap_for tck time) over)

  pub judged_fits : (r : Result ℕ TryFromIntError) → OkIff r (quotient < 65536) quotient → (gap : ℕ) → result_ok r ≡ Some gap → Some (dram gap) ≡ judged_at tck time
  judged_fits (Ok x) is gap e =
      let same : x ≡ gap = cc in
      let value : gap ≡ gap_for tck time = sym same ∙ is.1 ∙ rounding_library tck.0 above time.0 in
      rw (lt-leb time_bound time.0 low, le-ltb last_gap (gap_for tck time) (omega (arith, is.0, is.1, same)), value)
  judged_fits (Err f) is gap e = absurd (let z : ◌≡◌ {A = ℕ} 0 1 = cc in omega arith)

module _ (tck time : Picoseconds) where
  pub judged_gap : {gap : DramCycles} → judged_at tck time ≡ Some gap → (faulty tck time ≡ false) × (gap ≡ dram (gap_for tck time))
  judged_gap {gap} e = go (faulty tck time) refl e
    where
      go : (b : Bool) → faulty tck time ≡ b → cond b None (Some (dram (gap_for tck time))) ≡ Some gap → (faulty tck time ≡ false) × (gap ≡ dram (gap_for tck time))
      go true p q = absurd (let z : ◌≡◌ {A = ℕ} 0 1 = cc in omega arith)
      go false p q = (p, cc)

  pub judged_faulty : judged_at tck time ≡ None → faulty tck time ≡ true
  judged_faulty e = go (faulty tck time) refl e
    where
      go : (b : Bool) → faulty tck time ≡ b → cond b None (Some (dram (gap_for tck time))) ≡ None → faulty tck time ≡ true
      go true p q = p
      go false p q = absurd (let z : ◌≡◌ {A = ℕ} 0 1 = cc in omega arith)

module _ (tck : Picoseconds) (times : List Picoseconds) where
  pub gaps_size : length (gaps_for tck times) ≡ length times
  unfolding gaps_for
  gaps_size = length-map times (λ time. dram (gap_for tck time))

  pub gaps_at : (i : ℕ) → dram (gap_for tck (get_or times i none)) ≡ get_or (gaps_for tck times) i (dram (gap_for tck none))
  unfolding gaps_for
  gaps_at i = sym (get_or-map (λ time. dram (gap_for tck time)) times i none)

  pub lowest_past : (n i : ℕ) → i < length times → faulty tck (get_or times i none) ≡ false → lowest_faulty tck n (drop i times) ≡ lowest_faulty tck (n + 1) (drop (i + 1) times)
  unfolding lowest_faulty
  lowest_past n i l e = rw (drop-cons times i none l, lowest_faulty, e, add-one i)

  pub lowest_here : (n i : ℕ) → i < length times → faulty tck (get_or times i none) ≡ true → lowest_faulty tck n (drop i times) ≡ n
  unfolding lowest_faulty
  lowest_here n i l e = rw (drop-cons times i none l, lowest_faulty, e)

  pub lowest_end : (n i : ℕ) → length times ≡ i → lowest_faulty tck n (drop i times) ≡ 0
  unfolding lowest_faulty
  lowest_end n i e = rw (← e, drop-length times, lowest_faulty)

  -- the answer, once its line is known
  pub answer_13 : tck_in_range tck ≡ false → gaps_in tck times ≡ zeros 13 0
  unfolding gaps_in
  answer_13 e = rw e

  pub answer_14 : (n : ℕ) → tck_in_range tck ≡ true → lowest_faulty tck 1 times ≡ n + 1 → gaps_in tck times ≡ zeros 14 (n + 1)
  unfolding gaps_in
  answer_14 n e f = rw (e, f, ne_eqb (n + 1) 0 (λ z. omega arith))

  pub answer_0 : tck_in_range tck ≡ true → lowest_faulty tck 1 times ≡ 0 → gaps_in tck times ≡ accepted (gaps_for tck times)
  unfolding gaps_in
  answer_0 e f = rw (e, f)
