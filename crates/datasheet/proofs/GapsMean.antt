-- What the answer means, for every tCK and all times: which number it is, which gap number stands beside it, and what each gap is.
use mathlib.Core.Path.{◌≡◌, refl, sym, ◌∙◌, subst}
use mathlib.Core.Logic.{◌⊎◌, inl, inr, ⊎_elim, ◌↔◌, ◌≢◌}
use mathlib.Core.Bool.{Bool, true, false, cond, ◌||◌}
use mathlib.Core.List.{List, [], ◌∷◌}
use Prim.Native.Nat.{ℕ, zero, suc, ◌+◌, ◌-◌, ◌*◌, ◌≤◌, ◌<◌}
use native.Mathlib.Omega.{arith}
use lib.Dec.{leb, ltb}
use lib.ListN.{length, get_or, replicate}
use borrow.Author.Tests.{ltb-true, leb-true, lt-ltb, le-leb}
use Rattle.timing.proofs.Rounding.{rounding_lasts, rounding_least, rounding_zero}
use Rattle.timing.proofs.Truth.{or_true}
use Rattle.datasheet.specs.declared.sheet.Picoseconds.{Picoseconds}
use Rattle.datasheet.specs.declared.sheet.GapsAnswer.{GapsAnswer}
use Rattle.datasheet.specs.Sheet.{time_bound, last_gap, dram, tck_in_range, gap_for, faulty, gaps_for, lowest_faulty, zeros, accepted, gaps_in, GivesGaps}
use Rattle.datasheet.specs.Meaning.{time_of, gap_of, InRange, Fault, FaultAt, LowestFault}
use Rattle.datasheet.proofs.SheetLaws.{none, tck_range, range_tck, gaps_at, answer_13, answer_14, answer_0}

-- two outcomes coincide
pub determined : (tck : Picoseconds) (times : List Picoseconds) {r r' : GapsAnswer} → GivesGaps tck times r → GivesGaps tck times r' → r ≡ r'
determined tck times p q = p ∙ sym q

-- a fault, as it is computed and in words
pub fault_said : (tck time : Picoseconds) → faulty tck time ≡ true → Fault tck time
fault_said tck time e =
    ⊎_elim (λ p. inl (leb-true time_bound time.0 p)) (λ p. inr (ltb-true last_gap (gap_for tck time) p)) (or_true (leb time_bound time.0) (ltb last_gap (gap_for tck time)) e)

pub fault_found : (tck time : Picoseconds) → Fault tck time → faulty tck time ≡ true
fault_found tck time (inl h) = rw (le-leb time_bound time.0 h)
fault_found tck time (inr h) = rw (lt-ltb last_gap (gap_for tck time) h) (go (leb time_bound time.0))
  where
    go : (b : Bool) → (b || true) ≡ true
    go true = refl
    go false = refl

module _ (tck : Picoseconds) where
  abbrev pub NoneFaulty : List Picoseconds → Type 0
  NoneFaulty times = (i : ℕ) → i < length times → Fault tck (get_or times i none) → ⊥

  -- the time at i is the first that has a fault
  pub record FirstFaulty (times : List Picoseconds) (i : ℕ) : Type 0 where
    pub within : i < length times
    pub fault : Fault tck (get_or times i none)
    pub before : (j : ℕ) → j < i → Fault tck (get_or times j none) → ⊥

  abbrev Found : List Picoseconds → ℕ → ℕ → Type 0
  Found times n m = ((m ≡ 0) × NoneFaulty times) ⊎ ((i : ℕ) × (m ≡ n + i) × FirstFaulty times i)

  pub lowest_found : (times : List Picoseconds) (n : ℕ) → Found times n (lowest_faulty tck n times)
  unfolding lowest_faulty
  lowest_found [] n = inl (refl, λ i l f. omega arith)
  lowest_found (time ∷ times) n = go (faulty tck time) refl (lowest_found times (n + 1))
    where
      past : (i : ℕ) → faulty tck time ≡ false → ((j : ℕ) → suc j < i → Fault tck (get_or times j none) → ⊥) → (j : ℕ) → j < i → Fault tck (get_or (time ∷ times) j none) → ⊥
      past i e h zero l f = absurd (let z : ◌≡◌ {A = Bool} true false = sym (fault_found tck time f) ∙ e in let y : ◌≡◌ {A = ℕ} 0 1 = cc in omega arith)
      past i e h (suc j) l f = h j l f

      go : (b : Bool) → faulty tck time ≡ b → {m : ℕ} → Found times (n + 1) m → Found (time ∷ times) n (cond b n m)
      go true e found = inr (0, omega arith, record { within = omega arith; fault = fault_said tck time e; before = λ j l f. omega arith })
      go false e (inl w) = inl (w.0, past (length (time ∷ times)) e (λ j l f. w.1 j (omega arith) f))
      go false e (inr w) =
          inr (
            suc w.0,
            omega (arith, w.1),
            record {
              within = omega (arith, w.2.within);
              fault = w.2.fault;
              before = past (suc w.0) e (λ j l f. w.2.before j (omega arith) f);
            },
          )

  -- the three answers, and when each is given
  pub data Answered (times : List Picoseconds) : GapsAnswer → Type 0 where
    refuses_tck : (InRange tck → ⊥) → Answered times (zeros 13 0)
    refuses_gap : (i : ℕ) → InRange tck → FirstFaulty times i → Answered times (zeros 14 (i + 1))
    gives_gaps : InRange tck → NoneFaulty times → Answered times (accepted (gaps_for tck times))

  pub answered : (times : List Picoseconds) {r : GapsAnswer} → GivesGaps tck times r → Answered times r
  answered times p = subst (Answered times) (sym p) (go (tck_in_range tck) refl (lowest_found times 1))
    where
      go : (b : Bool) → tck_in_range tck ≡ b → Found times 1 (lowest_faulty tck 1 times) → Answered times (gaps_in tck times)
      go false e found =
          subst (Answered times) (sym (answer_13 tck times e))
          (refuses_tck (λ h. let z : ◌≡◌ {A = Bool} true false = sym (range_tck tck h.0 h.1) ∙ e in let y : ◌≡◌ {A = ℕ} 0 1 = cc in omega arith))
      go true e (inl w) = subst (Answered times) (sym (answer_0 tck times e w.0)) (gives_gaps (tck_range tck e) w.1)
      go true e (inr w) = subst (Answered times) (sym (answer_14 tck times w.0 e (omega (arith, w.1)))) (refuses_gap w.0 (tck_range tck e) w.2)

-- THE ANSWER'S MEANING, for the twenty times or however many there are
module _ (tck : Picoseconds) (times : List Picoseconds) where
  gap_is : InRange tck → (n : ℕ) → gap_of (gaps_for tck times) n ≡ dram (gap_for tck (time_of times n))
  gap_is h n = rw (rounding_zero tck.0 h.0) at (sym (gaps_at tck times (n - 1)))

  -- gap numbers count from 1, places from 0
  place_back_lem : (i : ℕ) → i + 1 - 1 ≡ i
  place_back_lem i = omega arith

  numbered : NoneFaulty tck times → (n : ℕ) → FaultAt tck times n → ⊥
  numbered h n f = h (n - 1) (omega (arith, f.above, f.within)) f.fault

  fault_at : (i : ℕ) → i < length times → Fault tck (get_or times i none) → FaultAt tck times (i + 1)
  fault_at i l f = record { above = omega arith; within = omega arith; fault = rw (place_back_lem i) f }

  first_numbered : (i : ℕ) → FirstFaulty tck times i → LowestFault tck times (i + 1)
  first_numbered i w = record { faulty = fault_at i w.within w.fault; lowest = λ n below f. w.before (n - 1) (omega (arith, f.above)) f.fault }

  module _ {r : GapsAnswer} (given : GivesGaps tck times r) where
    accepted_is : r.number ≡ 0 → InRange tck × NoneFaulty tck times × (r.gaps ≡ gaps_for tck times)
    accepted_is e = go (answered tck times given) e
      where
        go : {x : GapsAnswer} → Answered tck times x → x.number ≡ 0 → InRange tck × NoneFaulty tck times × (x.gaps ≡ gaps_for tck times)
        go (refuses_tck h) z = absurd (omega arith)
        go (refuses_gap i h f) z = absurd (omega arith)
        go (gives_gaps h f) z = (h, f, refl)

    -- accepted: each gap lasts at least its time, and no fewer cycles do
    pub gap_lasts : r.number ≡ 0 → (n : ℕ) → (time_of times n).0 ≤ (gap_of r.gaps n).0 * tck.0
    gap_lasts e n = let w = accepted_is e in rw (w.2, gap_is w.0 n) (rounding_lasts tck.0 w.0.0 (time_of times n).0)

    pub gap_least : r.number ≡ 0 → (n cycles : ℕ) → (time_of times n).0 ≤ cycles * tck.0 → (gap_of r.gaps n).0 ≤ cycles
    gap_least e n cycles l = let w = accepted_is e in rw (w.2, gap_is w.0 n) (rounding_least tck.0 w.0.0 (time_of times n).0 cycles l)

    -- 0 exactly if tCK is in range and no gap is faulty
    pub accepted_exactly : (r.number ≡ 0) ↔ (InRange tck × ((n : ℕ) → FaultAt tck times n → ⊥))
    accepted_exactly = ((λ e. let w = accepted_is e in (w.0, numbered w.1)), λ h. go (answered tck times given) h)
      where
        go : {x : GapsAnswer} → Answered tck times x → InRange tck × ((n : ℕ) → FaultAt tck times n → ⊥) → x.number ≡ 0
        go (refuses_tck out) h = absurd (out h.0)
        go (refuses_gap i in-range f) h = absurd (h.1 (i + 1) (fault_at i f.within f.fault))
        go (gives_gaps in-range f) h = refl

    -- 13 exactly if tCK is out of range
    pub bad_tck_exactly : (r.number ≡ 13) ↔ (InRange tck → ⊥)
    bad_tck_exactly = (there (answered tck times given), back (answered tck times given))
      where
        there : {x : GapsAnswer} → Answered tck times x → x.number ≡ 13 → InRange tck → ⊥
        there (refuses_tck out) e = out
        there (refuses_gap i in-range f) e = absurd (omega arith)
        there (gives_gaps in-range f) e = absurd (omega arith)

        back : {x : GapsAnswer} → Answered tck times x → (InRange tck → ⊥) → x.number ≡ 13
        back (refuses_tck out) h = refl
        back (refuses_gap i in-range f) h = absurd (h in-range)
        back (gives_gaps in-range f) h = absurd (h in-range)

    -- 14: the gap with that number is faulty, and none with a lower number is
    pub bad_time_lowest : r.number ≡ 14 → InRange tck × LowestFault tck times r.gap_number
    bad_time_lowest e = go (answered tck times given) e
      where
        go : {x : GapsAnswer} → Answered tck times x → x.number ≡ 14 → InRange tck × LowestFault tck times x.gap_number
        go (refuses_tck out) z = absurd (omega arith)
        go (refuses_gap i in-range f) z = (in-range, first_numbered i f)
        go (gives_gaps in-range f) z = absurd (omega arith)

    -- 14 exactly if tCK is in range and some gap is faulty
    pub bad_time_exactly : (r.number ≡ 14) ↔ (InRange tck × ((n : ℕ) × FaultAt tck times n))
    bad_time_exactly = ((λ e. let w = bad_time_lowest e in (w.0, (r.gap_number, w.1.faulty))), λ h. go (answered tck times given) h)
      where
        go : {x : GapsAnswer} → Answered tck times x → InRange tck × ((n : ℕ) × FaultAt tck times n) → x.number ≡ 14
        go (refuses_tck out) h = absurd (out h.0)
        go (refuses_gap i in-range f) h = refl
        go (gives_gaps in-range f) h = absurd (numbered f h.1.0 h.1.1)

    -- the number is one of these three
    pub number_one_of : (r.number ≡ 0) ⊎ (r.number ≡ 13) ⊎ (r.number ≡ 14)
    number_one_of = go (answered tck times given)
      where
        go : {x : GapsAnswer} → Answered tck times x → (x.number ≡ 0) ⊎ (x.number ≡ 13) ⊎ (x.number ≡ 14)
        go (refuses_tck out) = inr (inl refl)
        go (refuses_gap i in-range f) = inr (inr refl)
        go (gives_gaps in-range f) = inl refl

    -- beside 13 and 14 all twenty gaps are zeros; the gap number is 0 but beside 14
    pub zeros_beside : r.number ≢ 0 → r.gaps ≡ replicate 20 (dram 0)
    zeros_beside above = go (answered tck times given) above
      where
        go : {x : GapsAnswer} → Answered tck times x → x.number ≢ 0 → x.gaps ≡ replicate 20 (dram 0)
        go (refuses_tck out) h = refl
        go (refuses_gap i in-range f) h = refl
        go (gives_gaps in-range f) h = absurd (h refl)

    pub no_gap_number : r.number ≢ 14 → r.gap_number ≡ 0
    no_gap_number other = go (answered tck times given) other
      where
        go : {x : GapsAnswer} → Answered tck times x → x.number ≢ 14 → x.gap_number ≡ 0
        go (refuses_tck out) h = refl
        go (refuses_gap i in-range f) h = absurd (h refl)
        go (gives_gaps in-range f) h = refl
