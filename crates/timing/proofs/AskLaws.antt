-- Laws of the order on asks: the latest of a list is above all of it, is one of it, and is the only such.
use mathlib.Core.Path.{◌≡◌, refl, sym, ◌∙◌, subst}
use mathlib.Core.Logic.{◌⊎◌, inl, inr, ⊎_elim}
use mathlib.Core.Bool.{Bool, true, false, cond, ◌&&◌, ◌||◌}
use mathlib.Core.List.Memᴰ
use mathlib.Core.List.{List, [], ◌∷◌, Memᴰ}
use Prim.Native.Nat.{◌≤◌}
use native.Mathlib.Omega.{arith}
use borrow.Author.Tests.{ltb-true, ltb-false, eqb-true, eqb-false}
use Rattle.timing.specs.Earliest.{Ask, for_later, for_same, with_lower, later, latest}

infix 40 ◌≼◌
-- b is at least as late as a, and for the same cycle has a number at most a's
pub record ◌≼◌ (a b : Ask) : Type 0 where
  pub cycle : a.cycle ≤ b.cycle
  pub gap : a.cycle ≡ b.cycle → b.gap ≤ a.gap

pub ≼_refl : (a : Ask) → a ≼ a
≼_refl a = record { cycle = omega arith; gap = λ e. omega arith }

pub ≼_trans : {a b c : Ask} → a ≼ b → b ≼ c → a ≼ c
≼_trans {a} {b} {c} p q =
    record {
      cycle = omega arith;
      gap = λ e. let ab : a.cycle ≡ b.cycle = omega arith in let bc : b.cycle ≡ c.cycle = omega arith in omega (arith, p.gap ab, q.gap bc);
    }

pub ask_path : (a b : Ask) → a.cycle ≡ b.cycle → a.gap ≡ b.gap → a ≡ b
ask_path a b p q = λ i. record { cycle = p i; gap = q i }

-- `later` is one of the two and above both
pub later_one : (a b : Ask) → (later a b ≡ a) ⊎ (later a b ≡ b)
later_one a b = go (for_later a b || for_same a b && with_lower a b)
  where
    go : (t : Bool) → (cond t b a ≡ a) ⊎ (cond t b a ≡ b)
    go true = inr refl
    go false = inl refl

pub later_above : (a b : Ask) → (a ≼ later a b) × (b ≼ later a b)
later_above a b = go (for_later a b) (for_same a b) (with_lower a b) refl refl refl
  where
    go : (x y z : Bool) → for_later a b ≡ x → for_same a b ≡ y → with_lower a b ≡ z → (a ≼ cond (x || y && z) b a) × (b ≼ cond (x || y && z) b a)
    go true y z p q r = (record { cycle = omega (arith, ltb-true); gap = λ e. omega (arith, ltb-true) }, ≼_refl b)
    go false true true p q r = (record { cycle = omega (arith, eqb-true); gap = λ e. omega (arith, ltb-true) }, ≼_refl b)
    go false true false p q r = (≼_refl a, record { cycle = omega (arith, eqb-true); gap = λ e. omega (arith, ltb-false) })
    go false false z p q r = (≼_refl a, record { cycle = omega (arith, ltb-false); gap = λ e. absurd (eqb-false a.cycle b.cycle q (sym e)) })

pub latest_above_first : (a : Ask) (bs : List Ask) → a ≼ latest a bs
unfolding latest
latest_above_first a [] = ≼_refl a
latest_above_first a (b ∷ bs) = ≼_trans (latest_above_first a bs) (later_above b (latest a bs)).1

pub latest_above : (a : Ask) (bs : List Ask) {b : Ask} → Memᴰ b bs → b ≼ latest a bs
unfolding latest
latest_above a [] m = absurd (Memᴰ.not-nil m)
latest_above a (c ∷ bs) {b} m =
    ⊎_elim (λ (e : b ≡ c). subst (λ (x : Ask). x ≼ latest a (c ∷ bs)) (sym e) (later_above c (latest a bs)).0)
    (λ (m' : Memᴰ b bs). ≼_trans (latest_above a bs m') (later_above c (latest a bs)).1) (Memᴰ.cases_cons m)

pub latest_one : (a : Ask) (bs : List Ask) → (latest a bs ≡ a) ⊎ Memᴰ (latest a bs) bs
unfolding latest
latest_one a [] = inl refl
latest_one a (b ∷ bs) =
    ⊎_elim (λ e. inr (Memᴰ.head e))
    (λ e. ⊎_elim (λ f. inl (e ∙ f)) (λ m. inr (Memᴰ.tail (subst (λ (x : Ask). Memᴰ x bs) (sym e) m))) (latest_one a bs))
    (later_one b (latest a bs))
