-- The largest of the first n numbers of a sequence: at least each, at most what each is at most, and one of them.
use mathlib.Core.Path.{◌≡◌, refl}
use mathlib.Core.Logic.{◌⊎◌, inl, inr}
use mathlib.Core.Bool.{Bool, true, false}
use Prim.Native.Nat.{ℕ, zero, suc, ◌+◌, ◌*◌, ◌/◌, ◌%◌, ◌<◌, ◌≤◌, max}
use native.Mathlib.Nat.{not-suc-le-zero}
use native.Mathlib.Omega.{arith}
use lib.Dec.{ltb}
use borrow.Author.Tests.{ltb-true, ltb-false}
use Rattle.scan.specs.Rows.{max_to}

module _ (f : ℕ → ℕ) where
  pub max_above : (n i : ℕ) → i < n → f i ≤ max_to f n
  unfolding max_to
  max_above zero i l = absurd (not-suc-le-zero l)
  max_above (suc n) i l = go (ltb i n) refl (max_above n i)
    where
      go : (t : Bool) → ltb i n ≡ t → (i < n → f i ≤ max_to f n) → f i ≤ max (max_to f n) (f n)
      go true e below = omega (arith, below (ltb-true i n e))
      go false e below = let here : i ≡ n = omega (arith, ltb-false i n e) in rw here (omega arith)

  pub max_most : (v n : ℕ) → ((i : ℕ) → i < n → f i ≤ v) → max_to f n ≤ v
  unfolding max_to
  max_most v zero all = omega arith
  max_most v (suc n) all = omega (arith, max_most v n (λ i l. all i (omega arith)), all n (omega arith))

  pub max_one : (n : ℕ) → (max_to f n ≡ 0) ⊎ ((i : ℕ) × (i < n) × (max_to f n ≡ f i))
  unfolding max_to
  max_one zero = inl refl
  max_one (suc n) = go (ltb (max_to f n) (f n)) refl (max_one n)
    where
      go : (t : Bool) → ltb (max_to f n) (f n) ≡ t → (max_to f n ≡ 0) ⊎ ((i : ℕ) × (i < n) × (max_to f n ≡ f i))
          → (max (max_to f n) (f n) ≡ 0) ⊎ ((i : ℕ) × (i < suc n) × (max (max_to f n) (f n) ≡ f i))
      go true e w = inr (n, omega arith, omega (arith, ltb-true (max_to f n) (f n) e))
      go false e (inl w) = inl (omega (arith, ltb-false (max_to f n) (f n) e))
      go false e (inr w) = inr (w.0, omega (arith, w.1), omega (arith, ltb-false (max_to f n) (f n) e, w.2))

pub max_same : (f g : ℕ → ℕ) (n : ℕ) → ((i : ℕ) → i < n → f i ≡ g i) → max_to f n ≡ max_to g n
unfolding max_to
max_same f g zero all = refl
max_same f g (suc n) all = rw (max_same f g n (λ i l. all i (omega arith)), all n (omega arith))

-- row by row
pub max_rows : (f : ℕ → ℕ) → max_to f 112 ≡ max_to (λ k. max_to (λ i. f (k * 16 + i)) 16) 7
max_rows f = omega (arith, low, high)
  where
    low : max_to f 112 ≤ max_to (λ k. max_to (λ i. f (k * 16 + i)) 16) 7
    low = max_most f _ 112 at
      where
        at : (j : ℕ) → j < 112 → f j ≤ max_to (λ k. max_to (λ i. f (k * 16 + i)) 16) 7
        at j l =
            let whole : j / 16 * 16 + j % 16 ≡ j = omega arith in
            let inner : f (j / 16 * 16 + j % 16) ≤ max_to (λ i. f (j / 16 * 16 + i)) 16 = max_above (λ i. f (j / 16 * 16 + i)) 16 (j % 16) (omega arith) in
            let outer : max_to (λ i. f (j / 16 * 16 + i)) 16 ≤ max_to (λ k. max_to (λ i. f (k * 16 + i)) 16) 7 = max_above (λ k. max_to (λ i. f (k * 16 + i)) 16) 7 (j / 16) (omega arith) in
            omega (arith, rw whole at inner, outer)

    high : max_to (λ k. max_to (λ i. f (k * 16 + i)) 16) 7 ≤ max_to f 112
    high = max_most (λ k. max_to (λ i. f (k * 16 + i)) 16) _ 7 (λ k l. max_most (λ i. f (k * 16 + i)) _ 16 (λ i m. max_above f 112 (k * 16 + i) (omega arith)))
