-- An array of which each element is the same one.
use mathlib.Core.Path.{◌≡◌, refl}
use mathlib.Core.List.{List, [], ◌∷◌}
use Prim.Native.Nat.{ℕ, zero, suc, ◌<◌}
use native.Mathlib.Omega.{arith}
use lib.ListN.{length, get_or, replicate}
use Rattle.std.specs.Array.{AllOfLen}

module _ {A : Type 0} (P : A → Type 0) (d : A) (is : (x : A) → P x → x ≡ d) where
  each_same : (xs : List A) (n : ℕ) → length xs ≡ n → ((i : ℕ) → i < n → P (get_or xs i d)) → xs ≡ replicate n d
  each_same [] zero size each = refl
  each_same (x ∷ xs) zero size each = absurd (omega arith)
  each_same [] (suc n) size each = absurd (omega arith)
  each_same (x ∷ xs) (suc n) size each =
      let first : x ≡ d = is x (each 0 (omega arith)) in
      let rest : xs ≡ replicate n d = each_same xs n (omega arith) (λ i low. each (suc i) (omega arith)) in
      rw (first, rest) refl

  pub all_same : (xs : List A) (n : ℕ) → AllOfLen P xs n → xs ≡ replicate n d
  all_same xs n all = each_same xs n all.long (λ i low. all.at i d low)
