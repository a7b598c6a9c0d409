-- A list that a loop fills from the front, one store a turn, until it is another list.
use mathlib.Core.Path.{◌≡◌, refl, sym, ◌∙◌, ap}
use mathlib.Core.List.{List, [], ◌∷◌, map}
use Prim.Native.Nat.{ℕ, zero, suc, ◌+◌, ◌<◌, ◌≤◌}
use native.Mathlib.Numerals.{add-one}
use lib.ListN.{length, get_or, take, set}
use lib.Seq.{take-suc, take-suc-set, take_all}

module _ {ℓ} {A : Type ℓ} (d : A) (a b : List A) where
  pub fill_more : (i : ℕ) (v : A) → i < length a → i < length b → take i a ≡ take i b → v ≡ get_or b i d → take (i + 1) (set a i v) ≡ take (i + 1) b
  fill_more i v la lb e h = rw (add-one, take-suc-set a i v la, take-suc b i d lb, e, h)

  pub fill_all : (n : ℕ) → length a ≤ n → length b ≤ n → take n a ≡ take n b → a ≡ b
  fill_all n la lb e = sym (take_all n a la) ∙ e ∙ take_all n b lb

-- a store into what a list stands for
pub map_set : {A B : Type 0} (f : A → B) (xs : List A) (j : ℕ) (y : A) → set (map f xs) j (f y) ≡ map f (set xs j y)
map_set f [] j y = refl
map_set f (x ∷ xs) zero y = refl
map_set {B = B} f (x ∷ xs) (suc j) y = ap (λ (zs : List B). f x ∷ zs) (map_set f xs j y)
