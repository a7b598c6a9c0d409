-- Rounding up gives, for any ratio above 0, the smallest number of controller cycles that lasts at least the gap; 0 stays 0. What is lost by it is below
-- the ratio, and 0 exactly if the ratio divides the gap.
use mathlib.Core.Path.{◌≡◌, ◌∙◌, ap}
use mathlib.Core.Logic.{◌↔◌}
use Prim.Native.Nat.{ℕ, ◌+◌, ◌-◌, ◌*◌, ◌/◌, ◌%◌, ◌≤◌, ◌<◌}
use native.Mathlib.Nat.{lt_of_mul-lt-mul_right, lt-div-mul-add, div-lt_iff_lt-mul, div-eq_of_lt, div-mul-le_self, div-add-mod', mul-mod_left, mul-le-mul_right}
use native.Mathlib.Omega.{arith}
use Rattle.std.specs.Int.{div_ceil}
use Rattle.std.proofs.lemmas.Grind.{div_ceil_times}
use Rattle.timing.specs.Clocks.{ceil_div}

module _ (ratio : ℕ) (above : 0 < ratio) where
  pub rounding_lasts : (gap : ℕ) → gap ≤ ceil_div gap ratio * ratio
  rounding_lasts gap = omega (arith, lt-div-mul-add {a = gap + (ratio - 1)} {b = ratio} above)

  pub rounding_least : (gap n : ℕ) → gap ≤ n * ratio → ceil_div gap ratio ≤ n
  rounding_least gap n lasts =
      let below : gap + (ratio - 1) < (n + 1) * ratio = omega arith in
      omega (arith, (div-lt_iff_lt-mul {k = ratio} {x = gap + (ratio - 1)} {y = n + 1} above).1 below)

  pub rounding_zero : ceil_div 0 ratio ≡ 0
  rounding_zero = div-eq_of_lt {n = 0 + (ratio - 1)} {m = ratio} (omega arith)

  pub loss_below : (gap : ℕ) → ceil_div gap ratio * ratio - gap < ratio
  loss_below gap = let fits = div-mul-le_self (gap + (ratio - 1)) ratio in omega (arith, fits)

  pub loss_none : (gap : ℕ) → (ceil_div gap ratio * ratio - gap ≡ 0) ↔ (gap % ratio ≡ 0)
  loss_none gap = (divided, undivided)
    where
      divided : ceil_div gap ratio * ratio - gap ≡ 0 → gap % ratio ≡ 0
      divided e = let all : gap ≡ ceil_div gap ratio * ratio = omega (arith, rounding_lasts gap) in ap (λ (n : ℕ). n % ratio) all ∙ mul-mod_left (ceil_div gap ratio) ratio

      undivided : gap % ratio ≡ 0 → ceil_div gap ratio * ratio - gap ≡ 0
      undivided e =
          let whole = div-add-mod' gap ratio in
          let less = rounding_least gap (gap / ratio) (omega (arith, whole)) in
          omega (arith, whole, mul-le-mul_right {m = ceil_div gap ratio} {n = gap / ratio} ratio less)

  -- the library's division, rounded up
  pub rounding_library : (gap : ℕ) → div_ceil gap ratio ≡ ceil_div gap ratio
  rounding_library gap =
      let bounds = div_ceil_times gap ratio above in
      let least = rounding_least gap (div_ceil gap ratio) bounds.0 in
      let below : div_ceil gap ratio * ratio < (ceil_div gap ratio + 1) * ratio = omega (arith, bounds, rounding_lasts gap) in
      omega (arith, least, lt_of_mul-lt-mul_right ratio below)
