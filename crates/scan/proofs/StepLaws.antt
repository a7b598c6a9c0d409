-- The steps from each kind, as a list and entry by entry.
use mathlib.Core.Path.{◌≡◌, refl, sym, ◌∙◌, ap}
use mathlib.Core.Logic.{◌≢◌}
use mathlib.Core.Bool.{Bool, true, false, cond}
use mathlib.Core.List.{List, [], ◌∷◌, ◌++◌}
use Prim.Native.Nat.{ℕ, zero, suc, ◌+◌, ◌-◌, ◌*◌, ◌/◌, ◌%◌, ◌<◌}
use native.Mathlib.Nat.{not-suc-le-zero}
use native.Mathlib.Numerals.{add-one}
use native.Mathlib.Omega.{arith}
use lib.Dec.{ltb, eqb, lit<}
use lib.ListN.{length, get_or, length-append, get_or-append, get_or-eq_default}
use lib.Seq.{get_or_at}
use borrow.Author.Tests.{ltb-true, ltb-false, eqb-false}
use Rattle.timing.specs.declared.clocks.ControllerCycles.{ControllerCycles}
use Rattle.timing.specs.declared.kinds.CommandKind.{CommandKind}
use Rattle.timing.specs.Rules.{kind_at}
use Rattle.timing.specs.declared.rules.Opening.{Opening}
use Rattle.timing.specs.Clocks.{cycles}
use Rattle.session.specs.State.{gap_at}
use Rattle.scan.specs.Scan.{tabulated, step_of, step_for, steps_to}
use Rattle.scan.specs.Rows.{gap_steps}

module _ (f : ℕ → ℕ) where
  pub length_tabulated : (n : ℕ) → length (tabulated f n) ≡ n
  unfolding tabulated
  length_tabulated zero = refl
  length_tabulated (suc n) = rw (length-append, length_tabulated n, add-one)

  pub get_d_tabulated : (n i : ℕ) → i < n → get_or (tabulated f n) i 0 ≡ f i
  unfolding tabulated
  get_d_tabulated zero i l = absurd (not-suc-le-zero l)
  get_d_tabulated (suc n) i l = go (ltb i n) refl (get_d_tabulated n i)
    where
      go : (t : Bool) → ltb i n ≡ t → (i < n → get_or (tabulated f n) i 0 ≡ f i) → get_or (tabulated f n ++ f n ∷ []) i 0 ≡ f i
      go true e below =
          let before = ltb-true i n e in
          get_or-append (tabulated f n) (f n ∷ []) 0 i (omega (arith, length_tabulated n)) ∙ below before
      go false e below =
          let here : i ≡ n = omega (arith, ltb-false i n e) in
          rw here (get_or_at (tabulated f n) (f n) [] 0 n (length_tabulated n))

  pub tabulated_below : (b : ℕ) → 0 < b → ((i : ℕ) → f i < b) → (n i : ℕ) → get_or (tabulated f n) i 0 < b
  tabulated_below b above all n i = go (ltb i n) refl
    where
      go : (t : Bool) → ltb i n ≡ t → get_or (tabulated f n) i 0 < b
      go true e = rw (get_d_tabulated n i (ltb-true i n e)) (all i)
      go false e = rw (get_or-eq_default (tabulated f n) 0 {n = i} (omega (arith, ltb-false i n e, length_tabulated n))) above

step_low : (rounded : List ControllerCycles) (n : ℕ) → step_of rounded n < 2097152
step_low rounded n = go (eqb n 0)
  where
    go : (t : Bool) → cond t 0 ((get_or rounded (n - 1) (cycles 0)).0 % 65536 * 32 + (31 - n)) < 2097152
    go true = lit< tt
    go false = omega arith

module _ (o : Opening) (rounded : List ControllerCycles) (second : CommandKind) where
  abbrev step_at : ℕ → ℕ
  step_at i = step_for o rounded (kind_at (i / 3)) second (i % 3)

  pub steps_size : length (steps_to o rounded second) ≡ 21
  unfolding steps_to
  steps_size = length_tabulated step_at 21

  pub steps_at : (i : ℕ) → i < 21 → step_at i ≡ get_or (steps_to o rounded second) i 0
  unfolding steps_to
  steps_at i l = sym (get_d_tabulated step_at 21 i l)

-- the step of gap n from the place before it; where there is no gap any place will do
pub step_from_lem : (rounded : List ControllerCycles) (n : ℕ) → n < 21 → cond (eqb n 0) 0 ((gap_at rounded ((n + 19) % 20)).0 % 65536 * 32 + (31 - n)) ≡ step_of rounded n
step_from_lem rounded n l = go (eqb n 0) refl
  where
    go : (t : Bool) → eqb n 0 ≡ t → cond t 0 ((gap_at rounded ((n + 19) % 20)).0 % 65536 * 32 + (31 - n)) ≡ cond t 0 ((gap_at rounded (n - 1)).0 % 65536 * 32 + (31 - n))
    go true e = refl
    go false e =
        let some : n ≢ 0 = eqb-false n 0 e in
        let place : (n + 19) % 20 ≡ n - 1 = omega arith in
        ap (λ (k : ℕ). (gap_at rounded k).0 % 65536 * 32 + (31 - n)) place

-- the step of each gap number
module _ (rounded : List ControllerCycles) where
  pub gap_steps_size : length (gap_steps rounded) ≡ 21
  unfolding gap_steps
  gap_steps_size = length_tabulated (step_of rounded) 21

  pub gap_steps_at : (n : ℕ) → n < 21 → step_of rounded n ≡ get_or (gap_steps rounded) n 0
  unfolding gap_steps
  gap_steps_at n l = sym (get_d_tabulated (step_of rounded) 21 n l)

  pub gap_steps_below : (i : ℕ) → get_or (gap_steps rounded) i 0 < 2097152
  unfolding gap_steps
  gap_steps_below i = tabulated_below (step_of rounded) 2097152 (lit< tt) (step_low rounded) 21 i
