-- What a row asks for, from fewer looks: an ask rises with its stamp, so the newest stamp of each nearness is enough; a step of 0 asks nothing.
use mathlib.Core.Path.{◌≡◌, refl, sym, ◌∙◌, ap}
use mathlib.Core.Logic.{◌≢◌}
use mathlib.Core.Bool.{Bool, true, false, cond, ◌&&◌, ◌||◌}
use mathlib.Core.List.{List}
use Prim.Native.Nat.{ℕ, ◌+◌, ◌-◌, ◌*◌, ◌/◌, ◌%◌, ◌<◌, ◌≤◌, max}
use native.Mathlib.Nat.{le_trans, le_antisymm, le-max_left, le-max_right, max-le}
use native.Mathlib.Omega.{arith}
use lib.Dec.{T, eqb, ltb}
use lib.ListN.{get_or}
use borrow.Author.Tests.{eq-eqb, eqb-true, eqb-false, ne_eqb, ltb-true, ltb-false}
use Rattle.timing.specs.declared.kinds.CommandKind.{CommandKind}
use Rattle.timing.specs.declared.rules.Opening.{Opening}
use Rattle.timing.specs.Kinds.{all_banks}
use Rattle.timing.specs.Rules.{group_of, nearness, class_for}
use Rattle.timing.proofs.TableLaws.{silent, silent_gap}
use Rattle.timing.proofs.Truth.{and_left, and_right, true_is}
use Rattle.session.specs.declared.stamps.Stamp.{Stamp}
use Rattle.scan.specs.Scan.{ask_of}
use Rattle.scan.specs.Rows.{kept_at, max_to, step_from, row_of, bank_ask, row_ask, pair_kept, four_kept, far_kept, mate_of, pair_beside, beside_of, near_ask}
use Rattle.scan.proofs.MaxLaws.{max_above, max_most}

-- an ask rises with its stamp
pub ask_mono : (a b s : ℕ) → a ≤ b → ask_of a s ≤ ask_of b s
ask_mono a b s le = go (eqb a 0) refl
  where
    there : (t : Bool) → a ≢ 0 → cond t 0 ((a - 1) * 32 + s) ≤ cond t 0 ((b - 1) * 32 + s)
    there true n = omega arith
    there false n = omega arith

    go : (t : Bool) → eqb a 0 ≡ t → cond t 0 (cond (eqb s 0) 0 ((a - 1) * 32 + s)) ≤ ask_of b s
    go true e = omega arith
    go false e = let n = eqb-false a 0 e in rw (ne_eqb b 0 (λ z. n (omega (arith, z)))) (there (eqb s 0) n)

-- a step of 0 asks nothing
pub ask_still : (k s : ℕ) → s ≡ 0 → ask_of k s ≡ 0
ask_still k s z = rw z (go (eqb k 0))
  where
    go : (t : Bool) → ◌≡◌ {A = ℕ} (cond t 0 0) 0
    go true = refl
    go false = refl

-- what the larger of two stamps asks for is at most what each asks for is at most
ask_either : (a b s w : ℕ) → ask_of a s ≤ w → ask_of b s ≤ w → ask_of (max a b) s ≤ w
ask_either a b s w la lb = go (ltb a b) refl
  where
    go : (t : Bool) → ltb a b ≡ t → ask_of (max a b) s ≤ w
    go true e = let is : max a b ≡ b = omega (arith, ltb-true a b e) in rw is lb
    go false e = let is : max a b ≡ a = omega (arith, ltb-false a b e) in rw is la

-- THE BANKS of a row, seen from one of them: itself, its mate, the pair beside, and the other fours
abbrev mate : ℕ → ℕ
mate = mate_of

mate_only : (i b : ℕ) → i ≢ b → i / 2 ≡ b / 2 → i ≡ mate b
mate_only i b n e = omega (arith, n, e)

mate_low : (b : ℕ) → b < 16 → mate b < 16
mate_low b l = omega arith

beside_only : (i b : ℕ) → i / 2 ≢ b / 2 → i / 4 ≡ b / 4 → i / 2 ≡ pair_beside b
beside_only i b n e = omega (arith, n, e)

module _ (o : Opening) (b : ℕ) where
  near_group : (i : ℕ) → i ≢ b → group_of o i ≡ group_of o b → nearness o i b ≡ 1
  near_group i n e = rw (ne_eqb i b n, eq-eqb (group_of o i) (group_of o b) e)

  far_group : (i : ℕ) → group_of o i ≢ group_of o b → nearness o i b ≡ 2
  far_group i n = rw (ne_eqb i b (λ z. n (ap (group_of o) z)), ne_eqb (group_of o i) (group_of o b) n)

  near_mate : nearness o (mate b) b ≡ 1
  near_mate = near_group (mate b) (λ z. omega (arith, z)) (go (eqb o.mode 2))
    where
      go : (t : Bool) → cond t (mate b / 4) (mate b / 2) ≡ cond t (b / 4) (b / 2)
      go true = omega arith
      go false = omega arith

  near_beside : (i : ℕ) → i / 2 ≡ pair_beside b → nearness o i b ≡ beside_of o
  near_beside i e = go (eqb o.mode 2) refl
    where
      apart : i ≢ b
      apart z = omega (arith, e, z)

      go : (t : Bool) → eqb o.mode 2 ≡ t → nearness o i b ≡ cond t 1 2
      go true m = near_group i apart (rw m (omega (arith, e)))
      go false m = far_group i (λ z. let same : i / 2 ≡ b / 2 = rw m at z in omega (arith, e, same))

  near_far : (i : ℕ) → i / 4 ≢ b / 4 → nearness o i b ≡ 2
  near_far i n = far_group i (go (eqb o.mode 2))
    where
      go : (t : Bool) → cond t (i / 4) (i / 2) ≢ cond t (b / 4) (b / 2)
      go true z = n z
      go false z = omega (arith, n, z)

-- THE NEWEST of two, of four, and of the fours that a bank is not of
module _ (last : List Stamp) (row : ℕ) where
  abbrev kept_in : ℕ → ℕ
  kept_in i = kept_at last (row + i)

  pair_above : (i : ℕ) → kept_in i ≤ pair_kept last row (i / 2)
  pair_above i = go (eqb (i % 2) 0) refl
    where
      go : (t : Bool) → eqb (i % 2) 0 ≡ t → kept_in i ≤ pair_kept last row (i / 2)
      go true e = let is : row + i ≡ row + 2 * (i / 2) = omega (arith, eqb-true (i % 2) 0 e) in rw is (omega arith)
      go false e = let z = eqb-false (i % 2) 0 e in let is : row + i ≡ row + 2 * (i / 2) + 1 = omega (arith, z) in rw is (omega arith)

  four_above : (i : ℕ) → kept_in i ≤ four_kept last row (i / 4)
  four_above i = le_trans (pair_above i) (go (eqb (i / 2 % 2) 0) refl)
    where
      go : (t : Bool) → eqb (i / 2 % 2) 0 ≡ t → pair_kept last row (i / 2) ≤ four_kept last row (i / 4)
      go true e =
          let is : i / 2 ≡ 2 * (i / 4) = omega (arith, eqb-true (i / 2 % 2) 0 e) in
          rw is (le-max_left (pair_kept last row (2 * (i / 4))) (pair_kept last row (2 * (i / 4) + 1)))
      go false e =
          let z = eqb-false (i / 2 % 2) 0 e in
          let is : i / 2 ≡ 2 * (i / 4) + 1 = omega (arith, z) in
          rw is (le-max_right (pair_kept last row (2 * (i / 4))) (pair_kept last row (2 * (i / 4) + 1)))

  module _ (own : ℕ) (low : own < 4) where
    abbrev far_at : ℕ → ℕ
    far_at k = four_kept last row ((own + k) % 4)

    far_above : (i : ℕ) → i < 16 → i / 4 ≢ own → kept_in i ≤ far_kept last row own
    far_above i l n = le_trans (four_above i) (go (eqb (i / 4) ((own + 1) % 4)) (eqb (i / 4) ((own + 2) % 4)) refl refl)
      where
        first : far_at 1 ≤ max (far_at 1) (far_at 2)
        first = le-max_left (far_at 1) (far_at 2)

        second : far_at 2 ≤ max (far_at 1) (far_at 2)
        second = le-max_right (far_at 1) (far_at 2)

        both : max (far_at 1) (far_at 2) ≤ far_kept last row own
        both = le-max_left (max (far_at 1) (far_at 2)) (far_at 3)

        go : (x y : Bool) → eqb (i / 4) ((own + 1) % 4) ≡ x → eqb (i / 4) ((own + 2) % 4) ≡ y → four_kept last row (i / 4) ≤ far_kept last row own
        go true y p q = rw (eqb-true (i / 4) ((own + 1) % 4) p) (le_trans first both)
        go false true p q = rw (eqb-true (i / 4) ((own + 2) % 4) q) (le_trans second both)
        go false false p q =
            let no = eqb-false (i / 4) ((own + 1) % 4) p in
            let nor = eqb-false (i / 4) ((own + 2) % 4) q in
            let is : i / 4 ≡ (own + 3) % 4 = omega (arith, no, nor, n) in
            rw is (le-max_right (max (far_at 1) (far_at 2)) (far_at 3))

  module _ (s w : ℕ) where
    pair_most : (p : ℕ) → ((i : ℕ) → i / 2 ≡ p → ask_of (kept_in i) s ≤ w) → ask_of (pair_kept last row p) s ≤ w
    pair_most p all =
        let next : row + (2 * p + 1) ≡ row + 2 * p + 1 = omega arith in
        ask_either (kept_in (2 * p)) (kept_at last (row + 2 * p + 1)) s w (all (2 * p) (omega arith)) (rw next at (all (2 * p + 1) (omega arith)))

    four_most : (q : ℕ) → ((i : ℕ) → i / 4 ≡ q → ask_of (kept_in i) s ≤ w) → ask_of (four_kept last row q) s ≤ w
    four_most q all =
        ask_either (pair_kept last row (2 * q)) (pair_kept last row (2 * q + 1)) s w (pair_most (2 * q) (λ i e. all i (omega (arith, e)))) (pair_most (2 * q + 1) (λ i e. all i (omega (arith, e))))

    far_most : (own : ℕ) → own < 4 → ((i : ℕ) → i < 16 → i / 4 ≢ own → ask_of (kept_in i) s ≤ w) → ask_of (far_kept last row own) s ≤ w
    far_most own low all =
        ask_either (max (four_kept last row ((own + 1) % 4)) (four_kept last row ((own + 2) % 4))) (four_kept last row ((own + 3) % 4)) s w
        (ask_either (four_kept last row ((own + 1) % 4)) (four_kept last row ((own + 2) % 4)) s w (at 1 (omega arith) (omega arith)) (at 2 (omega arith) (omega arith))) (at 3 (omega arith) (omega arith))
      where
        at : (k : ℕ) → 0 < k → k < 4 → ask_of (four_kept last row ((own + k) % 4)) s ≤ w
        at k some few = four_most ((own + k) % 4) (λ i e. all i (omega (arith, e)) (λ z. omega (arith, e, z)))

module _ (steps : List ℕ) (last : List Stamp) (o : Opening) (second : CommandKind) (spot : ℕ) (first : CommandKind) where
  abbrev bank : ℕ
  bank = spot % 16

  abbrev ask : ℕ → ℕ
  ask = bank_ask steps last o second spot first

  abbrev step : ℕ → ℕ
  step = step_from steps o first second

  abbrev row : ℕ
  row = row_of spot first

  abbrev kept : ℕ → ℕ
  kept i = kept_at last (row + i)

  abbrev beside : ℕ
  beside = pair_kept last row (pair_beside bank)

  abbrev far : ℕ
  far = far_kept last row (bank / 4)

  -- a bank's ask, by its nearness
  ask_own : ask bank ≡ ask_of (kept bank) (step 0)
  ask_own = rw (eq-eqb bank bank refl)

  ask_near : (i near : ℕ) → nearness o i bank ≡ near → ask i ≡ ask_of (kept i) (step near)
  ask_near i near e = rw e

  ask_mate : ask (mate bank) ≡ ask_of (kept (mate bank)) (step 1)
  ask_mate = ask_near (mate bank) 1 (near_mate o bank)

  -- the step to the pair beside
  pub step_beside : cond (eqb o.mode 2) (step 1) (step 2) ≡ step (beside_of o)
  step_beside = go (eqb o.mode 2)
    where
      go : (t : Bool) → cond t (step 1) (step 2) ≡ step (cond t 1 2)
      go true = refl
      go false = refl

  -- a row whole, by its newest stamp for each nearness
  abbrev rest : ℕ
  rest = max (ask_of beside (step (beside_of o))) (ask_of far (step 2))

  abbrev four : ℕ
  four = max (ask bank) (max (ask_of (kept (mate bank)) (step 1)) rest)

  module _ (l : bank < 16) where
    far_low : bank / 4 < 4
    far_low = omega arith

    rest_below : rest ≤ four
    rest_below = le_trans (le-max_right (ask_of (kept (mate bank)) (step 1)) rest) (le-max_right (ask bank) (max (ask_of (kept (mate bank)) (step 1)) rest))

    mate_below : ask_of (kept (mate bank)) (step 1) ≤ four
    mate_below = le_trans (le-max_left (ask_of (kept (mate bank)) (step 1)) rest) (le-max_right (ask bank) (max (ask_of (kept (mate bank)) (step 1)) rest))

    ask_four : (i : ℕ) → i < 16 → ask i ≤ four
    ask_four i m = go (eqb i bank) (eqb (i / 2) (bank / 2)) (eqb (i / 4) (bank / 4)) refl refl refl
      where
        go : (x y z : Bool) → eqb i bank ≡ x → eqb (i / 2) (bank / 2) ≡ y → eqb (i / 4) (bank / 4) ≡ z → ask i ≤ four
        go true y z p q r = let is = eqb-true i bank p in rw is (le-max_left (ask bank) (max (ask_of (kept (mate bank)) (step 1)) rest))
        go false true z p q r =
            let is = mate_only i bank (eqb-false i bank p) (eqb-true (i / 2) (bank / 2) q) in
            let here : ask i ≡ ask_of (kept (mate bank)) (step 1) = ap ask is ∙ ask_mate in
            rw here mate_below
        go false false true p q r =
            let is = beside_only i bank (eqb-false (i / 2) (bank / 2) q) (eqb-true (i / 4) (bank / 4) r) in
            rw (ask_near i (beside_of o) (near_beside o bank i is))
            (le_trans (ask_mono (kept i) beside (step (beside_of o)) (rw is at (pair_above last row i)))
            (le_trans (le-max_left (ask_of beside (step (beside_of o))) (ask_of far (step 2))) rest_below))
        go false false false p q r =
            let n = eqb-false (i / 4) (bank / 4) r in
            rw (ask_near i 2 (near_far o bank i n))
            (le_trans (ask_mono (kept i) far (step 2) (far_above last row (bank / 4) far_low i m n))
            (le_trans (le-max_right (ask_of beside (step (beside_of o))) (ask_of far (step 2))) rest_below))

    rest_most : rest ≤ max_to ask 16
    rest_most =
        let from : (i near : ℕ) → i < 16 → nearness o i bank ≡ near → ask_of (kept i) (step near) ≤ max_to ask 16 = λ i near m e. rw (ask_near i near e) at (max_above ask 16 i m) in
        max-le (pair_most last row (step (beside_of o)) (max_to ask 16) (pair_beside bank) (λ i e. from i (beside_of o) (omega (arith, e)) (near_beside o bank i e)))
        (far_most last row (step 2) (max_to ask 16) (bank / 4) far_low (λ i m n. from i 2 m (near_far o bank i n)))

    pub near_whole : near_ask last row bank (step 0) (step 1) (step (beside_of o)) (step 2) ≡ row_ask steps last o second spot first
    unfolding row_ask
    near_whole =
        rw (sym ask_own)
        (le_antisymm (max-le (max_above ask 16 bank l) (max-le (rw ask_mate at (max_above ask 16 (mate bank) (mate_low bank l))) rest_most)) (max_most ask four 16 ask_four))

  -- a row whole where either kind names no bank
  abbrev newest : ℕ
  newest = max (far_kept last row 0) (four_kept last row 0)

  pub flat_whole : T (all_banks first || all_banks second) → ask_of newest (step 2) ≡ row_ask steps last o second spot first
  unfolding row_ask
  flat_whole t = le_antisymm high (max_most ask _ 16 low)
    where
      ask_flat : (i : ℕ) → ask i ≡ ask_of (kept i) (step 2)
      ask_flat i = rw (true_is (all_banks first || all_banks second) t)

      above : (i : ℕ) → i < 16 → kept i ≤ max (far_kept last row 0) (four_kept last row 0)
      above i m = go (eqb (i / 4) 0) refl
        where
          go : (t : Bool) → eqb (i / 4) 0 ≡ t → kept i ≤ max (far_kept last row 0) (four_kept last row 0)
          go true e = le_trans (rw (eqb-true (i / 4) 0 e) at (four_above last row i)) (le-max_right (far_kept last row 0) (four_kept last row 0))
          go false e = le_trans (far_above last row 0 (omega arith) i m (eqb-false (i / 4) 0 e)) (le-max_left (far_kept last row 0) (four_kept last row 0))

      low : (i : ℕ) → i < 16 → ask i ≤ ask_of (max (far_kept last row 0) (four_kept last row 0)) (step 2)
      low i m = rw (ask_flat i) (ask_mono (kept i) (max (far_kept last row 0) (four_kept last row 0)) (step 2) (above i m))

      from : (i : ℕ) → i < 16 → ask_of (kept i) (step 2) ≤ max_to ask 16
      from i m = rw (ask_flat i) at (max_above ask 16 i m)

      high : ask_of (max (far_kept last row 0) (four_kept last row 0)) (step 2) ≤ max_to ask 16
      high =
          ask_either (far_kept last row 0) (four_kept last row 0) (step 2) (max_to ask 16) (far_most last row (step 2) (max_to ask 16) 0 (omega arith) (λ i m n. from i m))
          (four_most last row (step 2) (max_to ask 16) 0 (λ i e. from i (omega (arith, e))))

  -- a kind that asks of no other bank, and one that asks of none
  abbrev pub alone : Bool
  alone = silent (class_for first second 1) first second && silent (class_for first second 2) first second

  module _ (none : get_or steps 0 0 ≡ 0) where
    step_none : (near : ℕ) → T (silent (class_for first second near) first second) → step near ≡ 0
    step_none near t = ap (λ (n : ℕ). get_or steps n 0) (silent_gap (class_for first second near) first second o t) ∙ none

    others_still : T alone → (i : ℕ) → i ≢ bank → ask i ≡ 0
    others_still t i n = go (eqb (group_of o i) (group_of o bank)) refl
      where
        go : (y : Bool) → eqb (group_of o i) (group_of o bank) ≡ y → ask i ≡ 0
        go true q = rw (ne_eqb i bank n, q) (ask_still (kept i) (step 1) (step_none 1 (and_left (silent (class_for first second 1) first second) (silent (class_for first second 2) first second) t)))
        go false q = rw (ne_eqb i bank n, q) (ask_still (kept i) (step 2) (step_none 2 (and_right (silent (class_for first second 1) first second) (silent (class_for first second 2) first second) t)))

    pub one_whole : bank < 16 → T alone → ask bank ≡ row_ask steps last o second spot first
    unfolding row_ask
    one_whole l t = omega (arith, max_above ask 16 bank l, low)
      where
        low : max_to ask 16 ≤ ask bank
        low = max_most ask _ 16 at
          where
            at : (i : ℕ) → i < 16 → ask i ≤ ask bank
            at i m = go (eqb i bank) refl
              where
                go : (x : Bool) → eqb i bank ≡ x → ask i ≤ ask bank
                go true p = let is = eqb-true i bank p in rw is (omega arith)
                go false p = omega (arith, others_still t i (eqb-false i bank p))

    pub none_whole : bank < 16 → T (silent (class_for first second 0) first second) → T alone → row_ask steps last o second spot first ≡ 0
    none_whole l own t = sym (one_whole l t) ∙ ask_own ∙ ask_still (kept bank) (step 0) (step_none 0 own)
