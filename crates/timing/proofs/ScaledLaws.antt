-- A cycle is legal in a session at ratio r exactly if r times that cycle is in the same session at ratio 1 with every cycle times r.
use mathlib.Core.Path.{◌≡◌, refl, sym, ◌∙◌, ap, subst}
use mathlib.Core.Logic.{inl, inr, ⊎_elim, ◌↔◌}
use mathlib.Core.Bool.{Bool, true, false, cond, ◌&&◌}
use mathlib.Core.List.{List, [], ◌∷◌, map}
use Prim.Native.Nat.{ℕ, suc, ◌+◌, ◌-◌, ◌*◌, ◌≤◌, ◌<◌}
use native.Mathlib.Nat.{add-mul, mul-le-mul_right}
use native.Mathlib.Omega.{arith}
use lib.Dec.{T, leb, ltb}
use borrow.Author.Tests.{leb-true, leb-false, ltb-true, ltb-false, lt-ltb, le-ltb}
use Rattle.timing.specs.declared.kinds.CommandKind.TheVariants.{Act}
use Rattle.timing.specs.declared.rules.Command.{Command}
use Rattle.timing.specs.Banks.{speaks_of, is_open_bank, wrong_for, wrong_bank}
use Rattle.timing.specs.Editions.{bank_states, has}
use Rattle.timing.specs.Kinds.{same_kind}
use Rattle.timing.specs.Clocks.{ceil_div}
use Rattle.timing.specs.Rules.{binds}
use Rattle.timing.specs.Earliest.{Stamped, Standing, gap_of, reach, cycle_after, floor, ByPair, ByFour, NthAct, newest, behind_act, behind_other, AsksFor, LaterThanLast, Legal, earliest}
use Rattle.timing.specs.Scaled.{times_ratio, standing_one}
use Rattle.timing.proofs.Legal.{map_in, map_out, legal_from}
use Rattle.timing.proofs.Rounding.{rounding_lasts, rounding_least}

module _ (r : ℕ) (above : 0 < r) where
  -- an order of cycles is one of their multiples
  pub times_le : (a b : ℕ) → a ≤ b → a * r ≤ b * r
  times_le a b l = mul-le-mul_right {m = a} {n = b} r l

  pub le_times : (a b : ℕ) → a * r ≤ b * r → a ≤ b
  le_times a b l = go (leb a b) refl
    where
      go : (t : Bool) → leb a b ≡ t → a ≤ b
      go true e = leb-true a b e
      go false e =
          let more : suc b ≤ a = leb-false a b e in
          absurd (omega (arith, l, above, mul-le-mul_right {m = b + 1} {n = a} r (omega (arith, more)), add-mul b 1 r))

  -- a gap kept at ratio r is kept at ratio 1, and back
  gap_there : (x g t : ℕ) → x + ceil_div g r ≤ t → x * r + ceil_div g 1 ≤ t * r
  gap_there x g t l = omega (arith, times_le (x + ceil_div g r) t l, add-mul x (ceil_div g r) r, rounding_lasts r above g)

  gap_back : (x g t : ℕ) → x * r + ceil_div g 1 ≤ t * r → x + ceil_div g r ≤ t
  gap_back x g t l =
      let before : x ≤ t = le_times x t (omega (arith, l)) in
      let parts : t * r ≡ (t - x) * r + x * r = (let whole : t ≡ t - x + x = omega arith in ap (λ (n : ℕ). n * r) whole ∙ add-mul (t - x) x r) in
      omega (arith, rounding_least r above g (t - x) (omega (arith, l, parts)))

  -- the n-th ACT
  nth_in : {rank : ℕ} {x : Stamped} {n : ℕ} {xs : List Stamped} → NthAct rank x n xs → NthAct rank (times_ratio r x) n (map (times_ratio r) xs)
  nth_in (newest t e) = newest t (ap (times_ratio r) e)
  nth_in (behind_act t more) = behind_act t (nth_in more)
  nth_in (behind_other t more) = behind_other t (nth_in more)

  nth_out : {rank : ℕ} {y : Stamped} {n : ℕ} (xs : List Stamped) → NthAct rank y n (map (times_ratio r) xs) → (x : Stamped) × (y ≡ times_ratio r x) × NthAct rank x n xs
  nth_out {rank = rank} {y = y} {n = n} [] x' = elim x' [ ]
  nth_out (x ∷ xs) (newest t e) = (x, e, newest t refl)
  nth_out (x ∷ xs) (behind_act t more) = let w = nth_out xs more in (w.0, w.1, behind_act t w.2)
  nth_out (x ∷ xs) (behind_other t more) = let w = nth_out xs more in (w.0, w.1, behind_other t w.2)

  module _ (st : Standing) (at : st.settings.opening.ratio ≡ r) (c : Command) where
    abbrev one : Standing
    one = standing_one r st

    reach_there : (x : Stamped) (n t : ℕ) → reach st x n ≤ t → reach one (times_ratio r x) n ≤ t * r
    unfolding reach
    reach_there x n t l = gap_there x.cycle (gap_of st.settings n).0 t (rw at at l)

    reach_back : (x : Stamped) (n t : ℕ) → reach one (times_ratio r x) n ≤ t * r → reach st x n ≤ t
    unfolding reach
    reach_back x n t l = rw at (gap_back x.cycle (gap_of st.settings n).0 t l)

    later_there : (xs : List Stamped) (t : ℕ) → LaterThanLast xs t → LaterThanLast (map (times_ratio r) xs) (t * r)
    later_there [] t l = tt
    later_there (x ∷ xs) t l = omega (arith, above, times_le (x.cycle + 1) t (omega (arith, l)), add-mul x.cycle 1 r)

    later_back : (xs : List Stamped) (t : ℕ) → LaterThanLast (map (times_ratio r) xs) (t * r) → LaterThanLast xs t
    later_back [] t l = tt
    later_back (x ∷ xs) t l = go (leb t x.cycle) refl
      where
        go : (b : Bool) → leb t x.cycle ≡ b → x.cycle < t
        go true e = absurd (omega (arith, l, times_le t x.cycle (leb-true t x.cycle e)))
        go false e = leb-false t x.cycle e

    there : (t : ℕ) → Legal st c t → Legal one c (t * r)
    there t legal = record { later = later_there st.survivors t legal.later; gaps = kept }
      where
        asked : (x y : Stamped) (n u : ℕ) → y ≡ times_ratio r x → AsksFor st c n (reach st x n) → reach one y n ≡ u → u ≤ t * r
        asked x y n u e a is =
            subst (λ (v : ℕ). v ≤ t * r) is (subst (λ (z : Stamped). reach one z n ≤ t * r) (sym e) (reach_there x n t (legal.gaps n (reach st x n) a)))

        kept : (n u : ℕ) → AsksFor one c n u → u ≤ t * r
        kept n u =
            ⊎_elim
            (λ (p : ByPair one c n u).
            let w = map_out (times_ratio r) st.survivors p.survives in
            let bound : T (binds st.settings.opening p.rule w.0.command c) = subst (λ (z : Stamped). T (binds st.settings.opening p.rule z.command c)) w.2 p.bound in
            asked w.0 p.survivor n u w.2
            (inl (record { survivor = w.0; survives = w.1; rule = p.rule; listed = p.listed; bound = bound; number = p.number; asks = refl })) p.asks)
            (λ (p : ByFour one c n u).
            let w = nth_out st.survivors p.fourth in
            asked w.0 p.survivor n u w.1 (inr (record { activates = p.activates; survivor = w.0; fourth = w.2; number = p.number; asks = refl })) p.asks)

    back : (t : ℕ) → Legal one c (t * r) → Legal st c t
    back t legal = record { later = later_back st.survivors t legal.later; gaps = kept }
      where
        asked : (x : Stamped) (n u : ℕ) → AsksFor one c n (reach one (times_ratio r x) n) → reach st x n ≡ u → u ≤ t
        asked x n u a is = subst (λ (v : ℕ). v ≤ t) is (reach_back x n t (legal.gaps n (reach one (times_ratio r x) n) a))

        kept : (n u : ℕ) → AsksFor st c n u → u ≤ t
        kept n u =
            ⊎_elim
            (λ (p : ByPair st c n u).
            asked p.survivor n u
            (inl
            (record {
              survivor = times_ratio r p.survivor;
              survives = map_in (times_ratio r) st.survivors p.survives;
              rule = p.rule;
              listed = p.listed;
              bound = p.bound;
              number = p.number;
              asks = refl;
            }))
            p.asks)
            (λ (p : ByFour st c n u).
            asked p.survivor n u (inr (record { activates = p.activates; survivor = times_ratio r p.survivor; fourth = nth_in p.fourth; number = p.number; asks = refl })) p.asks)

    pub legal_scaled : (t : ℕ) → Legal st c t ↔ Legal one c (t * r)
    legal_scaled t = (there t, back t)

    -- too early, or not later than the last survivor, in one exactly if in the other
    pub early_scaled : (t : ℕ) → ltb t (earliest st c).cycle ≡ ltb (t * r) (earliest one c).cycle
    early_scaled t = go (ltb t (earliest st c).cycle) refl
      where
        go : (b : Bool) → ltb t (earliest st c).cycle ≡ b → b ≡ ltb (t * r) (earliest one c).cycle
        go false e = sym (le-ltb (t * r) (earliest one c).cycle ((legal_from one c (t * r)).0 (there t ((legal_from st c t).1 (ltb-false t (earliest st c).cycle e)))))
        go true e = by (ltb (t * r) (earliest one c).cycle) refl
          where
            by : (d : Bool) → ltb (t * r) (earliest one c).cycle ≡ d → true ≡ d
            by true f = refl
            by false f =
                absurd (omega (arith, ltb-true t (earliest st c).cycle e, (legal_from st c t).0 (back t ((legal_from one c (t * r)).1 (ltb-false (t * r) (earliest one c).cycle f)))))

    pub floor_scaled : (t : ℕ) → ltb t (floor st) ≡ ltb (t * r) (floor one)
    unfolding floor
    floor_scaled t = by st.survivors
      where
        by : (xs : List Stamped) → ltb t (cycle_after xs) ≡ ltb (t * r) (cycle_after (map (times_ratio r) xs))
        by [] = le-ltb t 0 (omega arith) ∙ sym (le-ltb (t * r) 0 (omega arith))
        by (x ∷ xs) = go (ltb t (x.cycle + 1)) refl
          where
            go : (b : Bool) → ltb t (x.cycle + 1) ≡ b → b ≡ ltb (t * r) (x.cycle * r + 1)
            go true e = sym (lt-ltb (t * r) (x.cycle * r + 1) (omega (arith, times_le t x.cycle (omega (arith, ltb-true t (x.cycle + 1) e)))))
            go false e = sym (le-ltb (t * r) (x.cycle * r + 1) (omega (arith, above, times_le (x.cycle + 1) t (ltb-false t (x.cycle + 1) e), add-mul x.cycle 1 r)))

-- the state of a bank knows no cycle
open_scaled : (r rank bank : ℕ) (xs : List Stamped) → is_open_bank rank bank (map (times_ratio r) xs) ≡ is_open_bank rank bank xs
unfolding is_open_bank
open_scaled r rank bank [] = refl
open_scaled r rank bank (x ∷ xs) = ap (λ (b : Bool). cond (speaks_of rank bank x.command) (same_kind x.command.kind Act) b) (open_scaled r rank bank xs)

pub wrong_scaled : (r : ℕ) (st : Standing) (c : Command) → wrong_bank (standing_one r st) c ≡ wrong_bank st c
wrong_scaled r st c = λ i. has st.settings.opening bank_states && wrong_for c.kind c.bank (λ bank. open_scaled r c.rank bank st.survivors i)
