-- A call at ratio r and the same call at ratio 1 with every cycle times r get the same number, given room for both, and leave histories that differ in
-- just that.
use mathlib.Core.Path.{◌≡◌, refl, ◌∙◌, ap}
use mathlib.Core.Logic.{⊎_elim}
use mathlib.Core.Bool.{Bool, true, false, cond, not, ◌&&◌, ◌||◌}
use mathlib.Core.List.{List, [], ◌∷◌, map, tail}
use Prim.Native.Nat.{ℕ, ◌-◌, ◌*◌, ◌≤◌, ◌<◌}
use native.Mathlib.Nat.{mul-le-mul_left}
use native.Mathlib.Omega.{arith}
use lib.Dec.{eqb, leb, ltb}
use lib.ListN.{length, length-map}
use borrow.Author.Tests.{eqb-true, lt-leb, le-ltb}
use Rattle.std.specs.Prelude.{Option, Some, None}
use Rattle.timing.specs.declared.kinds.CommandKind.{CommandKind}
use Rattle.timing.specs.declared.rules.Command.{Command}
use Rattle.timing.specs.Kinds.{kind_of}
use Rattle.timing.specs.Earliest.{Settings, Stamped, Standing, Ask, floor, earliest}
use Rattle.timing.specs.Scaled.{ratio_one, times_ratio, standing_one}
use Rattle.timing.specs.Banks.{wrong_bank}
use Rattle.timing.specs.Editions.{newest}
use Rattle.timing.proofs.Truth.{or_true}
use Rattle.timing.proofs.ScaledLaws.{early_scaled, floor_scaled, wrong_scaled}
use Rattle.history.specs.Records.{Record, opening, command, take_back_record, History, Current, closed, session, pushed, popped, standing}
use Rattle.history.specs.Answers.{◌gives◌, first_of, last_cycle, good_ratio, good_ranks, live_mode, bad_bank, Verdict, reply_of, next_of, open_reply, offer_reply, take_back_reply, open_on, offer_on, offer_case, take_back_on, take_back_case}
use Rattle.history.specs.Struck.{Call, open_session, offer, take_back, verdict}
use Rattle.history.specs.Scaled.{scaled, Within}

abbrev pub scaled_record : ℕ → Record → Record
scaled_record r (opening s) = opening (ratio_one s)
scaled_record r (command n c t) = command n c (t * r)
scaled_record r (take_back_record n) = take_back_record n

abbrev one_of : ℕ → Current → Current
one_of r closed = closed
one_of r (session st) = session (standing_one r st)

-- every opening of a history is at ratio r
abbrev pub AllAt : ℕ → History → Type 0
AllAt r [] = Unit {0}
AllAt r (opening s ∷ h) = (s.opening.ratio ≡ r) × AllAt r h
AllAt r (command n c t ∷ h) = AllAt r h
AllAt r (take_back_record n ∷ h) = AllAt r h

abbrev RatioIs : ℕ → Current → Type 0
RatioIs r closed = Unit {0}
RatioIs r (session st) = st.settings.opening.ratio ≡ r

module _ (r : ℕ) where
  abbrev pub one : History → History
  one = map (scaled_record r)

  ratio_stands : (h : History) → AllAt r h → RatioIs r (standing h)
  unfolding standing
  ratio_stands [] a = tt
  ratio_stands (opening s ∷ h) a = a.0
  ratio_stands (command n c t ∷ h) a = go (standing h) (ratio_stands h a)
    where
      go : (k : Current) → RatioIs r k → RatioIs r (pushed c t k)
      go closed e = tt
      go (session st) e = e
  ratio_stands (take_back_record n ∷ h) a = go (standing h) (ratio_stands h a)
    where
      go : (k : Current) → RatioIs r k → RatioIs r (popped k)
      go closed e = tt
      go (session st) e = e

  stands_one : (h : History) → standing (one h) ≡ one_of r (standing h)
  unfolding standing
  stands_one [] = refl
  stands_one (opening s ∷ h) = ap (λ (n : ℕ). session (record { settings = ratio_one s; number = n; survivors = []; depth = 0 })) (length-map h (scaled_record r))
  stands_one (command n c t ∷ h) = ap (pushed c (t * r)) (stands_one h) ∙ go (standing h)
    where
      go : (k : Current) → pushed c (t * r) (one_of r k) ≡ one_of r (pushed c t k)
      go closed = refl
      go (session st) = refl
  stands_one (take_back_record n ∷ h) = ap popped (stands_one h) ∙ go (standing h)
    where
      tail_map : (xs : List Stamped) → tail (map (times_ratio r) xs) ≡ map (times_ratio r) (tail xs)
      tail_map [] = refl
      tail_map (x ∷ xs) = refl

      go : (k : Current) → popped (one_of r k) ≡ one_of r (popped k)
      go closed = refl
      go (session st) =
          ap (λ (xs : List Stamped). session (record { settings = ratio_one st.settings; number = st.number; survivors = xs; depth = st.depth - 1 })) (tail_map st.survivors)

-- what a call at ratio r comes to, and the same one at ratio 1
pub record SameEnd (r : ℕ) (h : History) (v v' : Verdict) : Type 0 where
  pub number : (reply_of v).number ≡ (reply_of v').number
  pub next : next_of (one r h) v' ≡ one r (next_of h v)
  pub all : AllAt r (next_of h v)

module _ (r : ℕ) (good : good_ratio r ≡ true) (room room' : ℕ) (h : History) (a : AllAt r h) (free : length h < room) (free' : length h < room') where
  above : 0 < r
  above = ⊎_elim (λ f. ⊎_elim (λ g. omega (arith, eqb-true r 1 g)) (λ g. omega (arith, eqb-true r 2 g)) (or_true (eqb r 1) (eqb r 2) f)) (λ f. omega (arith, eqb-true r 4 f)) (or_true (eqb r 1 || eqb r 2) (eqb r 4) good)

  count : length (one r h) ≡ length h
  count = length-map h (scaled_record r)

  open_same : (s : Settings) → s.opening.ratio ≡ r → SameEnd r h (open_on room h s) (open_on room' (one r h) (ratio_one s))
  unfolding open_on first_of
  open_same s at =
      let known : good_ratio s.opening.ratio ≡ true = ap good_ratio at ∙ good in
      rw (count, lt-leb room (length h) free, lt-leb room' (length h) free', known) (go (good_ranks s.opening.ranks && live_mode s.opening.mode && eqb s.opening.edition newest))
    where
      go : (b : Bool) → SameEnd r h (open_reply s (cond (not b) 10 (cond false 9 0))) (open_reply (ratio_one s) (cond (not b) 10 (cond false 9 0)))
      go true = record { number = refl; next = refl; all = (at, a) }
      go false = record { number = refl; next = refl; all = a }

  offer_same : (kind rank bank t : ℕ) → t * r ≤ last_cycle → SameEnd r h (offer_on room h kind rank bank t) (offer_on room' (one r h) kind rank bank (t * r))
  unfolding offer_on first_of
  offer_same kind rank bank t within = rw (count, stands_one r h) (go (standing h) (ratio_stands r h a) (kind_of kind))
    where
      low : ltb last_cycle t ≡ false
      low = le-ltb last_cycle t (omega (arith, within, mul-le-mul_left {m = 1} {n = r} t above))

      by : (st : Standing) (e e' : Ask) (c : Command) (p q u w v : Bool)
          → SameEnd r h (offer_reply st.number st.settings e c t (first_of ((p gives 3) ∷ (q gives 4) ∷ (false gives 5) ∷ (u gives 6) ∷ (w gives 12) ∷ (v gives 7) ∷ (false gives 9) ∷ [])))
          (offer_reply st.number (ratio_one st.settings) e' c (t * r) (first_of ((p gives 3) ∷ (q gives 4) ∷ (false gives 5) ∷ (u gives 6) ∷ (w gives 12) ∷ (v gives 7) ∷ (false gives 9) ∷ [])))
      by st e e' c true q u w v = record { number = refl; next = refl; all = a }
      by st e e' c false true u w v = record { number = refl; next = refl; all = a }
      by st e e' c false false true w v = record { number = refl; next = refl; all = a }
      by st e e' c false false false true v = record { number = refl; next = refl; all = a }
      by st e e' c false false false false true = record { number = refl; next = refl; all = a }
      by st e e' c false false false false false = record { number = refl; next = refl; all = a }

      go : (k : Current) → RatioIs r k → (m : Option CommandKind) → SameEnd r h (offer_case room (length h) k m rank bank t) (offer_case room' (length h) (one_of r k) m rank bank (t * r))
      go closed e m = record { number = refl; next = refl; all = a }
      go (session st) e None = record { number = refl; next = refl; all = a }
      go (session st) e (Some k) =
          let c : Command = record { kind = k; rank = rank; bank = bank } in
          rw (low, le-ltb last_cycle (t * r) within, lt-leb room (length h) free, lt-leb room' (length h) free', ← floor_scaled r above st e c t, wrong_scaled r st c, ← early_scaled r above st e c t)
          (by st (earliest st c) (earliest (standing_one r st) c) c (leb st.settings.opening.ranks rank) (bad_bank k bank) (ltb t (floor st)) (wrong_bank st c) (ltb t (earliest st c).cycle))

  take_back_same : SameEnd r h (take_back_on room h) (take_back_on room' (one r h))
  unfolding take_back_on first_of
  take_back_same = rw (count, stands_one r h) (go (standing h))
    where
      by : (st : Standing) (p : Bool)
          → SameEnd r h (take_back_reply st.number (first_of ((p gives 8) ∷ (false gives 9) ∷ []))) (take_back_reply st.number (first_of ((p gives 8) ∷ (false gives 9) ∷ [])))
      by st true = record { number = refl; next = refl; all = a }
      by st false = record { number = refl; next = refl; all = a }

      go : (k : Current) → SameEnd r h (take_back_case room (length h) k) (take_back_case room' (length h) (one_of r k))
      go closed = record { number = refl; next = refl; all = a }
      go (session st) = rw (lt-leb room (length h) free, lt-leb room' (length h) free') (by st (eqb st.depth 0))

  pub call_same : (c : Call) → Within r c → SameEnd r h (verdict room h c) (verdict room' (one r h) (scaled r c))
  call_same (open_session s) at = open_same s at
  call_same (offer kind rank bank t) within = offer_same kind rank bank t within
  call_same take_back w = take_back_same
