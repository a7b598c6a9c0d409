-- The worded rule and the computed one agree: a cycle is legal exactly if it is at or after the earliest cycle, and the gap named there is
-- the one that the wording names.
use mathlib.Core.Path.{◌≡◌, refl, sym, ◌∙◌, ap, subst}
use mathlib.Core.Logic.{inl, inr, ⊎_elim, ◌↔◌, ◌≢◌}
use mathlib.Core.Bool.{Bool, true, false, cond}
use mathlib.Core.List.{List, [], ◌∷◌, map, Memᴰ}
use Prim.Native.Nat.{ℕ, zero, suc, ◌≤◌, ◌<◌}
use native.Mathlib.Omega.{arith}
use lib.Dec.{T, eqb}
use lib.ListN.{take, drop}
use Rattle.timing.specs.declared.kinds.CommandKind.{CommandKind}
use Rattle.timing.specs.declared.kinds.CommandKind.TheVariants.{Act}
use Rattle.timing.specs.declared.rules.Opening.{Opening}
use Rattle.timing.specs.declared.rules.Command.{Command}
use Rattle.timing.specs.Kinds.{same_kind}
use Rattle.timing.specs.Rules.{Rule, rules, class_of, matches, binds, matching}
use Rattle.timing.specs.Earliest.{Stamped, Standing, Ask, ByPair, ByFour, NthAct, newest, behind_act, behind_other, AsksFor, LaterThanLast, Legal, NamedGap, t_faw, reach, cycle_after, floor, is_act, ask_by, pair_asks, acts, fourth_act, four_asks, asks, latest, earliest}
use Rattle.timing.proofs.AskLaws.{◌≼◌, ask_path, latest_above_first, latest_above, latest_one}
use Rattle.timing.proofs.TableLaws.{numbers_within, all_numbered}
use Rattle.timing.proofs.Truth.{and_left, and_right, both, true_is, false_is, is_true}

-- membership in a mapped list
pub map_in {ℓ κ} : {A : Type ℓ} {B : Type κ} (f : A → B) (xs : List A) {x : A} → Memᴰ x xs → Memᴰ (f x) (map f xs)
map_in f [] m = absurd (mathlib.Core.List.Memᴰ.not-nil m)
map_in f (y ∷ ys) m = ⊎_elim (λ e. mathlib.Core.List.Memᴰ.head (ap f e)) (λ m'. mathlib.Core.List.Memᴰ.tail (map_in f ys m')) (mathlib.Core.List.Memᴰ.cases_cons m)

pub map_out {ℓ κ} : {A : Type ℓ} {B : Type κ} (f : A → B) (xs : List A) {b : B} → Memᴰ b (map f xs) → (x : A) × Memᴰ x xs × (b ≡ f x)
map_out f [] m = absurd (mathlib.Core.List.Memᴰ.not-nil m)
map_out f (y ∷ ys) {b} m =
    ⊎_elim (λ (e : b ≡ f y). (y, mathlib.Core.List.Memᴰ.head refl, e))
    (λ (m' : Memᴰ b (map f ys)). let w = map_out f ys m' in (w.0, mathlib.Core.List.Memᴰ.tail w.1, w.2)) (mathlib.Core.List.Memᴰ.cases_cons m)

-- a number matches exactly if a rule of the list with that number holds
module _ (o : Opening) (class : ℕ) (a b : CommandKind) where
  pub matching_in : (rs : List Rule) {r : Rule} → Memᴰ r rs → T (matches o class a b r) → Memᴰ r.number (matching o class a b rs)
  unfolding matching
  matching_in [] m h = absurd (mathlib.Core.List.Memᴰ.not-nil m)
  matching_in (q ∷ qs) {r} m h =
      ⊎_elim
      (λ (e : r ≡ q). subst (λ (t : Bool). Memᴰ r.number (cond t (q.number ∷ matching o class a b qs) (matching o class a b qs)))
      (sym (true_is (matches o class a b q) (subst (λ (x : Rule). T (matches o class a b x)) e h))) (mathlib.Core.List.Memᴰ.head (ap (λ (x : Rule). x.number) e)))
      (λ (m' : Memᴰ r qs). keep (matches o class a b q) (matching_in qs m' h)) (mathlib.Core.List.Memᴰ.cases_cons m)
    where
      keep : (t : Bool) → Memᴰ r.number (matching o class a b qs) → Memᴰ r.number (cond t (q.number ∷ matching o class a b qs) (matching o class a b qs))
      keep true m = mathlib.Core.List.Memᴰ.tail m
      keep false m = m

  abbrev pub Matched : List Rule → ℕ → Type 0
  Matched rs n = (r : Rule) × Memᴰ r rs × T (matches o class a b r) × (r.number ≡ n)

  pub matching_out : (rs : List Rule) {n : ℕ} → Memᴰ n (matching o class a b rs) → Matched rs n
  unfolding matching
  matching_out [] m = absurd (mathlib.Core.List.Memᴰ.not-nil m)
  matching_out (q ∷ qs) {n} m = go (matches o class a b q) refl m (λ (m' : Memᴰ n (matching o class a b qs)). matching_out qs m')
    where
      down : Matched qs n → Matched (q ∷ qs) n
      down w = (w.0, mathlib.Core.List.Memᴰ.tail w.1, w.2, w.3)

      go : (t : Bool) → matches o class a b q ≡ t → Memᴰ n (cond t (q.number ∷ matching o class a b qs) (matching o class a b qs))
          → (Memᴰ n (matching o class a b qs) → Matched qs n) → Matched (q ∷ qs) n
      go true h m below = ⊎_elim (λ e. (q, mathlib.Core.List.Memᴰ.head refl, is_true (matches o class a b q) h, sym e)) (λ m'. down (below m')) (mathlib.Core.List.Memᴰ.cases_cons m)
      go false h m below = down (below m)

-- the asks of the pair rules are those of the survivors and the rules that bind them
module _ (st : Standing) (c : Command) where
  abbrev here : Stamped → List Ask
  here x =
      let o = st.settings.opening in
      cond (eqb x.command.rank c.rank)
      (map (ask_by st x) (matching o (class_of o x.command c) x.command.kind c.kind rules))
      []

  Bound : Stamped → Ask → Type 0
  Bound x a = (r : Rule) × Memᴰ r rules × T (binds st.settings.opening r x.command c) × (r.number ≡ a.gap) × (reach st x a.gap ≡ a.cycle)

  here_in : (x : Stamped) (r : Rule) → Memᴰ r rules → T (binds st.settings.opening r x.command c) → Memᴰ (ask_by st x r.number) (here x)
  here_in x r m h =
      let o = st.settings.opening in
      let same = eqb x.command.rank c.rank in
      let class = class_of o x.command c in
      let rest = matches o class x.command.kind c.kind r in
      subst (λ (t : Bool). Memᴰ (ask_by st x r.number) (cond t (map (ask_by st x) (matching o class x.command.kind c.kind rules)) []))
      (sym (true_is same (and_left same rest h)))
      (map_in (ask_by st x) (matching o class x.command.kind c.kind rules) (matching_in o class x.command.kind c.kind rules m (and_right same rest h)))

  here_out : (x : Stamped) {a : Ask} → Memᴰ a (here x) → Bound x a
  unfolding Bound
  here_out x {a} m = go (eqb x.command.rank c.rank) refl m
    where
      o : Opening
      o = st.settings.opening

      class : ℕ
      class = class_of o x.command c

      numbers : List ℕ
      numbers = matching o class x.command.kind c.kind rules

      go : (t : Bool) → eqb x.command.rank c.rank ≡ t → Memᴰ a (cond t (map (ask_by st x) numbers) []) → Bound x a
      go true e m =
          let w = map_out (ask_by st x) numbers m in
          let r = matching_out o class x.command.kind c.kind rules w.1 in
          let eg : a.gap ≡ w.0 = ap (λ (k : Ask). k.gap) w.2 in
          let ec : a.cycle ≡ reach st x w.0 = ap (λ (k : Ask). k.cycle) w.2 in
          let same = eqb x.command.rank c.rank in
          (r.0, r.1, both same (matches o class x.command.kind c.kind r.0) (is_true same e) r.2, r.3 ∙ sym eg, ap (reach st x) eg ∙ sym ec)
      go false e m = absurd (mathlib.Core.List.Memᴰ.not-nil m)

  pairs_in : (xs : List Stamped) {x : Stamped} (r : Rule) → Memᴰ x xs → Memᴰ r rules → T (binds st.settings.opening r x.command c)
      → Memᴰ (ask_by st x r.number) (pair_asks st c xs)
  unfolding pair_asks
  pairs_in [] r i m h = absurd (mathlib.Core.List.Memᴰ.not-nil i)
  pairs_in (y ∷ ys) {x} r i m h =
      ⊎_elim
      (λ (e : x ≡ y). subst (λ (z : Stamped). Memᴰ (ask_by st z r.number) (pair_asks st c (y ∷ ys))) (sym e)
      (mathlib.Core.List.Memᴰ.append_left (pair_asks st c ys) (here_in y r m (subst (λ (z : Stamped). T (binds st.settings.opening r z.command c)) e h))))
      (λ (i' : Memᴰ x ys). mathlib.Core.List.Memᴰ.append_right (here y) (pairs_in ys r i' m h)) (mathlib.Core.List.Memᴰ.cases_cons i)

  pairs_out : (xs : List Stamped) {a : Ask} → Memᴰ a (pair_asks st c xs) → (x : Stamped) × Memᴰ x xs × Bound x a
  unfolding pair_asks
  pairs_out [] m = absurd (mathlib.Core.List.Memᴰ.not-nil m)
  pairs_out (y ∷ ys) {a} m =
      ⊎_elim (λ (m' : Memᴰ a (here y)). (y, mathlib.Core.List.Memᴰ.head refl, here_out y m'))
      (λ (m' : Memᴰ a (pair_asks st c ys)). let w = pairs_out ys m' in (w.0, mathlib.Core.List.Memᴰ.tail w.1, w.2)) (mathlib.Core.List.Memᴰ.append_cases (here y) m)

-- the n-th ACT, as it is counted and as it is computed
pub nth_in : (rank : ℕ) {x : Stamped} (n : ℕ) (xs : List Stamped) → NthAct rank x n xs → (m : ℕ) × (n ≡ suc m) × Memᴰ x (take 1 (drop m (acts rank xs)))
unfolding acts
nth_in rank {x} n xs (newest {y = y} {ys = ys} h e) =
    (0, refl, subst (λ (t : Bool). Memᴰ x (take 1 (drop 0 (cond t (y ∷ acts rank ys) (acts rank ys))))) (sym (true_is (is_act rank y) h)) (mathlib.Core.List.Memᴰ.head e))
nth_in rank {x} n xs (behind_act {n = k} {y = y} {ys = ys} h p) =
    let w = nth_in rank k ys p in
    (suc w.0, ap suc w.1, subst (λ (t : Bool). Memᴰ x (take 1 (drop (suc w.0) (cond t (y ∷ acts rank ys) (acts rank ys))))) (sym (true_is (is_act rank y) h)) w.2)
nth_in rank {x} n xs (behind_other {y = y} {ys = ys} h p) =
    let w = nth_in rank n ys p in
    (w.0, w.1, subst (λ (t : Bool). Memᴰ x (take 1 (drop w.0 (cond t (y ∷ acts rank ys) (acts rank ys))))) (sym (false_is (is_act rank y) h)) w.2)

pub nth_out : (rank : ℕ) (xs : List Stamped) (n : ℕ) {x : Stamped} → Memᴰ x (take 1 (drop n (acts rank xs))) → NthAct rank x (suc n) xs
unfolding acts
nth_out rank [] zero m = absurd (mathlib.Core.List.Memᴰ.not-nil m)
nth_out rank [] (suc n) m = absurd (mathlib.Core.List.Memᴰ.not-nil m)
nth_out rank (y ∷ ys) n {x} m = go (is_act rank y) refl n m (λ (k : ℕ) (i : Memᴰ x (take 1 (drop k (acts rank ys)))). nth_out rank ys k i)
  where
    go : (t : Bool) → is_act rank y ≡ t → (k : ℕ) → Memᴰ x (take 1 (drop k (cond t (y ∷ acts rank ys) (acts rank ys))))
        → ((j : ℕ) → Memᴰ x (take 1 (drop j (acts rank ys))) → NthAct rank x (suc j) ys) → NthAct rank x (suc k) (y ∷ ys)
    go true e zero m below = newest (is_true (is_act rank y) e) (mathlib.Core.List.Memᴰ.eq_of_singleton m)
    go true e (suc k) m below = behind_act (is_true (is_act rank y) e) (below k m)
    go false e k m below = behind_other (λ u. subst T e u) (below k m)

module _ (st : Standing) (c : Command) where
  -- what the wording asks for is in the list of asks, and nothing else is
  pub asks_in : {n u : ℕ} → AsksFor st c n u → Memᴰ (record { cycle = u; gap = n }) (asks st c)
  unfolding asks four_asks
  asks_in {n} {u} (inl p) =
      mathlib.Core.List.Memᴰ.append_left (four_asks st c)
      (mathlib.Core.List.Memᴰ.cast (ask_path (record { cycle = u; gap = n }) (ask_by st p.survivor p.rule.number) (sym p.asks ∙ ap (reach st p.survivor) (sym p.number)) (sym p.number))
      (pairs_in st c st.survivors p.rule p.survives p.listed p.bound))
  asks_in {n} {u} (inr p) =
      let w = nth_in c.rank 4 st.survivors p.fourth in
      let three : w.0 ≡ 3 = omega (arith, w.1) in
      mathlib.Core.List.Memᴰ.append_right (pair_asks st c st.survivors)
      (mathlib.Core.List.Memᴰ.cast (ask_path (record { cycle = u; gap = n }) (ask_by st p.survivor t_faw) (sym p.asks ∙ ap (reach st p.survivor) (sym p.number)) (sym p.number))
      (four_in p.survivor p.activates (subst (λ (m : ℕ). Memᴰ p.survivor (take 1 (drop m (acts c.rank st.survivors)))) three w.2)))
    where
      four_in : (x : Stamped) → T (same_kind c.kind Act) → Memᴰ x (fourth_act c.rank st.survivors) → Memᴰ (ask_by st x t_faw) (four_asks st c)
      four_in x h m =
          subst (λ (t : Bool). Memᴰ (ask_by st x t_faw) (cond t (map (λ y. ask_by st y t_faw) (fourth_act c.rank st.survivors)) []))
          (sym (true_is (same_kind c.kind Act) h)) (map_in (λ y. ask_by st y t_faw) (fourth_act c.rank st.survivors) m)

  four_out : {a : Ask} → Memᴰ a (four_asks st c) → ByFour st c a.gap a.cycle
  unfolding four_asks
  four_out {a} m = go (same_kind c.kind Act) refl m
    where
      go : (t : Bool) → same_kind c.kind Act ≡ t → Memᴰ a (cond t (map (λ x. ask_by st x t_faw) (fourth_act c.rank st.survivors)) [])
          → ByFour st c a.gap a.cycle
      go true e m =
          let w = map_out (λ x. ask_by st x t_faw) (fourth_act c.rank st.survivors) m in
          let eg : a.gap ≡ t_faw = ap (λ (k : Ask). k.gap) w.2 in
          let ec : a.cycle ≡ reach st w.0 t_faw = ap (λ (k : Ask). k.cycle) w.2 in
          record {
            activates = is_true (same_kind c.kind Act) e;
            survivor = w.0;
            fourth = nth_out c.rank st.survivors 3 w.1;
            number = sym eg;
            asks = ap (reach st w.0) eg ∙ sym ec;
          }
      go false e m = absurd (mathlib.Core.List.Memᴰ.not-nil m)

  pub asks_out : {a : Ask} → Memᴰ a (asks st c) → AsksFor st c a.gap a.cycle
  unfolding asks Bound
  asks_out {a} m = ⊎_elim (λ m'. inl (pair m')) (λ m'. inr (four_out m')) (mathlib.Core.List.Memᴰ.append_cases (pair_asks st c st.survivors) m)
    where
      pair : Memᴰ a (pair_asks st c st.survivors) → ByPair st c a.gap a.cycle
      pair m =
          let w = pairs_out st c st.survivors m in
          let b = w.2 in
          record { survivor = w.0; survives = w.1; rule = b.0; listed = b.1; bound = b.2; number = b.3; asks = b.4 }

  -- the gaps that ask are 1 to 20
  pub asks_numbered : {n u : ℕ} → AsksFor st c n u → (0 < n) × (n ≤ 20)
  asks_numbered (inl p) =
      let w = subst (λ (m : ℕ). (0 < m) × (m < 20)) p.number (numbers_within rules all_numbered p.listed) in (w.0, omega arith)
  asks_numbered (inr p) = omega (arith, p.number)

  abbrev start : Ask
  start = record { cycle = floor st; gap = 0 }

  -- c is legal at t exactly if t is at or after the earliest cycle
  pub legal_from : (t : ℕ) → Legal st c t ↔ (earliest st c).cycle ≤ t
  unfolding earliest floor
  legal_from t = (there, back)
    where
      first : (xs : List Stamped) → LaterThanLast xs t → cycle_after xs ≤ t
      first [] l = omega arith
      first (x ∷ xs) l = omega (arith, l)

      last : (xs : List Stamped) → cycle_after xs ≤ t → LaterThanLast xs t
      last [] l = tt
      last (x ∷ xs) l = omega (arith, l)

      there : Legal st c t → (latest start (asks st c)).cycle ≤ t
      there l =
          ⊎_elim (λ (e : latest start (asks st c) ≡ start). subst (λ (a : Ask). a.cycle ≤ t) (sym e) (first st.survivors l.later))
          (λ (m : Memᴰ (latest start (asks st c)) (asks st c)). l.gaps _ _ (asks_out m)) (latest_one start (asks st c))

      back : (latest start (asks st c)).cycle ≤ t → Legal st c t
      back h =
          record {
            later = last st.survivors (omega (arith, (latest_above_first start (asks st c)).cycle));
            gaps = λ n u p. omega (arith, (latest_above start (asks st c) (asks_in p)).cycle);
          }

  -- the gap named with it is one that asks for that cycle, the lowest if several do; 0 exactly where none asks for more than the floor
  pub named_gap : NamedGap st c (earliest st c)
  unfolding earliest
  named_gap = record { none_asks = none; zero_then = zero_gap; one_asks = some; lowest = λ n p. (above p).gap refl }
    where
      a : Ask
      a = latest start (asks st c)

      above : {n u : ℕ} → AsksFor st c n u → ◌≼◌ (record { cycle = u; gap = n }) a
      above p = latest_above start (asks st c) (asks_in p)

      none : a.gap ≡ 0 → (n u : ℕ) → AsksFor st c n u → u ≤ floor st
      none e n u p =
          ⊎_elim (λ (q : a ≡ start). omega (arith, (above p).cycle, ap (λ (k : Ask). k.cycle) q))
          (λ (m : Memᴰ a (asks st c)). absurd (let z : 0 < a.gap = (asks_numbered (asks_out m)).0 in omega arith)) (latest_one start (asks st c))

      zero_gap : ((n u : ℕ) → AsksFor st c n u → u ≤ floor st) → a.gap ≡ 0
      zero_gap h =
          ⊎_elim (λ (q : a ≡ start). ap (λ (k : Ask). k.gap) q)
          (λ (m : Memᴰ a (asks st c)).
          let low : a.cycle ≤ floor st = h _ _ (asks_out m) in
          let high : ◌≼◌ start a = latest_above_first start (asks st c) in
          let same : floor st ≡ a.cycle = omega (arith, high.cycle) in
          omega (arith, high.gap same)) (latest_one start (asks st c))

      some : a.gap ≢ 0 → AsksFor st c a.gap a.cycle
      some n = ⊎_elim (λ (q : a ≡ start). absurd (n (ap (λ (k : Ask). k.gap) q))) (λ (m : Memᴰ a (asks st c)). asks_out m) (latest_one start (asks st c))
