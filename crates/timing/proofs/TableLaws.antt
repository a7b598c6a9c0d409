-- The table agrees with the list of rules at every entry, and at most one rule of the list holds there.
use mathlib.Core.Path.{◌≡◌, refl, sym, ◌∙◌, ap, subst}
use mathlib.Core.Logic.{⊎_elim}
use mathlib.Core.Bool.{Bool, true, false, cond, ◌&&◌, ◌||◌}
use mathlib.Core.List.Memᴰ
use mathlib.Core.List.{List, [], ◌∷◌, Memᴰ}
use Prim.Native.Nat.{ℕ, zero, suc, ◌+◌, ◌-◌, ◌*◌, ◌/◌, ◌%◌, ◌<◌, ◌≤◌, min}
use native.Mathlib.Nat.{not-suc-le-zero}
use native.Mathlib.Omega.{arith}
use lib.Dec.{T, eqb, eqb→eq, leb, ltb, ltb→lt, lit<, lit≤}
use lib.ListN.{get_or}
use borrow.Author.Tests.{lt-ltb, ltb-true, ltb-false, leb-true, leb-false, le-leb, lt-leb}
use Rattle.timing.specs.declared.kinds.CommandKind.{CommandKind}
use Rattle.timing.specs.declared.rules.Class.{Class}
use Rattle.timing.specs.declared.rules.Class.TheVariants.{SameBank, SameGroup, Apart}
use Rattle.timing.specs.declared.rules.Opening.{Opening}
use Rattle.timing.specs.Kinds.{code_of, all_banks}
use Rattle.timing.specs.Editions.{any_precharge, last_rules, rule_editions, has, has_rules}
use Rattle.timing.specs.Rules.{class_number, class_for, rules, matching, rule_gap, first_or0, table_gap, matches, Rule, covers, mode_count}
use Rattle.timing.specs.Table.{ungrouped, grouped, ungrouped_since1, grouped_since1, layer_of, layer_place, table_length, matching_at, entry_at, opened_as, alone, agrees_below, agrees}
use Rattle.timing.proofs.Truth.{and_left, and_right, true_is}
use Rattle.timing.proofs.KindLaws.{code_low, code_high, kind_at_code}

-- the list with this number alone, or nothing for 0
abbrev pub only : ℕ → List ℕ
only zero = []
only (suc n) = suc n ∷ []

alone_only : (n : ℕ) (ms : List ℕ) → T (alone n ms) → ms ≡ only n
alone_only n [] t = ap only (sym (eqb→eq n 0 t))
alone_only n (zero ∷ []) t = absurd (and_right (eqb n 0) false t)
alone_only n (suc m ∷ []) t = ap only (sym (eqb→eq n (suc m) (and_left (eqb n (suc m)) (ltb 0 (suc m)) t)))
alone_only n (m ∷ k ∷ ms) t = absurd t

first_only : (n : ℕ) → first_or0 (only n) ≡ n
first_only zero = refl
first_only (suc n) = refl

alone_at : (n k : ℕ) → T (agrees_below n) → k < n → T (alone (entry_at k) (matching_at k))
unfolding agrees_below
alone_at zero k t l = absurd (not-suc-le-zero l)
alone_at (suc n) k t l =
    go (ltb k n) refl (alone_at n k (and_right (alone (entry_at n) (matching_at n)) (agrees_below n) t)) (and_left (alone (entry_at n) (matching_at n)) (agrees_below n) t)
  where
    go : (y : Bool) → ltb k n ≡ y → (k < n → T (alone (entry_at k) (matching_at k))) → T (alone (entry_at n) (matching_at n)) → T (alone (entry_at k) (matching_at k))
    go true e below here = below (ltb-true k n e)
    go false e below here = let same : k ≡ n = omega (arith, ltb-false k n e) in rw same here

module _ (e m class a b : ℕ) (he : e < rule_editions) (hm : m < 3) (hc : class < 3) (ha : a < 7) (hb : b < 7) where
  abbrev place : ℕ
  place = (((e * 3 + m) * 3 + class) * 7 + a) * 7 + b

  place_edition : place / 441 ≡ e
  place_edition = omega arith

  place_mode : place / 147 % 3 ≡ m
  place_mode = omega arith

  place_class : place / 49 % 3 ≡ class
  place_class = omega arith

  place_first : place / 7 % 7 ≡ a
  place_first = omega arith

  place_second : place % 7 ≡ b
  place_second = omega arith

  place_low : place < table_length
  place_low = omega arith

  place_in : place % 147 ≡ (class * 7 + a) * 7 + b
  place_in = omega arith

code_place : (k : CommandKind) → code_of k - 1 < 7
code_place k = omega (arith, code_low k, code_high k)

-- THE RULES LOOK AT NOTHING of an opening but its edition and mode, and an edition after the last that adds rules has what that one has: no rule comes later
abbrev settled : Opening → Opening
settled o = opened_as (min o.edition last_rules) o.mode

has_settled : (o : Opening) (edition : ℕ) → edition ≤ last_rules → has (settled o) edition ≡ has o edition
has_settled o edition l = go (leb edition o.edition) refl
  where
    go : (t : Bool) → leb edition o.edition ≡ t → leb edition (min o.edition last_rules) ≡ t
    go true e = le-leb edition (min o.edition last_rules) (omega (arith, leb-true edition o.edition e))
    go false e = lt-leb edition (min o.edition last_rules) (omega (arith, leb-false edition o.edition e))

pub all_known : List Rule → Bool
all_known [] = true
all_known (r ∷ rs) = has_rules r.since && all_known rs

all_known_lem : T (all_known rules)
unfolding all_known rules
all_known_lem = tt

settled_same : (o : Opening) (class : ℕ) (a b : CommandKind) (rs : List Rule) → T (all_known rs) → matching (settled o) class a b rs ≡ matching o class a b rs
unfolding matching all_known
settled_same o class a b [] t = refl
settled_same o class a b (r ∷ rs) t =
    let known = and_left (has_rules r.since) (all_known rs) t in
    rw (has_settled o r.since (leb-true r.since last_rules (true_is (has_rules r.since) known)))
    (ap (λ (ns : List ℕ). cond (matches o class a b r) (r.number ∷ ns) ns) (settled_same o class a b rs (and_right (has_rules r.since) (all_known rs) t)))

settled_layer : (o : Opening) → layer_of (settled o) ≡ layer_of o
settled_layer o = ap (λ (t : Bool). cond t (cond (eqb o.mode 0) ungrouped_since1 grouped_since1) (cond (eqb o.mode 0) ungrouped grouped)) (has_settled o any_precharge (lit≤ tt))

-- one test, computed over all 882 entries
pub table_agrees : T agrees
unfolding rules covers matching ungrouped grouped ungrouped_since1 grouped_since1 agrees_below agrees
table_agrees = tt

module _ (o : Opening) (class : ℕ) (a b : CommandKind) (hm : o.mode < 3) (hc : class < 3) where
  -- the rules that hold at an entry are the entry's alone
  entry_alone : matching o class a b rules ≡ only (get_or (layer_of o) (layer_place class a b) 0)
  unfolding agrees
  entry_alone =
      let e = min o.edition last_rules in
      let m = o.mode in
      let x = code_of a - 1 in
      let y = code_of b - 1 in
      let he : e < rule_editions = omega arith in
      let hx = code_place a in
      let hy = code_place b in
      let p = (((e * 3 + m) * 3 + class) * 7 + x) * 7 + y in
      let found = alone_only (entry_at p) (matching_at p) (alone_at table_length p table_agrees (place_low e m class x y he hm hc hx hy)) in
      let here : matching (settled o) class a b rules ≡ only (get_or (layer_of (settled o)) (layer_place class a b) 0) =
      rw (place_edition e m class x y he hm hc hx hy, place_mode e m class x y he hm hc hx hy, place_in e m class x y he hm hc hx hy, place_class e m class x y he hm hc hx hy, place_first e m class x y he hm hc hx hy, place_second e m class x y he hm hc hx hy, kind_at_code a, kind_at_code b) at found in
      sym (settled_same o class a b rules all_known_lem) ∙ here ∙ ap (λ (l : List ℕ). only (get_or l (layer_place class a b) 0)) (settled_layer o)

  -- the table's entry is the rule's number
  pub table_entry : get_or (layer_of o) (layer_place class a b) 0 ≡ table_gap o class a b
  unfolding table_gap rule_gap
  table_entry = rw (lt-ltb o.mode 3 hm, entry_alone) (sym (first_only (get_or (layer_of o) (layer_place class a b) 0)))

  -- at most one rule of the list holds: the one that the table names
  pub one_rule : matching o class a b rules ≡ only (table_gap o class a b)
  one_rule = entry_alone ∙ ap only table_entry

-- the rules' numbers are 1 to 19
pub numbered : List Rule → Bool
numbered [] = true
numbered (r ∷ rs) = ltb 0 r.number && ltb r.number 20 && numbered rs

pub all_numbered : T (numbered rules)
unfolding numbered rules
all_numbered = tt

module _ (r : Rule) (rs : List Rule) (t : T (numbered (r ∷ rs))) where
  numbered_head : (0 < r.number) × (r.number < 20)
  unfolding numbered
  numbered_head =
      let first = and_left (ltb 0 r.number && ltb r.number 20) (numbered rs) t in
      (ltb→lt 0 r.number (and_left (ltb 0 r.number) (ltb r.number 20) first), ltb→lt r.number 20 (and_right (ltb 0 r.number) (ltb r.number 20) first))

  numbered_tail : T (numbered rs)
  unfolding numbered
  numbered_tail = and_right (ltb 0 r.number && ltb r.number 20) (numbered rs) t

pub numbers_within : (rs : List Rule) → T (numbered rs) → {r : Rule} → Memᴰ r rs → (0 < r.number) × (r.number < 20)
numbers_within [] t m = absurd (Memᴰ.not-nil m)
numbers_within (q ∷ qs) t {r} m =
    ⊎_elim (λ (e : r ≡ q). subst (λ (x : Rule). (0 < x.number) × (x.number < 20)) (sym e) (numbered_head q qs t))
    (λ (m' : Memᴰ r qs). numbers_within qs (numbered_tail q qs t) m') (Memᴰ.cases_cons m)

module _ (o : Opening) (class : ℕ) (a b : CommandKind) where
  first_low : (rs : List Rule) → T (numbered rs) → first_or0 (matching o class a b rs) < 20
  unfolding matching
  first_low [] t = lit< tt
  first_low (r ∷ rs) t = go (matches o class a b r) (first_low rs (numbered_tail r rs t))
    where
      go : (y : Bool) → first_or0 (matching o class a b rs) < 20 → first_or0 (cond y (r.number ∷ matching o class a b rs) (matching o class a b rs)) < 20
      go true below = (numbered_head r rs t).1
      go false below = below

  pub gap_low : table_gap o class a b < 20
  unfolding table_gap rule_gap
  gap_low = go (ltb o.mode 3)
    where
      go : (y : Bool) → cond y (first_or0 (matching o class a b rules)) 0 < 20
      go true = first_low rules all_numbered
      go false = lit< tt

pub class_below : (k : Class) → class_number k < 3
class_below SameBank = lit< tt
class_below SameGroup = lit< tt
class_below Apart = lit< tt

pub class_low : (a b : CommandKind) (near : ℕ) → near < 3 → class_for a b near < 3
class_low a b near l = go (all_banks a || all_banks b)
  where
    go : (y : Bool) → cond y 2 near < 3
    go true = lit< tt
    go false = l

-- NO GAP between two kinds in a class, whatever the edition and the mode: one test over both
abbrev as_numbered : ℕ → Opening
as_numbered i = opened_as (i / 3) (i % 3)

unfoldable pub silent_below : ℕ → ℕ → CommandKind → CommandKind → Bool
silent_below zero class a b = true
silent_below (suc i) class a b = eqb (rule_gap (as_numbered i) class a b) 0 && silent_below i class a b

unfoldable pub silent : ℕ → CommandKind → CommandKind → Bool
silent class a b = silent_below (rule_editions * 3) class a b

module _ (class : ℕ) (a b : CommandKind) where
  silent_at : (n i : ℕ) → T (silent_below n class a b) → i < n → rule_gap (as_numbered i) class a b ≡ 0
  unfolding silent_below
  silent_at zero i t l = absurd (not-suc-le-zero l)
  silent_at (suc n) i t l =
      go (ltb i n) refl (silent_at n i (and_right (eqb (rule_gap (as_numbered n) class a b) 0) (silent_below n class a b) t))
      (and_left (eqb (rule_gap (as_numbered n) class a b) 0) (silent_below n class a b) t)
    where
      go : (y : Bool) → ltb i n ≡ y → (i < n → rule_gap (as_numbered i) class a b ≡ 0) → T (eqb (rule_gap (as_numbered n) class a b) 0) → rule_gap (as_numbered i) class a b ≡ 0
      go true e below here = below (ltb-true i n e)
      go false e below here = let same : i ≡ n = omega (arith, ltb-false i n e) in rw same (eqb→eq (rule_gap (as_numbered n) class a b) 0 here)

  pub silent_gap : (o : Opening) → T (silent class a b) → table_gap o class a b ≡ 0
  unfolding table_gap rule_gap silent
  silent_gap o t = go (ltb o.mode mode_count) refl
    where
      go : (y : Bool) → ltb o.mode mode_count ≡ y → cond y (first_or0 (matching o class a b rules)) 0 ≡ 0
      go true e =
          let low = ltb-true o.mode mode_count e in
          let i = min o.edition last_rules * 3 + o.mode in
          let edition : i / 3 ≡ min o.edition last_rules = omega arith in
          let mode : i % 3 ≡ o.mode = omega arith in
          let none : rule_gap (settled o) class a b ≡ 0 = rw (edition, mode) at (silent_at (rule_editions * 3) i t (omega arith)) in
          rw (sym (settled_same o class a b rules all_known_lem)) none
      go false e = refl
