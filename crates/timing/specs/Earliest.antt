-- What stands of a session, what its surviving commands ask for, the earliest cycle and the named gap; and the worded rule, by itself.
use Rattle.std.specs.Prelude.{◌≡◌, ◌⊎◌, ◌≢◌, Bool, cond, ◌&&◌, ◌||◌, ℕ, suc, ◌+◌, ◌-◌, ◌≤◌, ◌<◌, T, eqb, ltb, get_or, take, drop}
use mathlib.Core.List.{List, [], ◌∷◌, ◌++◌, map, Memᴰ}
use Rattle.timing.specs.declared.clocks.DramCycles.{DramCycles}
use Rattle.timing.specs.declared.kinds.CommandKind.TheVariants.{Act}
use Rattle.timing.specs.declared.rules.Opening.{Opening}
use Rattle.timing.specs.declared.rules.Command.{Command}
use Rattle.timing.specs.Clocks.{rounded_up, lost}
use Rattle.timing.specs.Kinds.{same_kind}
use Rattle.timing.specs.Rules.{Rule, rules, class_of, binds, matching}

-- the settings that an opening gives: its numbers and the twenty gaps, gap 1 first
pub record Settings : Type 0 where
  pub opening : Opening
  pub gaps : List DramCycles

pub record Stamped : Type 0 where
  pub command : Command
  pub cycle : ℕ

-- what stands of a session: its settings, the record number of its opening, its surviving commands, newest first, and the depth
pub record Standing : Type 0 where
  pub settings : Settings
  pub number : ℕ
  pub survivors : List Stamped
  pub depth : ℕ

abbrev pub gap_of : Settings → ℕ → DramCycles
gap_of s n = get_or s.gaps (n - 1) (record { 0 = 0 })

-- the DRAM cycles that gap n loses to rounding; 0 with gap 0
abbrev pub loss_of : Settings → ℕ → ℕ
loss_of s n = cond (eqb n 0) 0 (lost s.opening (gap_of s n))

abbrev pub t_faw : ℕ
t_faw = 20

-- the first cycle that lies at least the rounded gap n after a stamped command
unfoldable pub reach : Standing → Stamped → ℕ → ℕ
reach st x n = x.cycle + rounded_up st.settings.opening (gap_of st.settings n)

-- the cycle after the last survivor, or cycle 0 where there is none
abbrev pub cycle_after : List Stamped → ℕ
cycle_after [] = 0
cycle_after (x ∷ xs) = x.cycle + 1

unfoldable pub floor : Standing → ℕ
floor st = cycle_after st.survivors

abbrev pub is_act : ℕ → Stamped → Bool
is_act rank x = same_kind x.command.kind Act && eqb x.command.rank rank

-- THE RULE AS IT IS WORDED. A survivor and a rule of the list that binds it and the command c: gap n asks for cycle u
pub record ByPair (st : Standing) (c : Command) (n u : ℕ) : Type 0 where
  pub survivor : Stamped
  pub survives : Memᴰ survivor st.survivors
  pub rule : Rule
  pub listed : Memᴰ rule rules
  pub bound : T (binds st.settings.opening rule survivor.command c)
  pub number : rule.number ≡ n
  pub asks : reach st survivor n ≡ u

-- x is the n-th ACT of the rank, counted back from the newest survivor
pub data NthAct (rank : ℕ) (x : Stamped) : ℕ → List Stamped → Type 0 where
  newest : {y : Stamped} {ys : List Stamped} → T (is_act rank y) → x ≡ y → NthAct rank x 1 (y ∷ ys)
  behind_act : {n : ℕ} {y : Stamped} {ys : List Stamped} → T (is_act rank y) → NthAct rank x n ys → NthAct rank x (suc n) (y ∷ ys)
  behind_other : {n : ℕ} {y : Stamped} {ys : List Stamped} → (T (is_act rank y) → ⊥) → NthAct rank x n ys → NthAct rank x n (y ∷ ys)

-- an ACT, and the fourth ACT before it in its rank
pub record ByFour (st : Standing) (c : Command) (n u : ℕ) : Type 0 where
  pub activates : T (same_kind c.kind Act)
  pub survivor : Stamped
  pub fourth : NthAct c.rank survivor 4 st.survivors
  pub number : t_faw ≡ n
  pub asks : reach st survivor n ≡ u

abbrev pub AsksFor : Standing → Command → ℕ → ℕ → Type 0
AsksFor st c n u = ByPair st c n u ⊎ ByFour st c n u

abbrev pub LaterThanLast : List Stamped → ℕ → Type 0
LaterThanLast [] t = Unit {0}
LaterThanLast (x ∷ xs) t = x.cycle < t

-- a command may stand at cycle t if t is later than the last surviving command's cycle, and each surviving command, by its rule,
-- lies at least the rounded gap before t
pub record Legal (st : Standing) (c : Command) (t : ℕ) : Type 0 where
  pub later : LaterThanLast st.survivors t
  pub gaps : (n u : ℕ) → AsksFor st c n u → u ≤ t

-- THE SAME, COMPUTED. An ask is a cycle with the number of the gap that asks for it
pub record Ask : Type 0 where
  pub cycle : ℕ
  pub gap : ℕ

abbrev pub ask_by : Standing → Stamped → ℕ → Ask
ask_by st x n = record { cycle = reach st x n; gap = n }

unfoldable pub pair_asks : Standing → Command → List Stamped → List Ask
pair_asks st c [] = []
pair_asks st c (x ∷ xs) =
    let o = st.settings.opening in
    cond (eqb x.command.rank c.rank)
    (map (ask_by st x) (matching o (class_of o x.command c) x.command.kind c.kind rules))
    []
    ++ pair_asks st c xs

unfoldable pub acts : ℕ → List Stamped → List Stamped
acts rank [] = []
acts rank (x ∷ xs) = cond (is_act rank x) (x ∷ acts rank xs) (acts rank xs)

-- the fourth ACT of the rank, if there is one
abbrev pub fourth_act : ℕ → List Stamped → List Stamped
fourth_act rank xs = take 1 (drop 3 (acts rank xs))

unfoldable pub four_asks : Standing → Command → List Ask
four_asks st c = cond (same_kind c.kind Act) (map (λ x. ask_by st x t_faw) (fourth_act c.rank st.survivors)) []

unfoldable pub asks : Standing → Command → List Ask
asks st c = pair_asks st c st.survivors ++ four_asks st c

abbrev pub for_later : Ask → Ask → Bool
for_later a b = ltb a.cycle b.cycle

abbrev pub for_same : Ask → Ask → Bool
for_same a b = eqb a.cycle b.cycle

abbrev pub with_lower : Ask → Ask → Bool
with_lower a b = ltb b.gap a.gap

-- of two asks, b if it asks for a later cycle, or for the same cycle with a lower number; else a
abbrev pub later : Ask → Ask → Ask
later a b = cond (for_later a b || for_same a b && with_lower a b) b a

unfoldable pub latest : Ask → List Ask → Ask
latest a [] = a
latest a (b ∷ bs) = later b (latest a bs)

-- the earliest legal cycle and the named gap: the latest of the asks and of the floor, which has the number 0
unfoldable pub earliest : Standing → Command → Ask
earliest st c = latest (record { cycle = floor st; gap = 0 }) (asks st c)

-- what the named gap is: one that asks for the latest cycle, the lowest number if several do; 0 exactly where none asks for more than the floor
pub record NamedGap (st : Standing) (c : Command) (a : Ask) : Type 0 where
  pub none_asks : a.gap ≡ 0 → (n u : ℕ) → AsksFor st c n u → u ≤ floor st
  pub zero_then : ((n u : ℕ) → AsksFor st c n u → u ≤ floor st) → a.gap ≡ 0
  pub one_asks : a.gap ≢ 0 → AsksFor st c a.gap a.cycle
  pub lowest : (n : ℕ) → AsksFor st c n a.cycle → a.gap ≤ n
