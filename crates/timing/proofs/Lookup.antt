-- The rule that binds two commands of one rank is the one that the table names: what a pair asks for can be looked up.
use mathlib.Core.Path.{◌≡◌, refl, sym, ◌∙◌, subst}
use mathlib.Core.Logic.{inl, ◌≢◌}
use mathlib.Core.Bool.{Bool, true, false, cond}
use mathlib.Core.List.Memᴰ
use mathlib.Core.List.{List, Memᴰ}
use Prim.Native.Nat.{ℕ, zero, suc, ◌<◌}
use lib.Dec.{eqb, eqb→eq, lit<}
use borrow.Author.Tests.{eq-eqb}
use Rattle.timing.specs.declared.rules.Opening.{Opening}
use Rattle.timing.specs.declared.rules.Command.{Command}
use Rattle.timing.specs.Rules.{rules, group_of, nearness, class_of, matches, matching, table_gap}
use Rattle.timing.specs.Earliest.{Stamped, Standing, ByPair, AsksFor, reach}
use Rattle.timing.proofs.TableLaws.{only, one_rule, class_low}
use Rattle.timing.proofs.Truth.{and_left, and_right, both, is_true}
use Rattle.timing.proofs.Legal.{matching_in, matching_out}

pub near_low : (o : Opening) (a b : ℕ) → nearness o a b < 3
near_low o a b = go (eqb a b) (eqb (group_of o a) (group_of o b))
  where
    go : (p q : Bool) → cond p 0 (cond q 1 2) < 3
    go true q = lit< tt
    go false true = lit< tt
    go false false = lit< tt

in_only : (m : ℕ) {n : ℕ} → Memᴰ n (only m) → n ≡ m
in_only zero m = absurd (Memᴰ.not-nil m)
in_only (suc k) m = Memᴰ.eq_of_singleton m

only_in : (m : ℕ) → m ≢ 0 → Memᴰ m (only m)
only_in zero above = absurd (above refl)
only_in (suc k) above = Memᴰ.head refl

module _ (st : Standing) (c : Command) (known : st.settings.opening.mode < 3) where
  -- the number of the rule between a survivor and the command
  abbrev pub pair_gap : Stamped → ℕ
  pair_gap x = table_gap st.settings.opening (class_of st.settings.opening x.command c) x.command.kind c.kind

  abbrev class : Stamped → ℕ
  class x = class_of st.settings.opening x.command c

  alone : (x : Stamped) → matching st.settings.opening (class x) x.command.kind c.kind rules ≡ only (pair_gap x)
  alone x =
      one_rule st.settings.opening (class x) x.command.kind c.kind known
      (class_low x.command.kind c.kind (nearness st.settings.opening x.command.bank c.bank) (near_low st.settings.opening x.command.bank c.bank))

  pub pair_gap_lem : {n u : ℕ} (p : ByPair st c n u) → (p.survivor.command.rank ≡ c.rank) × (n ≡ pair_gap p.survivor)
  pair_gap_lem {n} {u} p =
      let x = p.survivor in
      let o = st.settings.opening in
      let same = eqb x.command.rank c.rank in
      let rest = matches o (class x) x.command.kind c.kind p.rule in
      let found = matching_in o (class x) x.command.kind c.kind rules p.listed (and_right same rest p.bound) in (
        eqb→eq x.command.rank c.rank (and_left same rest p.bound),
        sym p.number ∙ in_only (pair_gap x) (subst (λ (ns : List ℕ). Memᴰ p.rule.number ns) (alone x) found),
      )

  pub gap_pair : (x : Stamped) → Memᴰ x st.survivors → x.command.rank ≡ c.rank → pair_gap x ≢ 0 → AsksFor st c (pair_gap x) (reach st x (pair_gap x))
  gap_pair x i e above =
      let o = st.settings.opening in
      let w = matching_out o (class x) x.command.kind c.kind rules (subst (λ (ns : List ℕ). Memᴰ (pair_gap x) ns) (sym (alone x)) (only_in (pair_gap x) above)) in
      let same = eqb x.command.rank c.rank in
      inl
      (record {
        survivor = x;
        survives = i;
        rule = w.0;
        listed = w.1;
        bound = both same (matches o (class x) x.command.kind c.kind w.0) (is_true same (eq-eqb x.command.rank c.rank e)) w.2;
        number = w.3;
        asks = refl;
      })
