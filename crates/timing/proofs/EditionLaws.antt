-- Later editions include earlier ones: what binds in an edition binds in every later one, so what is legal in a later one is legal in the earlier.
use mathlib.Core.Logic.{⊎_elim, inl, inr}
use mathlib.Core.Bool.{◌&&◌}
use Prim.Native.Nat.{ℕ, ◌≤◌}
use native.Mathlib.Omega.{arith}
use lib.Dec.{T, eqb, leb}
use borrow.Author.Tests.{leb-true, le-leb}
use Rattle.timing.specs.declared.rules.Opening.{Opening}
use Rattle.timing.specs.declared.rules.Command.{Command}
use Rattle.timing.specs.Rules.{Rule, names, covers, class_of, binds}
use Rattle.timing.specs.Earliest.{Standing, reach, AsksFor, ByPair, ByFour, Legal}
use Rattle.timing.proofs.Truth.{and_left, and_right, both, true_is, is_true}

-- the same opening, settings or session in another edition
abbrev pub in_edition : Opening → ℕ → Opening
in_edition o edition = record { ratio = o.ratio; ranks = o.ranks; mode = o.mode; edition = edition; client = o.client }

abbrev pub stands_in : Standing → ℕ → Standing
stands_in st edition =
    record {
      settings = record { opening = in_edition st.settings.opening edition; gaps = st.settings.gaps };
      number = st.number;
      survivors = st.survivors;
      depth = st.depth;
    }

module _ (earlier later : ℕ) (l : earlier ≤ later) where
  pub binds_later : (o : Opening) (r : Rule) (x y : Command) → T (binds (in_edition o earlier) r x y) → T (binds (in_edition o later) r x y)
  binds_later o r x y t =
      let rank = eqb x.rank y.rank in
      let modes = names r.modes o.mode in
      let pairs = covers (class_of o x y) x.kind y.kind r.pairs in
      let one = and_left rank (leb r.since earlier && modes && pairs) t in
      let rest = and_right rank (leb r.since earlier && modes && pairs) t in
      let first = and_left (leb r.since earlier && modes) pairs rest in
      let since = leb-true r.since earlier (true_is (leb r.since earlier) (and_left (leb r.since earlier) modes first)) in
      let still = is_true (leb r.since later) (le-leb r.since later (omega (arith, since, l))) in
      both rank (leb r.since later && modes && pairs) one
      (both (leb r.since later && modes) pairs (both (leb r.since later) modes still (and_right (leb r.since earlier) modes first)) (and_right (leb r.since earlier && modes) pairs rest))

  module _ (st : Standing) (c : Command) where
    pub asks_later : (n u : ℕ) → AsksFor (stands_in st earlier) c n u → AsksFor (stands_in st later) c n u
    unfolding reach
    asks_later n u =
        ⊎_elim
        (λ (p : ByPair (stands_in st earlier) c n u).
        inl
        (record {
          survivor = p.survivor;
          survives = p.survives;
          rule = p.rule;
          listed = p.listed;
          bound = binds_later st.settings.opening p.rule p.survivor.command c p.bound;
          number = p.number;
          asks = p.asks;
        }))
        (λ (p : ByFour (stands_in st earlier) c n u). inr (record { activates = p.activates; survivor = p.survivor; fourth = p.fourth; number = p.number; asks = p.asks }))

    pub legal_earlier : (t : ℕ) → Legal (stands_in st later) c t → Legal (stands_in st earlier) c t
    legal_earlier t legal = record { later = legal.later; gaps = λ n u a. legal.gaps n u (asks_later n u a) }
