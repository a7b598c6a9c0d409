-- A burst over offers that come one after the other: what is left of them goes on to the same end.
use mathlib.Core.Path.{◌≡◌, sym, subst}
use mathlib.Core.Logic.{◌≢◌}
use mathlib.Core.List.{List, [], ◌∷◌}
use Prim.Native.Nat.{ℕ, ◌+◌}
use Rattle.std.specs.Prelude.{Option, Some, None}
use Rattle.std.specs.Iterator.{AlwaysYields}
use Rattle.history.specs.Answers.{Reply, plain}
use Rattle.session.specs.declared.state.Session.{Session}
use Rattle.journal.specs.declared.records.Offer.{Offer}
use Rattle.statements.specs.Bursts.{Bursts, OffersOne}
use Rattle.statements.proofs.BurstLaws.{bursts, Bursting, bursting_start, bursting_end, bursting_ended, bursting_offered}

module _ {S : Type 0} (steps : S → Option Offer → S → Type 0) (offers : S) (s₀ : Session) (lent : List ℕ) where
  -- whatever list the offers give, so many are accepted, and what is left of it is what comes next
  abbrev pub Runs : S → Session → List ℕ → ℕ → Type 0
  Runs it s j n = (os : List Offer) → AlwaysYields steps (λ o. o) offers os → (rest : List Offer) × AlwaysYields steps (λ o. o) it rest × Bursting s₀ lent os s j n rest

  abbrev pub Done : ℕ → Reply → Session → List ℕ → Type 0
  Done n r s j = (os : List Offer) → AlwaysYields steps (λ o. o) offers os → Bursts s₀ lent os n r s j

  pub runs_start : Runs offers s₀ lent 0
  runs_start os gives = (os, gives, bursting_start s₀ lent os)

  module _ (it t : S) (s : Session) (j : List ℕ) (n : ℕ) (runs : Runs it s j n) where
    pub runs_end : steps it None t → Done n (plain 0) s j
    runs_end step os all = go (runs os all).0 (runs os all).1 (runs os all).2
      where
        go : (rest : List Offer) → AlwaysYields steps (λ o. o) it rest → Bursting s₀ lent os s j n rest → Bursts s₀ lent os n (plain 0) s j
        go [] gives same = bursts (bursting_end s₀ lent os s j n same)
        go (o ∷ rest) gives same = absurd (gives.0 t step)

    module _ (o : Offer) (step : steps it (Some o) t) (r : Reply) (next : Session) (after : List ℕ) (one : OffersOne s j o r next after) where
      pub runs_refused : r.number ≢ 0 → Done n r next after
      runs_refused some os all = go (runs os all).0 (runs os all).1 (runs os all).2
        where
          go : (rest : List Offer) → AlwaysYields steps (λ o. o) it rest → Bursting s₀ lent os s j n rest → Bursts s₀ lent os n r next after
          go [] gives same = absurd (gives o t step)
          go (x ∷ rest) gives same = bursts (bursting_ended s₀ lent os s j n o rest (subst (λ (y : Offer). Bursting s₀ lent os s j n (y ∷ rest)) (sym (gives.1 o t step).0) same) one some)

      pub runs_on : r.number ≡ 0 → Runs t next after (n + 1)
      runs_on none os all = go (runs os all).0 (runs os all).1 (runs os all).2
        where
          go : (rest : List Offer) → AlwaysYields steps (λ o. o) it rest → Bursting s₀ lent os s j n rest
              → (rest : List Offer) × AlwaysYields steps (λ o. o) t rest × Bursting s₀ lent os next after (n + 1) rest
          go [] gives same = absurd (gives o t step)
          go (x ∷ rest) gives same =
              (rest, (gives.1 o t step).1, bursting_offered s₀ lent os s j n o rest (subst (λ (y : Offer). Bursting s₀ lent os s j n (y ∷ rest)) (sym (gives.1 o t step).0) same) one none)
