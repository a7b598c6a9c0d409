-- The scan over all entries of a rank is the largest of the floor and of what its seven rows ask for.
use mathlib.Core.Path.{◌≡◌, sym, ◌∙◌, ap}
use mathlib.Core.List.{List}
use Prim.Native.Nat.{ℕ, ◌+◌, ◌*◌, ◌/◌, ◌%◌, ◌<◌, max}
use native.Mathlib.Omega.{arith}
use lib.ListN.{get_or}
use Rattle.timing.specs.declared.clocks.ControllerCycles.{ControllerCycles}
use Rattle.timing.specs.declared.kinds.CommandKind.{CommandKind}
use Rattle.timing.specs.declared.rules.Command.{Command}
use Rattle.timing.specs.declared.rules.Opening.{Opening}
use Rattle.timing.specs.Rules.{nearness, class_for, table_gap, kind_at}
use Rattle.timing.proofs.KindLaws.{place_at_lem}
use Rattle.timing.proofs.Lookup.{near_low}
use Rattle.timing.proofs.TableLaws.{gap_low}
use Rattle.session.specs.declared.state.Progress.{Progress}
use Rattle.session.specs.declared.state.Terms.{Terms}
use Rattle.session.specs.declared.stamps.Stamp.{Stamp}
use Rattle.session.specs.Stamps.{read_back}
use Rattle.session.specs.State.{rank_slots}
use Rattle.scan.specs.Scan.{steps_to, ask_at, scan_to, four_of, largest_ask}
use Rattle.scan.specs.declared.timings.Timings.{Timings}
use Rattle.scan.specs.Rows.{gap_steps, max_to, step_from, row_of, bank_ask, row_ask, rank_ask, spot_of, known_ask, lent_ask, Lent}
use Rattle.scan.proofs.MaxLaws.{max_same, max_rows}
use Rattle.scan.proofs.ScanLaws.{scan_max}
use Rattle.scan.proofs.StepLaws.{steps_at, gap_steps_at}

module _ (last : List Stamp) (rounded : List ControllerCycles) (o : Opening) (second : CommandKind) (spot : ℕ) where
  abbrev steps : List ℕ
  steps = steps_to o rounded second

  abbrev ask : ℕ → ℕ
  ask = ask_at last steps o (spot / 16 * 16) (spot % 16)

  -- the step at an entry is that of its gap number
  step_at : (k near : ℕ) → k < 7 → near < 3 → get_or steps (k * 3 + near) 0 ≡ step_from (gap_steps rounded) o (kind_at k) second near
  step_at k near lk ln =
      let third : (k * 3 + near) / 3 ≡ k = omega arith in
      let rest : (k * 3 + near) % 3 ≡ near = omega arith in
      let n = table_gap o (class_for (kind_at k) second near) (kind_at k) second in
      sym (steps_at o rounded second (k * 3 + near) (omega arith))
      ∙ rw (third, rest) (gap_steps_at rounded n (omega (arith, gap_low o (class_for (kind_at k) second near) (kind_at k) second)))

  entry_at : (k i : ℕ) → k < 7 → i < 16 → ask (k * 16 + i) ≡ bank_ask (gap_steps rounded) last o second spot (kind_at k) i
  entry_at k i lk li =
      let kind : (k * 16 + i) / 16 ≡ k = omega arith in
      let bank : (k * 16 + i) % 16 ≡ i = omega arith in
      let slot : spot / 16 * 16 + (k * 16 + i) ≡ row_of spot (kind_at k) + i = omega (arith, place_at_lem k lk) in
      rw (kind, bank, slot, step_at k (nearness o i (spot % 16)) lk (near_low o i (spot % 16)))

  pub scan_rank : (best : ℕ) → scan_to last steps o (spot / 16 * 16) (spot % 16) best rank_slots ≡ max best (rank_ask (gap_steps rounded) last o second spot)
  unfolding rank_ask row_ask
  scan_rank best =
      scan_max last steps o (spot / 16 * 16) (spot % 16) best rank_slots
      ∙ ap (max best)
      (max_rows ask ∙ max_same (λ k. max_to (λ i. ask (k * 16 + i)) 16) (λ k. row_ask (gap_steps rounded) last o second spot (kind_at k)) 7 (λ k lk. max_same (λ i. ask (k * 16 + i)) (bank_ask (gap_steps rounded) last o second spot (kind_at k)) 16 (λ i li. entry_at k i lk li)))

max_between : (a b d : ℕ) → max (max a b) d ≡ max (max a d) b
max_between a b d = omega arith

-- what a session's rows and what is beside them ask for is what its arrays ask for
module _ (timings : Timings) (last : List Stamp) (terms : Terms) (progress : Progress) (c : Command) (l : Lent timings terms) (bank : c.bank < 16) where
  pub lent_largest : lent_ask timings.steps last timings.opening c.kind (spot_of c) (known_ask timings.steps progress c) ≡ largest_ask last terms progress c
  unfolding largest_ask
  lent_largest =
      let base : spot_of c / 16 * 16 ≡ c.rank % 2 * rank_slots = omega arith in
      let own : spot_of c % 16 ≡ c.bank = omega arith in
      let rows = rw (base, own) at (scan_rank last terms.rounded terms.opening c.kind (spot_of c) (read_back progress.latest.0 * 32 + 31)) in
      rw (l.opening_is, l.steps_are, ← gap_steps_at terms.rounded 20 (omega arith), rows)
      (max_between (read_back progress.latest.0 * 32 + 31) (four_of progress.activates terms.rounded c.kind (c.rank % 2)) (rank_ask (gap_steps terms.rounded) last terms.opening c.kind (spot_of c)))
