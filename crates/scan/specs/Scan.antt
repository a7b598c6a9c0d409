-- The earliest cycle and the named gap, as the arrays give them, for every state value. An ask is one number, cycle * 32 + 31 - gap:
-- the later cycle is the larger number, and for one cycle the lower gap number.
use Rattle.std.specs.Prelude.{cond, List, [], ◌∷◌, ◌++◌, ℕ, zero, suc, ◌+◌, ◌-◌, ◌*◌, ◌/◌, ◌%◌, max, eqb, get_or}
use Rattle.timing.specs.declared.clocks.ControllerCycles.{ControllerCycles}
use Rattle.timing.specs.declared.kinds.CommandKind.{CommandKind}
use Rattle.timing.specs.declared.kinds.CommandKind.TheVariants.{Act}
use Rattle.timing.specs.declared.rules.Opening.{Opening}
use Rattle.timing.specs.declared.rules.Command.{Command}
use Rattle.timing.specs.Kinds.{same_kind}
use Rattle.timing.specs.Rules.{nearness, class_for, table_gap, kind_at}
use Rattle.timing.specs.Earliest.{Ask, t_faw}
use Rattle.scan.specs.declared.earliest.Earliest.{Earliest}
use Rattle.session.specs.declared.stamps.Stamp.{Stamp}
use Rattle.session.specs.declared.state.Progress.{Progress}
use Rattle.session.specs.declared.state.Terms.{Terms}
use Rattle.session.specs.Stamps.{read_back}
use Rattle.session.specs.State.{stamp_at, gap_at, rank_slots}

abbrev pub packed : Ask → ℕ
packed a = a.cycle * 32 + (31 - a.gap)

abbrev pub unpacked : ℕ → Ask
unpacked p = record { cycle = p / 32; gap = 31 - p % 32 }

-- what gap n adds to a stamp less 1; 0 where there is no gap
abbrev pub step_of : List ControllerCycles → ℕ → ℕ
step_of rounded n = cond (eqb n 0) 0 ((gap_at rounded (n - 1)).0 % 65536 * 32 + (31 - n))

abbrev pub step_for : Opening → List ControllerCycles → CommandKind → CommandKind → ℕ → ℕ
step_for o rounded first second near = step_of rounded (table_gap o (class_for first second near) first second)

unfoldable pub tabulated : (ℕ → ℕ) → ℕ → List ℕ
tabulated f zero = []
tabulated f (suc n) = tabulated f n ++ f n ∷ []

-- the steps to the second kind: for each first kind, for each nearness
unfoldable pub steps_to : Opening → List ControllerCycles → CommandKind → List ℕ
steps_to o rounded second = tabulated (λ i. step_for o rounded (kind_at (i / 3)) second (i % 3)) 21

-- what a stored stamp asks for by a step; 0 where there is no stamp or no step
abbrev pub ask_of : ℕ → ℕ → ℕ
ask_of kept step = cond (eqb kept 0) 0 (cond (eqb step 0) 0 ((kept - 1) * 32 + step))

-- entry i of a rank: kind i / 16, bank i % 16
abbrev pub ask_at : List Stamp → List ℕ → Opening → ℕ → ℕ → ℕ → ℕ
ask_at last steps o base bank i = ask_of (read_back (stamp_at last (base + i)).0) (get_or steps (i / 16 * 3 + nearness o (i % 16) bank) 0)

unfoldable pub scan_to : List Stamp → List ℕ → Opening → ℕ → ℕ → ℕ → ℕ → ℕ
scan_to last steps o base bank best zero = best
scan_to last steps o base bank best (suc n) = max (scan_to last steps o base bank best n) (ask_at last steps o base bank n)

-- the fourth activate of the rank, for an ACT
abbrev pub four_of : List Stamp → List ControllerCycles → CommandKind → ℕ → ℕ
four_of activates rounded kind rank =
    cond (same_kind kind Act) (ask_of (read_back (stamp_at activates (rank * 4 + 3)).0) (step_of rounded t_faw)) 0

-- the largest ask: of the cycle after the last survivor, of the rank's last stamps, of its fourth activate
unfoldable pub largest_ask : List Stamp → Terms → Progress → Command → ℕ
largest_ask last terms progress c =
    let o = terms.opening in
    let floor = read_back progress.latest.0 * 32 + 31 in
    max
    (scan_to last (steps_to o terms.rounded c.kind) o (c.rank % 2 * rank_slots) c.bank floor rank_slots)
    (four_of progress.activates terms.rounded c.kind (c.rank % 2))

abbrev pub ask_in : Earliest → Ask
ask_in e = record { cycle = e.cycle.0; gap = e.gap }
