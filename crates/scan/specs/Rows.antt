-- The inside of the scan: what is lent to it, and what the entries of a rank ask for, a row of sixteen banks for each first kind.
use Rattle.std.specs.Prelude.{◌≡◌, cond, List, ℕ, zero, suc, ◌+◌, ◌-◌, ◌*◌, ◌/◌, ◌%◌, max, eqb, get_or}
use Rattle.timing.specs.declared.clocks.ControllerCycles.{ControllerCycles}
use Rattle.timing.specs.declared.kinds.CommandKind.{CommandKind}
use Rattle.timing.specs.declared.kinds.CommandKind.TheVariants.{Act}
use Rattle.timing.specs.declared.rules.Command.{Command}
use Rattle.timing.specs.declared.rules.Opening.{Opening}
use Rattle.timing.specs.Earliest.{t_faw}
use Rattle.timing.specs.Kinds.{code_of, same_kind}
use Rattle.timing.specs.Rules.{nearness, class_for, table_gap, kind_at}
use Rattle.session.specs.declared.stamps.Stamp.{Stamp}
use Rattle.session.specs.declared.state.Progress.{Progress}
use Rattle.session.specs.declared.state.Terms.{Terms}
use Rattle.session.specs.declared.state.Session.{Session}
use Rattle.session.specs.Stamps.{read_back}
use Rattle.session.specs.State.{rank_slots, stamp_at}
use Rattle.scan.specs.declared.timings.Timings.{Timings}
use Rattle.scan.specs.declared.timings.Question.{Question}
use Rattle.scan.specs.Scan.{step_of, tabulated, ask_of}

-- the step of each gap number from 0, which is none
unfoldable pub gap_steps : List ControllerCycles → List ℕ
gap_steps rounded = tabulated (step_of rounded) 21

abbrev pub kept_at : List Stamp → ℕ → ℕ
kept_at last i = read_back (stamp_at last i).0

-- the largest of the first n
unfoldable pub max_to : (ℕ → ℕ) → ℕ → ℕ
max_to f zero = 0
max_to f (suc n) = max (max_to f n) (f n)

-- the step from a first kind, for a nearness of the banks
abbrev pub step_from : List ℕ → Opening → CommandKind → CommandKind → ℕ → ℕ
step_from steps o first second near = get_or steps (table_gap o (class_for first second near) first second) 0

-- the bank's spot in its rank's first row, and where a first kind's row of that rank begins
abbrev pub spot_of : Command → ℕ
spot_of c = c.rank % 2 * rank_slots + c.bank

abbrev pub row_of : ℕ → CommandKind → ℕ
row_of spot first = spot / 16 * 16 + (code_of first - 1) * 16

-- bank i of a first kind's row
abbrev pub bank_ask : List ℕ → List Stamp → Opening → CommandKind → ℕ → CommandKind → ℕ → ℕ
bank_ask steps last o second spot first i = ask_of (kept_at last (row_of spot first + i)) (step_from steps o first second (nearness o i (spot % 16)))

unfoldable pub row_ask : List ℕ → List Stamp → Opening → CommandKind → ℕ → CommandKind → ℕ
row_ask steps last o second spot first = max_to (bank_ask steps last o second spot first) 16

unfoldable pub rank_ask : List ℕ → List Stamp → Opening → CommandKind → ℕ → ℕ
rank_ask steps last o second spot = max_to (λ k. row_ask steps last o second spot (kind_at k)) 7

-- the fourth activate of the command's rank
abbrev pub fourth_for : List Stamp → Command → Stamp
fourth_for activates c = stamp_at activates (c.rank % 2 * 4 + 3)

-- the larger ask of the cycle after the last survivor and of the fourth activate; and the largest with those of the rank's rows
abbrev pub known_ask : List ℕ → Progress → Command → ℕ
known_ask steps p c =
    max (read_back p.latest.0 * 32 + 31) (cond (same_kind c.kind Act) (ask_of (read_back (fourth_for p.activates c).0) (get_or steps t_faw 0)) 0)

abbrev pub lent_ask : List ℕ → List Stamp → Opening → CommandKind → ℕ → ℕ → ℕ
lent_ask steps last o second spot known = max known (rank_ask steps last o second spot)

-- the newest stamp of two banks next to each other, of four, and of the three fours that a bank is not of
abbrev pub pair_kept : List Stamp → ℕ → ℕ → ℕ
pair_kept last row p = max (kept_at last (row + 2 * p)) (kept_at last (row + 2 * p + 1))

abbrev pub four_kept : List Stamp → ℕ → ℕ → ℕ
four_kept last row q = max (pair_kept last row (2 * q)) (pair_kept last row (2 * q + 1))

abbrev pub far_kept : List Stamp → ℕ → ℕ → ℕ
far_kept last row own = max (max (four_kept last row ((own + 1) % 4)) (four_kept last row ((own + 2) % 4))) (four_kept last row ((own + 3) % 4))

-- the other bank of a bank's pair, and the other pair of its four
abbrev pub mate_of : ℕ → ℕ
mate_of b = b / 2 * 2 + (1 - b % 2)

abbrev pub pair_beside : ℕ → ℕ
pair_beside b = b / 4 * 2 + (1 - b / 2 % 2)

-- the nearness of the pair beside: in mode 2 it is of the bank's group
abbrev pub beside_of : Opening → ℕ
beside_of o = cond (eqb o.mode 2) 1 2

-- what a row asks for: by the steps of the bank itself, of its mate, of the pair beside, and of all others
abbrev pub near_ask : List Stamp → ℕ → ℕ → ℕ → ℕ → ℕ → ℕ → ℕ
near_ask last row b own mate beside others =
    max (ask_of (kept_at last (row + b)) own)
    (max (ask_of (kept_at last (row + mate_of b)) mate) (max (ask_of (pair_kept last row (pair_beside b)) beside) (ask_of (far_kept last row (b / 4)) others)))

-- what is lent beside the session: its timings, made ready
pub record Lent (timings : Timings) (terms : Terms) : Type 0 where
  pub opening_is : timings.opening ≡ terms.opening
  pub steps_are : timings.steps ≡ gap_steps terms.rounded

-- what is asked of a command by some timings: by the rank's rows, and beside them
abbrev pub asked_by : Timings → Session → Command → ℕ
asked_by t s c = lent_ask t.steps s.last t.opening c.kind (spot_of c) (known_ask t.steps s.progress c)

-- the same asks, of a question
abbrev pub bank_asked : Question → CommandKind → ℕ → ℕ
bank_asked q first i = bank_ask q.timings.now.steps q.last.now q.timings.now.opening q.second q.spot first i

abbrev pub row_asked : Question → CommandKind → ℕ
row_asked q first = row_ask q.timings.now.steps q.last.now q.timings.now.opening q.second q.spot first

abbrev pub rank_asked : Question → ℕ
rank_asked q = rank_ask q.timings.now.steps q.last.now q.timings.now.opening q.second q.spot

abbrev pub largest_asked : Question → ℕ → ℕ
largest_asked q known = lent_ask q.timings.now.steps q.last.now q.timings.now.opening q.second q.spot known
