-- In words: what is in range, what a fault is, and which gap number is the lowest that has one. Gap numbers count from 1.
use Rattle.std.specs.Prelude.{◌⊎◌, List, ℕ, ◌-◌, ◌≤◌, ◌<◌, length, get_or}
use Rattle.timing.specs.declared.clocks.DramCycles.{DramCycles}
use Rattle.datasheet.specs.declared.sheet.Picoseconds.{Picoseconds}
use Rattle.datasheet.specs.Sheet.{dram, picoseconds, last_tck, time_bound, last_gap, gap_for}

-- of the times, and of the gaps, the one with a gap number
abbrev pub time_of : List Picoseconds → ℕ → Picoseconds
time_of times n = get_or times (n - 1) (picoseconds 0)

abbrev pub gap_of : List DramCycles → ℕ → DramCycles
gap_of gaps n = get_or gaps (n - 1) (dram 0)

abbrev pub InRange : Picoseconds → Type 0
InRange tck = (0 < tck.0) × (tck.0 ≤ last_tck)

-- a time out of range or a gap above 65,535
abbrev pub Fault : Picoseconds → Picoseconds → Type 0
Fault tck time = (time_bound ≤ time.0) ⊎ (last_gap < gap_for tck time)

pub record FaultAt (tck : Picoseconds) (times : List Picoseconds) (n : ℕ) : Type 0 where
  pub above : 0 < n
  pub within : n ≤ length times
  pub fault : Fault tck (time_of times n)

-- n is the lowest gap number that has a fault
pub record LowestFault (tck : Picoseconds) (times : List Picoseconds) (n : ℕ) : Type 0 where
  pub faulty : FaultAt tck times n
  pub lowest : (k : ℕ) → k < n → FaultAt tck times k → ⊥
