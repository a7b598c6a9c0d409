-- Document 02, request 2026-01: a tCK of 1 to 1,000,000 ps and twenty times in ps, each below 4,294,967,296, give the twenty gaps.
use Rattle.std.specs.Prelude.{◌≡◌, Bool, cond, ◌&&◌, ◌||◌, List, [], ◌∷◌, map, ℕ, ◌+◌, eqb, leb, ltb, replicate, Option, Some, None, Result, Ok, Err}
use Rattle.timing.specs.declared.clocks.DramCycles.{DramCycles}
use Rattle.timing.specs.Clocks.{ceil_div}
use Rattle.datasheet.specs.declared.sheet.Picoseconds.{Picoseconds}
use Rattle.datasheet.specs.declared.sheet.SheetFault.{SheetFault}
use Rattle.datasheet.specs.declared.sheet.SheetFault.TheVariants.{Tck, Time}
use Rattle.datasheet.specs.declared.sheet.GapsAnswer.{GapsAnswer}

abbrev pub dram : ℕ → DramCycles
dram n = record { 0 = n }

abbrev pub picoseconds : ℕ → Picoseconds
picoseconds n = record { 0 = n }

abbrev pub last_tck : ℕ
last_tck = 1000000

abbrev pub time_bound : ℕ
time_bound = 4294967296

abbrev pub last_gap : ℕ
last_gap = 65535

abbrev pub tck_in_range : Picoseconds → Bool
tck_in_range tck = leb 1 tck.0 && leb tck.0 last_tck

-- a gap: the fewest DRAM cycles that last at least that time
abbrev pub gap_for : Picoseconds → Picoseconds → ℕ
gap_for tck time = ceil_div time.0 tck.0

-- a time out of range or a gap above 65,535
abbrev pub faulty : Picoseconds → Picoseconds → Bool
faulty tck time = leb time_bound time.0 || ltb last_gap (gap_for tck time)

-- the only step from picoseconds to DRAM cycles
abbrev pub judged_at : Picoseconds → Picoseconds → Option DramCycles
judged_at tck time = cond (faulty tck time) None (Some (dram (gap_for tck time)))

unfoldable pub gaps_for : Picoseconds → List Picoseconds → List DramCycles
gaps_for tck times = map (λ time. dram (gap_for tck time)) times

-- the lowest gap number that has a fault, 0 if none has; n is the number of the first of these times
unfoldable pub lowest_faulty : Picoseconds → ℕ → List Picoseconds → ℕ
lowest_faulty tck n [] = 0
lowest_faulty tck n (time ∷ times) = cond (faulty tck time) n (lowest_faulty tck (n + 1) times)

-- a number and a gap number; the gaps are zeros
abbrev pub zeros : ℕ → ℕ → GapsAnswer
zeros number gap = record { number = number; gap_number = gap; gaps = replicate 20 (dram 0) }

abbrev pub accepted : List DramCycles → GapsAnswer
accepted gaps = record { number = 0; gap_number = 0; gaps = gaps }

-- what the gaps, or what is wrong with the sheet, come to
abbrev pub answer_of : Result (List DramCycles) SheetFault → GapsAnswer
answer_of (Ok gaps) = accepted gaps
answer_of (Err Tck) = zeros 13 0
answer_of (Err (Time n)) = zeros 14 n

-- 14 with the lowest gap number, or the gaps
abbrev pub gaps_reply : Picoseconds → List Picoseconds → ℕ → GapsAnswer
gaps_reply tck times lowest = cond (eqb lowest 0) (accepted (gaps_for tck times)) (zeros 14 lowest)

-- 13, then 14
unfoldable pub gaps_in : Picoseconds → List Picoseconds → GapsAnswer
gaps_in tck times = cond (tck_in_range tck) (gaps_reply tck times (lowest_faulty tck 1 times)) (zeros 13 0)

-- THE CALL, by its name
abbrev pub GivesGaps : Picoseconds → List Picoseconds → GapsAnswer → Type 0
GivesGaps tck times answer = answer ≡ gaps_in tck times
