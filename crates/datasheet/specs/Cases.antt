-- Request 2026-01's own examples and the edges of every range: a tCK, the times that are not 0, and the answer.
use Rattle.std.specs.Prelude.{Bool, true, false, ◌&&◌, List, [], ◌∷◌, map, ℕ, ◌-◌, eqb, set, replicate}
use Rattle.timing.specs.declared.clocks.DramCycles.{DramCycles}
use Rattle.datasheet.specs.declared.sheet.GapsAnswer.{GapsAnswer}
use Rattle.datasheet.specs.Sheet.{dram, picoseconds, zeros, accepted, gaps_in}

infix 80 ◌is◌
-- a gap number, and the time or the gap that it has
pub record Numbered : Type 0 where
  pub number : ℕ
  pub value : ℕ

abbrev pub ◌is◌ : ℕ → ℕ → Numbered
n is v = record { number = n; value = v }

-- twenty numbers, 0 but for these
unfoldable pub twenty : List Numbered → List ℕ
twenty [] = replicate 20 0
twenty (x ∷ xs) = set (twenty xs) (x.number - 1) x.value

pub record Case : Type 0 where
  pub tck : ℕ
  pub times : List Numbered
  pub answer : GapsAnswer

abbrev pub gives : ℕ → List Numbered → List Numbered → Case
gives tck times gaps = record { tck = tck; times = times; answer = accepted (map dram (twenty gaps)) }

abbrev pub refuses : ℕ → List Numbered → ℕ → ℕ → Case
refuses tck times number gap = record { tck = tck; times = times; answer = zeros number gap }

abbrev pub in_order : List Numbered
in_order =
    1 is 1 ∷ 2 is 2 ∷ 3 is 3 ∷ 4 is 4 ∷ 5 is 5 ∷ 6 is 6 ∷ 7 is 7 ∷ 8 is 8 ∷ 9 is 9 ∷ 10 is 10 ∷ 11 is 11 ∷ 12 is 12 ∷ 13 is 13 ∷ 14 is 14 ∷ 15 is 15 ∷ 16 is 16 ∷ 17 is 17 ∷ 18 is 18 ∷ 19 is 19 ∷ 20 is 20 ∷ []

unfoldable pub cases : List Case
cases =
    gives 625 (4 is 26250 ∷ []) (4 is 42 ∷ []) ∷
    gives 625 (4 is 26251 ∷ []) (4 is 43 ∷ []) ∷
    gives 625 [] [] ∷
    gives 1 in_order in_order ∷
    refuses 0 [] 13 0 ∷
    gives 1 (20 is 1 ∷ []) (20 is 1 ∷ []) ∷
    gives 1000000 (1 is 1 ∷ []) (1 is 1 ∷ []) ∷
    refuses 1000001 [] 13 0 ∷
    refuses 18446744073709551615 [] 13 0 ∷
    gives 1 (1 is 65535 ∷ []) (1 is 65535 ∷ []) ∷
    refuses 1 (1 is 65536 ∷ []) 14 1 ∷
    gives 65537 (20 is 4294967295 ∷ []) (20 is 65535 ∷ []) ∷
    refuses 65536 (20 is 4294967295 ∷ []) 14 20 ∷
    gives 1000000 (7 is 4294967295 ∷ []) (7 is 4295 ∷ []) ∷
    refuses 1000000 (7 is 4294967296 ∷ []) 14 7 ∷
    refuses 1000000 (7 is 18446744073709551615 ∷ []) 14 7 ∷
    refuses 625 (3 is 4294967296 ∷ 17 is 40959376 ∷ 1 is 26250 ∷ []) 14 3 ∷
    refuses 625 (3 is 40959376 ∷ 17 is 4294967296 ∷ []) 14 3 ∷
    refuses 0 (1 is 4294967296 ∷ []) 13 0 ∷
    []

unfoldable pub same_gaps : List DramCycles → List DramCycles → Bool
same_gaps [] [] = true
same_gaps [] (y ∷ ys) = false
same_gaps (x ∷ xs) [] = false
same_gaps (x ∷ xs) (y ∷ ys) = eqb x.0 y.0 && same_gaps xs ys

abbrev pub same : GapsAnswer → GapsAnswer → Bool
same x y = eqb x.number y.number && eqb x.gap_number y.gap_number && same_gaps x.gaps y.gaps

abbrev pub right : Case → Bool
right k = same (gaps_in (picoseconds k.tck) (map picoseconds (twenty k.times))) k.answer

unfoldable pub all_right : List Case → Bool
all_right [] = true
all_right (k ∷ ks) = right k && all_right ks
