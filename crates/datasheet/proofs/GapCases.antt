-- The request's own examples and the edges of every range, as one claim.
use lib.Dec.{T}
use Rattle.datasheet.specs.Sheet.{gaps_for, lowest_faulty, gaps_in}
use Rattle.datasheet.specs.Cases.{twenty, cases, same_gaps, all_right}

pub gap_cases : T (all_right cases)
unfolding gaps_for lowest_faulty gaps_in twenty cases same_gaps all_right
gap_cases = tt
