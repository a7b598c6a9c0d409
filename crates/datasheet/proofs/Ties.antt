-- What the call ensures is the statement of its name: a weaker `ensures` is refused here.
use Rattle.timing.proofs.Ties.{Ensures}
use Rattle.datasheet.specs.Sheet.{GivesGaps}
use Rattle.datasheet.proofs.sheet.gaps_of.Kinds as gives
use Rattle.datasheet.proofs.sheet.gaps_of.Reads as gives-reads

gaps_ensures : Ensures 0 gives.ps gives.r gives-reads.Post (λ κs a r s. GivesGaps a.0 a.1.0 r)
gaps_ensures κs a r s p = p
