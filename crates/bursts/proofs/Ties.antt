-- What a burst ensures is the statement of its name: a weaker `ensures` is refused here.
use Rattle.timing.proofs.Ties.{Ensures}
use Rattle.journal.specs.Restore.{offers_from}
use Rattle.judging.specs.Judged.{reply_in}
use Rattle.statements.specs.Bursts.{Bursts}
use Rattle.bursts.proofs.pieces.offer_pieces.Kinds as pieces
use Rattle.bursts.proofs.pieces.offer_pieces.Reads as piece-reads

pieces_ensures : Ensures 2 pieces.ps pieces.r piece-reads.Post
    (λ κs a r s. Bursts a.0 a.1.0.now (offers_from a.1.1.0.now) r.count (reply_in r.answer) r.session s.1.0.now)
pieces_ensures κs a r s p = p
