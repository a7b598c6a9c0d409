-- `offer_pieces` meets its contract: its chunks are read as the offers that the pieces hold.
use mathlib.Core.Path.{◌∙◌}
use Prim.Native.Nat.{◌/◌}
use borrow.Author.Rules.{rules}
use lib.ListN.{length}
use Rattle.std.proofs.lemmas.Iterator.{YieldsList-from_map, YieldsList-from_slice}
use Rattle.std.proofs.lemmas.Iterator.Consumers.{YieldsList-at}
use Rattle.history.specs.Answers.{record_size}
use Rattle.journal.specs.Bytes.{offer_from}
use Rattle.journal.specs.Restore.{offers_from, whole_records}
use Rattle.journal.proofs.PieceLaws.{chunks_are}
use Rattle.bursts.proofs.pieces.offer_pieces.Goals as goal

pub returns : goal.returns
unfolding offers_from
returns c =
    let p = c.args.pieces.now in
    let mapped = c.map-offers.ensures in
    let chunks = c.as_chunks.ensures.front ∙ chunks_are (length p / record_size) p in
    let yields = YieldsList-from_slice (whole_records p) (c.iter.ensures.rest ∙ chunks) in
    c.take_offers-count.ensures (offers_from p)
    (YieldsList-from_map _ offer_from (YieldsList-at mapped.source yields) mapped.closure (λ x r q k. search rules)).runs
