-- `rossinhiu_offer_all` meets its contract: the slice gives its own offers.
use Rattle.std.proofs.lemmas.Iterator.{YieldsList-from_slice}
use Rattle.std.proofs.lemmas.Iterator.Consumers.{YieldsList-at, YieldsList-from_copied}
use Rattle.capi.proofs.list.rossinhiu_offer_all_5.Goals as goal

pub returns : goal.returns
returns c =
    let a = c.args in
    c.take_offers-count.ensures a.offers.now (YieldsList-from_copied (YieldsList-at c.copied.ensures.source (YieldsList-from_slice a.offers.now c.iter.ensures.rest))).runs
