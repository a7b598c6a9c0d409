-- What each call ensures is the statement of its name, over which the demands are proved: a weaker `ensures` is refused here.
use Rattle.history.specs.Answers.{plain}
use Rattle.judging.specs.Judged.{reply_in}
use Rattle.statements.specs.Calls.{given, Opens, Offers, TakesBack, TellsEarliest, TellsStatus, PlacesStretch, seen, HandsStretch}
use Rattle.timing.proofs.Ties.{Ensures}
use Rattle.checker.specs.Replies.{status_replied, stretch_told}
use Rattle.checker.proofs.calls.open_session.Kinds as opens
use Rattle.checker.proofs.calls.open_session.Reads as open-reads
use Rattle.checker.proofs.calls.offer.Kinds as offers
use Rattle.checker.proofs.calls.offer.Reads as offer-reads
use Rattle.checker.proofs.calls.take_back.Kinds as takes_back
use Rattle.checker.proofs.calls.take_back.Reads as take-back-reads
use Rattle.checker.proofs.calls.earliest.Kinds as earliest
use Rattle.checker.proofs.calls.earliest.Reads as earliest-reads
use Rattle.checker.proofs.calls.status.Kinds as status
use Rattle.checker.proofs.calls.status.Reads as status-reads
use Rattle.checker.proofs.calls.stretch_place.Kinds as places
use Rattle.checker.proofs.calls.stretch_place.Reads as place-reads
use Rattle.checker.proofs.calls.stretch.Kinds as hands
use Rattle.checker.proofs.calls.stretch.Reads as stretch-reads

open_ensures : Ensures 1 opens.ps opens.r open-reads.Post
    (λ κs a r s. Opens a.0 a.1.0.now (given a.1.1.0 a.1.1.1.0 a.1.1.1.1.0 a.1.1.1.1.1.0 a.1.1.1.1.1.1.0) (plain r.number) r.session s.1.0.now)
open_ensures κs a r s p = p

offer_ensures : Ensures 1 offers.ps offers.r offer-reads.Post
    (λ κs a r s. Offers a.0 a.1.0.now a.1.1.0 a.1.1.1.0 a.1.1.1.1.0 a.1.1.1.1.1.0.0 (reply_in r.answer) r.session s.1.0.now)
offer_ensures κs a r s p = p

take_back_ensures : Ensures 1 takes_back.ps takes_back.r take-back-reads.Post
    (λ κs a r s. TakesBack a.0 a.1.0.now (plain r.number) r.session s.1.0.now)
take_back_ensures κs a r s p = p

earliest_ensures : Ensures 0 earliest.ps earliest.r earliest-reads.Post (λ κs a r s. TellsEarliest a.0 a.1.0 a.1.1.0 a.1.1.1.0 (reply_in r))
earliest_ensures κs a r s p = p

status_ensures : Ensures 0 status.ps status.r status-reads.Post (λ κs a r s. TellsStatus a.0 (status_replied r))
status_ensures κs a r s p = p

place_ensures : Ensures 0 places.ps places.r place-reads.Post (λ κs a r s. PlacesStretch a.0 a.1.0 (stretch_told r))
place_ensures κs a r s p = p.0

stretch_ensures : Ensures 1 hands.ps hands.r stretch-reads.Post (λ κs a r s. HandsStretch a.0 (seen a.1.0) (seen r))
stretch_ensures κs a r s p = p
