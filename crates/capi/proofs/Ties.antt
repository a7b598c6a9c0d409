-- What each exported function ensures is the statement of its name, over which the demands are proved: a weaker `ensures` is refused here.
use mathlib.Core.Path.{◌≡◌}
use mathlib.Core.Bool.{not}
use lib.Dec.{eqb}
use Rattle.history.specs.Answers.{plain}
use Rattle.session.specs.State.{fresh_state}
use Rattle.judging.specs.Judged.{reply_in}
use Rattle.statements.specs.Calls.{given, Opens, Offers, TakesBack, TellsEarliest, TellsStatus, PlacesStretch}
use Rattle.statements.specs.Statements.{Restores}
use Rattle.statements.specs.Bursts.{Bursts}
use Rattle.journal.specs.Restore.{offers_from}
use Rattle.timing.proofs.Ties.{Ensures}
use Rattle.checker.specs.Replies.{stretch_told}
use Rattle.datasheet.specs.Sheet.{picoseconds, GivesGaps}
use Rattle.capi.specs.Crossing.{status_given, ListsForC}
use Rattle.capi.specs.Language.{Plays}
use Rattle.capi.proofs.calls.rossinhiu_fresh_5.Kinds as fresh
use Rattle.capi.proofs.calls.rossinhiu_fresh_5.Reads as fresh-reads
use Rattle.capi.proofs.calls.rossinhiu_open_5.Kinds as opens
use Rattle.capi.proofs.calls.rossinhiu_open_5.Reads as open-reads
use Rattle.capi.proofs.calls.rossinhiu_offer_5.Kinds as offers
use Rattle.capi.proofs.calls.rossinhiu_offer_5.Reads as offer-reads
use Rattle.capi.proofs.calls.rossinhiu_offer_pieces_5.Kinds as offers-pieces
use Rattle.capi.proofs.calls.rossinhiu_offer_pieces_5.Reads as offer-pieces-reads
use Rattle.capi.proofs.list.rossinhiu_offer_all_5.Kinds as offers-all
use Rattle.capi.proofs.list.rossinhiu_offer_all_5.Reads as offer-all-reads
use Rattle.capi.proofs.calls.rossinhiu_take_back_5.Kinds as takes_back
use Rattle.capi.proofs.calls.rossinhiu_take_back_5.Reads as take-back-reads
use Rattle.capi.proofs.calls.rossinhiu_earliest_5.Kinds as earliest
use Rattle.capi.proofs.calls.rossinhiu_earliest_5.Reads as earliest-reads
use Rattle.capi.proofs.calls.rossinhiu_status_5.Kinds as status
use Rattle.capi.proofs.calls.rossinhiu_status_5.Reads as status-reads
use Rattle.capi.proofs.calls.rossinhiu_stretch_5.Kinds as places
use Rattle.capi.proofs.calls.rossinhiu_stretch_5.Reads as place-reads
use Rattle.capi.proofs.calls.rossinhiu_restore_5.Kinds as restores
use Rattle.capi.proofs.calls.rossinhiu_restore_5.Reads as restore-reads
use Rattle.capi.proofs.calls.rossinhiu_list_part_5.Kinds as lists
use Rattle.capi.proofs.calls.rossinhiu_list_part_5.Reads as list-reads
use Rattle.capi.proofs.calls.rossinhiu_gaps_5.Kinds as gives
use Rattle.capi.proofs.calls.rossinhiu_gaps_5.Reads as give-reads
use Rattle.capi.proofs.language.rossinhiu_console_5.Kinds as plays
use Rattle.capi.proofs.language.rossinhiu_console_5.Reads as play-reads

fresh_ensures : Ensures 0 fresh.ps fresh.r fresh-reads.Post (λ κs a r s. r ≡ fresh_state)
fresh_ensures κs a r s p = p.0

open_ensures : Ensures 1 opens.ps opens.r open-reads.Post
    (λ κs a r s. Opens a.0 a.1.0.now (given a.1.1.0 a.1.1.1.0 a.1.1.1.1.0 a.1.1.1.1.1.0 a.1.1.1.1.1.1.0.gaps) (plain r.number) r.session s.1.0.now)
open_ensures κs a r s p = p

offer_ensures : Ensures 1 offers.ps offers.r offer-reads.Post
    (λ κs a r s. Offers a.0 a.1.0.now a.1.1.0 a.1.1.1.0 a.1.1.1.1.0 a.1.1.1.1.1.0 (reply_in r.answer) r.session s.1.0.now)
offer_ensures κs a r s p = p

offer_pieces_ensures : Ensures 2 offers-pieces.ps offers-pieces.r offer-pieces-reads.Post
    (λ κs a r s. Bursts a.0 a.1.0.now (offers_from a.1.1.0.now) r.count (reply_in r.answer) r.session s.1.0.now)
offer_pieces_ensures κs a r s p = p

offer_all_ensures : Ensures 2 offers-all.ps offers-all.r offer-all-reads.Post
    (λ κs a r s. Bursts a.0 a.1.0.now a.1.1.0.now r.count (reply_in r.answer) r.session s.1.0.now)
offer_all_ensures κs a r s p = p

take_back_ensures : Ensures 1 takes_back.ps takes_back.r take-back-reads.Post
    (λ κs a r s. TakesBack a.0 a.1.0.now (plain r.number) r.session s.1.0.now)
take_back_ensures κs a r s p = p

earliest_ensures : Ensures 0 earliest.ps earliest.r earliest-reads.Post (λ κs a r s. TellsEarliest a.0 a.1.0 a.1.1.0 a.1.1.1.0 (reply_in r))
earliest_ensures κs a r s p = p

status_ensures : Ensures 0 status.ps status.r status-reads.Post (λ κs a r s. TellsStatus a.0 (status_given r))
status_ensures κs a r s p = p

place_ensures : Ensures 0 places.ps places.r place-reads.Post (λ κs a r s. PlacesStretch a.0 a.1.0 (stretch_told r))
place_ensures κs a r s p = p.0

restore_ensures : Ensures 1 restores.ps restores.r restore-reads.Post (λ κs a r s. Restores a.0.now r.number r.«record» r.session)
restore_ensures κs a r s p = p

list_ensures : Ensures 2 lists.ps lists.r list-reads.Post (λ κs a r s. ListsForC a.1.0.now (not (eqb a.1.1.0 0)) a.0 a.1.1.1.0.now s.1.1.1.0.now r)
list_ensures κs a r s p = p

console_ensures : Ensures 4 plays.ps plays.r play-reads.Post
    (λ κs a r s. Plays a.0 a.1.0.now a.1.1.0.now a.1.1.1.0 s.1.0.now a.1.1.1.1.1.0.now s.1.1.1.1.1.0.now r)
console_ensures κs a r s p = p

gaps_ensures : Ensures 0 gives.ps gives.r give-reads.Post (λ κs a r s. GivesGaps (picoseconds a.0) a.1.0.times r)
gaps_ensures κs a r s p = p
