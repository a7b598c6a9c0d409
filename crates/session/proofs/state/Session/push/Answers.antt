-- `Session::push` meets its contract.
use Rattle.session.proofs.StoreLaws.{pushed_as}
use Rattle.session.proofs.state.Session.push.Goals as goal

pub returns : goal.returns
returns c =
    let next = c.pushed-self in
    let made = c.entry_for-entry in
    let at = c.place_next in
    let new = c.of-stamp in
    let slot = c.slot_of-slot in
    pushed_as _ _ _ slot.result.place at.result new.result made.result next.result slot.ensures new.ensures at.ensures.0 made.ensures next.ensures
