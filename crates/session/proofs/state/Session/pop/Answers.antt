-- `Session::pop` meets its contract.
use Rattle.session.proofs.StoreLaws.{popped_as}
use Rattle.session.proofs.state.Session.pop.Goals as goal

pub returns : goal.returns
returns c =
    let at = c.place_back in
    popped_as _ _ at.result _ at.ensures.0 c.slot_in.ensures c.popped-self.ensures
