-- `status` meets its contract.
use Rattle.console.specs.Respond.{outcome_in}
use Rattle.console.proofs.RespondLaws.{says_is}
use Rattle.console.proofs.respond.Console.status.Goals as goal

pub returns : goal.returns
unfolding outcome_in
returns c ns =
    let s = c.args.self.now in
    rw (← c.status.ensures.exact) (says_is _ _ s.session s.lent s.journal.now _ c.status_said.ensures)
