-- `gaps` meets its contract.
use Rattle.console.specs.Respond.{outcome_in}
use Rattle.console.proofs.RespondLaws.{says_is}
use Rattle.console.proofs.respond.Console.gaps.Goals as goal

pub returns : goal.returns
unfolding outcome_in
returns c =
    let s = c.args.self.now in
    rw (← c.number_at.ensures, ← c.times_of.ensures, ← c.gaps_of.ensures) (says_is _ _ s.session s.lent s.journal.now _ c.gaps_said.ensures)
