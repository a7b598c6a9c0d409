-- `ask` meets its contract.
use Rattle.console.specs.Respond.{outcome_in}
use Rattle.console.proofs.RespondLaws.{says_is}
use Rattle.console.proofs.respond.Console.ask.Goals as goal

pub returns : goal.returns
unfolding outcome_in
returns c =
    let s = c.args.self.now in
    rw (← c.number_at-kind.ensures, ← c.number_at-rank.ensures, ← c.number_at-bank.ensures, ← c.earliest.ensures.exact) (says_is _ _ s.session s.lent s.journal.now _ c.answer_said.ensures)
