-- `perform` meets its contract.
use mathlib.Core.Path.{refl}
use Rattle.console.specs.Respond.{outcome_in}
use Rattle.console.proofs.RespondLaws.{says_is}
use Rattle.console.proofs.respond.Console.perform.Goals as goal

pub returns-in-Nothing : goal.returns-in-Nothing
unfolding outcome_in
returns-in-Nothing c = let s = c.args.self.now in record { responds = rw c.in-Nothing.is (says_is _ _ s.session s.lent s.journal.now _ c.numbered.ensures); same = refl }

pub returns-in-Malformed : goal.returns-in-Malformed
unfolding outcome_in
returns-in-Malformed c = let s = c.args.self.now in record { responds = rw c.in-Malformed.is (says_is _ _ s.session s.lent s.journal.now _ c.numbered-in-Malformed.ensures); same = refl }

pub returns-in-Back : goal.returns-in-Back
returns-in-Back c = rw c.in-Back.is (c.back.ensures c.args.numbers.now)
