-- `lend` meets its contract.
use mathlib.Core.Path.{refl}
use Rattle.console.specs.Respond.{outcome_in}
use Rattle.console.proofs.RespondLaws.{says_is}
use Rattle.console.proofs.respond.Console.lend.Goals as goal

pub returns : goal.returns
unfolding outcome_in
returns c =
    let s = c.args.self.now in
    record { responds = rw (← c.number_at.ensures, ← c.min-lent.ensures) (says_is _ _ s.session _ s.journal.now _ c.numbered.ensures); same = refl }
