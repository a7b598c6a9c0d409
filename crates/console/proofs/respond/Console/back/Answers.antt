-- `back` meets its contract.
use mathlib.Core.Path.{refl}
use Rattle.console.specs.Respond.{outcome_in}
use Rattle.console.specs.Say.{brief}
use Rattle.requests.specs.declared.forms.Request.TheVariants as asks
use Rattle.console.proofs.RespondLaws.{called_is}
use Rattle.console.proofs.respond.Console.back.Goals as goal

pub returns : goal.returns
unfolding outcome_in
returns c ns =
    let s = c.args.self.now in
    record { responds = called_is asks.Back brief _ s.session _ s.lent s.journal.now _ _ _ c.take_last_back-done.ensures.exact (rw c.number_for.ensures at c.numbered.ensures); same = refl }
