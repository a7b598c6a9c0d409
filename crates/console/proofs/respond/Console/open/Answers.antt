-- `open` meets its contract.
use mathlib.Core.Path.{refl}
use Rattle.console.specs.Respond.{outcome_in}
use Rattle.console.specs.Say.{brief}
use Rattle.requests.specs.declared.forms.Request.TheVariants as asks
use Rattle.console.proofs.RespondLaws.{called_is}
use Rattle.console.proofs.respond.Console.open.Goals as goal

pub returns : goal.returns
unfolding outcome_in
returns c =
    let s = c.args.self.now in
    record { responds = rw (← c.number_at.ensures, ← c.number_at-2.ensures, ← c.number_at-3.ensures, ← c.number_at-4.ensures, ← c.gaps_of.ensures) (called_is asks.Open brief _ s.session _ s.lent s.journal.now _ _ _ c.take_opening-done.ensures.exact (rw c.number_for.ensures at c.numbered.ensures)); same = refl }
