-- `poke` meets its contract.
use mathlib.Core.Path.{refl}
use borrow.Author.Tests.{lt-ltb, le-ltb}
use lib.ListN.{length}
use Rattle.console.specs.Respond.{outcome_in}
use Rattle.console.proofs.RespondLaws.{says_is}
use Rattle.console.proofs.respond.Console.poke.Goals as goal

pub returns-then-self-place : goal.returns-then-self-place
unfolding outcome_in
returns-then-self-place c =
    let s = c.args.self.now in
    let j = s.journal.now in
    record { responds = rw (← c.number_at-place.ensures, ← c.number_at.ensures, le-ltb c.number_at-place.result (length j) c.if-self-place.true) (says_is _ _ s.session s.lent j _ c.numbered.ensures); same = refl }

pub returns : goal.returns
unfolding outcome_in
returns c =
    let s = c.args.self.now in
    let j = s.journal.now in
    record { responds = rw (← c.number_at-place.ensures, ← c.number_at.ensures, lt-ltb c.number_at-place.result (length j) c.if-self-place.false) (says_is _ _ s.session s.lent _ _ (rw c.from.ensures at c.numbered-2.ensures)); same = refl }
