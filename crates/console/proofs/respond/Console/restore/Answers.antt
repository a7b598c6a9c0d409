-- `restore` meets its contract.
use mathlib.Core.Path.{refl, ◌≡◌, subst}
use mathlib.Core.List.{List}
use Prim.Native.Nat.{ℕ}
use lib.ListN.{take, take-append-drop}
use Rattle.std.proofs.lemmas.List.{take_min}
use Rattle.statements.specs.Exact.{restore_in}
use Rattle.console.specs.Respond.{restores, outcome_in, Responds}
use Rattle.console.proofs.RespondLaws.{response_of, restores_is}
use Rattle.console.proofs.respond.Console.restore.Goals as goal

pub returns : goal.returns
unfolding outcome_in
returns c =
    let s = c.args.self.now in
    let j = s.journal.now in
    let same : take c.min-count.result j ≡ take c.number_at.result j = rw c.min-count.ensures (take_min c.number_at.result j) in
    let done =
    subst (λ (z : List ℕ). Responds (restores (restore_in z) s.lent j) (response_of c.restore-done.result.session s.lent c.numbered.result) j) same
    (restores_is (restore_in (take c.min-count.result j)) _ s.lent j _ _ c.numbered.result c.restore-done.ensures.exact c.numbered.ensures) in
    record { responds = rw (← c.number_at.ensures, take-append-drop c.min-count.result j) done; same = refl }
