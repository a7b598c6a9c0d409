-- `rossinhiu_fresh_5` meets its contract.
use Rattle.statements.proofs.KeepsLaws.{fresh_rep}
use Rattle.capi.proofs.calls.rossinhiu_fresh_5.Goals as goal

pub returns : goal.returns
returns c = (c.fresh.ensures, rw c.fresh.ensures fresh_rep)
