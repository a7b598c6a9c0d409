-- `gaps_of` meets its contract.
use Rattle.std.proofs.Common.{rules}
use Rattle.console.specs.Respond.{gap_from}
use Rattle.console.proofs.RespondLaws.{made_is}
use Rattle.console.proofs.respond.gaps_of.Goals as goal

pub returns : goal.returns
returns c = made_is _ _ gap_from 4 c.args.numbers.now (λ i y q called. (search rules, search rules)) 20 _ c.from_fn.ensures.items
