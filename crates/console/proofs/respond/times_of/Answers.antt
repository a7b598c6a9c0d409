-- `times_of` meets its contract.
use Rattle.std.proofs.Common.{rules}
use Rattle.datasheet.specs.Sheet.{picoseconds}
use Rattle.console.proofs.RespondLaws.{made_is}
use Rattle.console.proofs.respond.times_of.Goals as goal

pub returns : goal.returns
returns c = made_is _ _ picoseconds 1 c.args.numbers.now (λ i y q called. (search rules, search rules)) 20 _ c.from_fn.ensures.items
