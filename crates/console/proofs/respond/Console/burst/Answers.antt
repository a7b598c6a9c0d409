-- `burst` meets its contract: its chunks of four numbers are the commands of the request.
use mathlib.Core.Path.{refl}
use Prim.Native.Nat.{◌/◌}
use lib.ListN.{length}
use Rattle.std.specs.Prelude.{map}
use Rattle.std.proofs.Common.{rules}
use Rattle.std.proofs.lemmas.Iterator.{YieldsList-from_map, YieldsList-from_slice}
use Rattle.std.proofs.lemmas.Iterator.Consumers.{YieldsList-at}
use Rattle.console.specs.Respond.{offer_at, outcome_in}
use Rattle.console.proofs.CommandLaws.{commands_are}
use Rattle.console.proofs.RespondLaws.{bursts_is}
use Rattle.console.proofs.respond.Console.burst.Goals as goal

pub returns : goal.returns
unfolding outcome_in
returns c =
    let s = c.args.self.now in
    let ns = c.args.numbers.now in
    let mapped = c.map-offers.ensures in
    let commands = YieldsList-at mapped.source (YieldsList-from_slice c.as_chunks.result.0.now c.iter.ensures.rest) in
    let done =
    c.take_offers-count.ensures (map (λ command. offer_at command 0) c.as_chunks.result.0.now)
    (YieldsList-from_map _ (λ command. offer_at command 0) commands mapped.closure (λ x r q called. search rules)).runs in
    record { responds = rw (← commands_are (length ns / 4) 0 ns, ← c.as_chunks.ensures.front) (bursts_is _ _ _ _ s.lent s.journal.now _ _ done.exact c.burst_said.ensures); same = refl }
