-- `bytes` meets its contract.
use Prim.Native.Nat.{◌+◌, ◌<◌, ◌≤◌}
use native.Mathlib.Omega.{arith}
use borrow.Author.Tests.{le-leb, lt-leb}
use lib.ListN.{length}
use Rattle.console.specs.Respond.{outcome_in}
use Rattle.console.proofs.RespondLaws.{says_is, prints_is}
use Rattle.console.proofs.respond.Console.bytes.Goals as goal

pub returns-then-self-saturating_add : goal.returns-then-self-saturating_add
unfolding outcome_in
returns-then-self-saturating_add c =
    let s = c.args.self.now in
    let j = s.journal.now in
    let from = c.number_at-from.result in
    let count = c.number_at-count.result in
    let out : length j < from + count = omega arith in
    rw (← c.number_at-from.ensures, ← c.number_at-count.ensures, lt-leb (from + count) (length j) out) (says_is _ _ s.session s.lent j _ c.numbered.ensures)

pub returns : goal.returns
unfolding outcome_in
returns c =
    let s = c.args.self.now in
    let j = s.journal.now in
    let from = c.number_at-from.result in
    let count = c.number_at-count.result in
    let room : from + count ≤ length j = omega arith in
    rw (← c.number_at-from.ensures, ← c.number_at-count.ensures, le-leb (from + count) (length j) room)
    (prints_is _ _ s.session s.lent j _ c.numbered-2.result from count c.numbered-2.ensures c.with_bytes.ensures room)
