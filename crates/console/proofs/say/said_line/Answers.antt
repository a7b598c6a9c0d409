-- `said_line` meets its contract.
use mathlib.Core.Path.{◌≡◌}
use Prim.Native.Nat.{◌≤◌}
use native.Mathlib.Omega.{arith}
use lib.ListN.{length, take, length-take}
use Rattle.std.proofs.Common.{rules}
use Rattle.text.specs.Text.{text}
use Rattle.text.proofs.PutLaws.{take_min}
use Rattle.console.proofs.SayLaws.{line_plain, line_bytes}
use Rattle.console.proofs.say.said_line.Goals as goal

pub returns-then-said-gt0 : goal.returns-then-said-gt0
unfolding text
returns-then-said-gt0 c =
    let a = c.args.said.now in
    let size : length a.numbers ≡ 22 = search rules in
    let same = take_min a.numbers a.count 22 c.min.result size c.min.ensures in
    let few : length (take a.count a.numbers) ≤ 22 = omega (arith, length-take a.count a.numbers) in
    line_bytes a.request (take a.count a.numbers) a.hex_count c.empty-line.result c.put_all.new.self c.put_numbers.new.self few c.empty-line.ensures (rw c.word.ensures at c.put_all.ensures) (rw (← same) at c.put_numbers.ensures) (λ none. omega (arith, c.if-said-gt0.true)) c.put.new.self c.put.ensures

pub returns-else-said-gt0 : goal.returns-else-said-gt0
returns-else-said-gt0 c =
    let a = c.args.said.now in
    let size : length a.numbers ≡ 22 = search rules in
    let same = take_min a.numbers a.count 22 c.min.result size c.min.ensures in
    let few : length (take a.count a.numbers) ≤ 22 = omega (arith, length-take a.count a.numbers) in
    line_plain a.request (take a.count a.numbers) a.hex_count c.empty-line.result c.put_all.new.self c.put_numbers.new.self few c.empty-line.ensures (rw c.word.ensures at c.put_all.ensures) (rw (← same) at c.put_numbers.ensures) (omega (arith, c.if-said-gt0.false))
