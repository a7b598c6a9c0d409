-- `put_hex` meets its contract: both digits of a byte are written each turn.
use mathlib.Core.Path.{◌≡◌, sym, ◌∙◌}
use Prim.Native.Nat.{◌+◌, ◌*◌, ◌≤◌}
use native.Mathlib.Omega.{arith}
use lib.ListN.{length}
use lib.Seq.{take_all}
use Rattle.console.specs.Output.{hex_text}
use Rattle.text.proofs.PutLaws.{put_none, put_paste}
use Rattle.console.proofs.OutputLaws.{hex_size, hex_next}
use Rattle.console.proofs.output.put_hex.Goals as goal

pub returns-then-out-end : goal.returns-then-out-end
returns-then-out-end c =
    let a = c.args in
    put_none (hex_text a.bytes.now) a.at a.out.now (omega (arith, hex_size a.bytes.now, c.if-out-end.true))

pub loop-i-preserved : goal.loop-i-preserved
loop-i-preserved c =
    let a = c.args in
    let l = c.loop-i in
    rw (l.invariant, c.digit.ensures, c.digit-in-loop-i.ensures) (hex_next a.bytes.now a.out.now a.at l.i c.loop-i-test.true (omega arith))

pub returns : goal.returns
returns c =
    let a = c.args in
    let l = c.loop-i in
    let text = hex_text a.bytes.now in
    let size = hex_size a.bytes.now in
    let room : a.at + 2 * length a.bytes.now ≤ length a.out.now = omega arith in
    let done : l.i ≡ length a.bytes.now = omega arith in
    put_paste text a.at a.out.now text l.out (2 * length a.bytes.now) _ (sym (take_all (2 * length a.bytes.now) text (omega arith))) size room (l.invariant ∙ rw done) (omega arith)
