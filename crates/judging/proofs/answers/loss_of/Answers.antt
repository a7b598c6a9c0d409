-- `loss_of` meets its contract: what the conversion of that gap loses; a gap that is not there loses nothing.
use mathlib.Core.Path.{◌≡◌, refl}
use mathlib.Core.Logic.{⊎_elim}
use mathlib.Core.List.{List}
use Rattle.std.proofs.Common.{rules}
use Prim.Native.Nat.{ℕ, ◌-◌, ◌<◌}
use native.Mathlib.Omega.{arith}
use lib.ListN.{length, get_or-eq_default}
use borrow.Author.Tests.{ne_eqb}
use Rattle.timing.specs.declared.clocks.DramCycles.{DramCycles}
use Rattle.timing.specs.declared.rules.Opening.{Opening}
use Rattle.timing.specs.Earliest.{loss_of}
use Rattle.scan.proofs.ScanLaws.{rounds_zero}
use Rattle.judging.proofs.answers.loss_of.Goals as goal

-- no gap stands there
beyond : (o : Opening) (gaps : List DramCycles) (n : ℕ) → length gaps < n → 0 ≡ loss_of (record { opening = o; gaps = gaps }) n
beyond o gaps n l =
    rw (ne_eqb n 0 (λ z. omega (arith, z, l)), get_or-eq_default gaps (record { 0 = 0 }) {n = n - 1} (omega (arith, l)), rounds_zero o.ratio) (omega arith)

pub returns-then-gap-eq0 : goal.returns-then-gap-eq0
returns-then-gap-eq0 c =
    let a = c.args in
    let long : length a.gaps.now ≡ 20 = search rules in
    ⊎_elim (λ e. rw e refl) (λ p. beyond a.opening a.gaps.now a.gap (omega (arith, long, p.1))) c.then-gap-eq0.either
