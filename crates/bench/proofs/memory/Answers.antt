use lib.ListN.{length-replicate}
use mathlib.Core.Path.{sym}
use Rattle.std.proofs.Common.{ℕ}
use Rattle.bench.proofs.memory.Goals as goal

pub returns : goal.returns
returns c = sym (length-replicate {0} {A = ℕ} 4194304 0)
