-- Whether the state's open banks are wrong for a command, as the state has them.
use Rattle.std.specs.Prelude.{Bool, cond, ◌&&◌, ℕ, ◌+◌, ◌*◌, ◌%◌}
use Rattle.timing.specs.declared.kinds.CommandKind.{CommandKind}
use Rattle.timing.specs.declared.kinds.CommandKind.TheVariants.{Act, Rd, Wr, Prepb, Preab, Refab, Refpb}
use Rattle.timing.specs.declared.rules.Opening.{Opening}
use Rattle.timing.specs.declared.rules.Command.{Command}
use Rattle.timing.specs.Kinds.{all_banks}
use Rattle.timing.specs.Banks.{wrong_for}
use Rattle.timing.specs.Editions.{bank_states, has}
use Rattle.session.specs.State.{is_up}

abbrev pub open_by : ℕ → ℕ → ℕ → Bool
open_by up rank bank = is_up up (rank % 2 * 16 + bank)

abbrev pub wrong_by : ℕ → Opening → Command → Bool
wrong_by up o c = has o bank_states && wrong_for c.kind c.bank (λ bank. open_by up c.rank bank)

-- THE INSIDE OF THAT STEP, which no statement of a call reads: the bit from which on a command looks, the bits that it looks at from there on, and which of these
-- must be up. REFAB looks at the sixteen of its rank
abbrev pub bit_for : CommandKind → ℕ → ℕ → ℕ
bit_for k rank bank = cond (all_banks k) (rank % 2 * 16) (rank % 2 * 16 + bank)

abbrev pub looked_at : CommandKind → ℕ
looked_at Act = 1
looked_at Rd = 1
looked_at Wr = 1
looked_at Prepb = 0
looked_at Preab = 0
looked_at Refab = 65535
looked_at Refpb = 1

abbrev pub wanted : CommandKind → ℕ
wanted Act = 0
wanted Rd = 1
wanted Wr = 1
wanted Prepb = 0
wanted Preab = 0
wanted Refab = 0
wanted Refpb = 0
