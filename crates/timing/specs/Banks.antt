-- The state of the banks, from edition 2 on. Whether a bank is open is read off all survivors: all are closed after an opening, ACT opens its bank, PREPB
-- closes its own, PREAB all of its rank; reads, writes and refreshes change nothing.
use Rattle.std.specs.Prelude.{Bool, false, cond, not, ◌&&◌, ◌||◌, List, [], ◌∷◌, ℕ, zero, suc, eqb}
use Rattle.timing.specs.declared.kinds.CommandKind.{CommandKind}
use Rattle.timing.specs.declared.kinds.CommandKind.TheVariants.{Act, Rd, Wr, Prepb, Preab, Refab, Refpb}
use Rattle.timing.specs.declared.rules.Command.{Command}
use Rattle.timing.specs.Editions.{bank_states, has}
use Rattle.timing.specs.Kinds.{same_kind}
use Rattle.timing.specs.Earliest.{Stamped, Standing}

-- a command that speaks of a bank: ACT and PREPB of their own, PREAB of each of its rank
abbrev pub speaks : ℕ → Command → Bool
speaks bank c = same_kind c.kind Preab || (same_kind c.kind Act || same_kind c.kind Prepb) && eqb c.bank bank

abbrev pub speaks_of : ℕ → ℕ → Command → Bool
speaks_of rank bank c = eqb c.rank rank && speaks bank c

-- open if the last survivor that speaks of the bank is an ACT; closed if none does
unfoldable pub is_open_bank : ℕ → ℕ → List Stamped → Bool
is_open_bank rank bank [] = false
is_open_bank rank bank (x ∷ xs) = cond (speaks_of rank bank x.command) (same_kind x.command.kind Act) (is_open_bank rank bank xs)

-- one of so many banks, counted from 0, is as a test says
unfoldable pub some_bank : ℕ → (ℕ → Bool) → Bool
some_bank zero test = false
some_bank (suc n) test = test n || some_bank n test

abbrev pub banks : ℕ
banks = 16

-- WHAT A COMMAND NEEDS, by which banks of its rank are open: ACT and REFPB a closed bank, RD and WR an open one, REFAB all of the rank closed. Precharging
-- is always allowed
abbrev pub wrong_for : CommandKind → ℕ → (ℕ → Bool) → Bool
wrong_for Act bank is_open = is_open bank
wrong_for Rd bank is_open = not (is_open bank)
wrong_for Wr bank is_open = not (is_open bank)
wrong_for Prepb bank is_open = false
wrong_for Preab bank is_open = false
wrong_for Refab bank is_open = some_bank banks is_open
wrong_for Refpb bank is_open = is_open bank

abbrev pub wrong_bank : Standing → Command → Bool
wrong_bank st c = has st.settings.opening bank_states && wrong_for c.kind c.bank (λ bank. is_open_bank c.rank bank st.survivors)
