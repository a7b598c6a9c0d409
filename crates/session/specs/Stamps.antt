-- A stamp is the cycle plus 1, 0 for none; storing and reading reduce, so that any state value is a value.
use Rattle.std.specs.Prelude.{ℕ, ◌+◌, ◌%◌}
use Rattle.session.specs.declared.stamps.Stamp.{Stamp}

abbrev pub stamp : ℕ → Stamp
stamp n = record { 0 = n }

abbrev pub cycle_bound : ℕ
cycle_bound = 1099511627776

abbrev pub stamp_bound : ℕ
stamp_bound = 2199023255552

abbrev pub stored : ℕ → ℕ
stored cycle = cycle % cycle_bound + 1

-- the cycle after the stamped command
abbrev pub read_back : ℕ → ℕ
read_back n = n % stamp_bound
