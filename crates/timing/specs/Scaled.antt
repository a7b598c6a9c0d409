-- A session at a ratio, and the same one at ratio 1 with every cycle times that ratio.
use Rattle.std.specs.Prelude.{map, ℕ, ◌*◌}
use Rattle.timing.specs.Earliest.{Settings, Stamped, Standing}

-- otherwise equal settings
abbrev pub ratio_one : Settings → Settings
ratio_one s =
    let o = s.opening in
    record { opening = record { ratio = 1; ranks = o.ranks; mode = o.mode; edition = o.edition; client = o.client }; gaps = s.gaps }

abbrev pub times_ratio : ℕ → Stamped → Stamped
times_ratio r x = record { command = x.command; cycle = x.cycle * r }

abbrev pub standing_one : ℕ → Standing → Standing
standing_one r st = record { settings = ratio_one st.settings; number = st.number; survivors = map (times_ratio r) st.survivors; depth = st.depth }
