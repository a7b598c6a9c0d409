-- Request 2026-06: the same calls at ratio 1, every cycle times r.
use Rattle.std.specs.Prelude.{◌≡◌, ℕ, ◌*◌, ◌≤◌}
use Rattle.timing.specs.Scaled.{ratio_one}
use Rattle.history.specs.Answers.{last_cycle}
use Rattle.history.specs.Struck.{Call, open_session, offer, take_back}

abbrev pub scaled : ℕ → Call → Call
scaled r (open_session s) = open_session (ratio_one s)
scaled r (offer kind rank bank t) = offer kind rank bank (t * r)
scaled r take_back = take_back

-- an opening is at ratio r; a cycle times r is still within the limit
abbrev pub Within : ℕ → Call → Type 0
Within r (open_session s) = s.opening.ratio ≡ r
Within r (offer kind rank bank t) = t * r ≤ last_cycle
Within r take_back = Unit {0}
