-- The two clocks: a gap of g DRAM cycles asks for g / ratio controller cycles, rounded up; what is lost by that, in DRAM cycles.
use Rattle.std.specs.Prelude.{ℕ, ◌+◌, ◌-◌, ◌*◌, ◌/◌}
use Rattle.timing.specs.declared.clocks.ControllerCycles.{ControllerCycles}
use Rattle.timing.specs.declared.clocks.Converted.{Converted}
use Rattle.timing.specs.declared.clocks.DramCycles.{DramCycles}
use Rattle.timing.specs.declared.rules.Opening.{Opening}

abbrev pub cycles : ℕ → ControllerCycles
cycles n = record { 0 = n }

abbrev pub ceil_div : ℕ → ℕ → ℕ
ceil_div g ratio = (g + (ratio - 1)) / ratio

-- the only step from DRAM cycles to controller cycles gives both: the rounded gap; and rounded gap times ratio, less the gap
abbrev pub rounded_up : Opening → DramCycles → ℕ
rounded_up o g = ceil_div g.0 o.ratio

abbrev pub lost : Opening → DramCycles → ℕ
lost o g = rounded_up o g * o.ratio - g.0

abbrev pub converted : Opening → DramCycles → Converted
converted o g = record { rounded = cycles (rounded_up o g); lost = record { 0 = lost o g } }
