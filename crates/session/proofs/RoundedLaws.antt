-- The rounded gaps, one by one: what the loop that fills them stores.
use mathlib.Core.Path.{◌≡◌, sym}
use mathlib.Core.List.{List}
use Prim.Native.Nat.{ℕ}
use lib.ListN.{length, get_or, length-map, get_or-map}
use Rattle.timing.specs.declared.clocks.DramCycles.{DramCycles}
use Rattle.timing.specs.declared.rules.Opening.{Opening}
use Rattle.timing.specs.Clocks.{cycles, rounded_up}
use Rattle.session.specs.State.{rounded_gaps}

module _ (o : Opening) (gaps : List DramCycles) where
  pub rounded_size : length (rounded_gaps o gaps) ≡ length gaps
  unfolding rounded_gaps
  rounded_size = length-map gaps (λ g. cycles (rounded_up o g))

  pub rounded_at : (i : ℕ) → cycles (rounded_up o (get_or gaps i (record { 0 = 0 }))) ≡ get_or (rounded_gaps o gaps) i (cycles (rounded_up o (record { 0 = 0 })))
  unfolding rounded_gaps
  rounded_at i = sym (get_or-map (λ g. cycles (rounded_up o g)) gaps i (record { 0 = 0 }))
