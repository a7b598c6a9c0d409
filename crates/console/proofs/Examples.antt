-- The definitions, computed on answers.
use mathlib.Core.Path.{◌≡◌, refl}
use mathlib.Core.List.{[], ◌∷◌}
use Rattle.text.specs.Text.{text, digits, spaced}
use Rattle.requests.specs.declared.forms.Request.TheVariants as asks
use Rattle.requests.specs.Forms.{word_of}
use Rattle.history.specs.Answers.{Reply}
use Rattle.console.specs.Say.{full, burst_numbers, line_text}
use Rattle.console.specs.Output.{hex_text}

unfoldable pub meaning : Unit {0}
unfolding text digits spaced word_of line_text hex_text
meaning = tt

abbrev early : Reply
early = record { number = 7; cycle = 120; gap = 3; loss = 2 }

too_early : (line_text asks.Offer (full early) 0 ≡ text "offer 7 120 3 2") × (line_text asks.Burst (burst_numbers 5 early) 0 ≡ text "burst 5 7 120 3 2")
unfolding meaning
too_early = (refl, refl)

bytes_shown : hex_text (0 ∷ 175 ∷ []) ≡ text "00af"
unfolding meaning
bytes_shown = refl

-- a word with one number, with none before bytes, alone, and no word
words_said : (line_text asks.Stretch (0 ∷ []) 0 ≡ text "stretch 0") × (line_text asks.Bytes [] 2 ≡ text "bytes ") × (line_text asks.Malformed [] 0 ≡ text "?") × (line_text asks.Nothing [] 0 ≡ [])
unfolding meaning
words_said = (refl, refl, refl, refl)
