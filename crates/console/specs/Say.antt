-- The text of an answer's line.
use Rattle.std.specs.Prelude.{cond, List, [], ◌∷◌, ◌++◌, map, ℕ, ◌-◌, eqb, length, take, replicate}
use Rattle.text.specs.Text.{spaced}
use Rattle.history.specs.Answers.{Reply, Status}
use Rattle.journal.specs.Listing.{space}
use Rattle.requests.specs.declared.forms.Request.{Request}
use Rattle.requests.specs.Forms.{word_of}
use Rattle.datasheet.specs.declared.sheet.GapsAnswer.{GapsAnswer}
use Rattle.console.specs.declared.say.Said.{Said}

-- the numbers of a call's answer, alone or with the earliest cycle, its gap and what that loses; and those of a status
abbrev pub brief : Reply → List ℕ
brief r = r.number ∷ []

abbrev pub full : Reply → List ℕ
full r = r.number ∷ r.cycle ∷ r.gap ∷ r.loss ∷ []

abbrev pub status_numbers : Status → List ℕ
status_numbers s = s.number ∷ s.client ∷ s.opening ∷ s.survivors ∷ s.depth ∷ s.last ∷ s.records ∷ []

-- number and gap number, and behind them the twenty gaps of a data sheet
abbrev pub gaps_numbers : GapsAnswer → List ℕ
gaps_numbers a = a.number ∷ a.gap_number ∷ map (λ g. g.0) a.gaps

-- how many commands of a burst were accepted, and the first refusal
abbrev pub burst_numbers : ℕ → Reply → List ℕ
burst_numbers count r = count ∷ full r

-- a space before the hexadecimal bytes, where there are any
abbrev pub space_before : ℕ → List ℕ
space_before count = cond (eqb count 0) [] space

-- THE LINE: the request's own word, numbers behind it, and a space before what is printed as hexadecimal
unfoldable pub line_text : Request → List ℕ → ℕ → List ℕ
line_text q ns count = (word_of q ++ spaced ns) ++ space_before count

abbrev pub said_text : Said → List ℕ
said_text a = line_text a.request (take a.count a.numbers) a.hex_count

-- the numbers in their array: zeros behind them
abbrev pub in_array : List ℕ → List ℕ
in_array ns = ns ++ replicate (22 - length ns) 0

-- numbers alone, and with the journal's bytes behind them
abbrev pub said_of : Request → List ℕ → Said
said_of q ns = record { request = q; count = length ns; numbers = in_array ns; hex_from = 0; hex_count = 0 }

abbrev pub with_bytes : Said → ℕ → ℕ → Said
with_bytes a from count = record { request = a.request; count = a.count; numbers = a.numbers; hex_from = from; hex_count = count }
