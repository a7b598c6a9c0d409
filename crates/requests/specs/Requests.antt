-- What a line asks.
use Rattle.std.specs.Prelude.{◌≡◌, Bool, cond, not, ◌&&◌, ◌||◌, List, [], ◌∷◌, map, ℕ, suc, ◌-◌, eqb, leb, ltb, length, take, get_or, Option, Some, None}
use Rattle.std.specs.List.{find}
use Rattle.std.specs.Option.{option_map, option_or, unwrap_or}
use Rattle.std.specs.Str.{bytes_eq}
use Rattle.timing.specs.declared.kinds.CommandKind.{CommandKind}
use Rattle.timing.specs.declared.kinds.CommandKind.TheVariants.{Act, Rd, Wr, Prepb, Preab, Refab, Refpb}
use Rattle.timing.specs.Kinds.{code_of, name_of}
use Rattle.requests.specs.declared.forms.Form.{Form}
use Rattle.requests.specs.declared.forms.Place.{Place}
use Rattle.requests.specs.declared.forms.Place.TheVariants.{Kind, UpTo}
use Rattle.requests.specs.declared.forms.Request.{Request}
use Rattle.requests.specs.declared.forms.Request.TheVariants as asks
use Rattle.requests.specs.declared.requests.Asked.{Asked}
use Rattle.requests.specs.Words.{words, index_of, number_of}
use Rattle.requests.specs.Forms.{Row, table, form_of, place_at, is_whole}

-- a kind's name in capitals stands for its code number
abbrev pub kinds : List CommandKind
kinds = Act ∷ Rd ∷ Wr ∷ Prepb ∷ Preab ∷ Refab ∷ Refpb ∷ []

unfoldable pub kind_index : List ℕ → Option ℕ
kind_index word = index_of word (map name_of kinds)

abbrev pub kind_number : List ℕ → Option ℕ
kind_number word = option_map (λ k. code_of (get_or kinds k Act)) (kind_index word)

abbrev pub within : ℕ → Option ℕ → Option ℕ
within most (Some n) = cond (leb n most) (Some n) None
within most None = None

-- A WORD AT ITS PLACE: a kind's name where one may stand, or a number up to the place's most
unfoldable pub number_at : Place → List ℕ → Option ℕ
number_at Kind word = option_or (kind_number word) (number_of word)
number_at (UpTo most) word = within most (number_of word)

-- words as numbers, if each of them is one
abbrev pub also : Option ℕ → Option (List ℕ) → Option (List ℕ)
also (Some n) ns = option_map (λ more. n ∷ more) ns
also None ns = None

-- the words from place i on
unfoldable pub read_from : Form → ℕ → List (List ℕ) → Option (List ℕ)
read_from f i [] = Some []
read_from f i (w ∷ ws) = also (number_at (place_at f i) w) (read_from f (suc i) ws)

-- WHAT IS ASKED: a request, and its numbers
pub record Asking : Type 0 where
  pub request : Request
  pub numbers : List ℕ

abbrev pub nothing : Asking
nothing = record { request = asks.Nothing; numbers = [] }

abbrev pub malformed : Asking
malformed = record { request = asks.Malformed; numbers = [] }

-- a row that is for memory only does not stand where the journal is a file
abbrev pub stands : Bool → Row → Bool
stands in_file r = not in_file || r.form.in_file

-- the request of the table's row with a first word; it is malformed if none stands there
unfoldable pub named : Bool → List ℕ → Request
named in_file word = unwrap_or (option_map (λ r. r.request) (find (λ r. bytes_eq r.word word && stands in_file r) table)) asks.Malformed

-- the numbers fill the request's places, or the line is malformed
unfoldable pub filled : Request → Option (List ℕ) → Asking
filled q (Some ns) = cond (is_whole (form_of q) (length ns)) (record { request = q; numbers = ns }) malformed
filled q None = malformed

-- no word, or a first word that begins with `#`, asks nothing
unfoldable pub asked_by : Bool → List (List ℕ) → Asking
asked_by in_file [] = nothing
asked_by in_file (word ∷ ws) = let q = named in_file word in cond (eqb (get_or word 0 0) 35) nothing (filled q (read_from (form_of q) 0 ws))

-- a carriage return right before a newline is ignored
abbrev pub without_return : List ℕ → List ℕ
without_return line = let last = length line - 1 in cond (eqb (get_or line last 0) 13) (take last line) line

-- a line that a newline ended
abbrev pub whole : List ℕ → Bool → Asking
whole line in_file = cond (ltb 4096 (length line)) malformed (asked_by in_file (words (without_return line)))

-- what stands behind the last newline was cut short, whatever it says
abbrev pub cut_short : List ℕ → Asking
cut_short [] = nothing
cut_short (b ∷ bs) = malformed

-- A LINE, whether a newline ended it, and whether the journal is a file
unfoldable pub asked : List ℕ → Bool → Bool → Asking
asked line ended in_file = cond ended (whole line in_file) (cut_short line)

-- a request with numbers
abbrev pub asking_of : Request → List ℕ → Asking
asking_of q ns = record { request = q; numbers = ns }

-- how many numbers were read, where each word is one; they stand at the front of the array that was lent
abbrev pub IsRead : Option (List ℕ) → Option ℕ → List ℕ → Type 0
IsRead (Some ns) r after = (r ≡ Some (length ns)) × (take (length ns) after ≡ ns)
IsRead None r after = r ≡ None

-- THE PROGRAM'S ANSWER: the request, and its numbers at the front of the array that was lent
pub record Asks (a : Asking) (r : Asked) (after : List ℕ) : Type 0 where
  pub request : r.request ≡ a.request
  pub count : r.count ≡ length a.numbers
  pub numbers : take r.count after ≡ a.numbers
