-- The table of forms.
use Rattle.std.specs.Prelude.{Bool, true, false, cond, not, ◌&&◌, List, [], ◌∷◌, map, ℕ, ◌+◌, ◌%◌, eqb, ltb}
use Prim.Native.String.{String}
use Rattle.text.specs.Text.{text}
use Rattle.requests.specs.declared.forms.Form.{Form}
use Rattle.requests.specs.declared.forms.Place.{Place}
use Rattle.requests.specs.declared.forms.Place.TheVariants.{Kind, UpTo}
use Rattle.requests.specs.declared.forms.Request.{Request}
use Rattle.requests.specs.declared.forms.Request.TheVariants as asks

-- a request, its word, and what stands behind it
pub record Row : Type 0 where
  pub request : Request
  pub word : List ℕ
  pub form : Form

-- the places stand there once, or in any number of groups
abbrev pub once : Bool
once = false

abbrev pub again : Bool
again = true

-- a form stands wherever the journal is, or only where it is memory alone
abbrev pub anywhere : Bool
anywhere = true

abbrev pub in_memory : Bool
in_memory = false

abbrev pub form : ℕ → ℕ → ℕ → ℕ → ℕ → Bool → Bool → Form
form kinds longs words halves bytes times where' =
    record { kinds = kinds; longs = longs; words = words; halves = halves; bytes = bytes; again = times; in_file = where' }

abbrev pub row : String → Request → ℕ → ℕ → ℕ → ℕ → ℕ → Bool → Bool → Row
row word request kinds longs words halves bytes times where' =
    record { request = request; word = text word; form = form kinds longs words halves bytes times where' }

-- a request's row: its word; how many kinds stand behind it, and how many numbers of 64, 32, 16 and 8 bits
abbrev pub row_of : Request → Row
row_of asks.Nothing = row "" asks.Nothing 0 0 0 0 0 once anywhere
row_of asks.Malformed = row "?" asks.Malformed 0 0 0 0 0 once anywhere
row_of asks.Open = row "open" asks.Open 0 3 1 20 0 once anywhere
row_of asks.Offer = row "offer" asks.Offer 1 3 0 0 0 once anywhere
row_of asks.Ask = row "ask" asks.Ask 1 2 0 0 0 once anywhere
row_of asks.Back = row "back" asks.Back 0 0 0 0 0 once anywhere
row_of asks.Status = row "status" asks.Status 0 0 0 0 0 once anywhere
row_of asks.Stretch = row "stretch" asks.Stretch 0 0 0 0 0 once anywhere
row_of asks.Lend = row "lend" asks.Lend 0 1 0 0 0 once anywhere
row_of asks.Restore = row "restore" asks.Restore 0 1 0 0 0 once in_memory
row_of asks.Poke = row "poke" asks.Poke 0 1 0 0 1 once in_memory
row_of asks.Bytes = row "bytes" asks.Bytes 0 2 0 0 0 once anywhere
row_of asks.Gaps = row "gaps" asks.Gaps 0 21 0 0 0 once anywhere
row_of asks.Burst = row "burst" asks.Burst 1 3 0 0 0 again anywhere

unfoldable pub word_of : Request → List ℕ
word_of q = (row_of q).word

unfoldable pub form_of : Request → Form
form_of q = (row_of q).form

-- what a line's first word can name
abbrev pub named_requests : List Request
named_requests =
    asks.Malformed ∷ asks.Open ∷ asks.Offer ∷ asks.Ask ∷ asks.Back ∷ asks.Status ∷ asks.Stretch ∷ asks.Lend ∷ asks.Restore ∷ asks.Poke ∷ asks.Bytes ∷ asks.Gaps ∷ asks.Burst ∷ []

-- THE TABLE
abbrev pub table : List Row
table = map row_of named_requests

-- a place takes a kind's name or any number of 64 bits, or a number up to a most: kinds stand first, and behind them numbers of 64, 32, 16
-- and 8 bits
unfoldable pub place_in : Form → ℕ → Place
place_in f i =
    cond (ltb i f.kinds) Kind
    (cond (ltb i (f.kinds + f.longs)) (UpTo 18446744073709551615)
    (cond (ltb i (f.kinds + f.longs + f.words)) (UpTo 4294967295)
    (cond (ltb i (f.kinds + f.longs + f.words + f.halves)) (UpTo 65535) (UpTo 255))))

abbrev pub size_of : Form → ℕ
size_of f = f.kinds + f.longs + f.words + f.halves + f.bytes

-- of places that come again, the one in its group
unfoldable pub index_in : Form → ℕ → ℕ
index_in f i = cond (f.again && not (eqb (size_of f) 0)) (i % size_of f) i

unfoldable pub place_at : Form → ℕ → Place
place_at f i = place_in f (index_in f i)

-- so many numbers fill the places once, or in whole groups
unfoldable pub is_whole : Form → ℕ → Bool
is_whole f n = eqb (index_in f n) (cond f.again 0 (size_of f))
