-- Named runs from the fresh state, and the answers that they must get: where a lazy program is caught.
use Rattle.std.specs.Prelude.{List, [], ◌∷◌, ◌++◌, ℕ, cond, eqb}
use Rattle.timing.specs.Earliest.{Settings}
use Rattle.history.specs.Records.{opening}
use Rattle.timing.specs.Editions.{newest}
use Rattle.history.specs.Cases.{settings, settings_in, gaps_a, changed, gaps, losing, reply}
use Rattle.history.specs.Struck.{open_session, offer, take_back}
use Rattle.journal.specs.Bytes.{zeros, bytes_of}
use Rattle.statements.specs.Calls.{Move, calls, asks_earliest, asks_status, Heard, replied, stated}

-- room for ten records
abbrev pub blank : List ℕ
blank = zeros 640

-- settings A of client 7, with t_faw 40; and client 9's
abbrev pub client7 : Settings
client7 = settings_in newest 4 0 (changed 20 40 gaps_a)

abbrev pub client9 : Settings
client9 = record { opening = record { ratio = 1; ranks = 2; mode = 2; edition = newest; client = 9 }; gaps = gaps gaps_a }

-- one ACT of bank 0, and what may follow it
unfoldable pub short_moves : List Move
short_moves =
    calls (open_session client7) ∷
    asks_earliest 1 0 0 ∷
    calls (offer 1 0 0 0) ∷
    asks_earliest 1 0 0 ∷
    calls (offer 2 0 0 4) ∷
    calls (offer 2 0 0 5) ∷
    asks_status ∷
    calls take_back ∷
    asks_status ∷
    []

abbrev pub status : ℕ → ℕ → ℕ → ℕ → Heard
status survivors depth last records = stated (record { number = 0; client = 7; opening = 0; survivors = survivors; depth = depth; last = last; records = records })

unfoldable pub short_answers : List Heard
short_answers =
    replied (reply 0 0 0) ∷
    replied (reply 0 0 0) ∷
    replied (reply 0 0 0) ∷
    replied (reply 0 15 1) ∷
    replied (losing 2 7 5 3) ∷
    replied (reply 0 5 0) ∷
    status 2 2 5 3 ∷
    replied (reply 0 0 0) ∷
    status 1 1 0 4 ∷
    []

-- five ACTs: the fifth pushes the first out of the window, and is taken back
unfoldable pub window_moves : List Move
window_moves =
    calls (open_session client7) ∷
    calls (offer 1 0 0 0) ∷
    calls (offer 1 0 1 2) ∷
    calls (offer 1 0 2 4) ∷
    calls (offer 1 0 3 6) ∷
    asks_earliest 1 0 4 ∷
    calls (offer 1 0 4 10) ∷
    asks_earliest 1 0 5 ∷
    calls take_back ∷
    asks_earliest 1 0 4 ∷
    []

unfoldable pub window_answers : List Heard
window_answers =
    replied (reply 0 0 0) ∷
    replied (reply 0 0 0) ∷
    replied (reply 0 2 0) ∷
    replied (reply 0 4 0) ∷
    replied (reply 0 6 0) ∷
    replied (reply 0 10 20) ∷
    replied (reply 0 10 0) ∷
    replied (reply 0 12 2) ∷
    replied (reply 0 0 0) ∷
    replied (reply 0 10 20) ∷
    []

-- the journal of two openings, client 7's and then client 9's
unfoldable pub two_openings : List ℕ
two_openings = bytes_of (opening client7) ++ bytes_of (opening client9)

-- a journal whose opening is of mode 1 and edition 0, and what follows live: groups of two, and no such opening any more
abbrev pub old : Settings
old = settings 1 1 gaps_a

unfoldable pub old_journal : List ℕ
old_journal = bytes_of (opening old)

-- with room for ten records more
abbrev pub old_lent : List ℕ
old_lent = old_journal ++ blank

unfoldable pub old_moves : List Move
old_moves =
    calls (offer 2 0 0 10) ∷
    asks_earliest 2 0 1 ∷
    asks_earliest 2 0 2 ∷
    calls (open_session old) ∷
    asks_earliest 2 0 2 ∷
    []

unfoldable pub old_answers : List Heard
old_answers =
    replied (reply 0 10 0) ∷
    replied (reply 0 18 6) ∷
    replied (reply 0 16 7) ∷
    replied (reply 10 0 0) ∷
    replied (reply 0 16 7) ∷
    []

-- behind that journal its own session goes on, then client 9 opens, in the newest edition: PREPB, and the earliest REFAB
unfoldable pub mixed_moves : List Move
mixed_moves =
    calls (offer 4 0 3 10) ∷
    asks_earliest 6 0 0 ∷
    calls (open_session client9) ∷
    calls (offer 4 0 3 10) ∷
    asks_earliest 6 0 0 ∷
    []

unfoldable pub mixed_answers : List Heard
mixed_answers =
    replied (reply 0 10 0) ∷
    replied (reply 0 11 0) ∷
    replied (reply 0 0 0) ∷
    replied (reply 0 10 0) ∷
    replied (reply 0 31 15) ∷
    []

-- the mains fail, and as many records are left: the old session with its edition, or the new one with its own
unfoldable pub asked_again : List Move
asked_again = asks_earliest 6 0 0 ∷ asks_status ∷ []

abbrev pub again : ℕ → ℕ → ℕ → ℕ → ℕ → List Heard
again cycle gap client opened records =
    replied (reply 0 cycle gap) ∷
    stated (record { number = 0; client = client; opening = opened; survivors = 1; depth = 1; last = 10; records = records }) ∷
    []

unfoldable pub answers_again : ℕ → List Heard
answers_again left = cond (eqb left 2) (again 11 0 7 0 2) (again 31 15 9 2 4)

-- what the banks can do: a read of a closed bank, an ACT of an open one, a refresh with banks open, a PREAB that closes both and is taken back
unfoldable pub bank_moves : List Move
bank_moves =
    calls (open_session client9) ∷
    calls (offer 2 0 0 10) ∷
    calls (offer 1 0 0 0) ∷
    calls (offer 1 0 1 8) ∷
    calls (offer 1 0 0 9) ∷
    calls (offer 2 0 0 18) ∷
    calls (offer 6 0 0 90) ∷
    calls (offer 5 0 0 60) ∷
    calls (offer 2 0 1 100) ∷
    calls take_back ∷
    calls (offer 2 0 1 61) ∷
    []

unfoldable pub bank_answers : List Heard
bank_answers =
    replied (reply 0 0 0) ∷
    replied (reply 12 0 0) ∷
    replied (reply 0 0 0) ∷
    replied (reply 0 8 0) ∷
    replied (reply 12 0 0) ∷
    replied (reply 0 18 0) ∷
    replied (reply 12 0 0) ∷
    replied (reply 0 60 0) ∷
    replied (reply 12 0 0) ∷
    replied (reply 0 0 0) ∷
    replied (reply 0 61 0) ∷
    []
