-- Demand 1: what every outcome of a call shows, whatever the state value.
use Rattle.std.specs.Prelude.{◌≡◌, ◌≢◌, ℕ, ◌+◌, ◌*◌, ◌≤◌, length}
use mathlib.Core.List.{List, [], ◌∷◌, Memᴰ}
use Rattle.history.specs.Records.{Record}
use Rattle.history.specs.Answers.{Reply, Status, record_size}
use Rattle.history.specs.Struck.{Call, open_session, offer, take_back}
use Rattle.session.specs.declared.state.Session.{Session}
use Rattle.session.specs.State.{fresh_state}
use Rattle.journal.specs.Bytes.{bytes_of}
use Rattle.journal.specs.Restore.{put_at, Part}
use Rattle.statements.specs.Calls.{Seen, part_in}

-- the numbers that document 01 gives each call, in its order, and 0
unfoldable pub own_numbers : Call → List ℕ
own_numbers (open_session o) = 10 ∷ 9 ∷ 0 ∷ []
own_numbers (offer kind rank bank t) = 1 ∷ 2 ∷ 3 ∷ 4 ∷ 5 ∷ 6 ∷ 12 ∷ 7 ∷ 9 ∷ 0 ∷ []
own_numbers take_back = 1 ∷ 8 ∷ 9 ∷ 0 ∷ []

-- the cycle that an acceptance shows: an offer's own
unfoldable pub own_cycle : Call → ℕ
own_cycle (open_session o) = 0
own_cycle (offer kind rank bank t) = t
own_cycle take_back = 0

-- exactly the 64 bytes at 64 times the record count are this record's
pub record Writes (s : Session) (lent bytes : List ℕ) : Type 0 where
  pub one : Record
  pub place : bytes ≡ put_at lent (record_size * s.progress.records) (bytes_of one)

pub record Plainly (c : Call) (s : Session) (lent : List ℕ) (reply : Reply) (next : Session) (bytes : List ℕ) : Type 0 where
  pub own : Memᴰ reply.number (own_numbers c)
  pub same_state : reply.number ≢ 0 → next ≡ s
  pub same_bytes : reply.number ≢ 0 → bytes ≡ lent
  pub zeros : reply.number ≢ 0 → reply.number ≢ 7 → (reply.cycle ≡ 0) × (reply.gap ≡ 0) × (reply.loss ≡ 0)
  pub accepted : reply.number ≡ 0 → (reply.cycle ≡ own_cycle c) × (reply.gap ≡ 0) × (reply.loss ≡ 0)
  pub writes : reply.number ≡ 0 → Writes s lent bytes

-- the questions; they hand back no state and no bytes
pub record EarliestPlainly (reply : Reply) : Type 0 where
  pub own : Memᴰ reply.number (1 ∷ 2 ∷ 3 ∷ 4 ∷ 0 ∷ [])
  pub zeros : reply.number ≢ 0 → (reply.cycle ≡ 0) × (reply.gap ≡ 0) × (reply.loss ≡ 0)

pub record StatusPlainly (status : Status) : Type 0 where
  pub own : Memᴰ status.number (1 ∷ 0 ∷ [])
  pub zeros : status.number ≢ 0 → status ≡ record { number = 1; client = 0; opening = 0; survivors = 0; depth = 0; last = 0; records = 0 }

-- the stretch is a part of the lent bytes, that part itself and not a copy
pub record StretchPlainly (lent : Seen) (place : Part) (part : Seen) : Type 0 where
  pub inside : place.start + place.size ≤ length lent.bytes
  pub itself : part ≡ part_in place lent

-- a refused restore hands back a state with no session; only 11 names a record
pub record RestorePlainly (number at : ℕ) (next : Session) : Type 0 where
  pub own : Memᴰ number (9 ∷ 11 ∷ 0 ∷ [])
  pub zeros : number ≢ 11 → at ≡ 0
  pub refused : number ≢ 0 → next ≡ fresh_state
  pub no_session : number ≢ 0 → next.terms.is_open ≡ 0
