-- The states that the calls reach from the fresh one: with any lent bytes, of another length each time, restores of any bytes, and what a listing
-- of any bytes hands on.
use Rattle.std.specs.Prelude.{Bool, List, ℕ, ◌<◌, get_or}
use Rattle.history.specs.Answers.{Reply}
use Rattle.history.specs.Struck.{Call}
use Rattle.session.specs.declared.state.Session.{Session}
use Rattle.session.specs.State.{fresh_state}
use Rattle.statements.specs.Statements.{Restores}
use Rattle.statements.specs.Calls.{Outcome}
use Rattle.listing.specs.declared.records.Listed.{Listed}
use Rattle.listing.specs.Run.{ListsPart}

pub data Reached : Session → Type 0 where
  from_fresh : Reached fresh_state
  by_call : {s next : Session} → Reached s → (c : Call) (lent : List ℕ) (reply : Reply) (bytes : List ℕ) → Outcome c s lent reply next bytes → Reached next
  by_restore : {next : Session} → (bytes : List ℕ) (number at : ℕ) → Restores bytes number at next → Reached next
  by_listing : {s : Session} → Reached s → (part : List ℕ) → ((i : ℕ) → get_or part i 0 < 256) → (last : Bool) (before after : List ℕ) (r : Listed) → ListsPart part last s before after r
      → Reached r.session
