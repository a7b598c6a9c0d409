-- The replies that a status and a stretch stand for, and the state behind an opening.
use Rattle.std.specs.Prelude.{List, Option, Some, None, Result, Ok, Err}
use Rattle.timing.specs.declared.clocks.DramCycles.{DramCycles}
use Rattle.timing.specs.declared.rules.Opening.{Opening}
use Rattle.history.specs.Answers as answers
use Rattle.session.specs.declared.state.Session.{Session}
use Rattle.session.specs.State.{opened_state}
use Rattle.journal.specs.Restore.{Part}
use Rattle.judging.specs.declared.refusals.Refusal.{Refusal}
use Rattle.checker.specs.declared.answers.Status.{Status}
use Rattle.checker.specs.declared.answers.Stretch.{Stretch}

abbrev pub known_status : Status → answers.Status
known_status s =
    record {
      number = 0;
      client = s.client;
      opening = s.opening;
      survivors = s.survivors;
      depth = s.depth;
      last = s.last.0;
      records = s.records;
    }

-- none where no session is open
abbrev pub status_replied : Option Status → answers.Status
status_replied (Some s) = known_status s
status_replied None = record { number = 1; client = 0; opening = 0; survivors = 0; depth = 0; last = 0; records = 0 }

-- where the stretch stands in the lent journal
abbrev pub stretch_told : Stretch → Part
stretch_told r = record { start = r.start; size = r.size }

-- the state behind an opening that was stored, or refused
abbrev pub behind : Session → List DramCycles → Result Opening Refusal → Session
behind s gaps (Ok o) = opened_state s.progress.records o gaps
behind s gaps (Err r) = s
