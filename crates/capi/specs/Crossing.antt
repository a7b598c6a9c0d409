-- The numbers of a status and of a listing that cross to C, as what they stand for.
use Rattle.std.specs.Prelude.{◌≡◌, Bool, cond, List, ℕ}
use Rattle.history.specs.Answers as answers
use Rattle.session.specs.declared.state.Session.{Session}
use Rattle.listing.specs.Run.{ListsPart}
use Rattle.capi.specs.declared.crossing.StatusNumbers.{StatusNumbers}
use Rattle.capi.specs.declared.crossing.ListedPart.{ListedPart}

abbrev pub status_given : StatusNumbers → answers.Status
status_given r =
    record {
      number = r.number;
      client = r.client;
      opening = r.opening;
      survivors = r.survivors;
      depth = r.depth;
      last = r.last;
      records = r.records;
    }

-- what a listing of a part leaves, by the listing's own statement; `ended` is 1 where it has ended and 0 where not
pub record ListsForC (part : List ℕ) (last : Bool) (s : Session) (before after : List ℕ) (r : ListedPart) : Type 0 where
  pub stopped : Bool
  pub ended : r.ended ≡ cond stopped 1 0
  pub lists : ListsPart part last s before after (record { session = r.session; written = r.written; stopped = stopped })
