-- Every reached state stands for some history, so no promise is about an empty set.
use mathlib.Core.Path.{sym, subst}
use mathlib.Core.List.{List, []}
use Prim.Native.Nat.{ℕ}
use lib.ListN.{length}
use Rattle.history.specs.Records.{History}
use Rattle.history.specs.Answers.{room_of, Reply, next_of}
use Rattle.history.specs.Struck.{Call, open_session, offer, take_back, verdict}
use Rattle.session.specs.declared.state.Session.{Session}
use Rattle.journal.specs.Restore.{history_of, restore_of}
use Rattle.statements.specs.Rep.{Rep}
use Rattle.statements.proofs.KeepsLaws.{fresh_rep}
use Rattle.statements.specs.Calls.{Outcome}
use Rattle.listing.specs.Run.{has_room}
use Rattle.listing.proofs.WholeLaws.{part_stands}
use Rattle.demands.specs.Reached.{Reached, from_fresh, by_call, by_restore, by_listing}

-- an outcome goes on standing for the history that document 01 gives
pub outcome_stands : (c : Call) (s next : Session) (lent bytes : List ℕ) (reply : Reply) → Outcome c s lent reply next bytes → (h : History) → Rep s h → Rep next (next_of h (verdict (room_of (length lent)) h c))
outcome_stands (open_session o) s next lent bytes reply out h rep = out.state h rep
outcome_stands (offer kind rank bank t) s next lent bytes reply out h rep = out.state h rep
outcome_stands take_back s next lent bytes reply out h rep = out.state h rep

pub reached_stands : {s : Session} → Reached s → (h : History) × Rep s h
reached_stands from_fresh = ([], fresh_rep)
reached_stands (by_call {s = s} {next = next} before c lent reply bytes out) =
    let w = reached_stands before in (next_of w.0 (verdict (room_of (length lent)) w.0 c), outcome_stands c s next lent bytes reply out w.0 w.1)
reached_stands (by_restore bytes number at told) = (history_of (restore_of bytes), told.state)
reached_stands (by_listing {s = s} before part small last out after r lists) =
    let w = reached_stands before in
    let e = part_stands part small (has_room (length part) (length out)) s w.0 w.1 in
    (e.0, subst (λ (z : Session). Rep z e.0) (sym lists.session) e.1)
