-- No statement is about an empty set: from every state value and any lent bytes every move has an outcome.
use mathlib.Core.Path.{refl, ap}
use mathlib.Core.List.{List}
use Prim.Native.Nat.{ℕ, ◌+◌}
use lib.ListN.{length}
use Rattle.history.specs.Answers.{room_of, Verdict, reply_of}
use Rattle.history.specs.Struck.{Call, open_session, offer, take_back}
use Rattle.session.specs.declared.state.Session.{Session}
use Rattle.journal.specs.Restore.{bytes_after, Part, part_of}
use Rattle.statements.specs.Exact.{state_after, open_in, offer_in, earliest_in, take_back_in, status_in, stretch_in}
use Rattle.statements.proofs.CalledLaws.{TypedCall, called_left, told}
use Rattle.statements.proofs.MeansLaws.{open_means, offer_means, earliest_means, take_back_means, status_means, stretch_means}
use Rattle.statements.specs.Calls.{Outcome, Move, calls, asks_earliest, asks_status, asks_stretch, Heard, replied, stated, handed, Does, by_call, by_earliest, by_status, by_stretch, part_in}

pub record Some (m : Move) (s : Session) (lent : List ℕ) : Type 0 where
  pub answer : Heard
  pub next : Session
  pub bytes : List ℕ
  pub outcome : Does m s lent answer next bytes

-- the settings of an opening have the sizes of the program's types
abbrev pub TypedMove : Move → Type 0
TypedMove (calls c) = TypedCall c
TypedMove (asks_earliest kind rank bank) = Unit {0}
TypedMove asks_status = Unit {0}
TypedMove asks_stretch = Unit {0}

module _ (s : Session) (lent : List ℕ) where
  abbrev room : ℕ
  room = room_of (length lent)

  some_call : (c : Call) (v : Verdict) → Outcome c s lent (reply_of v) (state_after s v) (bytes_after lent s.progress.records v) → Some (calls c) s lent
  some_call c v out = record { answer = replied (reply_of v); next = state_after s v; bytes = bytes_after lent s.progress.records v; outcome = by_call out }

  pub some_outcome : (m : Move) → TypedMove m → Some m s lent
  some_outcome (calls (open_session o)) typed =
      some_call (open_session o) (open_in room s o)
      (called_left (open_session o) typed s lent (open_in room s o) (λ h rep. open_means s h rep room o) _ _ _ (record { answer = refl; state = refl; written = refl }))
  some_outcome (calls (offer kind rank bank t)) typed =
      some_call (offer kind rank bank t) (offer_in room s kind rank bank t)
      (called_left (offer kind rank bank t) typed s lent (offer_in room s kind rank bank t) (λ h rep. offer_means s h rep room kind rank bank t) _ _ _ (record { answer = refl; state = refl; written = refl }))
  some_outcome (calls take_back) typed =
      some_call take_back (take_back_in room s)
      (called_left take_back typed s lent (take_back_in room s) (λ h rep. take_back_means s h rep room) _ _ _ (record { answer = refl; state = refl; written = refl }))
  some_outcome (asks_earliest kind rank bank) typed =
      record { answer = replied (earliest_in s kind rank bank); next = s; bytes = lent; outcome = by_earliest (told (λ h rep. earliest_means s h rep room kind rank bank) refl) }
  some_outcome asks_status typed = record { answer = stated (status_in s); next = s; bytes = lent; outcome = by_status (told (λ h rep. status_means s h rep room) refl) }
  some_outcome asks_stretch typed =
      let place = stretch_in s (length lent) in
      record {
        answer = handed place (part_of place lent);
        next = s;
        bytes = lent;
        outcome =
            by_stretch 0 0 0 (place.start + 0) (told (λ h rep. stretch_means s h rep room (length lent)) refl)
            (told (λ h rep. ap (λ (p : Part). part_in p (record { block = 0; place = 0; bytes = lent })) (stretch_means s h rep room (length lent))) refl);
      }
