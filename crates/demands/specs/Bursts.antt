-- Runs that contain bursts. What happened in a burst is what happened in its offers, one by one: so a run with bursts is a run.
use Rattle.std.specs.Prelude.{◌≡◌, List, [], ◌∷◌, ℕ, zero, suc, ◌*◌, ◌≤◌, ◌<◌, length, get_or, take}
use Rattle.history.specs.Answers.{record_size, room_of, Reply, accepted_at}
use Rattle.history.specs.Struck.{Call, offer}
use Rattle.session.specs.declared.state.Session.{Session}
use Rattle.session.specs.State.{fresh_state}
use Rattle.journal.specs.declared.records.Offer.{Offer}
use Rattle.statements.specs.Statements.{Restores}
use Rattle.statements.specs.Calls.{Move, calls, Heard, replied, Does}
use Rattle.statements.specs.Bursts.{Bursts}
use Rattle.demands.specs.Runs.{Event, moved, failed, found_in}

abbrev pub offer_call : Offer → Call
offer_call o = offer o.kind o.rank o.bank o.cycle.0

-- the events of a burst, put on those before it: its first n commands accepted, then the refusal, if one is left
unfoldable pub burst_events : List Offer → ℕ → Reply → List Event → List Event
burst_events [] n reply es = es
burst_events (o ∷ os) zero reply es = moved (calls (offer_call o)) (replied reply) ∷ es
burst_events (o ∷ os) (suc n) reply es = burst_events os n reply (moved (calls (offer_call o)) (replied (accepted_at o.cycle.0)) ∷ es)

-- as `Run`, with bursts among the moves
pub data BurstRun (room : ℕ) : List Event → Session → List ℕ → List ℕ → Type 0 where
  starts : (j : List ℕ) → room_of (length j) ≡ room → BurstRun room [] fresh_state j j
  resumes : {s : Session} (j : List ℕ) → room_of (length j) ≡ room → ((i : ℕ) → get_or j i 0 < 256) → (k at : ℕ) → Restores (take k j) 0 at s → BurstRun room (found_in (take k j)) s j j
  moves : {es : List Event} {s next : Session} {first j after : List ℕ} {m : Move} {a : Heard}
      → BurstRun room es s first j → Does m s j a next after → BurstRun room (moved m a ∷ es) next first after
  bursts : {es : List Event} {s next : Session} {first j after : List ℕ} {os : List Offer} {n : ℕ} {reply : Reply}
      → BurstRun room es s first j → Bursts s j os n reply next after → BurstRun room (burst_events os n reply es) next first after
  fails : {es : List Event} {s next : Session} {first j : List ℕ}
      → BurstRun room es s first j → (k : ℕ) → k ≤ record_size * s.progress.records → (after : List ℕ) → room_of (length after) ≡ room → take k after ≡ take k j
      → (number at : ℕ) → Restores (take k after) number at next → BurstRun room (failed k number at ∷ es) next after after
