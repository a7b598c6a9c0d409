-- The demands hold for runs that contain bursts: such a run is a run, of the same events. Nothing of a burst is left open.
use mathlib.Core.Path.{◌≡◌, sym, ◌∙◌, ap, subst}
use mathlib.Core.List.{List, [], ◌∷◌}
use Prim.Native.Nat.{ℕ}
use native.Mathlib.Numerals.{add-one}
use Rattle.history.specs.Answers.{Reply, plain, accepted_at}
use Rattle.session.specs.declared.state.Session.{Session}
use Rattle.journal.specs.declared.records.Offer.{Offer}
use Rattle.statements.specs.Calls.{Does, calls, replied, by_call}
use Rattle.statements.specs.Bursts.{Burst, in_a_row, Bursts, InARow, none_left, one_refused, one_accepted}
use Rattle.statements.proofs.BurstLaws.{accepted_reply, burst_is_offers}
use Rattle.demands.specs.Runs.{Event, moved, Run, starts, resumes, moves, fails}
use Rattle.demands.specs.Reached.{Reached, by_call as reached-by-call}
use Rattle.demands.specs.Bursts as bursts
use Rattle.demands.specs.Bursts.{offer_call, burst_events, BurstRun}

-- offers in a row go on from a run
row_runs : {room : ℕ} {es : List Event} {s next : Session} {first j after : List ℕ} {os : List Offer} {n : ℕ} {reply : Reply}
    → Run room es s first j → InARow os s j n reply next after → Run room (burst_events os n reply es) next first after
unfolding burst_events
row_runs run none_left = run
row_runs run (one_refused p some) = moves run (by_call p)
row_runs {room} {es} {first = first} run (one_accepted {o = o} {os = os} {s = s} {mid = mid} {next = next} {lent = lent} {between = between} {bytes = bytes} {reply = reply} {n = n} p none rest) =
    let one = subst (λ (q : Reply). Does (calls (offer_call o)) s lent (replied q) mid between) (accepted_reply s lent o p none) (by_call p) in
    rw (add-one n) (row_runs {es = moved (calls (offer_call o)) (replied (accepted_at o.cycle.0)) ∷ es} (moves run one) rest)

-- A RUN WITH BURSTS IS A RUN, of the same events, state and journal
pub without_bursts : {room : ℕ} {es : List Event} {s : Session} {first j : List ℕ} → BurstRun room es s first j → Run room es s first j
without_bursts (bursts.starts j e) = starts j e
without_bursts (bursts.resumes j e small k at told) = resumes j e small k at told
without_bursts (bursts.moves run does) = moves (without_bursts run) does
without_bursts (bursts.bursts run burst) = row_runs (without_bursts run) (burst_is_offers burst)
without_bursts (bursts.fails run k low after same kept number at told) = fails (without_bursts run) k low after same kept number at told

-- DETERMINED, for every state value, any lent bytes and any list
pub burst_determined : {s next next' : Session} {lent bytes bytes' : List ℕ} {os : List Offer} {n n' : ℕ} {reply reply' : Reply}
    → Bursts s lent os n reply next bytes → Bursts s lent os n' reply' next' bytes' → (n ≡ n') × (reply ≡ reply') × (next ≡ next') × (bytes ≡ bytes')
burst_determined p q =
    let same = p.exact ∙ sym q.exact in
    (ap (λ (b : Burst Session). b.count) same, ap (λ (b : Burst Session). b.reply) same, ap (λ (b : Burst Session). b.left.what) same, ap (λ (b : Burst Session). b.left.journal) same)

-- an empty list is accepted with 0, whatever the state, and changes nothing
pub empty_burst : {s next : Session} {lent bytes : List ℕ} {n : ℕ} {reply : Reply} → Bursts s lent [] n reply next bytes → (n ≡ 0) × (reply ≡ plain 0) × (next ≡ s) × (bytes ≡ lent)
unfolding in_a_row
empty_burst p =
    let same = p.exact in
    (ap (λ (b : Burst Session). b.count) same, ap (λ (b : Burst Session). b.reply) same, ap (λ (b : Burst Session). b.left.what) same, ap (λ (b : Burst Session). b.left.journal) same)

-- what a burst hands back is a reached state
pub burst_reached : {s next : Session} {lent bytes : List ℕ} {os : List Offer} {n : ℕ} {reply : Reply} → Reached s → Bursts s lent os n reply next bytes → Reached next
burst_reached reached p = go reached (burst_is_offers p)
  where
    go : {s next : Session} {lent bytes : List ℕ} {os : List Offer} {n : ℕ} {reply : Reply} → Reached s → InARow os s lent n reply next bytes → Reached next
    go reached none_left = reached
    go reached (one_refused {o = o} {lent = lent} {bytes = bytes} {r = r} p some) = reached-by-call reached (offer_call o) lent r bytes p
    go reached (one_accepted {o = o} {lent = lent} {between = between} {r = r} p none rest) = go (reached-by-call reached (offer_call o) lent r between p) rest
