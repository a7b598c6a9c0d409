-- Nothing is left open: any two outcomes that a statement allows are the same, and states that stand for one history are alike.
use mathlib.Core.Path.{◌≡◌, refl, sym, ◌∙◌, ap}
use mathlib.Core.Bool.{Bool}
use mathlib.Core.List.{List, ◌∷◌}
use Prim.Native.Nat.{ℕ}
use lib.ListN.{length}
use Rattle.history.specs.Records.{History}
use Rattle.history.specs.Answers.{room_of, Reply, Verdict, next_of}
use Rattle.history.specs.Struck.{Call, open_session, offer, take_back}
use Rattle.session.specs.declared.state.Session.{Session}
use Rattle.journal.specs.Restore.{Part}
use Rattle.statements.specs.Exact.{Left}
use Rattle.statements.specs.Rep.{Rep}
use Rattle.statements.specs.Statements.{Restores}
use Rattle.statements.specs.Calls.{Outcome, Move, Heard, replied, stated, handed, Does, by_call, by_earliest, by_status, by_stretch, Seen, HandsStretch}
use Rattle.listing.specs.declared.records.Listed.{Listed}
use Rattle.listing.specs.Run.{ListsPart}
use Rattle.demands.specs.Reached.{Reached}
use Rattle.demands.specs.Alike.{Same, Had, ends, goes, Alike}
use Rattle.demands.proofs.MoveLaws.{verdict_on, does_on}
use Rattle.demands.proofs.ReachedLaws.{reached_stands}

left_same : {v : Verdict} {s next next' : Session} {lent bytes bytes' : List ℕ} {reply reply' : Reply} → Left v s lent reply next bytes → Left v s lent reply' next' bytes'
    → Same (replied reply) (replied reply') next next' bytes bytes'
left_same p q = record { answer = ap replied (p.answer ∙ sym q.answer); state = p.state ∙ sym q.state; bytes = p.written ∙ sym q.written }

call_same : (c : Call) (s : Session) (lent : List ℕ) {next next' : Session} {bytes bytes' : List ℕ} {reply reply' : Reply} → Outcome c s lent reply next bytes → Outcome c s lent reply' next' bytes'
    → Same (replied reply) (replied reply') next next' bytes bytes'
call_same (open_session o) s lent p q = left_same p.exact q.exact
call_same (offer kind rank bank t) s lent p q = left_same p.exact q.exact
call_same take_back s lent p q = left_same p.exact q.exact

-- DETERMINED, for every state value and any lent bytes
pub determined : {m : Move} {s next next' : Session} {lent bytes bytes' : List ℕ} {a a' : Heard} → Does m s lent a next bytes → Does m s lent a' next' bytes' → Same a a' next next' bytes bytes'
determined (by_call {c = c} {s = s} {lent = lent} p) (by_call q) = call_same c s lent p q
determined (by_earliest p) (by_earliest q) = record { answer = ap replied (p.exact ∙ sym q.exact); state = refl; bytes = refl }
determined (by_status p) (by_status q) = record { answer = ap stated (p.exact ∙ sym q.exact); state = refl; bytes = refl }
determined (by_stretch {part = part} b i b₁ i₁ place p) (by_stretch {place = place'} b' i' b₂ i₂ other q) =
    record { answer = ap (λ (x : Part). handed x part) (place.exact ∙ sym other.exact) ∙ ap (handed place') (ap (λ (x : Seen). x.bytes) p.exact ∙ sym (ap (λ (x : Seen). x.bytes) q.exact)); state = refl; bytes = refl }

-- the part that is handed back, its place in memory too
pub stretch_determined : (s : Session) (lent : Seen) {part part' : Seen} → HandsStretch s lent part → HandsStretch s lent part' → part ≡ part'
stretch_determined s lent p q = p.exact ∙ sym q.exact

-- a restore, whatever the bytes
pub restore_determined : {bytes : List ℕ} {number number' at at' : ℕ} {next next' : Session} → Restores bytes number at next → Restores bytes number' at' next'
    → (number ≡ number') × (at ≡ at') × (next ≡ next')
restore_determined p q =
    (p.exact.answer ∙ sym q.exact.answer, p.exact.beside ∙ sym q.exact.beside, p.exact.state ∙ sym q.exact.state)

-- a part of a listing, whatever the bytes
pub list_determined : (part : List ℕ) (last : Bool) (s : Session) (before after after' : List ℕ) (r r' : Listed) → ListsPart part last s before after r → ListsPart part last s before after' r'
    → (after ≡ after') × (r.written ≡ r'.written) × (r.session ≡ r'.session) × (r.stopped ≡ r'.stopped)
list_determined part last s before after after' r r' p q =
    (p.bytes ∙ sym q.bytes, p.written ∙ sym q.written, p.session ∙ sym q.session, p.stopped ∙ sym q.stopped)

-- two states that stand for one history can't be told apart by any later moves
pub alike : (h : History) (s t : Session) → Rep s h → Rep t h → Alike s t
alike h s t p q ls hs gs ends ends = refl
alike h s t p q ls hs gs (goes {next = next} {m = m} {a = a} {lent = lent} {bytes = bytes} {ls = more} {hs = as₁} d on) (goes {next = next'} {a = a'} {bytes = bytes'} {hs = as₂} d' on') =
    let one = does_on d h p in
    let other = does_on d' h q in
    let answer : a ≡ a' = one.answer ∙ sym other.answer in
    let after : bytes ≡ bytes' = one.bytes ∙ sym other.bytes in
    let rest = alike (next_of h (verdict_on (room_of (length lent)) h m)) next next' one.stands other.stands more as₁ as₂ on on' in
    ap (λ (x : Heard). record { answer = x; bytes = bytes } ∷ as₁) answer
    ∙ ap (λ (b : List ℕ). record { answer = a'; bytes = b } ∷ as₁) after
    ∙ ap (λ (xs : List Had). record { answer = a'; bytes = bytes' } ∷ xs) rest

-- from a reached state, the states that two outcomes hand back are alike
pub alike_after : {s : Session} → Reached s → {m : Move} {next next' : Session} {lent bytes bytes' : List ℕ} {a a' : Heard}
    → Does m s lent a next bytes → Does m s lent a' next' bytes' → Alike next next'
alike_after reached {m} {next} {next'} {lent} d d' =
    let w = reached_stands reached in
    alike (next_of w.0 (verdict_on (room_of (length lent)) w.0 m)) next next' (does_on d w.0 w.1).stands (does_on d' w.0 w.1).stands
