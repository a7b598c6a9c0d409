-- A burst is its single offers in a row: for every state value, for every history, and turn by turn.
use mathlib.Core.Path.{◌≡◌, refl, sym, ◌∙◌, ap, subst}
use mathlib.Core.Logic.{◌≢◌}
use mathlib.Core.Bool.{Bool, true, false, cond}
use mathlib.Core.List.{List, [], ◌∷◌, ◌++◌}
use Prim.Native.Nat.{ℕ, ◌+◌, ◌*◌}
use native.Mathlib.Omega.{arith}
use lib.Dec.{eqb}
use lib.ListN.{length}
use borrow.Author.Tests.{eqb-false}
use Rattle.std.specs.Prelude.{Option, Some, None}
use Rattle.timing.specs.declared.kinds.CommandKind.{CommandKind}
use Rattle.timing.specs.declared.rules.Command.{Command}
use Rattle.timing.specs.Kinds.{kind_of}
use Rattle.timing.specs.Earliest.{Ask, Settings}
use Rattle.history.specs.Records.{Record, command, History}
use Rattle.history.specs.Answers.{record_size, room_of, first_of, offer_lines, room_lines, Reply, plain, named, Verdict, refused, accepted, reply_of, next_of, offer_reply, accepted_at}
use Rattle.history.specs.Struck.{offer}
use Rattle.session.specs.declared.state.Session.{Session}
use Rattle.journal.specs.declared.records.Offer.{Offer}
use Rattle.journal.specs.Bytes.{bytes_of}
use Rattle.journal.specs.Restore.{put_at, bytes_after}
use Rattle.judging.specs.Judged.{after_of, early_in, wrong_in, settings_by, is_closed, taken_state}
use Rattle.statements.specs.Exact.{offer_in_case, offer_in, state_after, Left}
use Rattle.statements.specs.Rep.{Rep}
use Rattle.statements.specs.Bursts.{Over, over, Burst, ended, goes_on, in_a_row, verdict_in, after_in, burst_in, after_on, burst_on, Means, Bursts, OffersOne, InARow, none_left, one_refused, one_accepted}
use Rattle.statements.proofs.CalledLaws.{called_left}
use Rattle.statements.proofs.MeansLaws.{offer_means}

-- the number of a refusal is not 0; an accepted offer is answered with its own cycle
abbrev Numbered : ℕ → Verdict → Type 0
Numbered t (refused r) = r.number ≢ 0
Numbered t (accepted r e) = r ≡ accepted_at t

reply_numbered : (number : ℕ) (s : Settings) (early : Ask) (c : Command) (t n : ℕ) → Numbered t (offer_reply number s early c t n)
reply_numbered number s early c t n = go (eqb n 0) (eqb n 7) refl
  where
    go : (none seven : Bool) → eqb n 0 ≡ none
        → Numbered t (cond none (accepted (accepted_at t) (command number c t)) (refused (cond seven (named 7 s early) (plain n))))
    go true seven e = refl
    go false true e = eqb-false 7 0 refl
    go false false e = eqb-false n 0 e

offer_numbered : (room : ℕ) (s : Session) (kind rank bank t : ℕ) → Numbered t (offer_in room s kind rank bank t)
unfolding offer_in
offer_numbered room s kind rank bank t = go (is_closed s) (kind_of kind)
  where
    go : (closed : Bool) (k : Option CommandKind) → Numbered t (offer_in_case room s closed k rank bank t)
    go true k = eqb-false 1 0 refl
    go false None = eqb-false 2 0 refl
    go false (Some k) =
        let c : Command = record { kind = k; rank = rank; bank = bank } in
        reply_numbered s.terms.number (settings_by s.terms) (early_in s c) c t (first_of (offer_lines s.terms.opening (after_of s.progress) (wrong_in s c) (early_in s c) c t ++ room_lines room s.progress.records))

number : {a b : Reply} → a ≡ b → a.number ≡ b.number
number e = ap (λ (q : Reply). q.number) e

-- ---- one offer

module _ (s : Session) (lent : List ℕ) (o : Offer) where
  abbrev here : Verdict
  here = verdict_in (over s lent) o

  -- what it leaves, once its verdict is known
  abbrev One : Verdict → Type 0
  One v = OffersOne s lent o (reply_of v) (state_after s v) (bytes_after lent s.progress.records v)

  one_offer : One here
  one_offer =
      called_left (offer o.kind o.rank o.bank o.cycle.0) tt s lent here
      (λ h rep. offer_means s h rep (room_of (length lent)) o.kind o.rank o.bank o.cycle.0)
      (reply_of here) (state_after s here) (bytes_after lent s.progress.records here) (record { answer = refl; state = refl; written = refl })

  here_numbered : Numbered o.cycle.0 here
  here_numbered = offer_numbered (room_of (length lent)) s o.kind o.rank o.bank o.cycle.0

  -- an accepted offer is answered with its own cycle and 0
  pub accepted_reply : {r : Reply} {next : Session} {bytes : List ℕ} → OffersOne s lent o r next bytes → r.number ≡ 0 → r ≡ accepted_at o.cycle.0
  accepted_reply {r} {next} {bytes} p none = go here here_numbered p.exact
    where
      go : (v : Verdict) → Numbered o.cycle.0 v → Left v s lent r next bytes → r ≡ accepted_at o.cycle.0
      go (refused q) z left = absurd (z (sym (number left.answer) ∙ none))
      go (accepted q x) z left = left.answer ∙ z

-- ---- a burst is offers in a row

abbrev Row : List Offer → Session → List ℕ → Burst Session → Type 0
Row os s lent b = InARow os s lent b.count b.reply b.left.what b.left.journal

row : (os : List Offer) (s : Session) (lent : List ℕ) → Row os s lent (burst_in (over s lent) os)
unfolding in_a_row
row [] s lent = none_left
row (o ∷ os) s lent = go (here s lent o) refl (row os)
  where
    go : (v : Verdict) → here s lent o ≡ v → ((s : Session) (lent : List ℕ) → Row os s lent (burst_in (over s lent) os))
        → Row (o ∷ os) s lent (goes_on (over s lent) v (burst_in (after_in (over s lent) v) os))
    go (refused r) e rest = one_refused (subst (One s lent o) e (one_offer s lent o)) (subst (Numbered o.cycle.0) e (here_numbered s lent o))
    go (accepted r x) e rest =
        one_accepted (subst (One s lent o) e (one_offer s lent o)) (number (subst (Numbered o.cycle.0) e (here_numbered s lent o))) (rest (taken_state s x) (put_at lent (record_size * s.progress.records) (bytes_of x)))

-- and the other way round
counted : {os : List Offer} {s next : Session} {lent bytes : List ℕ} {n : ℕ} {r : Reply} → InARow os s lent n r next bytes → ended n r (over next bytes) ≡ burst_in (over s lent) os
unfolding in_a_row
counted none_left = refl
counted (one_refused {o = o} {os = os} {s = s} {next = next} {lent = lent} {bytes = bytes} {r = r} p some) = go (here s lent o) (here_numbered s lent o) p.exact
  where
    go : (v : Verdict) → Numbered o.cycle.0 v → Left v s lent r next bytes → ended 0 r (over next bytes) ≡ goes_on (over s lent) v (burst_in (after_in (over s lent) v) os)
    go (refused q) z left = rw (left.answer, left.state, left.written)
    go (accepted q x) z left = absurd (some (number (left.answer ∙ z)))
counted (one_accepted {o = o} {os = os} {s = s} {mid = mid} {next = next} {lent = lent} {between = between} {bytes = bytes} {r = r} {reply = reply} {n = n} p none rest) =
    go (here s lent o) (here_numbered s lent o) p.exact (counted rest)
  where
    go : (v : Verdict) → Numbered o.cycle.0 v → Left v s lent r mid between → ended n reply (over next bytes) ≡ burst_in (over mid between) os
        → ended (n + 1) reply (over next bytes) ≡ goes_on (over s lent) v (burst_in (after_in (over s lent) v) os)
    go (refused q) z left e = absurd (z (sym (number left.answer) ∙ none))
    go (accepted q x) z left e =
        ap (λ (b : Burst Session). ended (b.count + 1) b.reply b.left) (e ∙ ap (λ (y : Over Session). burst_in y os) (rw (left.state, left.written)))

-- ---- on every history that the state stands for

means : (os : List Offer) (s : Session) (lent : List ℕ) (h : History) → Rep s h → Means (burst_in (over s lent) os) (burst_on (over h lent) os)
unfolding in_a_row
means [] s lent h rep = record { count = refl; reply = refl; state = rep; written = refl }
means (o ∷ os) s lent h rep =
    let v = here s lent o in
    let one = one_offer s lent o in
    let same = offer_means s h rep (room_of (length lent)) o.kind o.rank o.bank o.cycle.0 in
    subst (λ (w : Verdict). Means (goes_on (over s lent) v (burst_in (after_in (over s lent) v) os)) (goes_on (over h lent) w (burst_on (after_on (over h lent) w) os))) same
    (go v (subst (λ (w : Verdict). Rep (state_after s v) (next_of h w)) (sym same) (one.state h rep))
    (subst (λ (w : Verdict). bytes_after lent s.progress.records v ≡ bytes_after lent (length h) w) (sym same) (one.written h rep)) (means os))
  where
    go : (v : Verdict) → Rep (state_after s v) (next_of h v) → bytes_after lent s.progress.records v ≡ bytes_after lent (length h) v
        → ((s : Session) (lent : List ℕ) (h : History) → Rep s h → Means (burst_in (over s lent) os) (burst_on (over h lent) os))
        → Means (goes_on (over s lent) v (burst_in (after_in (over s lent) v) os)) (goes_on (over h lent) v (burst_on (after_on (over h lent) v) os))
    go (refused r) next e rest = record { count = refl; reply = refl; state = rep; written = refl }
    go (accepted r x) next e rest =
        let lent' = put_at lent (record_size * s.progress.records) (bytes_of x) in
        let m = subst (λ (j : List ℕ). Means (burst_in (over (taken_state s x) lent') os) (burst_on (over (x ∷ h) j) os)) e (rest (taken_state s x) lent' (x ∷ h) next) in
        record { count = ap (λ (n : ℕ). n + 1) m.count; reply = m.reply; state = m.state; written = m.written }

-- ---- the statement

module _ {s next : Session} {lent bytes : List ℕ} {os : List Offer} {count : ℕ} {reply : Reply} where
  pub bursts : ended count reply (over next bytes) ≡ burst_in (over s lent) os → Bursts s lent os count reply next bytes
  bursts e = record { exact = e; means = λ h rep. subst (λ (b : Burst Session). Means b (burst_on (over h lent) os)) (sym e) (means os s lent h rep) }

  -- BURST-IS-OFFERS: every outcome of a burst is the outcome of its single offers played in a row, and the other way round
  pub burst_is_offers : Bursts s lent os count reply next bytes → InARow os s lent count reply next bytes
  burst_is_offers b = subst (λ (x : Burst Session). Row os s lent x) (sym b.exact) (row os s lent)

  pub offers_are_burst : InARow os s lent count reply next bytes → Bursts s lent os count reply next bytes
  offers_are_burst p = bursts (counted p)

-- ---- turn by turn: what is left of the commands goes on to the same end

abbrev behind : ℕ → Burst Session → Burst Session
behind n b = ended (b.count + n) b.reply b.left

first : (n : ℕ) (r : Reply) (x : Over Session) → ended n r x ≡ behind n (ended 0 r x)
first n r x = ap (λ (m : ℕ). ended m r x) (omega arith)

module _ (s₀ : Session) (lent : List ℕ) (os : List Offer) where
  -- after n accepted commands, with these left
  unfoldable pub Bursting : Session → List ℕ → ℕ → List Offer → Type 0
  Bursting s j n rest = behind n (burst_in (over s j) rest) ≡ burst_in (over s₀ lent) os

  pub bursting_start : Bursting s₀ lent 0 os
  unfolding Bursting
  bursting_start = go (burst_in (over s₀ lent) os)
    where
      go : (b : Burst Session) → behind 0 b ≡ b
      go b = let none : b.count + 0 ≡ b.count = omega arith in rw none

  module _ (s : Session) (j : List ℕ) (n : ℕ) where
    pub bursting_end : Bursting s j n [] → ended n (plain 0) (over s j) ≡ burst_in (over s₀ lent) os
    unfolding Bursting in_a_row
    bursting_end same = first n (plain 0) (over s j) ∙ same

    module _ (o : Offer) (rest : List Offer) (same : Bursting s j n (o ∷ rest)) where
      turn : (v : Verdict) → here s j o ≡ v → behind n (goes_on (over s j) v (burst_in (after_in (over s j) v) rest)) ≡ burst_in (over s₀ lent) os
      unfolding Bursting in_a_row
      turn v e = rw e at same

      pub bursting_refused : (r : Reply) → verdict_in (over s j) o ≡ refused r → ended n r (over s j) ≡ burst_in (over s₀ lent) os
      bursting_refused r e = first n r (over s j) ∙ turn (refused r) e

      pub bursting_accepted : (r : Reply) (x : Record) (next : Session) (after : List ℕ) → verdict_in (over s j) o ≡ accepted r x → next ≡ taken_state s x
          → after ≡ put_at j (record_size * s.progress.records) (bytes_of x) → Bursting next after (n + 1) rest
      unfolding Bursting
      bursting_accepted r x next after e en ea =
          let b = burst_in (over (taken_state s x) (put_at j (record_size * s.progress.records) (bytes_of x))) rest in
          let moved : b.count + (n + 1) ≡ b.count + 1 + n = omega arith in
          rw (en, ea) (ap (λ (m : ℕ). ended m b.reply b.left) moved ∙ turn (accepted r x) e)

      -- the command offered by itself: the burst ends with what it leaves, or goes on
      pub bursting_ended : {r : Reply} {next : Session} {after : List ℕ} → OffersOne s j o r next after → r.number ≢ 0 → ended n r (over next after) ≡ burst_in (over s₀ lent) os
      bursting_ended {r} {next} {after} p some = go (here s j o) refl (here_numbered s j o) p.exact
        where
          go : (v : Verdict) → here s j o ≡ v → Numbered o.cycle.0 v → Left v s j r next after → ended n r (over next after) ≡ burst_in (over s₀ lent) os
          go (refused q) e z left = rw (left.state, left.written) (bursting_refused r (e ∙ ap refused (sym left.answer)))
          go (accepted q x) e z left = absurd (some (number (left.answer ∙ z)))

      pub bursting_offered : {r : Reply} {next : Session} {after : List ℕ} → OffersOne s j o r next after → r.number ≡ 0 → Bursting next after (n + 1) rest
      bursting_offered {r} {next} {after} p none = go (here s j o) refl (here_numbered s j o) p.exact
        where
          go : (v : Verdict) → here s j o ≡ v → Numbered o.cycle.0 v → Left v s j r next after → Bursting next after (n + 1) rest
          go (refused q) e z left = absurd (z (sym (number left.answer) ∙ none))
          go (accepted q x) e z left = bursting_accepted q x next after e left.state left.written
