-- Document 02, request 2026-02: a list of commands in one call. It ends like single offers up to the first refusal.
use Rattle.std.specs.Prelude.{◌≡◌, ◌≢◌, List, [], ◌∷◌, ℕ, ◌+◌, length}
use Rattle.history.specs.Records.{History}
use Rattle.history.specs.Answers.{room_of, Reply, plain, Verdict, refused, accepted, next_of, offer_on}
use Rattle.session.specs.declared.state.Session.{Session}
use Rattle.journal.specs.declared.records.Offer.{Offer}
use Rattle.journal.specs.Restore.{bytes_after}
use Rattle.statements.specs.Exact.{offer_in, state_after}
use Rattle.statements.specs.Rep.{Rep}
use Rattle.statements.specs.Calls.{Offers}

-- a state or a history, and the journal that is lent
pub record Over (A : Type 0) : Type 0 where
  pub what : A
  pub journal : List ℕ

abbrev pub over : {A : Type 0} → A → List ℕ → Over A
over x j = record { what = x; journal = j }

-- what a burst comes to: how many were accepted; the first refusal whole, or zeros; and what they leave
pub record Burst (A : Type 0) : Type 0 where
  pub count : ℕ
  pub reply : Reply
  pub left : Over A

abbrev pub ended : {A : Type 0} → ℕ → Reply → Over A → Burst A
ended n r x = record { count = n; reply = r; left = x }

-- behind an accepted offer the burst goes on; behind a refused one nothing is looked at
abbrev pub goes_on : {A : Type 0} → Over A → Verdict → Burst A → Burst A
goes_on x (refused r) rest = ended 0 r x
goes_on x (accepted r e) rest = ended (rest.count + 1) rest.reply rest.left

-- offers in a row: the verdict on one, and what it leaves
unfoldable pub in_a_row : {A : Type 0} → (Over A → Offer → Verdict) → (Over A → Verdict → Over A) → Over A → List Offer → Burst A
in_a_row verdict after x [] = ended 0 (plain 0) x
in_a_row verdict after x (o ∷ os) = goes_on x (verdict x o) (in_a_row verdict after (after x (verdict x o)) os)

-- for every state value
abbrev pub verdict_in : Over Session → Offer → Verdict
verdict_in x o = offer_in (room_of (length x.journal)) x.what o.kind o.rank o.bank o.cycle.0

abbrev pub after_in : Over Session → Verdict → Over Session
after_in x v = over (state_after x.what v) (bytes_after x.journal x.what.progress.records v)

abbrev pub burst_in : Over Session → List Offer → Burst Session
burst_in x os = in_a_row verdict_in after_in x os

-- on a history: document 01's answers one after the other
abbrev pub verdict_on : Over History → Offer → Verdict
verdict_on x o = offer_on (room_of (length x.journal)) x.what o.kind o.rank o.bank o.cycle.0

abbrev pub after_on : Over History → Verdict → Over History
after_on x v = over (next_of x.what v) (bytes_after x.journal (length x.what) v)

abbrev pub burst_on : Over History → List Offer → Burst History
burst_on x os = in_a_row verdict_on after_on x os

-- a burst of this state, for a history that the state stands for
pub record Means (b : Burst Session) (d : Burst History) : Type 0 where
  pub count : b.count ≡ d.count
  pub reply : b.reply ≡ d.reply
  pub state : Rep b.left.what d.left.what
  pub written : b.left.journal ≡ d.left.journal

-- THE CALL, by its name: a state, lent bytes and a list of commands; how many were accepted, the refusal, the state and the bytes
pub record Bursts (s : Session) (lent : List ℕ) (os : List Offer) (count : ℕ) (reply : Reply) (next : Session) (bytes : List ℕ) : Type 0 where
  pub exact : ended count reply (over next bytes) ≡ burst_in (over s lent) os
  pub means : (h : History) → Rep s h → Means (ended count reply (over next bytes)) (burst_on (over h lent) os)

-- SINGLE OFFERS, one after the other, up to and with the first refusal
abbrev pub OffersOne : Session → List ℕ → Offer → Reply → Session → List ℕ → Type 0
OffersOne s lent o = Offers s lent o.kind o.rank o.bank o.cycle.0

pub data InARow : List Offer → Session → List ℕ → ℕ → Reply → Session → List ℕ → Type 0 where
  none_left : {s : Session} {lent : List ℕ} → InARow [] s lent 0 (plain 0) s lent
  one_refused : {o : Offer} {os : List Offer} {s next : Session} {lent bytes : List ℕ} {r : Reply}
      → OffersOne s lent o r next bytes → r.number ≢ 0 → InARow (o ∷ os) s lent 0 r next bytes
  one_accepted : {o : Offer} {os : List Offer} {s mid next : Session} {lent between bytes : List ℕ} {r reply : Reply} {n : ℕ}
      → OffersOne s lent o r mid between → r.number ≡ 0 → InARow os mid between n reply next bytes → InARow (o ∷ os) s lent (n + 1) reply next bytes
