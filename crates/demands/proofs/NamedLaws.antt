-- What the statements allow on the named runs: one list of answers each.
use mathlib.Core.Path.{◌≡◌, refl, ◌∙◌, ap, subst}
use mathlib.Core.Logic.{◌≢◌, ◌⊎◌, ⊎_elim}
use mathlib.Core.List.{List, [], ◌∷◌}
use Prim.Native.Nat.{ℕ, ◌*◌, ◌/◌, ◌≤◌}
use native.Mathlib.Omega.{arith}
use lib.Dec.{lit≤}
use lib.ListN.{length, get_or, take}
use Rattle.timing.specs.Rules.{rules, covers, matching}
use Rattle.timing.specs.Banks.{is_open_bank, some_bank}
use Rattle.timing.specs.Earliest.{reach, floor, pair_asks, acts, four_asks, asks, latest, earliest}
use Rattle.history.specs.Records.{opening, History, standing}
use Rattle.history.specs.Answers.{room_of, next_of, Reply, Status, first_of, fits, follows, open_on, offer_on, earliest_on, take_back_on, status_on, record_size}
use Rattle.history.specs.Struck.{open_session}
use Rattle.session.specs.declared.state.Session.{Session}
use Rattle.session.specs.State.{fresh_state}
use Rattle.journal.specs.Bytes.{le, gap_bytes, bytes_of, value, gaps_from, same_bytes, record_in}
use Rattle.journal.specs.Restore.{written, pieces, bytes_after, Restored, restored, restore_number, history_of, replay, restore_of}
use Rattle.statements.specs.Rep.{Rep}
use Rattle.statements.specs.Statements.{Restores}
use Rattle.statements.proofs.KeepsLaws.{fresh_rep}
use Rattle.statements.specs.Calls.{Outcome, Move, asks_status, Heard, replied, stated, handed, Does}
use Rattle.demands.specs.Runs.{Plays, ends, plays}
use Rattle.demands.specs.Named.{blank, client7, client9, short_moves, short_answers, window_moves, window_answers, two_openings, old, old_journal, old_lent, old_moves, old_answers, mixed_moves, mixed_answers, asked_again, answers_again, bank_moves, bank_answers}
use Rattle.demands.proofs.MoveLaws.{answer_on, verdict_on, does_on}
use Rattle.demands.proofs.RanLaws.{Holding, does_holds, cut_holds, cut_number}
use Rattle.demands.proofs.WrittenLaws.{older}

-- the answers of moves on a history
unfoldable answers_on : ℕ → History → List ℕ → List Move → List Heard
answers_on room h j [] = []
answers_on room h j (m ∷ ms) = answer_on room h m j ∷ answers_on room (next_of h (verdict_on room h m)) (bytes_after j (length h) (verdict_on room h m)) ms

played : (room : ℕ) (h : History) {s last : Session} {first j after : List ℕ} {ms : List Move} {xs : List Heard} → Holding room h s first j → Plays s j ms xs last after → xs ≡ answers_on room h j ms
unfolding answers_on
played room h k ends = refl
played room h {j = j} {ms = ms} k (plays {after = after} {m = m} {ms = more} {xs = xs} d p) =
    let w = does_on d h k.rep in
    let v = verdict_on room h m in
    let answer = w.answer ∙ ap (λ (n : ℕ). answer_on n h m j) k.room_is in
    let bytes : after ≡ bytes_after j (length h) v = subst (λ (n : ℕ). after ≡ bytes_after j (length h) (verdict_on n h m)) k.room_is w.bytes in
    let rest = played room (next_of h v) (does_holds room h k d) p in
    ap (λ (x : Heard). x ∷ xs) answer
    ∙ ap (λ (ys : List Heard). answer_on room h m j ∷ ys) (rest ∙ ap (λ (b : List ℕ). answers_on room (next_of h v) b more) bytes)

-- the history that they leave
unfoldable left_on : ℕ → History → List Move → History
left_on room h [] = h
left_on room h (m ∷ ms) = left_on room (next_of h (verdict_on room h m)) ms

played_holds : (room : ℕ) (h : History) {s last : Session} {first j after : List ℕ} {ms : List Move} {xs : List Heard} → Holding room h s first j → Plays s j ms xs last after → Holding room (left_on room h ms) last first after
unfolding left_on
played_holds room h k ends = k
played_holds room h k (plays {m = m} d p) = played_holds room (next_of h (verdict_on room h m)) (does_holds room h k d) p

from_blank : {last : Session} {after : List ℕ} {ms : List Move} {xs : List Heard} → Plays fresh_state blank ms xs last after → xs ≡ answers_on 10 [] blank ms
unfolding written
from_blank p = played 10 [] (record { rep = fresh_rep; room_is = refl; begins = refl }) p

-- A checker that refuses everything, gives one earliest cycle always, is right for the first command only, or makes up a survivor count or a
-- depth gives other answers than these
pub short_run : {last : Session} {after : List ℕ} {xs : List Heard} → Plays fresh_state blank short_moves xs last after → xs ≡ short_answers
unfolding is_open_bank rules covers matching reach floor pair_asks acts four_asks asks latest earliest standing first_of open_on offer_on earliest_on take_back_on status_on answers_on short_moves short_answers le gap_bytes bytes_of
short_run p = from_blank p ∙ computed
  where
    computed : answers_on 10 [] blank short_moves ≡ short_answers
    computed = refl

-- one that doesn't bring back the fourth activate, too
pub window_run : {last : Session} {after : List ℕ} {xs : List Heard} → Plays fresh_state blank window_moves xs last after → xs ≡ window_answers
unfolding is_open_bank rules covers matching reach floor pair_asks acts four_asks asks latest earliest standing first_of open_on offer_on earliest_on take_back_on status_on answers_on window_moves window_answers le gap_bytes bytes_of
window_run p = from_blank p ∙ computed
  where
    computed : answers_on 10 [] blank window_moves ≡ window_answers
    computed = refl

-- one that doesn't look at the banks, closes one of them only, or doesn't bring back what a PREAB closed
pub bank_run : {last : Session} {after : List ℕ} {xs : List Heard} → Plays fresh_state blank bank_moves xs last after → xs ≡ bank_answers
unfolding is_open_bank some_bank rules covers matching reach floor pair_asks acts four_asks asks latest earliest standing first_of open_on offer_on earliest_on take_back_on status_on answers_on bank_moves bank_answers le gap_bytes bytes_of
bank_run p = from_blank p ∙ computed
  where
    computed : answers_on 10 [] blank bank_moves ≡ bank_answers
    computed = refl

-- one that does nothing leaves byte 0 as it is
pub something_done : {next : Session} {after : List ℕ} {reply : Reply} → Outcome (open_session client7) fresh_state blank reply next after → after ≢ blank
unfolding first_of open_on le gap_bytes bytes_of
something_done {after = after} out same =
    let first : get_or after 0 0 ≡ 1 = ap (λ (b : List ℕ). get_or b 0 0) (out.written [] fresh_rep) ∙ computed in
    absurd (omega (arith, first, ap (λ (b : List ℕ). get_or b 0 0) same))
  where
    computed : get_or (bytes_after blank 0 (open_on (room_of (length blank)) [] client7)) 0 0 ≡ 1
    computed = refl

-- a restore that always returns the fresh state, or reads the first opening
restored_both : restore_of two_openings ≡ restored (opening client9 ∷ opening client7 ∷ [])
unfolding first_of fits follows standing le gap_bytes bytes_of value gaps_from same_bytes record_in written pieces replay restore_of two_openings
restored_both = refl

abbrev client_of : Heard → ℕ
client_of (stated s) = s.client
client_of (replied r) = 0
client_of (handed place part) = 0

pub last_opening : {number at : ℕ} {next : Session} → Restores two_openings number at next → (number ≡ 0) × (next ≢ fresh_state)
    × ((lent after : List ℕ) (status : Status) (last : Session) → Does asks_status next lent (stated status) last after → status.client ≡ 9)
unfolding status_on standing fresh_state
last_opening {next = next} told =
    let rep : Rep next (opening client9 ∷ opening client7 ∷ []) = subst (λ (r : Restored). Rep next (history_of r)) restored_both told.state in (
      told.answer ∙ ap restore_number restored_both,
      (λ fresh. absurd (omega (arith, rep.records, ap (λ (s : Session). s.progress.records) fresh))),
      λ lent after status last d. ap client_of (does_on d (opening client9 ∷ opening client7 ∷ []) rep).answer,
    )

-- a session that was opened in mode 1 goes on with groups of two once it is restored; a live opening of that mode is refused, and leaves it in force
restored_old : restore_of old_journal ≡ restored (opening old ∷ [])
unfolding first_of fits follows standing le gap_bytes bytes_of value gaps_from same_bytes record_in written pieces replay restore_of old_journal
restored_old = refl

old_holds : {number at : ℕ} {next : Session} → Restores old_journal number at next → Holding 11 (opening old ∷ []) next old_lent old_lent
unfolding old_journal le gap_bytes bytes_of written
old_holds {next = next} told = record { rep = subst (λ (r : Restored). Rep next (history_of r)) restored_old told.state; room_is = refl; begins = refl }

pub old_run : {number at : ℕ} {next last : Session} {after : List ℕ} {xs : List Heard} → Restores old_journal number at next → Plays next old_lent old_moves xs last after
    → (number ≡ 0) × (xs ≡ old_answers)
unfolding is_open_bank rules covers matching reach floor pair_asks acts four_asks asks latest earliest standing first_of open_on offer_on earliest_on take_back_on status_on answers_on old_moves old_answers old_journal le gap_bytes bytes_of
old_run told p = (told.answer ∙ ap restore_number restored_old, played 11 (opening old ∷ []) (old_holds told) p ∙ computed)
  where
    computed : answers_on 11 (opening old ∷ []) old_lent old_moves ≡ old_answers
    computed = refl

-- AN OLD SESSION, A NEW ONE BEHIND IT, A FAILURE IN BETWEEN: each goes by the edition of its own opening, before the failure and after it
mixed_history : History
mixed_history = left_on 11 (opening old ∷ []) mixed_moves

pub mixed_run : {number at number' at' : ℕ} {s last next final : Session} {after later : List ℕ} {xs ys : List Heard} (left : ℕ) → (left ≡ 2) ⊎ (left ≡ 4)
    → Restores old_journal number at s → Plays s old_lent mixed_moves xs last after → Restores (take (record_size * left) after) number' at' next → Plays next after asked_again ys final later
    → (xs ≡ mixed_answers) × (number' ≡ 0) × (ys ≡ answers_again left)
unfolding is_open_bank rules covers matching reach floor pair_asks acts four_asks asks latest earliest standing first_of open_on offer_on earliest_on take_back_on status_on answers_on left_on mixed_moves mixed_answers asked_again answers_again old_journal le gap_bytes bytes_of mixed_history
mixed_run {number' = number'} {at' = at'} {last = last} {next = next} {after = after} {xs = xs} {ys = ys} left which told p again q =
    ⊎_elim (λ e. by left e (lit≤ tt) again (rw e refl)) (λ e. by left e (lit≤ tt) again (rw e refl)) which
  where
    is : Holding 11 mixed_history last old_lent after
    is = played_holds 11 (opening old ∷ []) (old_holds told) p

    first : xs ≡ mixed_answers
    first = played 11 (opening old ∷ []) (old_holds told) p ∙ refl

    by : {n : ℕ} (left : ℕ) → left ≡ n → n ≤ 4 → Restores (take (record_size * left) after) number' at' next → answers_on 11 (older (record_size * left / record_size) mixed_history) after asked_again ≡ answers_again left
        → (xs ≡ mixed_answers) × (number' ≡ 0) × (ys ≡ answers_again left)
    by left e low again computed =
        let inside : record_size * left ≤ record_size * length mixed_history = omega (arith, e, low) in
        let holds = cut_holds 11 mixed_history last next old_lent after after (record_size * left) is inside refl number' at' again is.room_is in
        (first, (cut_number 11 mixed_history last next old_lent after after (record_size * left) is inside refl number' at' again).0, played 11 (older (record_size * left / record_size) mixed_history) holds q ∙ computed)
