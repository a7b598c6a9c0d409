-- Demand 3: what any run has come to, and that it goes on after a mains failure as it did before.
use mathlib.Core.Path.{◌≡◌, refl, sym, ◌∙◌, ap, subst}
use mathlib.Core.Bool.{Bool, true, false, cond, ◌&&◌}
use mathlib.Core.List.{List, [], ◌∷◌, ◌++◌, map}
use Prim.Native.Nat.{ℕ, suc, ◌+◌, ◌-◌, ◌*◌, ◌/◌, ◌≤◌, ◌<◌, min}
use native.Mathlib.Omega.{arith}
use lib.Dec.{T, leb, eqb}
use lib.ListN.{length, take, drop, length-append, length-take, length-drop, take-append-drop}
use lib.Seq.{drop-drop, take-append-le, drop-append-le, take-take}
use borrow.Author.Tests.{leb-true, leb-false, le-leb, eqb-true, eqb-false}
use Rattle.history.specs.Records.{History, Current, closed, session, standing}
use Rattle.history.specs.Answers.{max_records, room_of, Verdict, refused, accepted, plain, reply_of, next_of, open_on, offer_on, earliest_on, take_back_on, status_on, fits, follows, fine, record_size}
use Rattle.history.specs.Struck as led
use Rattle.history.specs.Struck.{Call, open_session, offer, take_back, Answered, call_of, unrefused, records_of, records_in, verdict, LeadsTo, nothing_yet, then}
use Rattle.timing.proofs.Truth.{and_left, and_right, true_is}
use Rattle.history.proofs.AnswerLaws.{Passed, call_passed}
use Rattle.history.proofs.StandingLaws.{Below, number_below}
use Rattle.history.proofs.CurrentLaws.{leads_kept, leads_current}
use Rattle.session.specs.declared.state.Session.{Session}
use Rattle.session.specs.State.{fresh_state}
use Rattle.journal.specs.Bytes.{bytes_of}
use Rattle.journal.specs.Restore.{written, put_at, bytes_after, Restored, too_long, bad_at, restored, restore_number, restore_at, history_of, restore_of, Part, part_of, stretch_case, stretch_of}
use Rattle.statements.specs.Rep.{AllSized, Rep}
use Rattle.statements.specs.Exact.{restore_in, restored_number, restored_at, restored_state}
use Rattle.statements.specs.Statements.{Restores}
use Rattle.statements.proofs.RestoreMeans.{take_small, restore_told}
use Rattle.statements.proofs.KeepsLaws.{fresh_rep}
use Rattle.statements.specs.Calls.{Move, calls, asks_earliest, asks_status, asks_stretch, Heard, handed, Does}
use Rattle.demands.specs.Runs.{Event, found, right_after, number_in, noted, lasting, found_in, Run, starts, resumes, moves, fails, answer_at, answer_by, stands_at, ends, plays, PutRecord, put_all, GoesOnAs, GoesOnFrom}
use Rattle.demands.proofs.MoveLaws.{answer_on, verdict_on, does_on}
use Rattle.demands.proofs.WrittenLaws.{length_written, put_behind, older, older_all, older_less, older_length, written_older, restore_cut, restored_bytes}

-- a state and a journal that hold a history: the journal begins with its bytes, and behind them is as it was first
pub record Holding (room : ℕ) (h : History) (s : Session) (first j : List ℕ) : Type 0 where
  pub rep : Rep s h
  pub room_is : room_of (length j) ≡ room
  pub begins : j ≡ written h ++ drop (record_size * length h) first

module _ (room : ℕ) (h : History) where
  -- an accepted move found room
  passed_on : (m : Move) → Passed room h (verdict_on room h m)
  passed_on (calls c) = call_passed room h c
  passed_on (asks_earliest kind rank bank) = tt
  passed_on asks_status = tt
  passed_on asks_stretch = tt

  next_holds : (s next : Session) (first j after : List ℕ) (v : Verdict) → Holding room h s first j → Passed room h v → Rep next (next_of h v) → after ≡ bytes_after j (length h) v
      → Holding room (next_of h v) next first after
  next_holds s next first j after (refused r) k p rep is = record { rep = rep; room_is = rw is k.room_is; begins = is ∙ k.begins }
  next_holds s next first j after (accepted r e) k p rep is =
      let rest = drop (record_size * length h) first in
      let begins : j ≡ written h ++ rest = k.begins in
      let put : put_at j (record_size * length h) (bytes_of e) ≡ written (e ∷ h) ++ drop record_size rest = ap (λ (z : List ℕ). put_at z (record_size * length h) (bytes_of e)) begins ∙ put_behind h e rest k.rep.sized rep.sized.0 in
      let behind : drop record_size rest ≡ drop (record_size * length h + record_size) first = drop-drop record_size (record_size * length h) first in
      let place : record_size * length h + record_size ≡ record_size * suc (length h) = omega arith in
      let all : after ≡ written (e ∷ h) ++ drop (record_size * suc (length h)) first = is ∙ put ∙ ap (λ (z : List ℕ). written (e ∷ h) ++ z) (behind ∙ ap (λ (n : ℕ). drop n first) place) in
      let size : length after ≡ length j =
      (let one = ap length (is ∙ put) ∙ length-append (written (e ∷ h)) (drop record_size rest) in
      let two = ap length begins ∙ length-append (written h) rest in
      let left = length-drop record_size rest in
      let long = length_written (e ∷ h) rep.sized in
      let before = length_written h k.rep.sized in
      let room : length h < min (length j / record_size) max_records = rw k.room_is p.2 in
      omega (arith, one, two, left, long, before, room)) in
      record { rep = rep; room_is = ap room_of size ∙ k.room_is; begins = all }

pub does_holds : (room : ℕ) (h : History) {m : Move} {s next : Session} {first j after : List ℕ} {a : Heard} → Holding room h s first j → Does m s j a next after
    → Holding room (next_of h (verdict_on room h m)) next first after
does_holds room h {m} {s} {next} {first} {j} {after} k d =
    let w = does_on d h k.rep in
    next_holds room h s next first j after (verdict_on room h m) k (passed_on room h m) (subst (λ (n : ℕ). Rep next (next_of h (verdict_on n h m))) k.room_is w.stands)
    (subst (λ (n : ℕ). after ≡ bytes_after j (length h) (verdict_on n h m)) k.room_is w.bytes)

-- winding back a run winds back its history
wound_step : (h : History) (v : Verdict) (n : ℕ) → n < length (next_of h v) → (n ≤ length h) × (older n (next_of h v) ≡ older n h)
wound_step h (refused r) n l = (omega arith, refl)
wound_step h (accepted r e) n l = let less : n ≤ length h = omega arith in (less, older_less e h n less)

right_after_lem : (a : Answered) (ps : List Answered) (h : History) (v : Verdict) → LeadsTo (a ∷ ps) (next_of h v) → (n : ℕ) → n ≤ length (next_of h v)
    → (n ≤ length h → LeadsTo (right_after n ps) (older n h)) → LeadsTo (right_after n (a ∷ ps)) (older n (next_of h v))
unfolding right_after
right_after_lem a ps h v all n l on = go (leb (records_in (a ∷ ps)) n) refl
  where
    count : length (next_of h v) ≡ records_in (a ∷ ps)
    count = (leads_kept all).count

    go : (t : Bool) → leb (records_in (a ∷ ps)) n ≡ t → LeadsTo (cond t (a ∷ ps) (right_after n ps)) (older n (next_of h v))
    go true e =
        let now : n ≡ length (next_of h v) = omega (arith, leb-true (records_in (a ∷ ps)) n e, count, l) in
        subst (LeadsTo (a ∷ ps)) (sym (older_all (next_of h v) n now)) all
    go false e =
        let w = wound_step h v n (omega (arith, leb-false (records_in (a ∷ ps)) n e, count)) in
        subst (LeadsTo (right_after n ps)) (sym w.1) (on w.0)

pub leads_right_after : {ps : List Answered} {h : History} → LeadsTo ps h → (n : ℕ) → n ≤ length h → LeadsTo (right_after n ps) (older n h)
unfolding right_after
leads_right_after nothing_yet n l = let none : n ≡ 0 = omega arith in rw none nothing_yet
leads_right_after (led.found {ps = ps} {h = h} before r f g) n l =
    right_after_lem (record { call = call_of r; number = 0 }) ps h (accepted (plain 0) r) (led.found before r f g) n l (λ less. leads_right_after before n less)
leads_right_after (then {ps = ps} {h = h} before room c) n l =
    right_after_lem (record { call = c; number = (reply_of (verdict room h c)).number }) ps h (verdict room h c) (then before room c) n l (λ less. leads_right_after before n less)

-- a restore of the first k bytes gives the first k / 64 records
module _ (room : ℕ) (h : History) (s next : Session) (first j after : List ℕ) (k : ℕ) (is : Holding room h s first j) (l : k ≤ record_size * length h)
    (same : take k after ≡ take k j) (number at : ℕ) (told : Restores (take k after) number at next) where
  abbrev whole : ℕ
  whole = k / record_size

  inside : whole ≤ length h
  inside = omega (arith, l)

  cut_gives : restore_of (take k after) ≡ restored (older whole h)
  cut_gives = ap (λ (z : List ℕ). restore_of z) (same ∙ ap (take k) is.begins) ∙ restore_cut h is.rep.sized is.rep.is_fine is.rep.few (drop (record_size * length h) first) k l

  pub cut_number : (number ≡ 0) × (at ≡ 0)
  cut_number = (told.answer ∙ ap restore_number cut_gives, told.beside ∙ ap restore_at cut_gives)

  pub cut_holds : room_of (length after) ≡ room → Holding room (older whole h) next after after
  cut_holds room_is =
      let size = older_length h whole inside in
      let front : take (record_size * whole) after ≡ written (older whole h) =
      sym (take-take (record_size * whole) k after (omega arith))
      ∙ ap (take (record_size * whole)) same
      ∙ take-take (record_size * whole) k j (omega arith)
      ∙ ap (take (record_size * whole)) is.begins
      ∙ take-append-le (record_size * whole) (written h) (drop (record_size * length h) first) (let long = length_written h is.rep.sized in omega (arith, long, inside))
      ∙ written_older h is.rep.sized whole inside in
      record {
        rep = subst (Rep next) (ap history_of cut_gives) told.state;
        room_is = room_is;
        begins = sym (take-append-drop (record_size * whole) after) ∙ ap (λ (z : List ℕ). z ++ drop (record_size * whole) after) front ∙ ap (λ (n : ℕ). written (older whole h) ++ drop (record_size * n) after) (sym size);
      }

-- what a run has come to
pub record Came (room : ℕ) (es : List Event) (s : Session) (first j : List ℕ) : Type 0 where
  pub records : History
  pub told : LeadsTo (lasting es) records
  pub holding : Holding room records s first j

pub noted_told : (m : Move) (room : ℕ) (ps : List Answered) (h : History) (j : List ℕ) (a : Heard) → LeadsTo ps h → a ≡ answer_on room h m j → LeadsTo (noted m (number_in a) ps) (next_of h (verdict_on room h m))
noted_told (calls c) room ps h j a told is = subst (λ (n : ℕ). LeadsTo (record { call = c; number = n } ∷ ps) (next_of h (verdict room h c))) (sym (ap number_in is)) (then told room c)
noted_told (asks_earliest kind rank bank) room ps h j a told is = told
noted_told asks_status room ps h j a told is = told
noted_told asks_stretch room ps h j a told is = told

-- THE RECORDS THAT A JOURNAL HELD at the start are calls that were accepted
pub leads_found : (h : History) → T (fine h) → LeadsTo (lasting (map found h)) h
unfolding lasting fine
leads_found [] f = nothing_yet
leads_found (r ∷ h) f =
    let both = and_left (fits (standing h) r && follows (standing h) r) (fine h) f in
    led.found (leads_found h (and_right (fits (standing h) r && follows (standing h) r) (fine h) f)) r (true_is (fits (standing h) r) (and_left (fits (standing h) r) (follows (standing h) r) both))
    (true_is (follows (standing h) r) (and_right (fits (standing h) r) (follows (standing h) r) both))

found_count : (h : History) → records_in (lasting (map found h)) ≡ length h
unfolding lasting unrefused
found_count [] = refl
found_count (r ∷ h) = ap suc (found_count h)

stands_found : (h : History) (n : ℕ) → n ≤ length h → stands_at n (map found h) ≡ map found (older n h)
unfolding stands_at
stands_found [] n l = let none : n ≡ 0 = omega arith in rw none
stands_found (r ∷ h) n l = go (eqb (records_in (lasting (map found (r ∷ h)))) n) refl (stands_found h n)
  where
    count : records_in (lasting (map found (r ∷ h))) ≡ suc (length h)
    count = found_count (r ∷ h)

    go : (t : Bool) → eqb (records_in (lasting (map found (r ∷ h)))) n ≡ t → (n ≤ length h → stands_at n (map found h) ≡ map found (older n h))
        → cond t (map found (r ∷ h)) (stands_at n (map found h)) ≡ map found (older n (r ∷ h))
    go true e on = ap (map found) (sym (older_all (r ∷ h) n (omega (arith, eqb-true (records_in (lasting (map found (r ∷ h)))) n e, count))))
    go false e on = let less : n ≤ length h = omega (arith, eqb-false (records_in (lasting (map found (r ∷ h)))) n e, count, l) in on less ∙ ap (map found) (sym (older_less r h n less))

restored_of : (r : Restored) → restore_number r ≡ 0 → r ≡ restored (history_of r)
restored_of too_long e = absurd (omega (arith, e))
restored_of (bad_at n) e = absurd (omega (arith, e))
restored_of (restored h) e = refl

module _ (room : ℕ) (j : List ℕ) (room_is : room_of (length j) ≡ room) (k at : ℕ) (s : Session) (told : Restores (take k j) 0 at s) where
  abbrev pub held : History
  held = history_of (restore_of (take k j))

  pub found_holds : Holding room held s j j
  found_holds =
      let w = restored_bytes (take k j) held (restored_of (restore_of (take k j)) (sym told.answer)) in
      let size = length-take k j in
      let front : take (record_size * length held) j ≡ written held = sym (take-take (record_size * length held) k j (omega (arith, w.0, size))) ∙ sym w.1 in
      record {
        rep = told.state;
        room_is = room_is;
        begins = sym (take-append-drop (record_size * length held) j) ∙ ap (λ (z : List ℕ). z ++ drop (record_size * length held) j) front;
      }

unfoldable pub came : {room : ℕ} {es : List Event} {s : Session} {first j : List ℕ} → Run room es s first j → Came room es s first j
unfolding lasting written
came (starts j room_is) = record { records = []; told = nothing_yet; holding = record { rep = fresh_rep; room_is = room_is; begins = refl } }
came {room} (resumes {s = s} j room_is small k at told) =
    record { records = history_of (restore_of (take k j)); told = leads_found (history_of (restore_of (take k j))) told.state.is_fine; holding = found_holds room j room_is k at s told }
came {room} (moves {es = es} {j = j} {m = m} {a = a} before d) =
    let w = came before in
    let is : a ≡ answer_on room w.records m j = (does_on d w.records w.holding.rep).answer ∙ ap (λ (n : ℕ). answer_on n w.records m j) w.holding.room_is in
    record {
      records = next_of w.records (verdict_on room w.records m);
      told = noted_told m room (lasting es) w.records j a w.told is;
      holding = does_holds room w.records w.holding d;
    }
came {room} (fails {s = s} {next = next} {first = first} {j = j} before k l after room_is same number at told) =
    let w = came before in
    let low : k ≤ record_size * length w.records = rw w.holding.rep.records at l in
    record {
      records = older (k / record_size) w.records;
      told = leads_right_after w.told (k / record_size) (omega (arith, low));
      holding = cut_holds room w.records s next first j after k w.holding low same number at told room_is;
    }

-- the answer on the history is document 01's over the calls and answers
by_calls : (room : ℕ) (ps : List Answered) (h : History) → LeadsTo ps h → (m : Move) (j : List ℕ) → answer_on room h m j ≡ answer_by room ps m j
unfolding open_on offer_on earliest_on take_back_on status_on stretch_of
by_calls room ps h told m j = rw (← leads_current told, ← (leads_kept told).count) (go m)
  where
    go : (m : Move) → answer_on room h m j ≡ answer_at room (length h) (standing h) m j
    go (calls (open_session o)) = refl
    go (calls (offer kind rank bank t)) = refl
    go (calls take_back) = refl
    go (asks_earliest kind rank bank) = refl
    go asks_status = refl
    go asks_stretch = refl

-- DEMAND 3, first half. After any run each move gets document 01's answer over the calls and answers that last
pub demand_three : {room : ℕ} {es : List Event} {s next : Session} {first j after : List ℕ} {m : Move} {a : Heard}
    → Run room es s first j → Does m s j a next after → a ≡ answer_by room (lasting es) m j
demand_three {room} {es} {j = j} {m = m} run d =
    let w = came run in
    (does_on d w.records w.holding.rep).answer
    ∙ ap (λ (n : ℕ). answer_on n w.records m j) w.holding.room_is
    ∙ by_calls room (lasting es) w.records w.told m j

-- the journal begins with the accepted records' bytes, and no byte behind them has changed
pub journal_begins : {room : ℕ} {es : List Event} {s : Session} {first j : List ℕ}
    → Run room es s first j → j ≡ written (records_of (unrefused (lasting es))) ++ drop (record_size * records_in (lasting es)) first
journal_begins {es = es} {first = first} {j = j} run =
    let w = came run in
    let k = leads_kept w.told in
    w.holding.begins ∙ ap (λ (n : ℕ). written w.records ++ drop (record_size * n) first) k.count ∙ ap (λ (h : History). written h ++ drop (record_size * records_in (lasting es)) first) k.records

-- THE SAME ANSWERS from two states and journals that hold one history. The stretch lies inside the history's bytes
part_inside : (w rest : List ℕ) (p : Part) → p.start + p.size ≤ length w → part_of p (w ++ rest) ≡ part_of p w
part_inside w rest p l =
    let size = length-drop p.start w in
    ap (take p.size) (drop-append-le p.start w rest (omega arith)) ∙ take-append-le p.size (drop p.start w) rest (omega (arith, size))

module _ (h : History) (sized : AllSized h) where
  abbrev bytes : List ℕ
  bytes = written h

  stretch_of_lem : (rest : List ℕ) → (stretch_of h (length (bytes ++ rest)) ≡ stretch_of h (length bytes)) × (part_of (stretch_of h (length (bytes ++ rest))) (bytes ++ rest) ≡ part_of (stretch_of h (length bytes)) bytes)
  unfolding stretch_of
  stretch_of_lem rest = go (standing h) (number_below h)
    where
      size : length bytes ≡ record_size * length h
      size = length_written h sized

      fits : leb (record_size * length h) (length bytes) ≡ true
      fits = le-leb (record_size * length h) (length bytes) (omega (arith, size))

      fits_too : leb (record_size * length h) (length (bytes ++ rest)) ≡ true
      fits_too = let both = length-append bytes rest in le-leb (record_size * length h) (length (bytes ++ rest)) (omega (arith, size, both))

      go : (k : Current) → Below (length h) k
          → (stretch_case (length h) k (length (bytes ++ rest)) ≡ stretch_case (length h) k (length bytes)) × (part_of (stretch_case (length h) k (length (bytes ++ rest))) (bytes ++ rest) ≡ part_of (stretch_case (length h) k (length bytes)) bytes)
      go closed l = (refl, refl)
      go (session st) l =
          rw (fits, fits_too)
          (refl, part_inside bytes rest (record { start = record_size * st.number; size = record_size * (length h - st.number) }) (omega (arith, size, l)))

  same_answer : (room : ℕ) (m : Move) (rest rest' : List ℕ) → answer_on room h m (bytes ++ rest) ≡ answer_on room h m (bytes ++ rest')
  same_answer room (calls c) rest rest' = refl
  same_answer room (asks_earliest kind rank bank) rest rest' = refl
  same_answer room asks_status rest rest' = refl
  same_answer room asks_stretch rest rest' = handed_same rest ∙ sym (handed_same rest')
    where
      handed_same : (x : List ℕ) → answer_on room h asks_stretch (bytes ++ x) ≡ handed (stretch_of h (length bytes)) (part_of (stretch_of h (length bytes)) bytes)
      handed_same x = let w = stretch_of_lem x in ap (λ (b : List ℕ). handed (stretch_of h (length (bytes ++ x))) b) w.1 ∙ ap (λ (p : Part). handed p (part_of (stretch_of h (length bytes)) bytes)) w.0

-- the records of one more move
abbrev put_of : ℕ → Verdict → List PutRecord → List PutRecord
put_of n (refused r) ps = ps
put_of n (accepted r e) ps = record { number = n; one = e } ∷ ps

put_one : (n : ℕ) (v : Verdict) (ps : List PutRecord) (j : List ℕ) → put_all ps (bytes_after j n v) ≡ put_all (put_of n v ps) j
unfolding put_all
put_one n (refused r) ps j = refl
put_one n (accepted r e) ps j = refl

pub goes_on_lem : (room : ℕ) (h : History) (s s' : Session) (first first' j j' : List ℕ) → Holding room h s first j → Holding room h s' first' j' → GoesOnAs s j s' j'
unfolding put_all
goes_on_lem room h s s' first first' j j' k k' ms xs xs' last last' final final' ends ends = (refl, record { puts = []; one = refl; other = refl })
goes_on_lem room h s s' first first' j j' k k' ms xs xs' last last' final final' (plays {next = next} {after = after} {m = m} {a = a} {ms = more} {xs = as₁} d p) (plays {next = next'} {after = after'} {a = a'} {xs = as₂} d' p') =
    let one = does_on d h k.rep in
    let other = does_on d' h k'.rep in
    let v = verdict_on room h m in
    let rest = goes_on_lem room (next_of h v) next next' first first' after after' (does_holds room h k d) (does_holds room h k' d') more as₁ as₂ last last' final final' p p' in
    let told : a ≡ answer_on room h m j = one.answer ∙ ap (λ (n : ℕ). answer_on n h m j) k.room_is in
    let told' : a' ≡ answer_on room h m j' = other.answer ∙ ap (λ (n : ℕ). answer_on n h m j') k'.room_is in
    let same : a ≡ a' =
    told
    ∙ ap (answer_on room h m) k.begins
    ∙ same_answer h k.rep.sized room m (drop (record_size * length h) first) (drop (record_size * length h) first')
    ∙ ap (answer_on room h m) (sym k'.begins)
    ∙ sym told' in
    let bytes : after ≡ bytes_after j (length h) v = subst (λ (n : ℕ). after ≡ bytes_after j (length h) (verdict_on n h m)) k.room_is one.bytes in
    let bytes' : after' ≡ bytes_after j' (length h) v = subst (λ (n : ℕ). after' ≡ bytes_after j' (length h) (verdict_on n h m)) k'.room_is other.bytes in (
      ap (λ (x : Heard). x ∷ as₁) same ∙ ap (λ (xs : List Heard). a' ∷ xs) rest.0,
      record {
        puts = put_of (length h) v rest.1.puts;
        one = rest.1.one ∙ ap (put_all rest.1.puts) bytes ∙ put_one (length h) v rest.1.puts j;
        other = rest.1.other ∙ ap (put_all rest.1.puts) bytes' ∙ put_one (length h) v rest.1.puts j';
      },
    )

-- a moment of a run, by its events, at which the journal held these records
record Moment (room : ℕ) (es : List Event) (h : History) : Type 0 where
  pub state : Session
  pub begun : List ℕ
  pub journal : List ℕ
  pub run : Run room es state begun journal
  pub holding : Holding room h state begun journal

older_older : (n w : ℕ) (h : History) → n ≤ w → w ≤ length h → older n (older w h) ≡ older n h
older_older n w h l m =
    let size = older_length h w m in
    let less : length h - w + (length (older w h) - n) ≡ length h - n = omega (arith, size) in
    drop-drop (length (older w h) - n) (length h - w) h ∙ ap (λ (k : ℕ). drop k h) less

-- every number of records up to now was had last at some moment, and those are the first records of now
module _ {room : ℕ} where
  now_or_before : {e : Event} {es : List Event} {s : Session} {first j : List ℕ} (run : Run room (e ∷ es) s first j) (n : ℕ) → n ≤ length (came run).records
      → (n < length (came run).records → Moment room (stands_at n es) (older n (came run).records)) → Moment room (stands_at n (e ∷ es)) (older n (came run).records)
  unfolding stands_at
  now_or_before {e} {es} {s} {first} {j} run n l before = go (eqb (records_in (lasting (e ∷ es))) n) refl
    where
      h : History
      h = (came run).records

      count : length h ≡ records_in (lasting (e ∷ es))
      count = (leads_kept (came run).told).count

      go : (t : Bool) → eqb (records_in (lasting (e ∷ es))) n ≡ t → Moment room (cond t (e ∷ es) (stands_at n es)) (older n h)
      go true is =
          let all : n ≡ length h = omega (arith, eqb-true (records_in (lasting (e ∷ es))) n is, count) in
          record { state = s; begun = first; journal = j; run = run; holding = subst (λ (x : History). Holding room x s first j) (sym (older_all h n all)) (came run).holding }
      go false is = before (omega (arith, eqb-false (records_in (lasting (e ∷ es))) n is, count, l))

  moment : {es : List Event} {s : Session} {first j : List ℕ} (run : Run room es s first j) (n : ℕ) → n ≤ length (came run).records
      → Moment room (stands_at n es) (older n (came run).records)
  unfolding stands_at came
  moment (starts j room_is) n l =
      let none : n ≡ 0 = omega arith in
      rw none (record { state = fresh_state; begun = j; journal = j; run = starts j room_is; holding = (came (starts j room_is)).holding })
  moment (resumes {s = s} j room_is small k at told) n l =
      let is = found_holds room j room_is k at s told in
      let h = held room j room_is k at s told in
      let m = record_size * n in
      let whole : m / record_size ≡ n = omega arith in
      let cut : restore_of (take m j) ≡ restored (older n h) =
      ap (λ (z : List ℕ). restore_of (take m z)) is.begins
      ∙ restore_cut h is.rep.sized is.rep.is_fine is.rep.few (drop (record_size * length h) j) m (omega (arith, l))
      ∙ ap (λ (i : ℕ). restored (older i h)) whole in
      let v = restore_in (take m j) in
      let again = restore_told (take m j) (restored_number v) (restored_at v) (restored_state v) (take_small m j small) (record { answer = refl; beside = refl; state = refl }) in
      let zero : restored_number v ≡ 0 = again.answer ∙ ap restore_number cut in
      let told' : Restores (take m j) 0 (restored_at v) (restored_state v) = subst (λ (i : ℕ). Restores (take m j) i (restored_at v) (restored_state v)) zero again in
      let events : found_in (take m j) ≡ stands_at n (map found h) = ap (λ (r : Restored). map found (history_of r)) cut ∙ sym (stands_found h n l) in
      record {
        state = restored_state v;
        begun = j;
        journal = j;
        run = subst (λ (es : List Event). Run room es (restored_state v) j j) events (resumes j room_is small m (restored_at v) told');
        holding = subst (λ (g : History). Holding room g (restored_state v) j j) (ap history_of cut) (found_holds room j room_is m (restored_at v) (restored_state v) told');
      }
  moment (moves {es = es} {m = m} before d) n l =
      now_or_before (moves before d) n l
      (λ less.
      let h = (came before).records in
      let w = wound_step h (verdict_on room h m) n less in
      subst (Moment room (stands_at n es)) (sym w.1) (moment before n w.0))
  moment (fails {es = es} {s = s} before k low after room_is same number at told) n l =
      now_or_before (fails before k low after room_is same number at told) n l
      (λ less.
      let h = (came before).records in
      let inside : k / record_size ≤ length h = omega (arith, (came before).holding.rep.records, low) in
      let size = older_length h (k / record_size) inside in
      let fits : n ≤ k / record_size = omega (arith, size, less) in
      subst (Moment room (stands_at n es)) (sym (older_older n (k / record_size) h fits inside)) (moment before n (omega (arith, fits, inside))))

-- DEMAND 3, second half. The mains fail after any run, and the first k bytes are left. The restore answers 0, and what it gives goes on as the run
-- did right after record k / 64 was last written, over any journal with these first bytes and this room
pub cut : {room : ℕ} {es : List Event} {last next : Session} {first j after : List ℕ} {k number at : ℕ}
    → Run room es last first j → k ≤ record_size * last.progress.records → room_of (length after) ≡ room → take k after ≡ take k j → Restores (take k after) number at next
    → (number ≡ 0) × (at ≡ 0) × GoesOnFrom room (k / record_size) es next after
cut {room} {es} {last} {next} {first} {j} {after} {k} {number} {at} run l room_is same told =
    let w = came run in
    let h = w.records in
    let low : k ≤ record_size * length h = rw w.holding.rep.records at l in
    let inside : k / record_size ≤ length h = omega (arith, low) in
    let numbers = cut_number room h last next first j after k w.holding low same number at told in
    let restored-holds = cut_holds room h last next first j after k w.holding low same number at told room_is in
    let m = moment run (k / record_size) inside in (
      numbers.0,
      numbers.1,
      record {
        state = m.state;
        begun = m.begun;
        journal = m.journal;
        run = m.run;
        count = m.holding.rep.records ∙ older_length h (k / record_size) inside;
        on = goes_on_lem room (older (k / record_size) h) next m.state after m.begun after m.journal restored-holds m.holding;
      },
    )

-- two runs whose accepted calls are the same go on alike, whatever failed, was refused or was asked in either
pub same_calls : {room : ℕ} {es es' : List Event} {s s' : Session} {first first' j j' : List ℕ}
    → Run room es s first j → Run room es' s' first' j' → unrefused (lasting es) ≡ unrefused (lasting es') → GoesOnAs s j s' j'
same_calls {room} {es} {es'} {s} {s'} {first} {first'} {j} {j'} run run' same =
    let w = came run in
    let w' = came run' in
    let one : w'.records ≡ w.records = (leads_kept w'.told).records ∙ ap records_of (sym same) ∙ sym (leads_kept w.told).records in
    goes_on_lem room w.records s s' first first' j j' w.holding (subst (λ (h : History). Holding room h s' first' j') one w'.holding)

none_left : (ps : List Answered) → unrefused (right_after 0 ps) ≡ []
unfolding right_after unrefused
none_left [] = refl
none_left (a ∷ ps) = go (leb (records_in (a ∷ ps)) 0) refl (none_left ps)
  where
    empty : (cs : List Call) → length cs ≤ 0 → cs ≡ []
    empty [] l = refl
    empty (c ∷ cs) l = absurd (omega arith)

    go : (t : Bool) → leb (records_in (a ∷ ps)) 0 ≡ t → unrefused (right_after 0 ps) ≡ [] → unrefused (cond t (a ∷ ps) (right_after 0 ps)) ≡ []
    go true e on = empty (unrefused (a ∷ ps)) (leb-true (records_in (a ∷ ps)) 0 e)
    go false e on = on

-- where no whole record is left, the restored state goes on as a fresh one
pub cut_fresh : {room : ℕ} {es : List Event} {s next : Session} {first j after blank : List ℕ} {k number at : ℕ}
    → Run room es s first j → k ≤ record_size * s.progress.records → k < record_size → room_of (length after) ≡ room → take k after ≡ take k j → Restores (take k after) number at next
    → room_of (length blank) ≡ room → GoesOnAs next after fresh_state blank
unfolding lasting unrefused
cut_fresh {es = es} {after = after} {blank = blank} {k = k} {number = number} {at = at} run l short room_is same told blank-room =
    let none : k / record_size ≡ 0 = omega arith in
    same_calls (fails run k l after room_is same number at told) (starts blank blank-room) (ap (λ (n : ℕ). unrefused (right_after n (lasting es))) none ∙ none_left (lasting es))
