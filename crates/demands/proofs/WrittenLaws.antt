-- The bytes of a history, and what a restore of any first bytes of them gives.
use mathlib.Core.Path.{◌≡◌, refl, sym, ◌∙◌, ap}
use mathlib.Core.Bool.{Bool, true, false, cond, ◌&&◌}
use mathlib.Core.List.{List, [], ◌∷◌, ◌++◌, append-nil, append_assoc}
use Prim.Native.Nat.{ℕ, zero, suc, ◌+◌, ◌-◌, ◌*◌, ◌/◌, ◌≤◌, ◌<◌}
use native.Mathlib.Omega.{arith}
use lib.Dec.{T, leb, ltb}
use lib.ListN.{length, take, drop, length-append, length-drop, take-append-drop}
use lib.Seq.{take_at, take-add, drop-append-add, take-append-le, take_all, take-take, length-take-le}
use borrow.Author.Tests.{leb-true, leb-false, le-ltb}
use Rattle.std.specs.Prelude.{Option, Some, None}
use Rattle.timing.proofs.Truth.{and_left, and_right, true_is}
use Rattle.history.specs.Records.{Record, History, standing}
use Rattle.history.specs.Answers.{max_records, fits, follows, fine, record_size}
use Rattle.journal.specs.Bytes.{bytes_of, Sized}
use Rattle.journal.specs.Restore.{written, put_at, pieces, whole_records, taken, too_long, restored, or_bad, replay, restore_of, history_of}
use Rattle.journal.proofs.Codec.{bytes_size, read_written, written_read}
use Rattle.journal.proofs.PieceLaws.{pieces_join}
use Rattle.statements.specs.Rep.{AllSized}
use Rattle.statements.proofs.RestoreMeans.{taken_passes}

pub length_written : (h : History) → AllSized h → length (written h) ≡ record_size * length h
unfolding written
length_written [] sized = refl
length_written (r ∷ h) sized = length-append (written h) (bytes_of r) ∙ omega (arith, length_written h sized.1, bytes_size r sized.0)

-- a record behind them
pub put_behind : (h : History) (e : Record) (rest : List ℕ) → AllSized h → Sized e → put_at (written h ++ rest) (record_size * length h) (bytes_of e) ≡ written (e ∷ h) ++ drop record_size rest
unfolding written
put_behind h e rest sized one =
    let size = length_written h sized in
    let place : record_size * length h + length (bytes_of e) ≡ length (written h) + record_size = omega (arith, bytes_size e one, size) in
    rw (take_at (written h) rest (record_size * length h) size, place, drop-append-add (written h) rest record_size)

-- the first n records
abbrev pub older : ℕ → History → History
older n h = drop (length h - n) h

pub older_all : (h : History) (n : ℕ) → n ≡ length h → older n h ≡ h
older_all h n e = let none : length h - n ≡ 0 = omega arith in rw none

pub older_less : (e : Record) (h : History) (n : ℕ) → n ≤ length h → older n (e ∷ h) ≡ older n h
older_less e h n l = let one : suc (length h) - n ≡ suc (length h - n) = omega arith in rw one

pub older_length : (h : History) (n : ℕ) → n ≤ length h → length (older n h) ≡ n
older_length h n l = length-drop (length h - n) h ∙ omega arith

pub sized_older : (k : ℕ) (h : History) → AllSized h → AllSized (drop k h)
sized_older zero h s = s
sized_older (suc k) [] s = s
sized_older (suc k) (r ∷ h) s = sized_older k h s.1

fine_older : (k : ℕ) (h : History) → T (fine h) → T (fine (drop k h))
unfolding fine
fine_older zero h f = f
fine_older (suc k) [] f = f
fine_older (suc k) (r ∷ h) f = fine_older k h (and_right (fits (standing h) r && follows (standing h) r) (fine h) f)

pub written_older : (h : History) → AllSized h → (n : ℕ) → n ≤ length h → take (record_size * n) (written h) ≡ written (older n h)
unfolding written
written_older [] sized n l = let none : n ≡ 0 = omega arith in rw none
written_older (r ∷ h) sized n l = go (leb n (length h)) refl (written_older h sized.1 n)
  where
    go : (t : Bool) → leb n (length h) ≡ t → (n ≤ length h → take (record_size * n) (written h) ≡ written (older n h)) → take (record_size * n) (written h ++ bytes_of r) ≡ written (older n (r ∷ h))
    go true e before =
        let less = leb-true n (length h) e in
        let size = length_written h sized.1 in
        take-append-le (record_size * n) (written h) (bytes_of r) (omega (arith, less, size)) ∙ before less ∙ ap written (sym (older_less r h n less))
    go false e before =
        let all : n ≡ length (r ∷ h) = omega (arith, leb-false n (length h) e, l) in
        let size : length (written h ++ bytes_of r) ≡ record_size * suc (length h) = length_written (r ∷ h) sized in
        take_all (record_size * n) (written h ++ bytes_of r) (omega (arith, all, size)) ∙ ap written (sym (older_all (r ∷ h) n all))

-- a replay goes on where a part of it ended
replay_on : (ps qs : List (List ℕ)) (h g : History) → replay ps h ≡ restored g → replay (ps ++ qs) h ≡ replay qs g
unfolding replay
replay_on [] qs h g e = ap (replay qs) (ap history_of e)
replay_on (p ∷ ps) qs h g e = go (taken h p) (λ r. replay_on ps qs (r ∷ h) g) e
  where
    go : (k : Option Record) → ((r : Record) → replay ps (r ∷ h) ≡ restored g → replay (ps ++ qs) (r ∷ h) ≡ replay qs g)
        → or_bad (length h) k (λ r. replay ps (r ∷ h)) ≡ restored g → or_bad (length h) k (λ r. replay (ps ++ qs) (r ∷ h)) ≡ replay qs g
    go None on e = absurd (let z : ◌≡◌ {A = ℕ} 0 1 = cc in omega arith)
    go (Some r) on e = on r e

-- what was written is taken
taken_written : (h : History) (r : Record) → Sized r → fits (standing h) r ≡ true → follows (standing h) r ≡ true → taken h (bytes_of r) ≡ Some r
taken_written h r sized f g = rw (read_written r sized, f, g)

pub replay_written : (h : History) → AllSized h → T (fine h) → replay (pieces (length h) (written h)) [] ≡ restored h
unfolding written replay pieces fine
replay_written [] sized f = refl
replay_written (r ∷ h) sized f =
    let size = length_written h sized.1 in
    let both = and_left (fits (standing h) r && follows (standing h) r) (fine h) f in
    let more : suc (length h) ≡ length h + 1 = omega arith in
    let whole : take record_size (bytes_of r) ≡ bytes_of r = take_all record_size (bytes_of r) (omega (arith, bytes_size r sized.0)) in
    ap (λ (n : ℕ). replay (pieces n (written h ++ bytes_of r)) []) more
    ∙ ap (λ (ps : List (List ℕ)). replay ps []) (pieces_join (length h) 1 (written h) (bytes_of r) size)
    ∙ replay_on (pieces (length h) (written h)) (take record_size (bytes_of r) ∷ []) [] h (replay_written h sized.1 (and_right (fits (standing h) r && follows (standing h) r) (fine h) f))
    ∙ rw (whole, taken_written h r sized.0 (true_is (fits (standing h) r) (and_left (fits (standing h) r) (follows (standing h) r) both)) (true_is (follows (standing h) r) (and_right (fits (standing h) r) (follows (standing h) r) both)))

-- records and up to 63 bytes behind them restore to the records
restore_records : (h : History) → AllSized h → T (fine h) → length h ≤ max_records → (loose : List ℕ) → length loose < record_size → restore_of (written h ++ loose) ≡ restored h
unfolding restore_of pieces
restore_records h sized f few loose short =
    let size = length_written h sized in
    let count : length (written h ++ loose) / record_size ≡ length h = (let both = length-append (written h) loose in omega (arith, both, size)) in
    let none : length h ≡ length h + 0 = omega arith in
    rw (count, le-ltb max_records (length h) few)
    (ap (λ (n : ℕ). replay (pieces n (written h ++ loose)) []) none
    ∙ ap (λ (ps : List (List ℕ)). replay ps []) (pieces_join (length h) 0 (written h) loose size ∙ append-nil (pieces (length h) (written h)))
    ∙ replay_written h sized f)

-- THE CUT: the first k bytes of a journal that begins with a history's bytes restore to its first k / 64 records
pub restore_cut : (h : History) → AllSized h → T (fine h) → length h ≤ max_records → (rest : List ℕ) (k : ℕ) → k ≤ record_size * length h
    → restore_of (take k (written h ++ rest)) ≡ restored (older (k / record_size) h)
restore_cut h sized f few rest k l =
    let n = k / record_size in
    let size = length_written h sized in
    let inside : n ≤ length h = omega arith in
    let cut : take k (written h ++ rest) ≡ take k (written h) = take-append-le k (written h) rest (omega (arith, size)) in
    let front : take (record_size * n) (take k (written h)) ≡ written (older n h) = take-take (record_size * n) k (written h) (omega arith) ∙ written_older h sized n inside in
    let long : length (take k (written h)) ≡ k = length-take-le k (written h) (omega (arith, size)) in
    let loose = drop (record_size * n) (take k (written h)) in
    let short : length loose < record_size = (let left = length-drop (record_size * n) (take k (written h)) in omega (arith, left, long)) in
    ap restore_of (cut ∙ sym (take-append-drop (record_size * n) (take k (written h))) ∙ ap (λ (z : List ℕ). z ++ loose) front)
    ∙ restore_records (older n h) (sized_older (length h - n) h sized) (fine_older (length h - n) h f) (omega (arith, older_length h n inside, few)) loose short

-- AND BACK: bytes that restore begin with the bytes of what they restore to
replay_bytes : (n : ℕ) (bytes : List ℕ) (g h : History) → replay (pieces n bytes) g ≡ restored h → (length h ≡ length g + n) × (written h ≡ written g ++ take (record_size * n) bytes)
unfolding replay pieces written
replay_bytes zero bytes g h e = let same : g ≡ h = ap history_of e in rw (← same) (omega arith, sym (append-nil (written g)))
replay_bytes (suc n) bytes g h e = go (taken g b) refl (λ r. replay_bytes n (drop record_size bytes) (r ∷ g) h) e
  where
    b : List ℕ
    b = take record_size bytes

    parts : take (record_size * suc n) bytes ≡ b ++ take (record_size * n) (drop record_size bytes)
    parts = let more : record_size * suc n ≡ record_size + record_size * n = omega arith in ap (λ (k : ℕ). take k bytes) more ∙ take-add record_size (record_size * n) bytes

    go : (k : Option Record) → taken g b ≡ k
        → ((r : Record) → replay (pieces n (drop record_size bytes)) (r ∷ g) ≡ restored h → (length h ≡ length (r ∷ g) + n) × (written h ≡ written (r ∷ g) ++ take (record_size * n) (drop record_size bytes)))
        → or_bad (length g) k (λ r. replay (pieces n (drop record_size bytes)) (r ∷ g)) ≡ restored h → (length h ≡ length g + suc n) × (written h ≡ written g ++ take (record_size * suc n) bytes)
    go None is on e = absurd (let z : ◌≡◌ {A = ℕ} 0 1 = cc in omega arith)
    go (Some r) is on e =
        let w = on r e in
        let own : b ≡ bytes_of r = written_read b r (taken_passes g b r is).0 in
        (omega (arith, w.0), w.1 ∙ append_assoc (written g) (bytes_of r) (take (record_size * n) (drop record_size bytes)) ∙ ap (λ (x : List ℕ). written g ++ (x ++ take (record_size * n) (drop record_size bytes))) (sym own) ∙ ap (λ (x : List ℕ). written g ++ x) (sym parts))

pub restored_bytes : (bytes : List ℕ) (h : History) → restore_of bytes ≡ restored h → (length h ≡ length bytes / record_size) × (written h ≡ take (record_size * length h) bytes)
unfolding restore_of written
restored_bytes bytes h e = go (ltb max_records (length bytes / record_size)) e
  where
    go : (t : Bool) → cond t too_long (replay (whole_records bytes) []) ≡ restored h → (length h ≡ length bytes / record_size) × (written h ≡ take (record_size * length h) bytes)
    go true e = absurd (let z : ◌≡◌ {A = ℕ} 0 1 = cc in omega arith)
    go false e =
        let w = replay_bytes (length bytes / record_size) bytes [] h e in
        let count : length h ≡ length bytes / record_size = omega (arith, w.0) in
        (count, rw count w.1)
