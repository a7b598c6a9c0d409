-- How a listing ends, from the definitions of listing and restore.
use mathlib.Core.Path.{◌≡◌, refl, sym, ◌∙◌, ap}
use mathlib.Core.Bool.{Bool, true, false, cond}
use mathlib.Core.List.{List, [], ◌∷◌, ◌++◌, append_assoc}
use Prim.Native.Nat.{ℕ, zero, suc, ◌+◌, ◌/◌, ◌%◌, ◌≤◌, ◌<◌}
use native.Mathlib.Omega.{arith}
use lib.Dec.{eqb, ltb}
use lib.ListN.{length, take}
use lib.Seq.{take_all}
use borrow.Author.Tests.{eq-eqb, ne_eqb, ltb-true, ltb-false}
use Rattle.std.specs.Prelude.{Option, Some, None}
use Rattle.history.specs.Records.{Record, History}
use Rattle.history.specs.Answers.{max_records, record_size}
use Rattle.journal.specs.Restore.{whole_records, taken, bad_at, restored, replay, restore_of}
use Rattle.journal.specs.Listing.{record_line, bad_line, end_line, listed, lines, listing}
use Rattle.journal.proofs.PieceLaws.{length_pieces}
use Rattle.demands.specs.Listings.{record_lines, Ending, at_bad, long_at_bad, one_too_many, at_end}

-- records listed behind a history that has room for m more
data From (bs : List (List ℕ)) (h : History) (m loose : ℕ) (text : List ℕ) : Type 0 where
  bad : (n : ℕ) (g : History) → replay (take m bs) h ≡ bad_at n → length g ≡ n → text ≡ record_lines g ++ bad_line n → From bs h m loose text
  many : (g : History) → m < length bs → replay (take m bs) h ≡ restored g → text ≡ record_lines g ++ bad_line max_records → From bs h m loose text
  all : (g : History) → length bs ≤ m → replay (take m bs) h ≡ restored g → length g ≡ length h + length bs → text ≡ record_lines g ++ end_line (length g) loose → From bs h m loose text

-- record 16,777,216 ends it
full : (b : List ℕ) (bs : List (List ℕ)) (h : History) (loose : ℕ) (k : Option Record) → length h ≡ max_records
    → From (b ∷ bs) h 0 loose (record_lines h ++ listed (length h) k (λ r. lines bs (r ∷ h) loose))
unfolding replay
full b bs h loose None e = many h (omega arith) refl (ap (λ (n : ℕ). record_lines h ++ bad_line n) e)
full b bs h loose (Some r) e = many h (omega arith) refl (rw (eq-eqb (length h) max_records e) (ap (λ (n : ℕ). record_lines h ++ bad_line n) e))

step : (b : List ℕ) (bs : List (List ℕ)) (h : History) (m loose : ℕ) (k : Option Record) → taken h b ≡ k → length h + suc m ≡ max_records
    → ((r : Record) → From bs (r ∷ h) m loose (record_lines (r ∷ h) ++ lines bs (r ∷ h) loose))
    → From (b ∷ bs) h (suc m) loose (record_lines h ++ listed (length h) k (λ r. lines bs (r ∷ h) loose))
unfolding replay record_lines
step b bs h m loose None is e on = bad (length h) h (rw is) refl refl
step b bs h m loose (Some r) is e on = again (on r)
  where
    text : record_lines h ++ cond (eqb (length h) max_records) (bad_line (length h)) (record_line (length h) r ++ lines bs (r ∷ h) loose) ≡ record_lines (r ∷ h) ++ lines bs (r ∷ h) loose
    text = rw (ne_eqb (length h) max_records (λ z. absurd (omega arith))) (sym (append_assoc (record_lines h) (record_line (length h) r) (lines bs (r ∷ h) loose)))

    again : From bs (r ∷ h) m loose (record_lines (r ∷ h) ++ lines bs (r ∷ h) loose)
        → From (b ∷ bs) h (suc m) loose (record_lines h ++ cond (eqb (length h) max_records) (bad_line (length h)) (record_line (length h) r ++ lines bs (r ∷ h) loose))
    again (bad n g q l t) = bad n g (rw is q) l (text ∙ t)
    again (many g l q t) = many g (omega arith) (rw is q) (text ∙ t)
    again (all g l q c t) = all g (omega arith) (rw is q) (omega arith) (text ∙ t)

from : (bs : List (List ℕ)) (h : History) (m loose : ℕ) → length h + m ≡ max_records → From bs h m loose (record_lines h ++ lines bs h loose)
unfolding replay lines
from [] h zero loose e = all h (omega arith) refl (omega arith) refl
from [] h (suc m) loose e = all h (omega arith) refl (omega arith) refl
from (b ∷ bs) h zero loose e = full b bs h loose (taken h b) (omega arith)
from (b ∷ bs) h (suc m) loose e = step b bs h m loose (taken h b) refl e (λ r. from bs (r ∷ h) m loose (omega arith))

-- THE LISTING'S END, for any bytes
pub listing_ends : (bytes : List ℕ) → Ending bytes
unfolding listing restore_of record_lines
listing_ends bytes = go (ltb max_records (length bytes / record_size)) refl (from (whole_records bytes) [] max_records (length bytes % record_size) refl)
  where
    count : length (whole_records bytes) ≡ length bytes / record_size
    count = length_pieces (length bytes / record_size) bytes

    go : (t : Bool) → ltb max_records (length bytes / record_size) ≡ t → From (whole_records bytes) [] max_records (length bytes % record_size) (lines (whole_records bytes) [] (length bytes % record_size)) → Ending bytes
    go true e (bad n g q l t) = long_at_bad n g (rw e) q l (record { text = t })
    go true e (many g l q t) = one_too_many g (rw e) q (record { text = t })
    go true e (all g l q c t) = absurd (omega (arith, ltb-true max_records (length bytes / record_size) e, count, l))
    go false e (bad n g q l t) =
        let low : length (whole_records bytes) ≤ max_records = omega (arith, ltb-false max_records (length bytes / record_size) e, count) in
        at_bad n g (rw e (ap (λ (ps : List (List ℕ)). replay ps []) (sym (take_all max_records (whole_records bytes) low)) ∙ q)) l (record { text = t })
    go false e (many g l q t) = absurd (omega (arith, ltb-false max_records (length bytes / record_size) e, count, l))
    go false e (all g l q c t) =
        let whole : length g ≡ length bytes / record_size = c ∙ omega (arith, count) in
        at_end g (rw e (ap (λ (ps : List (List ℕ)). replay ps []) (sym (take_all max_records (whole_records bytes) l)) ∙ q)) (record { text = t ∙ ap (λ (n : ℕ). record_lines g ++ end_line n (length bytes % record_size)) whole })
