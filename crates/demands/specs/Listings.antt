-- How a listing ends, beside what a restore of the same bytes answers.
use Rattle.std.specs.Prelude.{◌≡◌, List, [], ◌∷◌, ◌++◌, ℕ, ◌/◌, ◌%◌, length, take}
use Rattle.history.specs.Records.{History}
use Rattle.history.specs.Answers.{max_records, record_size}
use Rattle.journal.specs.Restore.{whole_records, too_long, bad_at, restored, replay, restore_of}
use Rattle.journal.specs.Listing.{record_line, bad_line, end_line, listing}

-- one line per record
unfoldable pub record_lines : History → List ℕ
record_lines [] = []
record_lines (r ∷ h) = record_lines h ++ record_line (length h) r

-- a listing is the lines of some records and one last line
pub record EndsIn (bytes : List ℕ) (h : History) (last : List ℕ) : Type 0 where
  pub text : listing bytes ≡ record_lines h ++ last

-- `bad n` if a restore answers 11 with n; in a journal that is too long, if one of its first 16,777,216 records is bad, or they are good and
-- n is 16,777,216; else `end`, the count of whole records and of bytes left over
pub data Ending (bytes : List ℕ) : Type 0 where
  at_bad : (n : ℕ) (h : History) → restore_of bytes ≡ bad_at n → length h ≡ n → EndsIn bytes h (bad_line n) → Ending bytes
  long_at_bad : (n : ℕ) (h : History) → restore_of bytes ≡ too_long → replay (take max_records (whole_records bytes)) [] ≡ bad_at n → length h ≡ n → EndsIn bytes h (bad_line n)
      → Ending bytes
  one_too_many : (h : History) → restore_of bytes ≡ too_long → replay (take max_records (whole_records bytes)) [] ≡ restored h → EndsIn bytes h (bad_line max_records) → Ending bytes
  at_end : (h : History) → restore_of bytes ≡ restored h → EndsIn bytes h (end_line (length bytes / record_size) (length bytes % record_size)) → Ending bytes
