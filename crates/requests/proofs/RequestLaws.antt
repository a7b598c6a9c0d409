-- Laws of what is read and asked.
use mathlib.Core.Path.{◌≡◌, refl, sym, ◌∙◌, ap}
use mathlib.Core.Bool.{Bool, true, false, cond, not, ◌&&◌, and-true}
use mathlib.Core.Logic.{◌⊎◌, inl, inr}
use denote.Ref.{Bor}
use mathlib.Core.List.{List, [], ◌∷◌, ◌++◌, map, append_assoc, append-nil}
use Prim.Native.Nat.{ℕ, suc, ◌+◌, ◌-◌, ◌≤◌, ◌<◌}
use native.Mathlib.Numerals.{add-one}
use native.Mathlib.Omega.{arith}
use lib.ListN.{length, take, drop, get_or, set, drop_of_length-le}
use Rattle.std.proofs.Common.{length-take-le}
use lib.Seq.{drop-cons, take-suc-set}
use lib.Dec.{eqb}
use borrow.Author.Tests.{eq-eqb, ne_eqb, eqb-true, eqb-false, lt-ltb, le-ltb}
use Rattle.std.specs.Prelude.{nat_lt, Option, Some, None}
use Rattle.std.specs.List.{find}
use Rattle.std.specs.Option.{MatchOption, option_map, unwrap_or}
use Rattle.std.specs.Str.{bytes_eq}
use Rattle.timing.specs.declared.kinds.CommandKind.{CommandKind}
use Rattle.timing.specs.declared.kinds.CommandKind.TheVariants.{Act, Rd, Wr, Prepb, Preab, Refab, Refpb}
use Rattle.timing.specs.Kinds.{code_of, name_of}
use Rattle.requests.specs.declared.forms.Form.{Form}
use Rattle.requests.specs.declared.forms.Request.{Request}
use Rattle.requests.specs.declared.forms.Request.TheVariants as asks
use Rattle.requests.specs.Words.{words}
use Rattle.requests.specs.declared.requests.Asked.{Asked}
use Rattle.requests.specs.Forms.{Row, row_of, form_of, place_at, is_whole}
use Rattle.requests.specs.Requests.{kinds, kind_index, kind_number, number_at, also, read_from, IsRead, Asking, Asks, asking_of, nothing, malformed, named, filled, asked_by, without_return, asked}

pub option_map_same : {X : Type 0} (o : Option X) → option_map (λ x. x) o ≡ o
option_map_same None = refl
option_map_same (Some x) = refl

-- a kind that is found by its name is the one at the name's place
at_place : (a b c d e f g : Bool) → let n = cond (not a) (1 + cond (not b) (1 + cond (not c) (1 + cond (not d) (1 + cond (not e) (1 + cond (not f) (1 + cond (not g) 1 0) 0) 0) 0) 0) 0) 0 in
    option_map code_of (cond a (Some Act) (cond b (Some Rd) (cond c (Some Wr) (cond d (Some Prepb) (cond e (Some Preab) (cond f (Some Refab) (cond g (Some Refpb) None)))))))
    ≡ option_map (λ k. code_of (get_or kinds k Act)) (cond (nat_lt n 7) (Some n) None)
at_place true b c d e f g = refl
at_place false true c d e f g = refl
at_place false false true d e f g = refl
at_place false false false true e f g = refl
at_place false false false false true f g = refl
at_place false false false false false true g = refl
at_place false false false false false false true = refl
at_place false false false false false false false = refl

pub kind_found : (word : List ℕ) → option_map code_of (find (λ k. bytes_eq (name_of k) word) kinds) ≡ kind_number word
unfolding kind_index
kind_found word =
    let is : CommandKind → Bool = λ k. bytes_eq (name_of k) word in
    at_place (is Act) (is Rd) (is Wr) (is Prepb) (is Preab) (is Refab) (is Refpb)

-- a request that is found by its row is that of the row found
row_request : (q : Request) → (row_of q).request ≡ q
row_request asks.Nothing = refl
row_request asks.Malformed = refl
row_request asks.Open = refl
row_request asks.Offer = refl
row_request asks.Ask = refl
row_request asks.Back = refl
row_request asks.Status = refl
row_request asks.Stretch = refl
row_request asks.Lend = refl
row_request asks.Restore = refl
row_request asks.Poke = refl
row_request asks.Bytes = refl
row_request asks.Gaps = refl
row_request asks.Burst = refl

pub row_found : (p : Row → Bool) (qs : List Request) → option_map (λ r. r.request) (find p (map row_of qs)) ≡ find (λ q. p (row_of q)) qs
row_found p [] = refl
row_found p (q ∷ qs) = go (p (row_of q)) (row_found p qs)
  where
    go : (t : Bool) → option_map (λ r. r.request) (find p (map row_of qs)) ≡ find (λ q. p (row_of q)) qs
        → option_map (λ r. r.request) (cond t (Some (row_of q)) (find p (map row_of qs))) ≡ cond t (Some q) (find (λ q. p (row_of q)) qs)
    go true e = ap Some (row_request q)
    go false e = e

-- numbers read so far, before those still to be read
abbrev pub onto : List ℕ → Option (List ℕ) → Option (List ℕ)
onto ns more = option_map (λ m. ns ++ m) more

onto_also : (ns : List ℕ) (n : ℕ) (r : Option (List ℕ)) → onto ns (also (Some n) r) ≡ onto (ns ++ (n ∷ [])) r
onto_also ns n None = refl
onto_also ns n (Some more) = ap Some (sym (append_assoc ns (n ∷ []) more))

module _ (f : Form) (all rest : List (List ℕ)) (numbers : List ℕ) (i : ℕ) (is : read_from f 0 all ≡ onto (take i numbers) (read_from f i rest)) where
  pub read_end : rest ≡ [] → i ≤ length numbers → IsRead (read_from f 0 all) (Some i) numbers
  unfolding read_from
  read_end e room =
      let size : length (take i numbers) ≡ i = length-take-le i numbers room in
      rw (is, e, append-nil (take i numbers), size) (refl, refl)

  module _ (w : List ℕ) (later : List (List ℕ)) (e : rest ≡ w ∷ later) where
    pub read_bad : None ≡ number_at (place_at f i) w → IsRead (read_from f 0 all) None numbers
    unfolding read_from
    read_bad bad = rw (is, e, ← bad) refl

    pub read_next : (n : ℕ) → Some n ≡ number_at (place_at f i) w → i < length numbers → read_from f 0 all ≡ onto (take (i + 1) (set numbers i n)) (read_from f (i + 1) later)
    unfolding read_from
    read_next n good room = is ∙ rw (e, ← good, add-one, take-suc-set numbers i n room) (onto_also (take i numbers) n (read_from f (suc i) later))

-- what asks nothing or is malformed has no numbers
pub none_asked : (q : Request) (a : Asking) (r : Asked) (after : List ℕ) → a ≡ asking_of q [] → r ≡ record { request = q; count = 0 } → Asks a r after
none_asked q a r after e is = rw (e, is) (record { request = refl; count = refl; numbers = refl })

-- numbers that were read fill the request's places, or the line is malformed
module _ (q : Request) (after : List ℕ) where
  pub fills_whole : (read : Option (List ℕ)) (n : ℕ) → IsRead read (Some n) after → is_whole (form_of q) n ≡ true → Asks (filled q read) (record { request = q; count = n }) after
  unfolding filled
  fills_whole (Some ns) n is whole = let same : n ≡ length ns = cc in rw (rw same at whole) (record { request = refl; count = same; numbers = rw same is.1 })
  fills_whole None n is whole = cc

  pub fills_not : (read : Option (List ℕ)) (n : ℕ) → IsRead read (Some n) after → is_whole (form_of q) n ≡ false → filled q read ≡ malformed
  unfolding filled
  fills_not (Some ns) n is part = let same : n ≡ length ns = cc in rw (rw same at part)
  fills_not None n is part = cc

  pub fills_none : (read : Option (List ℕ)) → IsRead read None after → filled q read ≡ malformed
  unfolding filled
  fills_none (Some ns) is = cc
  fills_none None is = refl

-- the first word
is_comment : (w : List ℕ) → bytes_eq (35 ∷ []) (take 1 w) ≡ eqb (get_or w 0 0) 35
is_comment [] = refl
is_comment (b ∷ bs) = go (eqb 35 b) refl
  where
    go : (t : Bool) → eqb 35 b ≡ t → t && true ≡ eqb b 35
    go true e = sym (eq-eqb b 35 (sym (eqb-true 35 b e)))
    go false e = sym (ne_eqb b 35 (λ same. eqb-false 35 b e (sym same)))

module _ (in_file : Bool) (ws : List (List ℕ)) where
  pub asked_none : ws ≡ [] → asked_by in_file ws ≡ nothing
  unfolding asked_by
  asked_none e = rw e

  module _ (w : List ℕ) (later : List (List ℕ)) (first : ws ≡ w ∷ later) where
    pub asked_comment : bytes_eq (35 ∷ []) (take 1 w) ≡ true → asked_by in_file ws ≡ nothing
    unfolding asked_by
    asked_comment e = rw (first, ← is_comment w, e)

    pub asked_named : bytes_eq (35 ∷ []) (take 1 w) ≡ false → (q : Request) → q ≡ named in_file w → asked_by in_file ws ≡ filled q (read_from (form_of q) 0 later)
    unfolding asked_by
    asked_named plain q e = ap (asked_by in_file) first ∙ rw (← is_comment w, plain, ← e)

-- a line by its bytes: none, cut short or too long, and of at most 4,096 with its carriage return
module _ (in_file : Bool) where
  pub asked_empty : (line : List ℕ) (ended : Bool) → length line ≡ 0 → asked line ended in_file ≡ nothing
  unfolding asked asked_by
  asked_empty [] true e = refl
  asked_empty [] false e = refl
  asked_empty (b ∷ bs) ended e = absurd (omega arith)

  pub asked_bad : (line : List ℕ) (ended : Bool) → (length line ≡ 0 → ⊥) → (ended ≡ false) ⊎ ((ended ≡ true) × (4096 < length line)) → asked line ended in_file ≡ malformed
  unfolding asked
  asked_bad [] ended some bad = absurd (some refl)
  asked_bad (b ∷ bs) ended some (inl cut) = rw cut
  asked_bad (b ∷ bs) ended some (inr long) = rw (long.0, lt-ltb 4096 (length (b ∷ bs)) long.1)

  pub asked_whole : (line : List ℕ) (ended : Bool) → ended ≡ true → length line ≤ 4096 → asked line ended in_file ≡ asked_by in_file (words (without_return line))
  unfolding asked
  asked_whole line ended e fits = rw (e, le-ltb 4096 (length line) fits)

last_byte : (line : List ℕ) → 0 < length line → bytes_eq (drop (length line - 1) line) (13 ∷ []) ≡ eqb (get_or line (length line - 1) 0) 13
last_byte line some =
    rw (drop-cons line (length line - 1) 0 (omega arith), drop_of_length-le line {i = suc (length line - 1)} (omega arith)) (and-true (eqb (get_or line (length line - 1) 0) 13))

pub stripped : (line : Bor (List ℕ)) (r : Option (Bor (List ℕ))) → 0 < length line.now
    → MatchOption r (bytes_eq (drop (length line.now - 1) line.now) (13 ∷ []) ≡ false) (λ x. (bytes_eq (drop (length line.now - 1) line.now) (13 ∷ []) ≡ true) × (x.now ≡ take (length line.now - 1) line.now) × (length x.now + 1 ≡ length line.now))
    → (unwrap_or r line).now ≡ without_return line.now
stripped line None some e = rw (sym (last_byte line.now some) ∙ e)
stripped line (Some x) some e = e.1 ∙ rw (sym (last_byte line.now some) ∙ e.0)
