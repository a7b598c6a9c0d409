-- Demand 1 for every state value, from what each call leaves.
use mathlib.Core.Path.{◌≡◌, refl, sym, ◌∙◌, ap, subst}
use mathlib.Core.Logic.{◌≢◌}
use mathlib.Core.Bool.{Bool, true, false, cond, ◌&&◌, true≢false, false≢true}
use mathlib.Core.List.{List, [], ◌∷◌, ◌++◌, Memᴰ}
use Prim.Native.Nat.{ℕ, ◌+◌, ◌-◌, ◌*◌, ◌≤◌}
use native.Mathlib.Omega.{arith}
use lib.Dec.{eqb, leb, ltb}
use lib.ListN.{length}
use borrow.Author.Tests.{eqb-true, eqb-false, leb-true, ltb-true}
use Rattle.std.specs.Prelude.{Option, Some, None}
use Rattle.timing.specs.declared.kinds.CommandKind.{CommandKind}
use Rattle.timing.proofs.Truth.{and_true}
use Rattle.timing.specs.declared.rules.Command.{Command}
use Rattle.timing.specs.Kinds.{kind_of}
use Rattle.timing.specs.Earliest.{Settings, Ask}
use Rattle.history.specs.Records.{Record, opening, command, take_back_record}
use Rattle.history.specs.Answers.{Refusal, ◌gives◌, first_of, room_of, place_lines, open_lines, depth_lines, room_lines, offer_lines, Reply, plain, named, Status, earliest_on, earliest_reply, status_on, Verdict, refused, accepted, reply_of, offer_reply, record_size, accepted_at}
use Rattle.history.specs.Struck.{Call, open_session, offer, take_back}
use Rattle.session.specs.declared.state.Session.{Session}
use Rattle.session.specs.State.{fresh_state}
use Rattle.journal.specs.Restore.{Part, no_part}
use Rattle.statements.specs.Statements.{Told, Restores}
use Rattle.judging.specs.Judged.{is_closed, after_of, early_in, wrong_in, settings_by}
use Rattle.statements.specs.Exact.{earliest_in, earliest_in_case, status_in, status_in_case, stretch_in, stretch_in_case, RestoredIn, too_long, bad_at, restored, restored_number, restored_at, restored_state, restore_in, open_in, offer_in, offer_in_case, take_back_in, take_back_in_case, Left}
use Rattle.statements.specs.Calls.{Seen, part_in, PlacesStretch, HandsStretch, Outcome}
use Rattle.demands.specs.Plainly.{own_numbers, own_cycle, Plainly, EarliestPlainly, StatusPlainly, StretchPlainly, RestorePlainly}

-- a verdict that shows only what a call with these numbers and this cycle may show
pub record Shows (own : List ℕ) (cycle : ℕ) (r : Reply) (taken : Bool) : Type 0 where
  pub number : Memᴰ r.number own
  pub zeros : taken ≡ false → r.number ≢ 7 → (r.cycle ≡ 0) × (r.gap ≡ 0) × (r.loss ≡ 0)
  pub told : taken ≡ true → (r.number ≡ 0) × (r.cycle ≡ cycle) × (r.gap ≡ 0) × (r.loss ≡ 0)
  pub not_told : taken ≡ false → r.number ≢ 0

abbrev pub takes : Verdict → Bool
takes (refused r) = false
takes (accepted r e) = true

abbrev pub Fair : List ℕ → ℕ → Verdict → Type 0
Fair own cycle v = Shows own cycle (reply_of v) (takes v)

-- the first number is that of a line, or 0
abbrev numbers : List Refusal → List ℕ
numbers [] = 0 ∷ []
numbers ((test gives n) ∷ ls) = n ∷ numbers ls

first_among : (ls : List Refusal) → Memᴰ (first_of ls) (numbers ls)
unfolding first_of
first_among [] = Memᴰ.head refl
first_among ((true gives n) ∷ ls) = Memᴰ.head refl
first_among ((false gives n) ∷ ls) = Memᴰ.tail (first_among ls)

module _ (own : List ℕ) where
  refuses : (cycle n : ℕ) → Memᴰ n own → n ≢ 0 → Fair own cycle (refused (plain n))
  refuses cycle n m some = record { number = m; zeros = λ e p. (refl, refl, refl); told = λ e. absurd (false≢true e); not_told = λ e. some }

  takes_it : (cycle : ℕ) (r : Reply) (e : Record) → Memᴰ 0 own → r.number ≡ 0 → r.cycle ≡ cycle → r.gap ≡ 0 → r.loss ≡ 0 → Fair own cycle (accepted r e)
  takes_it cycle r e m zero same none lost = record { number = subst (λ (x : ℕ). Memᴰ x own) (sym zero) m; zeros = λ p. absurd (true≢false p); told = λ p. (zero, same, none, lost); not_told = λ p. absurd (true≢false p) }

  -- an acceptance with a record, or a refusal with the number
  either : (cycle : ℕ) (r : Reply) (e : Record) (n : ℕ) → r.number ≡ 0 → r.cycle ≡ cycle → r.gap ≡ 0 → r.loss ≡ 0 → Memᴰ n own → Fair own cycle (cond (eqb n 0) (accepted r e) (refused (plain n)))
  either cycle r e n zero same none lost m = by (eqb n 0) refl
    where
      by : (z : Bool) → eqb n 0 ≡ z → Fair own cycle (cond z (accepted r e) (refused (plain n)))
      by true p = takes_it cycle r e (subst (λ (x : ℕ). Memᴰ x own) (eqb-true n 0 p) m) zero same none lost
      by false p = refuses cycle n m (eqb-false n 0 p)

  offered : (number : ℕ) (s : Settings) (early : Ask) (c : Command) (t n : ℕ) → Memᴰ n own → Fair own t (offer_reply number s early c t n)
  offered number s early c t n m = by (eqb n 0) (eqb n 7) refl refl
    where
      by : (z y : Bool) → eqb n 0 ≡ z → eqb n 7 ≡ y
          → Fair own t (cond z (accepted (accepted_at t) (command number c t)) (refused (cond y (named 7 s early) (plain n))))
      by true y p q = takes_it t (accepted_at t) (command number c t) (subst (λ (x : ℕ). Memᴰ x own) (eqb-true n 0 p) m) refl refl refl refl
      by false true p q =
          record {
            number = subst (λ (x : ℕ). Memᴰ x own) (eqb-true n 7 q) m;
            zeros = λ e seven. absurd (seven refl);
            told = λ e. absurd (false≢true e);
            not_told = λ e. eqb-false 7 0 refl;
          }
      by false false p q = refuses t n m (eqb-false n 0 p)

open_fair : (room : ℕ) (s : Session) (o : Settings) → Fair (own_numbers (open_session o)) 0 (open_in room s o)
unfolding open_in own_numbers
open_fair room s o =
    let ls = open_lines o.opening ++ room_lines room s.progress.records in
    either (10 ∷ 9 ∷ 0 ∷ []) 0 (plain 0) (opening o) (first_of ls) refl refl refl refl (first_among ls)

offer_fair : (room : ℕ) (s : Session) (kind rank bank t : ℕ) → Fair (own_numbers (offer kind rank bank t)) t (offer_in room s kind rank bank t)
unfolding offer_in own_numbers
offer_fair room s kind rank bank t = go (is_closed s) (kind_of kind)
  where
    own : List ℕ
    own = 1 ∷ 2 ∷ 3 ∷ 4 ∷ 5 ∷ 6 ∷ 12 ∷ 7 ∷ 9 ∷ 0 ∷ []

    go : (z : Bool) (m : Option CommandKind) → Fair own t (offer_in_case room s z m rank bank t)
    go true m = refuses own t 1 (Memᴰ.head refl) (eqb-false 1 0 refl)
    go false None = refuses own t 2 (Memᴰ.tail (Memᴰ.head refl)) (eqb-false 2 0 refl)
    go false (Some k) =
        let c : Command = record { kind = k; rank = rank; bank = bank } in
        let ls = offer_lines s.terms.opening (after_of s.progress) (wrong_in s c) (early_in s c) c t ++ room_lines room s.progress.records in
        offered own s.terms.number (settings_by s.terms) (early_in s c) c t (first_of ls) (Memᴰ.tail (Memᴰ.tail (first_among ls)))

take_back_fair : (room : ℕ) (s : Session) → Fair (own_numbers take_back) 0 (take_back_in room s)
unfolding take_back_in own_numbers
take_back_fair room s = go (is_closed s)
  where
    own : List ℕ
    own = 1 ∷ 8 ∷ 9 ∷ 0 ∷ []

    go : (z : Bool) → Fair own 0 (take_back_in_case room s z)
    go true = refuses own 0 1 (Memᴰ.head refl) (eqb-false 1 0 refl)
    go false =
        let ls = depth_lines s.progress.depth ++ room_lines room s.progress.records in
        either own 0 (plain 0) (take_back_record s.terms.number) (first_of ls) refl refl refl refl (Memᴰ.tail (first_among ls))

-- what a fair verdict leaves
shown : (c : Call) (s next : Session) (lent bytes : List ℕ) (reply : Reply) (v : Verdict) → Fair (own_numbers c) (own_cycle c) v → Left v s lent reply next bytes
    → Plainly c s lent reply next bytes
shown c s next lent bytes reply (refused r) f left =
    rw (left.answer, left.state, left.written)
    (record {
      own = f.number;
      same_state = λ p. refl;
      same_bytes = λ p. refl;
      zeros = λ p seven. f.zeros refl seven;
      accepted = λ p. absurd (f.not_told refl p);
      writes = λ p. absurd (f.not_told refl p);
    })
shown c s next lent bytes reply (accepted r e) f left =
    rw (left.answer, left.state, left.written)
    (record {
      own = f.number;
      same_state = λ p. absurd (p (f.told refl).0);
      same_bytes = λ p. absurd (p (f.told refl).0);
      zeros = λ p seven. absurd (p (f.told refl).0);
      accepted = λ p. ((f.told refl).1, (f.told refl).2, (f.told refl).3);
      writes = λ p. record { one = e; place = refl };
    })

-- DEMAND 1, for every state value and every input
pub demand_one : (c : Call) (s next : Session) (lent bytes : List ℕ) (reply : Reply) → Outcome c s lent reply next bytes → Plainly c s lent reply next bytes
unfolding own_cycle
demand_one (open_session o) s next lent bytes reply out = shown (open_session o) s next lent bytes reply (open_in (room_of (length lent)) s o) (open_fair (room_of (length lent)) s o) out.exact
demand_one (offer kind rank bank t) s next lent bytes reply out =
    shown (offer kind rank bank t) s next lent bytes reply (offer_in (room_of (length lent)) s kind rank bank t) (offer_fair (room_of (length lent)) s kind rank bank t) out.exact
demand_one take_back s next lent bytes reply out = shown take_back s next lent bytes reply (take_back_in (room_of (length lent)) s) (take_back_fair (room_of (length lent)) s) out.exact

-- the questions
asked_plain : (s : Settings) (early : Ask) (n : ℕ) → Memᴰ n (1 ∷ 2 ∷ 3 ∷ 4 ∷ 0 ∷ []) → EarliestPlainly (earliest_reply s early n)
asked_plain s early n m = by (eqb n 0) refl
  where
    by : (z : Bool) → eqb n 0 ≡ z → EarliestPlainly (cond z (named 0 s early) (plain n))
    by true e = record { own = subst (λ (x : ℕ). Memᴰ x (1 ∷ 2 ∷ 3 ∷ 4 ∷ 0 ∷ [])) (eqb-true n 0 e) m; zeros = λ p. absurd (p refl) }
    by false e = record { own = m; zeros = λ p. (refl, refl, refl) }

pub earliest_plain : (s : Session) (kind rank bank : ℕ) (reply : Reply) → Told (earliest_in s kind rank bank) (λ h. earliest_on h kind rank bank) s reply → EarliestPlainly reply
unfolding earliest_in
earliest_plain s kind rank bank reply told = subst EarliestPlainly (sym told.exact) (go (is_closed s) (kind_of kind))
  where
    go : (z : Bool) (m : Option CommandKind) → EarliestPlainly (earliest_in_case s z m rank bank)
    go true m = record { own = Memᴰ.head refl; zeros = λ p. (refl, refl, refl) }
    go false None = record { own = Memᴰ.tail (Memᴰ.head refl); zeros = λ p. (refl, refl, refl) }
    go false (Some k) =
        let c : Command = record { kind = k; rank = rank; bank = bank } in
        let ls = place_lines s.terms.opening c in
        asked_plain (settings_by s.terms) (early_in s c) (first_of ls) (Memᴰ.tail (Memᴰ.tail (first_among ls)))

pub status_plain : (s : Session) (status : Status) → Told (status_in s) (λ h. status_on h) s status → StatusPlainly status
unfolding status_in
status_plain s status told = subst StatusPlainly (sym told.exact) (go (is_closed s))
  where
    go : (z : Bool) → StatusPlainly (status_in_case s z)
    go true = record { own = Memᴰ.head refl; zeros = λ p. refl }
    go false = record { own = Memᴰ.tail (Memᴰ.head refl); zeros = λ p. absurd (p refl) }

pub stretch_plain : (s : Session) (lent part : Seen) (place : Part) → PlacesStretch s (length lent.bytes) place → HandsStretch s lent part → StretchPlainly lent place part
unfolding stretch_in
stretch_plain s lent part place told hands =
    record { inside = subst Inside (sym told.exact) (go (is_closed s)); itself = hands.exact ∙ ap (λ (p : Part). part_in p lent) (sym told.exact) }
  where
    size : ℕ
    size = length lent.bytes

    Inside : Part → Type 0
    Inside p = p.start + p.size ≤ size

    by : (z : Bool) → (leb (record_size * s.progress.records) size && ltb s.terms.number s.progress.records) ≡ z
        → Inside (cond z (record { start = record_size * s.terms.number; size = record_size * (s.progress.records - s.terms.number) }) no_part)
    by true e = let w = and_true (leb (record_size * s.progress.records) size) (ltb s.terms.number s.progress.records) e in omega (arith, leb-true (record_size * s.progress.records) size w.0, ltb-true s.terms.number s.progress.records w.1)
    by false e = omega arith

    go : (z : Bool) → Inside (stretch_in_case s z size)
    go true = omega arith
    go false = by (leb (record_size * s.progress.records) size && ltb s.terms.number s.progress.records) refl

-- a restore of any bytes
pub restore_plain : (bytes : List ℕ) (number at : ℕ) (next : Session) → Restores bytes number at next → RestorePlainly number at next
unfolding fresh_state
restore_plain bytes number at next told = rw (told.exact.answer, told.exact.beside, told.exact.state) (go (restore_in bytes))
  where
    go : (v : RestoredIn) → RestorePlainly (restored_number v) (restored_at v) (restored_state v)
    go too_long = record { own = Memᴰ.head refl; zeros = λ p. refl; refused = λ p. refl; no_session = λ p. refl }
    go (bad_at n) = record { own = Memᴰ.tail (Memᴰ.head refl); zeros = λ p. absurd (p refl); refused = λ p. refl; no_session = λ p. refl }
    go (restored s) = record { own = Memᴰ.tail (Memᴰ.tail (Memᴰ.head refl)); zeros = λ p. refl; refused = λ p. absurd (p refl); no_session = λ p. absurd (p refl) }
