-- An offer is accepted exactly where no line holds, and too early exactly where a gap asks for more than its cycle.
use mathlib.Core.Path.{◌≡◌, refl, sym, ◌∙◌, ap, subst}
use mathlib.Core.Logic.{◌↔◌}
use mathlib.Core.Bool.{Bool, true, false, cond, true≢false}
use mathlib.Core.List.{List, [], ◌∷◌, ◌++◌}
use Prim.Native.Nat.{ℕ, ◌≤◌, ◌<◌}
use native.Mathlib.Omega.{arith}
use lib.Dec.{eqb, leb, ltb}
use lib.ListN.{length}
use borrow.Author.Tests.{eqb-true, eqb-false, leb-false, leb-true, ltb-true, ltb-false}
use Rattle.std.specs.Prelude.{Option, Some, None}
use Rattle.timing.specs.declared.kinds.CommandKind.{CommandKind}
use Rattle.timing.specs.declared.rules.Command.{Command}
use Rattle.timing.specs.Kinds.{kind_of}
use Rattle.timing.specs.Banks.{wrong_bank}
use Rattle.timing.specs.Earliest.{Stamped, Standing, Ask, LaterThanLast, Legal, cycle_after, floor, earliest, Settings}
use Rattle.timing.proofs.Legal.{legal_from, named_gap}
use Rattle.history.specs.Records.{Record, opening, command, take_back_record, History, Current, closed, session, standing}
use Rattle.history.specs.Answers.{Refusal, ◌gives◌, first_of, room_of, open_lines, place_lines, stamp_lines, after_lines, depth_lines, room_lines, offer_lines, offer_reply, earliest_reply, Reply, plain, named, refused, accepted, reply_of, offer_case, earliest_case, offer_on, earliest_on, accepted_at}
use Rattle.history.specs.Struck.{open_session, offer, take_back, current, records_in}
use Rattle.history.proofs.AnswerLaws.{first_on}
use Rattle.session.specs.declared.state.Session.{Session}
use Rattle.statements.specs.Rep.{Rep}
use Rattle.statements.specs.Calls.{TellsEarliest, Outcome, Move, calls, asks_earliest, asks_status, asks_stretch, Heard, replied, stated, handed, Does}
use Rattle.demands.specs.Runs.{Event, number_in, lasting, Run, answer_at}
use Rattle.demands.specs.Reached.{Reached}
use Rattle.demands.specs.Offers.{Given, none, this, a_later, kind_lines, lines_of, Ready, AsksMore, OfferMeans, Askable, EarliestMeans}
use Rattle.demands.proofs.ReachedLaws.{reached_stands}
use Rattle.demands.proofs.RanLaws.{demand_three}

-- every refusal number is given exactly if its line holds and none before it does
pub given : (ls : List Refusal) (n : ℕ) → (first_of ls ≡ n) ↔ Given ls n
unfolding first_of
given ls n = ((λ e. subst (Given ls) e (there ls)), back ls n)
  where
    there : (ls : List Refusal) → Given ls (first_of ls)
    there [] = none
    there ((true gives m) ∷ ls) = this refl
    there ((false gives m) ∷ ls) = a_later refl (there ls)

    back : (ls : List Refusal) (n : ℕ) → Given ls n → first_of ls ≡ n
    back ls n none = refl
    back ls n (this {n = m} {ls = ms} e) = ap (λ (z : Bool). cond z m (first_of ms)) e
    back ls n (a_later {m = m} {ls = ms} e g) = ap (λ (z : Bool). cond z m (first_of ms)) e ∙ back ms n g

abbrev reply_or : Reply → Heard → Reply
reply_or d (replied r) = r
reply_or d (stated s) = d
reply_or d (handed place part) = d

-- the cycle is before the earliest exactly if a gap asks for more
module _ (st : Standing) (c : Command) (t : ℕ) (after : floor st ≤ t) where
  later_than : LaterThanLast st.survivors t
  unfolding floor
  later_than = go st.survivors after
    where
      go : (xs : List Stamped) → cycle_after xs ≤ t → LaterThanLast xs t
      go [] l = tt
      go (x ∷ xs) l = omega (arith, l)

  pub asks_more : t < (earliest st c).cycle → AsksMore st c t
  asks_more early = by (eqb (earliest st c).gap 0) refl
    where
      by : (z : Bool) → eqb (earliest st c).gap 0 ≡ z → AsksMore st c t
      by false e = record { gap = (earliest st c).gap; cycle = (earliest st c).cycle; asks = (named_gap st c).one_asks (eqb-false (earliest st c).gap 0 e); more = early }
      by true e =
          let low = (named_gap st c).none_asks (eqb-true (earliest st c).gap 0 e) in
          let at : (earliest st c).cycle ≤ t = (legal_from st c t).0 (record { later = later_than; gaps = λ n u p. omega (arith, low n u p, after) }) in
          absurd (omega (arith, at, early))

pub more_asked : (st : Standing) (c : Command) (t : ℕ) → AsksMore st c t → t < (earliest st c).cycle
more_asked st c t w =
    let legal = (legal_from st c (earliest st c).cycle).1 (omega arith) in
    omega (arith, legal.gaps w.gap w.cycle w.asks, w.more)

module _ (room count : ℕ) (now : Current) (kind : ℕ) (c : Command) (t : ℕ) (st : Standing) (ready : Ready now kind c t st) where
  -- what is left of the lines
  abbrev number : Bool → Bool → Bool → ℕ
  number wrong early full = cond wrong 12 (cond early 7 (cond full 9 0))

  left : first_of (offer_lines st.settings.opening (floor st) (wrong_bank st c) (earliest st c) c t ++ room_lines room count) ≡ number (wrong_bank st c) (ltb t (earliest st c).cycle) (leb room count)
  unfolding first_of
  left =
      first_on (place_lines st.settings.opening c ++ stamp_lines t) (after_lines (floor st) (wrong_bank st c) (earliest st c) t ++ room_lines room count)
      (eqb-false 3 0 refl, (eqb-false 4 0 refl, (eqb-false 5 0 refl, tt))) ready.placed
      ∙ ap (λ (z : Bool). cond z 6 (number (wrong_bank st c) (ltb t (earliest st c).cycle) (leb room count))) (not_less (ltb t (floor st)) refl)
    where
      not_less : (z : Bool) → ltb t (floor st) ≡ z → z ≡ false
      not_less true e = absurd (omega (arith, ltb-true t (floor st) e, ready.after))
      not_less false e = refl

  means : (wrong early full : Bool) → wrong_bank st c ≡ wrong → ltb t (earliest st c).cycle ≡ early → leb room count ≡ full
      → OfferMeans room count st c t (reply_of (offer_reply st.number st.settings (earliest st c) c t (number wrong early full)))
  means true early full w e f =
      let not_right : wrong_bank st c ≡ false → ⊥ = λ q. true≢false (sym w ∙ q) in
      record {
        wrong_state = ((λ p. w), (λ p. refl));
        too_early = ((λ p. absurd (eqb-false 12 7 refl p)), (λ q. absurd (not_right q.0)));
        legal = λ p. absurd (eqb-false 12 7 refl p);
        smallest = λ p u l. absurd (eqb-false 12 7 refl p);
        gap = λ p. absurd (eqb-false 12 7 refl p);
        loss = λ p. absurd (eqb-false 12 7 refl p);
        accepted = ((λ p. absurd (eqb-false 12 0 refl p)), (λ q. absurd (not_right q.1)));
        full = ((λ p. absurd (eqb-false 12 9 refl p)), (λ q. absurd (not_right q.1)));
      }
  means false true full w e f =
      let late = ltb-true t (earliest st c).cycle e in
      let not_yet : Legal st c t → ⊥ = λ l. omega (arith, (legal_from st c t).0 l, late) in
      record {
        wrong_state = ((λ p. absurd (eqb-false 7 12 refl p)), (λ q. absurd (true≢false (sym q ∙ w))));
        too_early = ((λ p. (w, asks_more st c t ready.after late)), (λ p. refl));
        legal = λ p. (legal_from st c (earliest st c).cycle).1 (omega arith);
        smallest = λ p u l. (legal_from st c u).0 l;
        gap = λ p. named_gap st c;
        loss = λ p. refl;
        accepted = ((λ p. absurd (eqb-false 7 0 refl p)), (λ q. absurd (not_yet q.0)));
        full = ((λ p. absurd (eqb-false 7 9 refl p)), (λ q. absurd (not_yet q.0)));
      }
  means false false true w e f =
      let from : Legal st c t = (legal_from st c t).1 (omega (arith, ltb-false t (earliest st c).cycle e)) in
      let never : AsksMore st c t → ⊥ = λ m. omega (arith, more_asked st c t m, (legal_from st c t).0 from) in
      record {
        wrong_state = ((λ p. absurd (eqb-false 9 12 refl p)), (λ q. absurd (true≢false (sym q ∙ w))));
        too_early = ((λ p. absurd (eqb-false 9 7 refl p)), (λ q. absurd (never q.1)));
        legal = λ p. absurd (eqb-false 9 7 refl p);
        smallest = λ p u l. absurd (eqb-false 9 7 refl p);
        gap = λ p. absurd (eqb-false 9 7 refl p);
        loss = λ p. absurd (eqb-false 9 7 refl p);
        accepted = ((λ p. absurd (eqb-false 9 0 refl p)), (λ q. absurd (omega (arith, q.2, leb-true room count f))));
        full = ((λ p. (from, w, leb-true room count f)), (λ q. refl));
      }
  means false false false w e f =
      let from : Legal st c t = (legal_from st c t).1 (omega (arith, ltb-false t (earliest st c).cycle e)) in
      let never : AsksMore st c t → ⊥ = λ m. omega (arith, more_asked st c t m, (legal_from st c t).0 from) in
      record {
        wrong_state = ((λ p. absurd (eqb-false 0 12 refl p)), (λ q. absurd (true≢false (sym q ∙ w))));
        too_early = ((λ p. absurd (eqb-false 0 7 refl p)), (λ q. absurd (never q.1)));
        legal = λ p. absurd (eqb-false 0 7 refl p);
        smallest = λ p u l. absurd (eqb-false 0 7 refl p);
        gap = λ p. absurd (eqb-false 0 7 refl p);
        loss = λ p. absurd (eqb-false 0 7 refl p);
        accepted = ((λ p. (from, w, leb-false room count f)), (λ q. refl));
        full = ((λ p. absurd (eqb-false 0 9 refl p)), (λ q. absurd (omega (arith, q.2, leb-false room count f))));
      }

  pub offer_means : OfferMeans room count st c t (reply_of (offer_case room count now (kind_of kind) c.rank c.bank t))
  offer_means = rw (ready.stands, ready.known, left) (means (wrong_bank st c) (ltb t (earliest st c).cycle) (leb room count) refl refl refl)

  pub offer_rightly : (rank bank : ℕ) (reply : Reply) → c.rank ≡ rank → c.bank ≡ bank → reply ≡ reply_of (offer_case room count now (kind_of kind) rank bank t) → OfferMeans room count st c t reply
  offer_rightly rank bank reply r b is =
      subst (OfferMeans room count st c t)
      (ap (λ (x : ℕ). reply_of (offer_case room count now (kind_of kind) x c.bank t)) r ∙ ap (λ (x : ℕ). reply_of (offer_case room count now (kind_of kind) rank x t)) b ∙ sym is)
      offer_means

-- DEMAND 2, at the checker: at every state that any calls and restores reach, with any lent bytes
pub demand_two : {s next : Session} → Reached s → (kind rank bank t : ℕ) (lent bytes : List ℕ) (reply : Reply) → Outcome (offer kind rank bank t) s lent reply next bytes
    → (h : History) × Rep s h × ((c : Command) (st : Standing) → c.rank ≡ rank → c.bank ≡ bank → Ready (standing h) kind c t st → OfferMeans (room_of (length lent)) (length h) st c t reply)
unfolding offer_on
demand_two before kind rank bank t lent bytes reply out =
    let w = reached_stands before in
    (w.0, w.1, λ c st r b ready. offer_rightly (room_of (length lent)) (length w.0) (standing w.0) kind c t st ready rank bank reply r b (out.answer w.0 w.1))

-- and after any run, over what the strike-out leaves of its calls
pub demand_two_run : {room : ℕ} {es : List Event} {s next : Session} {first j after : List ℕ} (kind rank bank t : ℕ) (reply : Reply)
    → Run room es s first j → Does (calls (offer kind rank bank t)) s j (replied reply) next after
    → (c : Command) (st : Standing) → c.rank ≡ rank → c.bank ≡ bank → Ready (current (lasting es)) kind c t st → OfferMeans room (records_in (lasting es)) st c t reply
demand_two_run {room} {es} kind rank bank t reply run d c st r b ready =
    offer_rightly room (records_in (lasting es)) (current (lasting es)) kind c t st ready rank bank reply r b (ap (reply_or reply) (demand_three run d))

-- The earliest question means what an offer's 7 means
module _ (now : Current) (kind : ℕ) (c : Command) (st : Standing) (able : Askable now kind c st) where
  found : EarliestMeans st c (earliest_case now (kind_of kind) c.rank c.bank)
  found =
      rw (able.stands, able.known, able.placed)
      (record { answered = refl; legal = (legal_from st c (earliest st c).cycle).1 (omega arith); smallest = λ u l. (legal_from st c u).0 l; gap = named_gap st c; loss = refl })

  pub earliest_rightly : (rank bank : ℕ) (reply : Reply) → c.rank ≡ rank → c.bank ≡ bank → reply ≡ earliest_case now (kind_of kind) rank bank → EarliestMeans st c reply
  earliest_rightly rank bank reply r b is =
      subst (EarliestMeans st c)
      (ap (λ (x : ℕ). earliest_case now (kind_of kind) x c.bank) r ∙ ap (λ (x : ℕ). earliest_case now (kind_of kind) rank x) b ∙ sym is)
      found

-- at every state that any calls, restores and listings reach
pub earliest_question : {s : Session} → Reached s → (kind rank bank : ℕ) (reply : Reply) → TellsEarliest s kind rank bank reply
    → (h : History) × Rep s h × ((c : Command) (st : Standing) → c.rank ≡ rank → c.bank ≡ bank → Askable (standing h) kind c st → EarliestMeans st c reply)
unfolding earliest_on
earliest_question before kind rank bank reply told =
    let w = reached_stands before in
    (w.0, w.1, λ c st r b able. earliest_rightly (standing w.0) kind c st able rank bank reply r b (told.answer w.0 w.1))

-- and after any run, over what the strike-out leaves of its calls
pub earliest_question_run : {room : ℕ} {es : List Event} {s next : Session} {first j after : List ℕ} (kind rank bank : ℕ) (reply : Reply)
    → Run room es s first j → Does (asks_earliest kind rank bank) s j (replied reply) next after
    → (c : Command) (st : Standing) → c.rank ≡ rank → c.bank ≡ bank → Askable (current (lasting es)) kind c st → EarliestMeans st c reply
earliest_question_run {es = es} kind rank bank reply run d c st r b able =
    earliest_rightly (current (lasting es)) kind c st able rank bank reply r b (ap (reply_or reply) (demand_three run d))

-- the number of every answer is that of its first line
abbrev Numbers : ℕ → ℕ → Current → Move → List ℕ → Type 0
Numbers room count now m j = number_in (answer_at room count now m j) ≡ first_of (lines_of room count now m)

plain_number : (n : ℕ) (e : Record) (r : Reply) → r.number ≡ 0 → (reply_of (cond (eqb n 0) (accepted r e) (refused (plain n)))).number ≡ n
plain_number n e r zero = go (eqb n 0) refl
  where
    go : (z : Bool) → eqb n 0 ≡ z → (reply_of (cond z (accepted r e) (refused (plain n)))).number ≡ n
    go true q = zero ∙ sym (eqb-true n 0 q)
    go false q = refl

offered_number : (number : ℕ) (s : Settings) (early : Ask) (c : Command) (t n : ℕ) → (reply_of (offer_reply number s early c t n)).number ≡ n
offered_number number s early c t n = go (eqb n 0) (eqb n 7) refl refl
  where
    go : (z y : Bool) → eqb n 0 ≡ z → eqb n 7 ≡ y
        → (reply_of (cond z (accepted (accepted_at t) (command number c t)) (refused (cond y (named 7 s early) (plain n))))).number ≡ n
    go true y p q = sym (eqb-true n 0 p)
    go false true p q = sym (eqb-true n 7 q)
    go false false p q = refl

asked_number : (s : Settings) (early : Ask) (n : ℕ) → (earliest_reply s early n).number ≡ n
asked_number s early n = go (eqb n 0) refl
  where
    go : (z : Bool) → eqb n 0 ≡ z → (cond z (named 0 s early) (plain n)).number ≡ n
    go true p = sym (eqb-true n 0 p)
    go false p = refl

numbered : (room count : ℕ) (now : Current) (m : Move) (j : List ℕ) → Numbers room count now m j
unfolding lines_of first_of
numbered room count now (calls (open_session o)) j = plain_number (first_of (open_lines o.opening ++ room_lines room count)) (opening o) (plain 0) refl
numbered room count closed (calls (offer kind rank bank t)) j = refl
numbered room count (session st) (calls (offer kind rank bank t)) j = go (kind_of kind)
  where
    go : (k : Option CommandKind) → (reply_of (offer_case room count (session st) k rank bank t)).number
        ≡ first_of
        (kind_lines k
        (λ k.
        let c : Command = record { kind = k; rank = rank; bank = bank } in
        offer_lines st.settings.opening (floor st) (wrong_bank st c) (earliest st c) c t ++ room_lines room count))
    go None = refl
    go (Some k) = let c : Command = record { kind = k; rank = rank; bank = bank } in offered_number st.number st.settings (earliest st c) c t _
numbered room count closed (calls take_back) j = refl
numbered room count (session st) (calls take_back) j = plain_number (first_of (depth_lines st.depth ++ room_lines room count)) (take_back_record st.number) (plain 0) refl
numbered room count closed (asks_earliest kind rank bank) j = refl
numbered room count (session st) (asks_earliest kind rank bank) j = go (kind_of kind)
  where
    go : (k : Option CommandKind) → (earliest_case (session st) k rank bank).number ≡ first_of (kind_lines k (λ k. place_lines st.settings.opening (record { kind = k; rank = rank; bank = bank })))
    go None = refl
    go (Some k) = asked_number st.settings (earliest st (record { kind = k; rank = rank; bank = bank })) _
numbered room count closed asks_status j = refl
numbered room count (session st) asks_status j = refl
numbered room count now asks_stretch j = refl

-- after any run a move's number is given exactly if its line holds and none before it does
pub number_given : {room : ℕ} {es : List Event} {s next : Session} {first j after : List ℕ} {m : Move} {a : Heard}
    → Run room es s first j → Does m s j a next after → (n : ℕ) → (number_in a ≡ n) ↔ Given (lines_of room (records_in (lasting es)) (current (lasting es)) m) n
number_given {room} {es} {j = j} {m = m} {a = a} run d n =
    let is : number_in a ≡ first_of (lines_of room (records_in (lasting es)) (current (lasting es)) m) = ap number_in (demand_three run d) ∙ numbered room (records_in (lasting es)) (current (lasting es)) m j in
    let w = given (lines_of room (records_in (lasting es)) (current (lasting es)) m) n in
    ((λ e. w.0 (sym is ∙ e)), (λ g. is ∙ w.1 g))
