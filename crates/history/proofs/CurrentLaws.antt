-- What stands, the count of records and the records themselves, read off the calls and answers of any run.
use mathlib.Core.Path.{◌≡◌, refl, ◌∙◌, ap, subst}
use mathlib.Core.List.{List, [], ◌∷◌, ◌++◌, map}
use Prim.Native.Nat.{ℕ, suc, ◌+◌, ◌-◌, min}
use lib.ListN.{length}
use Rattle.timing.specs.Earliest.{Settings, Stamped, Standing}
use Rattle.timing.proofs.KindLaws.{kind_of_code}
use Rattle.history.specs.Records.{opening, command, take_back_record, History, Current, closed, session, standing, deepest}
use Rattle.history.specs.Answers.{Verdict, accepted, plain, reply_of, next_of}
use Rattle.history.specs.Struck.{Call, open_session, Answered, unrefused, opening_number, depth_after, records_of, survivors_in, opened_in, current, records_in, call_of, verdict, LeadsTo, nothing_yet, found, then, offer_of, rest}
use Rattle.history.proofs.AnswerLaws.{Shape, refuses, opens, stamps, withdraws, shape, found_shape}
use Rattle.history.proofs.StruckLaws.{struck_stands, unrefused_not, unrefused_yes}

-- the opening's number and the depth are those of what stands
abbrev Counts : Current → List Call → Type 0
Counts closed cs = Unit {0}
Counts (session st) cs = (st.number ≡ opening_number cs) × (st.depth ≡ depth_after cs)

pub record Kept (ps : List Answered) (h : History) : Type 0 where
  pub count : length h ≡ records_in ps
  pub counts : Counts (standing h) (unrefused ps)
  pub records : h ≡ records_of (unrefused ps)

module _ (ps : List Answered) (h : History) (k : Kept ps h) where
  abbrev cs : List Call
  cs = unrefused ps

  module _ (st : Standing) (stands : standing h ≡ session st) where
    counts_on : Counts (session st) cs
    counts_on = subst (λ (x : Current). Counts x cs) stands k.counts

  keep : (c : Call) (v : Verdict) → Shape h c v → Kept (record { call = c; number = (reply_of v).number } ∷ ps) (next_of h v)
  unfolding standing opening_number depth_after records_of
  keep c v (refuses {r = r} above) = let same = unrefused_not c r.number ps above in record { count = rw same k.count; counts = rw same k.counts; records = rw same k.records }
  keep c v (opens {s = s} {r = r} e) =
      let more = unrefused_yes c r.number ps e in
      record { count = rw more (ap suc k.count); counts = rw more (k.count, refl); records = rw more (ap (λ (x : History). opening s ∷ x) k.records) }
  keep c v (stamps {kind = kind} {rank = rank} {bank = bank} {t = t} {r = r} e st s m q) =
      let more = unrefused_yes c r.number ps e in
      let w = counts_on st s in
      record {
        count = rw more (ap suc k.count);
        counts = rw (more, s) (w.0, ap (λ (d : ℕ). min deepest (d + 1)) w.1);
        records =
            rw (more, q)
            (ap (λ (x : History). command st.number (record { kind = m; rank = rank; bank = bank }) t ∷ x) k.records
            ∙ ap (λ (n : ℕ). command n (record { kind = m; rank = rank; bank = bank }) t ∷ records_of cs) w.0);
      }
  keep c v (withdraws {r = r} e st s deep) =
      let more = unrefused_yes c r.number ps e in
      let w = counts_on st s in
      record {
        count = rw more (ap suc k.count);
        counts = rw (more, s) (w.0, ap (λ (d : ℕ). d - 1) w.1);
        records = rw more (ap (λ (x : History). take_back_record st.number ∷ x) k.records ∙ ap (λ (n : ℕ). take_back_record n ∷ records_of cs) w.0);
      }

pub leads_kept : {ps : List Answered} {h : History} → LeadsTo ps h → Kept ps h
unfolding standing unrefused records_of
leads_kept nothing_yet = record { count = refl; counts = tt; records = refl }
leads_kept (found {ps = ps} {h = h} before r f g) = keep ps h (leads_kept before) (call_of r) (accepted (plain 0) r) (found_shape h r f g)
leads_kept (then {ps = ps} {h = h} before room c) = keep ps h (leads_kept before) c (verdict room h c) (shape room h c)

-- what is left of the calls, read back
survivors_back : (xs : List Stamped) (s : Settings) → survivors_in (map offer_of xs ++ open_session s ∷ []) ≡ xs
unfolding survivors_in
survivors_back [] s = refl
survivors_back (x ∷ xs) s = rw (kind_of_code x.command.kind) (ap (λ (ys : List Stamped). x ∷ ys) (survivors_back xs s))

opened_back : (xs ys : List Stamped) (s : Settings) (n d : ℕ)
    → opened_in (map offer_of xs ++ open_session s ∷ []) n d ys ≡ session (record { settings = s; number = n; survivors = ys; depth = d })
unfolding opened_in
opened_back [] ys s n d = refl
opened_back (x ∷ xs) ys s n d = opened_back xs ys s n d

-- from the fresh state, for any calls with any rooms: what stands of the records is what is left of the calls
pub leads_current : {ps : List Answered} {h : History} → LeadsTo ps h → standing h ≡ current ps
unfolding current opened_in
leads_current {ps} {h} told = rw (struck_stands told) (go (standing h) (leads_kept told).counts)
  where
    go : (k : Current) → Counts k (unrefused ps) → k ≡ opened_in (rest k) (opening_number (unrefused ps)) (depth_after (unrefused ps)) (survivors_in (rest k))
    go closed w = refl
    go (session st) w =
        rw (survivors_back st.survivors st.settings, opened_back st.survivors st.survivors st.settings (opening_number (unrefused ps)) (depth_after (unrefused ps)), ← w.0, ← w.1)
