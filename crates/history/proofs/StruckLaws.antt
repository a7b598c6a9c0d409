-- What the customer's strike-out leaves of any run is what stands of its accepted records.
use mathlib.Core.Path.{◌≡◌, refl, sym, ◌∙◌, ap, subst}
use mathlib.Core.Logic.{◌≢◌}
use mathlib.Core.List.{List, [], ◌∷◌, ◌++◌, map, tail}
use Prim.Native.Nat.{ℕ, zero, suc, ◌+◌, ◌-◌, ◌≤◌, min}
use native.Mathlib.Omega.{arith}
use lib.ListN.{drop}
use native.Mathlib.Nat.{not-suc-le-zero}
use borrow.Author.Tests.{eq-eqb, ne_eqb}
use Rattle.std.specs.Prelude.{Some}
use Rattle.timing.specs.declared.kinds.CommandKind.{CommandKind}
use Rattle.timing.specs.declared.rules.Command.{Command}
use Rattle.timing.specs.Kinds.{kind_of}
use Rattle.timing.specs.Earliest.{Settings, Stamped, Standing}
use Rattle.history.specs.Records.{opening, History, Current, closed, session, standing, pushed, popped, deepest}
use Rattle.timing.proofs.KindLaws.{code_of_kind}
use Rattle.history.proofs.AnswerLaws.{Shape, refuses, opens, stamps, withdraws, shape, found_shape}
use Rattle.history.specs.Answers.{Verdict, accepted, plain, reply_of, next_of}
use Rattle.history.specs.Struck.{Call, open_session, offer, take_back, Answered, unrefused, untaken, since_opening, struck, call_of, verdict, LeadsTo, nothing_yet, found, then, offer_of, rest}

-- the depth, and the calls of what stands with the n latest commands left out
abbrev depth_of : Current → ℕ
depth_of closed = 0
depth_of (session st) = st.depth

abbrev behind : ℕ → Current → List Call
behind n closed = []
behind n (session st) = map offer_of (drop n st.survivors) ++ open_session st.settings ∷ []

abbrev Left : List Answered → History → Type 0
Left ps h = (n : ℕ) → n ≤ depth_of (standing h) → since_opening (untaken n (unrefused ps)) ≡ behind n (standing h)

-- a refused call is struck in the first step; an accepted one is not
pub unrefused_not : (c : Call) (n : ℕ) (ps : List Answered) → n ≢ 0 → unrefused (record { call = c; number = n } ∷ ps) ≡ unrefused ps
unfolding unrefused
unrefused_not c n ps above = rw (ne_eqb n 0 above)

pub unrefused_yes : (c : Call) (n : ℕ) (ps : List Answered) → n ≡ 0 → unrefused (record { call = c; number = n } ∷ ps) ≡ c ∷ unrefused ps
unfolding unrefused
unrefused_yes c n ps e = rw (eq-eqb n 0 e)

drop_tail : (n : ℕ) (xs : List Stamped) → drop n (tail xs) ≡ drop (suc n) xs
drop_tail zero [] = refl
drop_tail (suc n) [] = refl
drop_tail n (x ∷ xs) = refl

module _ (ps : List Answered) (h : History) (left : Left ps h) where
  opened : (s : Settings) (n : ℕ) → n ≤ 0 → since_opening (untaken n (open_session s ∷ unrefused ps)) ≡ behind n (standing (opening s ∷ h))
  unfolding standing untaken since_opening
  opened s zero l = refl
  opened s (suc n) l = absurd (not-suc-le-zero l)

  module _ (st : Standing) (stands : standing h ≡ session st) where
    left_on_lem : (n : ℕ) → n ≤ st.depth → since_opening (untaken n (unrefused ps)) ≡ behind n (session st)
    left_on_lem n l = subst (λ (s : Current). n ≤ depth_of s → since_opening (untaken n (unrefused ps)) ≡ behind n s) stands (left n) l

    stamped : (kind rank bank t : ℕ) (k : CommandKind) → kind_of kind ≡ Some k → (n : ℕ) → n ≤ min deepest (st.depth + 1)
        → since_opening (untaken n (offer kind rank bank t ∷ unrefused ps)) ≡ behind n (pushed (record { kind = k; rank = rank; bank = bank }) t (session st))
    unfolding untaken since_opening
    stamped kind rank bank t k e zero l = rw (code_of_kind kind k e) (ap (λ (cs : List Call). offer kind rank bank t ∷ cs) (left_on_lem 0 (omega arith)))
    stamped kind rank bank t k e (suc n) l = left_on_lem n (omega arith)

    withdrawn : (n : ℕ) → st.depth ≢ 0 → n ≤ st.depth - 1 → since_opening (untaken n (take_back ∷ unrefused ps)) ≡ behind n (popped (session st))
    unfolding untaken since_opening
    withdrawn n deep l = rw (drop_tail n st.survivors) (left_on_lem (suc n) (omega arith))

  step : (c : Call) (v : Verdict) → Shape h c v → Left (record { call = c; number = (reply_of v).number } ∷ ps) (next_of h v)
  unfolding standing
  step c v (refuses {r = r} above) n l = rw (unrefused_not c r.number ps above) (left n l)
  step c v (opens {s = s} {r = r} e) n l = rw (unrefused_yes c r.number ps e) (opened s n l)
  step c v (stamps {kind = kind} {rank = rank} {bank = bank} {t = t} {r = r} e st s k q) n l =
      let cm : Command = record { kind = k; rank = rank; bank = bank } in
      rw (unrefused_yes c r.number ps e)
      (subst (λ (x : Current). n ≤ depth_of (pushed cm t x) → since_opening (untaken n (offer kind rank bank t ∷ unrefused ps)) ≡ behind n (pushed cm t x)) (sym s)
      (stamped st s kind rank bank t k q n) l)
  step c v (withdraws {r = r} e st s deep) n l =
      rw (unrefused_yes c r.number ps e)
      (subst (λ (x : Current). n ≤ depth_of (popped x) → since_opening (untaken n (take_back ∷ unrefused ps)) ≡ behind n (popped x)) (sym s) (withdrawn st s n deep) l)

leads_left : {ps : List Answered} {h : History} → LeadsTo ps h → Left ps h
unfolding standing unrefused untaken since_opening
leads_left nothing_yet = λ n l. refl
leads_left (found {ps = ps} {h = h} before r f g) = step ps h (leads_left before) (call_of r) (accepted (plain 0) r) (found_shape h r f g)
leads_left (then {ps = ps} {h = h} before room c) = step ps h (leads_left before) c (verdict room h c) (shape room h c)

-- from the fresh state, for any calls with any rooms: struck, the calls and answers leave what stands of the accepted records
pub struck_stands : {ps : List Answered} {h : History} → LeadsTo ps h → struck ps ≡ rest (standing h)
unfolding struck
struck_stands {ps} {h} told = leads_left told 0 (omega arith) ∙ go (standing h)
  where
    go : (s : Current) → behind 0 s ≡ rest s
    go closed = refl
    go (session st) = refl
