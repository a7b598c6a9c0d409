-- What the ratio changes is rounding alone: call for call, two runs at ratio r and at ratio 1 get the same numbers.
use mathlib.Core.Path.{◌≡◌, refl, sym, ◌∙◌, ap, ap₂, subst}
use mathlib.Core.Bool.{true}
use mathlib.Core.List.{List, [], ◌∷◌}
use Prim.Native.Nat.{ℕ, ◌<◌}
use lib.ListN.{length, length-map}
use Rattle.history.specs.Records.{History}
use Rattle.history.specs.Answers.{room_of, good_ratio, next_of}
use Rattle.history.specs.Struck.{Call, verdict}
use Rattle.history.specs.Scaled.{scaled}
use Rattle.history.proofs.ScaledLaws.{scaled_record, one, AllAt, call_same}
use Rattle.session.specs.declared.state.Session.{Session}
use Rattle.session.specs.State.{fresh_state}
use Rattle.statements.specs.Rep.{Rep}
use Rattle.statements.proofs.KeepsLaws.{fresh_rep}
use Rattle.statements.specs.Calls.{calls, replied, by_call}
use Rattle.demands.specs.Runs.{number_in}
use Rattle.demands.specs.Scaling.{SideBySide, ends, goes}
use Rattle.demands.proofs.MoveLaws.{does_on}

module _ (r : ℕ) (good : good_ratio r ≡ true) where
  same_numbers : {s s' : Session} {j j' : List ℕ} {cs : List Call} {ns ns' : List ℕ} (h : History) → Rep s h → Rep s' (one r h) → AllAt r h → SideBySide r s j s' j' cs ns ns' → ns ≡ ns'
  same_numbers h rep rep' a ends = refl
  same_numbers {s} {s'} {j} {j'} h rep rep' a (goes {next = next} {next' = next'} {after = after} {after' = after'} {c = c} reply reply' within free free' out out' rest) =
      let room = room_of (length j) in
      let room' = room_of (length j') in
      let left : length h < room = subst (λ (n : ℕ). n < room) rep.records free in
      let left' : length h < room' = subst (λ (n : ℕ). n < room') (rep'.records ∙ length-map h (scaled_record r)) free' in
      let end = call_same r good room room' h a left left' c within in
      let here = does_on {m = calls c} {j = j} {after = after} {a = replied reply} (by_call {c = c} {reply = reply} out) h rep in
      let there = does_on {m = calls (scaled r c)} {j = j'} {after = after'} {a = replied reply'} (by_call {c = scaled r c} {reply = reply'} out') (one r h) rep' in
      let number : reply.number ≡ reply'.number = ap number_in here.answer ∙ end.number ∙ sym (ap number_in there.answer) in
      let stands' : Rep next' (one r (next_of h (verdict room h c))) = subst (Rep next') end.next there.stands in
      ap₂ (λ (n : ℕ) (ms : List ℕ). n ∷ ms) number (same_numbers (next_of h (verdict room h c)) here.stands stands' end.all rest)

-- from the fresh state, for any list of openings, offers and take-backs, refused ones among them: the same numbers, so the same are accepted
pub same_at_ratio_one : {r : ℕ} → good_ratio r ≡ true → {j j' : List ℕ} {cs : List Call} {ns ns' : List ℕ} → SideBySide r fresh_state j fresh_state j' cs ns ns' → ns ≡ ns'
same_at_ratio_one {r} good run = same_numbers r good [] fresh_rep fresh_rep tt run
