-- Refusals by their numbers.
use mathlib.Core.Path.{◌≡◌, refl, sym, ◌∙◌, ap}
use mathlib.Core.Logic.{◌≢◌}
use Prim.Native.Nat.{ℕ}
use lib.Dec.{eqb}
use mathlib.Core.Bool.{false}
use borrow.Author.Tests.{eqb-false}
use Rattle.std.specs.Prelude.{Result, Ok, Err, is_ok, IsErrAnd}
use Rattle.std.proofs.lemmas.Result.{err_from_is_err_and}
use Rattle.timing.specs.Earliest.{Settings}
use Rattle.history.specs.Answers.{plain}
use Rattle.judging.specs.declared.refusals.Refusal.{Refusal}
use Rattle.judging.specs.declared.refusals.Refusal.TheVariants.{
  NoSession,
  BadKind,
  BadRank,
  BadBank,
  PastLastCycle,
  NotLater,
  TooEarly,
  NoDepth,
  NoRoom,
  BadSettings,
  BadRecord,
  WrongState,
}
use Rattle.judging.specs.Refusals.{number_of, refusal_reply, line_in, reply_to}

-- none is 0
refuses_all : (r : Refusal) → eqb (number_of r) 0 ≡ false
refuses_all NoSession = refl
refuses_all BadKind = refl
refuses_all BadRank = refl
refuses_all BadBank = refl
refuses_all PastLastCycle = refl
refuses_all NotLater = refl
refuses_all (TooEarly e) = refl
refuses_all NoDepth = refl
refuses_all NoRoom = refl
refuses_all BadSettings = refl
refuses_all BadRecord = refl
refuses_all WrongState = refl

pub number_some : (r : Refusal) → number_of r ≢ 0
number_some r = eqb-false (number_of r) 0 (refuses_all r)

-- but for 7 nothing stands beside it
pub plain_refusal : (s : Settings) (r : Refusal) → number_of r ≢ 7 → refusal_reply s r ≡ plain (number_of r)
plain_refusal s NoSession n = refl
plain_refusal s BadKind n = refl
plain_refusal s BadRank n = refl
plain_refusal s BadBank n = refl
plain_refusal s PastLastCycle n = refl
plain_refusal s NotLater n = refl
plain_refusal s (TooEarly e) n = absurd (n refl)
plain_refusal s NoDepth n = refl
plain_refusal s NoRoom n = refl
plain_refusal s BadSettings n = refl
plain_refusal s BadRecord n = refl
plain_refusal s WrongState n = refl

reply_number : (s : Settings) (r : Refusal) → number_of r ≡ (refusal_reply s r).number
reply_number s NoSession = refl
reply_number s BadKind = refl
reply_number s BadRank = refl
reply_number s BadBank = refl
reply_number s PastLastCycle = refl
reply_number s NotLater = refl
reply_number s (TooEarly e) = refl
reply_number s NoDepth = refl
reply_number s NoRoom = refl
reply_number s BadSettings = refl
reply_number s BadRecord = refl
reply_number s WrongState = refl

module _ {A : Type 0} where
  -- the reply has the line's number
  pub reply_line : (s : Settings) (t : ℕ) (x : Result A Refusal) → line_in x ≡ (reply_to s t x).number
  reply_line s t (Ok x) = refl
  reply_line s t (Err r) = reply_number s r

  pub none_refuses : (x : Result A Refusal) → is_ok x ≡ eqb (line_in x) 0
  none_refuses (Ok x) = refl
  none_refuses (Err r) = sym (refuses_all r)

  -- what `?` hands on
  pub handed_on : (x : Result A Refusal) (r : Refusal) → IsErrAnd x (λ q. q ≡ r) → x ≡ Err r
  handed_on x r h = let p = err_from_is_err_and x h in p.1 ∙ ap Err p.2
