-- The number of each line that refuses, and the reply that it stands for.
use Rattle.std.specs.Prelude.{Result, Ok, Err, ℕ}
use Rattle.timing.specs.Earliest.{Settings}
use Rattle.history.specs.Answers.{Reply, plain, named, accepted_at}
use Rattle.scan.specs.Scan.{ask_in}
use Rattle.judging.specs.declared.refusals.Refusal.{Refusal}
use Rattle.judging.specs.declared.refusals.Refusal.TheVariants.{
  NoSession,
  BadKind,
  BadRank,
  BadBank,
  PastLastCycle,
  NotLater,
  TooEarly,
  NoDepth,
  NoRoom,
  BadSettings,
  BadRecord,
  WrongState,
}

abbrev pub number_of : Refusal → ℕ
number_of NoSession = 1
number_of BadKind = 2
number_of BadRank = 3
number_of BadBank = 4
number_of PastLastCycle = 5
number_of NotLater = 6
number_of (TooEarly e) = 7
number_of NoDepth = 8
number_of NoRoom = 9
number_of BadSettings = 10
number_of BadRecord = 11
number_of WrongState = 12

-- with 7 the earliest cycle, its gap and what that loses
abbrev pub refusal_reply : Settings → Refusal → Reply
refusal_reply s NoSession = plain 1
refusal_reply s BadKind = plain 2
refusal_reply s BadRank = plain 3
refusal_reply s BadBank = plain 4
refusal_reply s PastLastCycle = plain 5
refusal_reply s NotLater = plain 6
refusal_reply s (TooEarly e) = named 7 s (ask_in e)
refusal_reply s NoDepth = plain 8
refusal_reply s NoRoom = plain 9
refusal_reply s BadSettings = plain 10
refusal_reply s BadRecord = plain 11
refusal_reply s WrongState = plain 12

-- the line that refuses, or 0; and the reply at a cycle
abbrev pub line_in : {A : Type 0} → Result A Refusal → ℕ
line_in (Ok x) = 0
line_in (Err r) = number_of r

abbrev pub reply_to : {A : Type 0} → Settings → ℕ → Result A Refusal → Reply
reply_to s t (Ok x) = accepted_at t
reply_to s t (Err r) = refusal_reply s r
