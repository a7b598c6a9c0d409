-- A move on a state that stands for a history comes to what it comes to on the history.
use mathlib.Core.Path.{◌≡◌, refl, ◌∙◌, ap}
use mathlib.Core.List.{List}
use Prim.Native.Nat.{ℕ}
use lib.ListN.{length}
use Rattle.history.specs.Records.{History}
use Rattle.history.specs.Answers.{room_of, plain, Verdict, refused, reply_of, next_of, earliest_on, status_on}
use Rattle.history.specs.Struck.{open_session, offer, take_back, verdict}
use Rattle.session.specs.declared.state.Session.{Session}
use Rattle.journal.specs.Restore.{bytes_after, Part, part_of, stretch_of}
use Rattle.statements.specs.Rep.{Rep}
use Rattle.statements.specs.Calls.{Move, calls, asks_earliest, asks_status, asks_stretch, Heard, replied, stated, handed, Does, by_call, by_earliest, by_status, by_stretch, Seen}

abbrev pub answer_on : ℕ → History → Move → List ℕ → Heard
answer_on room h (calls c) j = replied (reply_of (verdict room h c))
answer_on room h (asks_earliest kind rank bank) j = replied (earliest_on h kind rank bank)
answer_on room h asks_status j = stated (status_on h)
answer_on room h asks_stretch j = handed (stretch_of h (length j)) (part_of (stretch_of h (length j)) j)

-- a question writes as little as a refusal
abbrev pub verdict_on : ℕ → History → Move → Verdict
verdict_on room h (calls c) = verdict room h c
verdict_on room h (asks_earliest kind rank bank) = refused (plain 0)
verdict_on room h asks_status = refused (plain 0)
verdict_on room h asks_stretch = refused (plain 0)

pub record Done (m : Move) (h : History) (j : List ℕ) (a : Heard) (next : Session) (after : List ℕ) : Type 0 where
  pub answer : a ≡ answer_on (room_of (length j)) h m j
  pub stands : Rep next (next_of h (verdict_on (room_of (length j)) h m))
  pub bytes : after ≡ bytes_after j (length h) (verdict_on (room_of (length j)) h m)

pub does_on : {m : Move} {s next : Session} {j after : List ℕ} {a : Heard} → Does m s j a next after → (h : History) → Rep s h → Done m h j a next after
does_on (by_call {c = open_session o} out) h rep = record { answer = ap replied (out.answer h rep); stands = out.state h rep; bytes = out.written h rep }
does_on (by_call {c = offer kind rank bank t} out) h rep = record { answer = ap replied (out.answer h rep); stands = out.state h rep; bytes = out.written h rep }
does_on (by_call {c = take_back} out) h rep = record { answer = ap replied (out.answer h rep); stands = out.state h rep; bytes = out.written h rep }
does_on (by_earliest told) h rep = record { answer = ap replied (told.answer h rep); stands = rep; bytes = refl }
does_on (by_status told) h rep = record { answer = ap stated (told.answer h rep); stands = rep; bytes = refl }
does_on (by_stretch {lent = lent} {part = part} b i b' i' place part-is) h rep =
    record {
      answer = ap (λ (p : Part). handed p part) (place.answer h rep) ∙ ap (handed (stretch_of h (length lent))) (ap (λ (x : Seen). x.bytes) (part-is.answer h rep));
      stands = rep;
      bytes = refl;
    }
