-- `parse` meets its contract.
use mathlib.Core.Path.{sym, ◌∙◌}
use Rattle.requests.specs.Words.{words}
use Rattle.requests.proofs.RequestLaws.{none_asked, fills_whole, fills_not, fills_none, asked_none, asked_comment, asked_named}
use Rattle.requests.proofs.requests.parse.Goals as goal
use Rattle.requests.proofs.requests.parse.Goals.{in_default-read_numbers-via-in-Some-read_numbers+else-is_whole, in_default-read_numbers-via-in_default-read_numbers}

pub returns-in_default : goal.returns-in_default
returns-in_default c = let a = c.args in none_asked _ _ _ _ (asked_none a.in_file (words a.line.now) c.in_default.ensures) c.without_numbers.ensures

pub returns-then-starts_with : goal.returns-then-starts_with
returns-then-starts_with c =
    let a = c.args in
    none_asked _ _ _ _ (asked_comment a.in_file (words a.line.now) c.in-Some.word.now _ c.in-Some.ensures.0 (sym c.starts_with.ensures.value ∙ c.if-starts_with.true)) c.without_numbers-then-starts_with.ensures

pub returns-in-Some-read_numbers : goal.returns-in-Some-read_numbers
returns-in-Some-read_numbers c =
    let a = c.args in
    let q = c.named-request.result in
    let read = rw c.form-form.ensures at c.in-Some-read_numbers.ensures in
    let whole = rw c.form-form.ensures at (sym c.is_whole.ensures ∙ c.if-is_whole.true) in
    rw (asked_named a.in_file (words a.line.now) c.in-Some.word.now _ c.in-Some.ensures.0 (sym c.starts_with.ensures.value ∙ c.if-starts_with.false) q c.named-request.ensures) (fills_whole q _ _ _ read whole)

pub returns-in_default-read_numbers : goal.returns-in_default-read_numbers
returns-in_default-read_numbers c =
    let a = c.args in
    let q = c.named-request.result in
    none_asked _ _ _ _
    (asked_named a.in_file (words a.line.now) c.in-Some.word.now _ c.in-Some.ensures.0 (sym c.starts_with.ensures.value ∙ c.if-starts_with.false) q c.named-request.ensures
    ∙ (elim c.in_default-read_numbers.branch [
      | in_default-read_numbers-via-in-Some-read_numbers+else-is_whole w ↦
          let read = rw c.form-form.ensures at w.in-Some-read_numbers.ensures in
          let part = rw c.form-form.ensures at (sym w.is_whole.ensures ∙ w.if-is_whole.false) in
          fills_not q _ _ _ read part
      | in_default-read_numbers-via-in_default-read_numbers w ↦ fills_none q _ _ (rw c.form-form.ensures at w.in_default-read_numbers.ensures)
    ]))
    c.without_numbers-in_default-read_numbers.ensures
