-- `parse_line` meets its contract.
use mathlib.Core.Path.{sym, ◌∙◌}
use native.Mathlib.Omega.{arith}
use borrow.Author.Tests.{eqb-true, eqb-false}
use lib.ListN.{length}
use Rattle.requests.proofs.RequestLaws.{none_asked, asked_empty, asked_bad, asked_whole, stripped}
use Rattle.requests.proofs.requests.parse_line.Goals as goal

pub returns-then-is_empty : goal.returns-then-is_empty
returns-then-is_empty c =
    let a = c.args in
    none_asked _ _ _ _ (asked_empty a.in_file a.line.now a.ended (eqb-true (length a.line.now) 0 (sym c.is_empty.ensures ∙ c.if-is_empty.true))) c.without_numbers.ensures

pub returns-then-not-ended : goal.returns-then-not-ended
returns-then-not-ended c =
    let a = c.args in
    none_asked _ _ _ _ (asked_bad a.in_file a.line.now a.ended (eqb-false (length a.line.now) 0 (sym c.is_empty.ensures ∙ c.if-is_empty.false)) c.then-not-ended.either) c.without_numbers-then-not-ended.ensures

pub returns : goal.returns
returns c =
    let a = c.args in
    let some = eqb-false (length a.line.now) 0 (sym c.is_empty.ensures ∙ c.if-is_empty.false) in
    rw (asked_whole a.in_file a.line.now a.ended c.if-not-ended.false c.if-line-gt-MAX_LINE.false, ← stripped a.line c.strip_suffix.result (omega (arith, some)) c.strip_suffix.ensures.cases, ← c.unwrap_or-line.ensures)
    c.parse.ensures
