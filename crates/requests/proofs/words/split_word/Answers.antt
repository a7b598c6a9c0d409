-- `split_word` meets its contract.
use mathlib.Core.Path.{refl}
use Rattle.requests.proofs.WordLaws.{no_word, some_left, last_word, next_word, less_left}
use Rattle.requests.proofs.words.split_word.Goals as goal

pub returns-in_err-start : goal.returns-in_err-start
returns-in_err-start c = rw c.from_residual.ensures (no_word c.args.line.now c.in_err-start.ensures)

pub returns-in_default : goal.returns-in_default
returns-in_default c =
    let line = c.args.line.now in
    let i = c.in_ok-start in
    (last_word line i.start i.ensures _ refl c.in_default.ensures, some_left line i.start i.ensures)

pub returns : goal.returns
returns c =
    let line = c.args.line.now in
    let i = c.in_ok-start in
    (next_word line i.start i.ensures _ refl c.in-Some.end c.in-Some.ensures _ refl, less_left line i.start i.ensures _ refl c.in-Some.end c.in-Some.ensures _ refl)
