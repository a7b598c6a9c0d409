-- `kind_number` meets its contract.
use mathlib.Core.Path.{sym, ◌∙◌, ap}
use borrow.Author.Rules.{rules}
use borrow.Author.Tests.{tests}
use Rattle.std.specs.Prelude.{Some}
use Rattle.std.specs.Option.{option_map}
use Rattle.std.specs.Str.{bytes_eq}
use Rattle.std.proofs.lemmas.Iterator.{YieldsList-from_slice}
use Rattle.std.proofs.lemmas.Iterator.Consumers.{YieldsList-at, YieldsList-from_copied}
use Rattle.std.proofs.lemmas.Iterator.Search.{find_from_yields_List}
use Rattle.timing.specs.Kinds.{code_of, name_of}
use Rattle.requests.specs.Requests.{kinds}
use Rattle.requests.proofs.RequestLaws.{option_map_same, kind_found}
use Rattle.requests.proofs.requests.kind_number.Goals as goal

pub returns-in_err-kind : goal.returns-in_err-kind
returns-in_err-kind c =
    c.from_residual.ensures ∙ ap (option_map code_of)
    (sym c.in_err-kind.was ∙ sym (option_map_same c.find.result)
    ∙ find_from_yields_List (λ k. bytes_eq (name_of k) c.args.word.now) _ _ c.find.result c.find.ensures.ran
    (YieldsList-from_copied (YieldsList-at c.copied-kinds.ensures.source (YieldsList-from_slice kinds c.iter.ensures.rest)))
    (λ x b q k. search (rules, tests)))
    ∙ kind_found c.args.word.now

pub returns : goal.returns
returns c =
    ap Some c.number.ensures ∙ ap (option_map code_of)
    (sym c.in_ok-kind.was ∙ sym (option_map_same c.find.result)
    ∙ find_from_yields_List (λ k. bytes_eq (name_of k) c.args.word.now) _ _ c.find.result c.find.ensures.ran
    (YieldsList-from_copied (YieldsList-at c.copied-kinds.ensures.source (YieldsList-from_slice kinds c.iter.ensures.rest)))
    (λ x b q k. search (rules, tests)))
    ∙ kind_found c.args.word.now
