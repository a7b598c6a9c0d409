-- `named` meets its contract.
use mathlib.Core.Path.{sym, ◌∙◌, ap}
use mathlib.Core.Bool.{Bool, ◌&&◌}
use borrow.Author.Rules.{rules}
use borrow.Author.Tests.{tests}
use Rattle.std.specs.Option.{unwrap_or}
use Rattle.std.specs.Str.{bytes_eq}
use Rattle.std.proofs.lemmas.Iterator.{YieldsList-from_slice}
use Rattle.std.proofs.lemmas.Iterator.Consumers.{YieldsList-at, YieldsList-from_copied}
use Rattle.std.proofs.lemmas.Iterator.Search.{find_from_yields_List}
use Rattle.requests.specs.declared.forms.Request.TheVariants.{Malformed}
use Rattle.requests.specs.Forms.{Row, row_of, word_of, form_of, named_requests}
use Rattle.requests.specs.Requests.{stands, named}
use Rattle.requests.proofs.RequestLaws.{option_map_same, row_found}
use Rattle.requests.proofs.requests.named.Goals as goal

pub returns : goal.returns
unfolding named word_of form_of
returns c =
    let a = c.args in
    let has : Row → Bool = λ r. bytes_eq r.word a.word.now && stands a.in_file r in
    c.unwrap_or.ensures
    ∙ ap (λ r. unwrap_or r Malformed)
    (sym (option_map_same c.find-request.result)
    ∙ find_from_yields_List (λ q. has (row_of q)) _ _ c.find-request.result c.find-request.ensures.ran
    (YieldsList-from_copied (YieldsList-at c.copied-requests.ensures.source (YieldsList-from_slice named_requests c.iter.ensures.rest)))
    (λ x b q k. search (rules, tests))
    ∙ sym (row_found has named_requests))
