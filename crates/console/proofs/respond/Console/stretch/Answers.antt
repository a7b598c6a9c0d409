-- `stretch` meets its contract.
use mathlib.Core.Path.{◌≡◌, ap, subst}
use mathlib.Core.List.{[], ◌∷◌}
use native.Mathlib.Omega.{arith}
use lib.ListN.{length}
use Rattle.journal.specs.Restore.{Part, part_of}
use Rattle.statements.specs.Calls.{Seen}
use Rattle.checker.specs.Replies.{stretch_told}
use Rattle.requests.specs.declared.forms.Request.TheVariants as asks
use Rattle.console.specs.Respond.{prints, outcome_in, Responds}
use Rattle.console.proofs.RespondLaws.{prints_is, response_of, stretch_size}
use Rattle.console.proofs.respond.Console.stretch.Goals as goal

pub returns : goal.returns
unfolding outcome_in
returns c ns =
    let s = c.args.self.now in
    let j = s.journal.now in
    let place = c.stretch_place-place in
    let p = stretch_told place.result in
    let part = c.stretch-size in
    let size : length part.result.now ≡ p.size = stretch_size s.session s.lent j p part.result.now place.ensures.0.exact place.ensures.1 s.within (ap (λ (x : Seen). x.bytes) part.ensures.exact) in
    subst (λ (q : Part). Responds (prints asks.Stretch (q.size ∷ []) q.start (part_of q j) s.session s.lent j) (response_of s.session s.lent c.with_bytes.result) j) place.ensures.0.exact
    (prints_is asks.Stretch _ s.session s.lent j c.with_bytes.result c.numbered-said.result p.start p.size (rw size at c.numbered-said.ensures) (rw size at c.with_bytes.ensures) (omega (arith, place.ensures.1, s.within)))
