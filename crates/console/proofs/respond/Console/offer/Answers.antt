-- `offer` meets its contract.
use mathlib.Core.Path.{◌≡◌, refl, ◌∙◌, ap, subst}
use Rattle.std.proofs.Common.{rules}
use Rattle.history.specs.Answers.{Reply}
use Rattle.session.specs.declared.state.Terms.{Terms}
use Rattle.judging.specs.Judged.{settings_by}
use Rattle.judging.specs.Refusals.{reply_to}
use Rattle.requests.specs.declared.forms.Request.TheVariants as asks
use Rattle.console.specs.Say.{full, said_of}
use Rattle.console.specs.Respond.{each_from, offer_at, outcome_in}
use Rattle.console.proofs.RespondLaws.{made_is, called_is}
use Rattle.console.proofs.respond.Console.offer.Goals as goal

pub returns : goal.returns
unfolding each_from outcome_in
returns c =
    let s = c.args.self.now in
    let ns = c.args.numbers.now in
    let done = c.take_offer-done in
    let command : c.from_fn.result ≡ each_from (λ n. n) 4 0 ns = made_is _ _ (λ n. n) 0 ns (λ i y q called. (search rules, search rules)) 4 _ c.from_fn.ensures.items in
    let offer : c.offer_of-offer.result ≡ offer_at ns 0 = rw command at c.offer_of-offer.ensures in
    let answer = c.answer_for-answer.ensures ∙ ap (λ (terms : Terms). reply_to (settings_by terms) c.offer_of-offer.result.cycle.0 done.result) done.ensures.terms in
    let said = subst (λ (r : Reply). c.answer_said.result ≡ said_of asks.Offer (full r)) answer c.answer_said.ensures in
    record { responds = called_is asks.Offer full _ s.session _ s.lent s.journal.now _ _ _ (rw offer at done.ensures.offers.exact) (rw offer at said); same = refl }
