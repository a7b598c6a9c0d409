-- `take_offers` meets its contract: offer after offer, until one is refused or none is left.
use mathlib.Core.Path.{refl, sym, ◌∙◌, ap, subst}
use native.Mathlib.Omega.{arith}
use Rattle.history.specs.Answers.{Reply, accepted_at}
use Rattle.session.specs.declared.state.Terms.{Terms}
use Rattle.judging.specs.Judged.{settings_by}
use Rattle.judging.specs.Refusals.{refusal_reply}
use Rattle.checker.proofs.StepLaws.{reply_some}
use Rattle.bursts.proofs.RunLaws.{Done, runs_start, runs_end, runs_refused, runs_on}
use Rattle.bursts.proofs.burst.take_offers.Goals as goal

pub loop-offer-init : goal.loop-offer-init
loop-offer-init g c =
    let a = c.args in
    rw c.into_iter-offer-iterator.ensures.into_iter_gives
    (c.requires.goes_on, c.requires.finite, omega arith, c.of-timings.ensures, runs_start g.I.Iterator.next_gives a.offers a.session.now a.journal.now)

pub returns-in-Err : goal.returns-in-Err
returns-in-Err g c =
    let a = c.args in
    let l = c.loop-offer in
    let terms = c.take_offer.ensures.terms in
    let settings = settings_by l.session.terms in
    let answer = c.refused-answer.ensures ∙ ap (λ (x : Terms). refusal_reply (settings_by x) c.in-Err.refusal) terms in
    subst (λ (r : Reply). Done g.I.Iterator.next_gives a.offers a.session.now a.journal.now l.count r c.take_offer.new.session c.take_offer.new.journal) (sym answer)
    (runs_refused g.I.Iterator.next_gives a.offers a.session.now a.journal.now l.offer-iterator c.next.new.self l.session l.journal l.count l.invariant.4 c.in-Some.offer c.in-Some.ensures.steps
    (refusal_reply settings c.in-Err.refusal) c.take_offer.new.session c.take_offer.new.journal c.in-Err.ensures.offers (reply_some settings c.in-Err.refusal))

pub loop-offer-preserved : goal.loop-offer-preserved
loop-offer-preserved g c =
    let a = c.args in
    let l = c.loop-offer in
    let goes = c.in-Some.ensures.goes.on l.invariant.1 in (
      goes.0,
      goes.1,
      omega (arith, l.invariant.2, goes.2),
      rw (sym c.take_offer.ensures.terms) at l.invariant.3,
      runs_on g.I.Iterator.next_gives a.offers a.session.now a.journal.now l.offer-iterator c.next.new.self l.session l.journal l.count l.invariant.4 c.in-Some.offer c.in-Some.ensures.steps
          (accepted_at c.in-Some.offer.cycle.0) c.take_offer.new.session c.take_offer.new.journal c.in_default.ensures.offers refl,
    )

pub returns : goal.returns
returns g c =
    let a = c.args in
    let l = c.loop-offer in
    subst (λ (r : Reply). Done g.I.Iterator.next_gives a.offers a.session.now a.journal.now l.count r l.session l.journal) (sym c.plain.ensures)
    (runs_end g.I.Iterator.next_gives a.offers a.session.now a.journal.now l.offer-iterator c.next.new.self l.session l.journal l.count l.invariant.4 c.in-None.ensures.steps)
