-- How far a burst has come: what is left of the offers goes on to the same end, and the timings are the session's.
use Prim.Native.Nat.{◌+◌, ◌≤◌}
use Rattle.scan.specs.Rows.{Lent}
use Rattle.bursts.proofs.RunLaws.{Runs}
use Rattle.bursts.proofs.burst.take_offers.Given as goal

abbrev pub invariant-loop-offer : goal.invariant-loop-offer
invariant-loop-offer g l =
    let turns = goal.iterator-loop-offer g in
    turns.can_next l.offer-iterator × turns.is_finite l.offer-iterator × (l.count + turns.remaining l.offer-iterator ≤ turns.remaining l.fn.offers)
    × Lent l.timings l.session.terms × Runs turns.next_gives l.fn.offers l.fn.session l.fn.journal l.offer-iterator l.session l.journal l.count
