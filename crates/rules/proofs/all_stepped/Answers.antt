-- `rules::all_stepped` meets its contract. The loop's invariant is `Stepping`: the rules seen have their new states, and the masks speak of those. The rest is as in `all_waited`.
-- Assumes nothing.
use Rattle.rules.proofs.Passing.{stepping-start, stepping-more, stepping-end}
use Rattle.rules.proofs.all_stepped.Goals as goal

pub loop-r-init : goal.loop-r-init
loop-r-init c was = rw (c.into_iter-r-iterator.ensures.into_iter_gives, c.each-r-items.ensures) (stepping-start _ _ _ _ _ was)

pub loop-r-preserved : goal.loop-r-preserved
loop-r-preserved c was h =
    let turn = c.in-Some.ensures.steps in
    stepping-more _ _ _ _ _ was (c.loop-r.invariant was h) (turn.1.inside turn.0) turn.1.rule turn.2 c.stepped.ensures c.marked-all.ensures

pub returns : goal.returns
returns c was h = stepping-end _ _ _ _ _ was (c.loop-r.invariant was h) c.in-None.ensures.steps.0
