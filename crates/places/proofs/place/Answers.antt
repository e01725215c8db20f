-- `places::place` meets its contract: name n goes to its place in each rule that holds it. Assumes nothing.
use Rattle.places.proofs.Naming.{placing-more, placing-end}
use Rattle.places.proofs.place.Goals as goal

pub loop-r-preserved : goal.loop-r-preserved
loop-r-preserved c =
    let turn = c.in-Some.ensures.steps in
    placing-more _ _ _ c.loop-r.invariant _ turn.1.rule (turn.1.inside turn.0) turn.2 c.fragment_in-f.ensures c.index_in-i.ensures

pub returns : goal.returns
returns c = placing-end _ _ _ c.in-None.ensures.steps.0 c.loop-r.invariant
