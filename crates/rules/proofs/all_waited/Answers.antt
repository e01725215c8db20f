-- `rules::all_waited` meets its contract. The loop's invariant is `Noting`: the masks speak of the rules seen, and the iterator holds those that are left. Each turn takes the lowest of them, and
-- when it has none, all have been seen. Assumes nothing.
use Rattle.rules.proofs.Passing.{noting-start, noting-more, noting-end}
use Rattle.rules.proofs.all_waited.Invariants.{stands}
use Rattle.rules.proofs.all_waited.Goals as goal

pub loop-r-init : goal.loop-r-init
loop-r-init c =
    let a = c.args in
    rw (c.into_iter-r-iterator.ensures.into_iter_gives, c.each-r-items.ensures) (noting-start 0 a.who (stands a.table.now a.m.now a.time))

pub loop-r-preserved : goal.loop-r-preserved
loop-r-preserved c =
    let a = c.args in
    let turn = c.in-Some.ensures.steps in
    noting-more 0 a.who (stands a.table.now a.m.now a.time) c.loop-r.invariant (turn.1.inside turn.0) turn.1.rule turn.2 c.waited.ensures c.marked-all.ensures

pub returns : goal.returns
returns c = let a = c.args in noting-end 0 a.who (stands a.table.now a.m.now a.time) c.loop-r.invariant c.in-None.ensures.steps.0
