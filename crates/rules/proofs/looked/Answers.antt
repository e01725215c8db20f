-- `rules::looked` meets its contract: the rules held to a deadline and those that step are together those that are looked at. Where no rule has the name, it is `held`.
-- Assumes nothing.
use Rattle.rules.proofs.Passing.{looks}
use Rattle.rules.proofs.looked.Goals as goal

pub returns-then-concerned-eq0 : goal.returns-then-concerned-eq0
returns-then-concerned-eq0 c = rw c.if-concerned-eq0.true (c.held.ensures c.args.name)

pub returns : goal.returns
returns c was h =
    looks h c.without.ensures c.all_waited-waits.ensures (c.all_stepped-all.ensures was h)
    c.union.ensures c.without-2.ensures c.told.ensures
