-- `opening::unstarted` meets its contract. After r turns the first r rules are fresh, and nothing else is held. Assumes nothing.
use Rattle.std.proofs.Common.{◌≡◌, arith}
use Rattle.words.proofs.Laws.{zeros-hold, one_more}
use Rattle.opening.specs.Fresh.{fresh_held}
use Rattle.opening.proofs.unstarted.Invariants.{anew}
use Rattle.opening.proofs.unstarted.Goals as goal

pub loop-r-init : goal.loop-r-init
loop-r-init c = zeros-hold

pub loop-r-preserved : goal.loop-r-preserved
loop-r-preserved c = one_more anew (omega arith) c.fresh.ensures c.store.ensures c.loop-r.invariant

pub returns : goal.returns
unfolding fresh_held
returns c = let e : c.loop-r.r ≡ 16 = omega arith in rw e at c.loop-r.invariant
