-- `store::put` meets its contract. After i bytes, storing what is left of the number from there on is storing the number. Assumes nothing.
use native.Mathlib.Omega.{arith}
use Rattle.store.proofs.Stores.{storing-more}
use Rattle.store.proofs.put.Goals as goal

pub loop-i-preserved : goal.loop-i-preserved
loop-i-preserved c =
    let s = c.args in
    let l = c.loop-i in
    storing-more s.out.now s.at s.n s.x l.out l.rest l.i l.invariant (omega arith)
