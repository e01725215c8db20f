-- `store::put` meets its contract. After i bytes, storing what is left of the number from there on is storing the number. Assumes nothing.
use Rattle.store.proofs.Stores.{Storing}
use Rattle.store.proofs.put.Given as goal

abbrev pub invariant-loop-i : goal.invariant-loop-i
invariant-loop-i l = Storing l.initial.out l.at l.n l.fn.x l.out l.rest l.i
