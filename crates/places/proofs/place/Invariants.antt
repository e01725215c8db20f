-- `places::place` meets its contract: name n goes to its place in each rule that holds it, and the iterator holds those that are left. Assumes nothing.
use Rattle.places.proofs.Naming.{Placing}
use Rattle.places.proofs.place.Given as goal

abbrev pub invariant-loop-r : goal.invariant-loop-r
invariant-loop-r l = Placing l.table l.n l.initial.names l.r-iterator.0 l.names
