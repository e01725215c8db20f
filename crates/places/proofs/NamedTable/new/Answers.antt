-- `places::NamedTable::new` meets its contract: from the last name to the first, each place gets the lowest that stands there. Assumes nothing.
use Prim.Native.Nat.{ℕ, ◌-◌}
use native.Mathlib.Omega.{arith}
use lib.ListN.{length-replicate}
use Rattle.places.specs.Places.{place_count}
use Rattle.places.proofs.Naming.{naming-start, naming-more, naming-end}
use Rattle.places.proofs.NamedTable.new.Goals as goal

pub loop-n-init : goal.loop-n-init
loop-n-init c = (length-replicate {A = ℕ} place_count 64, naming-start c.args.table.now)

pub loop-n-preserved : goal.loop-n-preserved
loop-n-preserved c =
    let m = c.loop-n.n in
    (c.place.ensures.size, naming-more c.args.table.now _ _ m (m - 1) (omega arith) (omega arith) c.loop-n.invariant.1 c.place.ensures)

pub invariant_of-result : goal.invariant_of-result
invariant_of-result c = naming-end c.args.table.now c.loop-n.names c.loop-n.n (omega arith) c.loop-n.invariant.1
