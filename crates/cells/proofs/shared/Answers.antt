-- `cells::shared` meets its contract. Assumes nothing.
use native.Mathlib.Omega.{arith}
use Rattle.tables.proofs.Bounds.{round-small}
use Rattle.cells.specs.Making.{shared_cell}
use Rattle.cells.proofs.shared.Goals as goal

pub order-requires : goal.order-requires
order-requires c = (c.requires, omega (arith, round-small c.args.head, c.requires))

pub clock-requires : goal.clock-requires
clock-requires c = omega (arith, round-small c.args.head, c.requires)

pub returns : goal.returns
unfolding shared_cell
returns c = omega arith
