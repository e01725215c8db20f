-- `book::put_ranges` meets its contract: the loop has stored the cells of the ranges passed. Assumes nothing.
use Rattle.std.proofs.Common.{arith}
use Rattle.book.specs.Tables.{in_turn, put_cell}
use Rattle.book.proofs.Steps.{all_made, cell-more}
use Rattle.book.proofs.put_ranges.Goals as goal

pub loop-i-preserved : goal.loop-i-preserved
loop-i-preserved c =
    cell-more c.args.ranges.now c.args.r c.args.k c.args.shared c.args.table.now c.loop-i.i c.loop-i.invariant c.bit.ensures c.cell_of.ensures

pub returns : goal.returns
returns c = all_made (λ i. in_turn (put_cell c.args.ranges.now c.args.r c.args.k c.args.shared) i c.args.table.now) {i = c.loop-i.i} {n = c.args.count} (omega arith) (omega arith) c.loop-i.invariant
