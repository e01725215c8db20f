-- `book::put_ranges` meets its contract: the loop has stored the cells of the ranges passed. Assumes nothing.
use Rattle.std.proofs.Common.{◌≡◌}
use Rattle.book.specs.Tables.{in_turn, put_cell}
use Rattle.book.proofs.put_ranges.Given as goal

abbrev pub invariant-loop-i : goal.invariant-loop-i
invariant-loop-i l = l.table ≡ in_turn (put_cell l.ranges l.r l.k l.shared) l.i l.fn.table
