-- `book::put_rules` meets its contract: the loop has stored the heads and the cells of the rules passed. Assumes nothing.
use Rattle.std.proofs.Common.{◌≡◌}
use Rattle.book.specs.Tables.{in_turn, put_rule}
use Rattle.book.proofs.put_rules.Given as goal

abbrev pub invariant-loop-r : goal.invariant-loop-r
invariant-loop-r l = l.table ≡ in_turn (put_rule l.rules.heads l.rules.fragments l.rules.ranges) l.r l.fn.table
