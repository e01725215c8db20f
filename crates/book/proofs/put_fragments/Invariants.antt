-- `book::put_fragments` meets its contract: the loop has stored the cells of the fragments passed. Assumes nothing.
use Rattle.std.proofs.Common.{◌≡◌}
use Rattle.book.specs.Tables.{in_turn, put_fragment}
use Rattle.book.proofs.put_fragments.Given as goal

abbrev pub invariant-loop-f : goal.invariant-loop-f
invariant-loop-f l = l.table ≡ in_turn (put_fragment l.rules.fragments l.rules.ranges l.head l.r) l.f l.fn.table
