-- `book::name_table` meets its contract: the array has the set of each fragment. Assumes nothing.
use Rattle.std.proofs.Common.{rules}
use Rattle.book.specs.Tables.{fragment_set, name_table}
use Rattle.book.proofs.Steps.{array-stored}
use Rattle.book.proofs.name_table.Goals as goal

pub returns : goal.returns
unfolding name_table
returns c = array-stored _ _ (fragment_set c.args.rules.now.fragments c.args.rules.now.ranges) _ (λ i y q called. search rules) 256 c.from_fn.ensures.items
