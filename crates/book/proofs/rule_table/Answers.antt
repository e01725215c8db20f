-- `book::rule_table` meets its contract: the array has the set of each rule. Assumes nothing.
use Rattle.std.proofs.Common.{rules}
use Rattle.book.specs.Tables.{rule_set, rule_table}
use Rattle.book.proofs.Steps.{array-stored}
use Rattle.book.proofs.rule_table.Goals as goal

pub returns : goal.returns
unfolding rule_table
returns c = array-stored _ _ (rule_set c.args.rules.now.heads c.args.names.now) _ (λ i y q called. search rules) 16 c.from_fn.ensures.items
