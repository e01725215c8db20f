-- `book::mask_of` meets its contract: the loop has the mask of the rules passed. Assumes nothing.
use Rattle.std.proofs.Common.{arith}
use Rattle.book.specs.Tables.{mask_of}
use Rattle.book.proofs.Steps.{all_made, mask-more}
use Rattle.book.proofs.mask_of.Goals as goal

pub loop-r-preserved : goal.loop-r-preserved
loop-r-preserved c = mask-more c.args.sets.now c.args.m c.loop-r.r c.loop-r.invariant c.add_rule-mask.ensures

pub returns : goal.returns
returns c = all_made (mask_of c.args.sets.now c.args.m) (omega arith) (omega arith) c.loop-r.invariant
