-- `book::put_masks` meets its contract: the loop has stored the masks of the names passed. Assumes nothing.
use Rattle.std.proofs.Common.{arith}
use Rattle.book.specs.Tables.{stored, mask_of}
use Rattle.book.proofs.Steps.{all_made, stored_more}
use Rattle.book.proofs.put_masks.Goals as goal

pub loop-m-preserved : goal.loop-m-preserved
loop-m-preserved c = stored_more (λ i. mask_of c.args.sets.now i c.args.count) c.args.table.now c.loop-m.m c.loop-m.invariant c.mask_of.ensures

pub returns : goal.returns
returns c = all_made (λ n. stored (λ i. mask_of c.args.sets.now i c.args.count) n c.args.table.now) {i = c.loop-m.m} {n = 64} (omega arith) (omega arith) c.loop-m.invariant
