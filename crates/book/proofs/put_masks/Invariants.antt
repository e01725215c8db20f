-- `book::put_masks` meets its contract: the loop has stored the masks of the names passed. Assumes nothing.
use Rattle.std.proofs.Common.{◌≡◌}
use Rattle.book.specs.Tables.{stored, mask_of}
use Rattle.book.proofs.put_masks.Given as goal

abbrev pub invariant-loop-m : goal.invariant-loop-m
invariant-loop-m l = l.table ≡ stored (λ i. mask_of l.sets i l.count) l.m l.fn.table
