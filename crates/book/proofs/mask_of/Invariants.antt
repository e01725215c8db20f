-- `book::mask_of` meets its contract: the loop has the mask of the rules passed. Assumes nothing.
use Rattle.std.proofs.Common.{◌≡◌}
use Rattle.book.specs.Tables.{mask_of}
use Rattle.book.proofs.mask_of.Given as goal

abbrev pub invariant-loop-r : goal.invariant-loop-r
invariant-loop-r l = l.mask ≡ mask_of l.sets l.m l.r
