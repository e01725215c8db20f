-- `parts::ranges` meets its contract: the loop has read some of the ranges, and stored their words. Assumes nothing.
use Rattle.std.proofs.Common.{◌≡◌, List}
use Rattle.pattern.specs.Meaning.{Range}
use Rattle.layout.specs.Reading.{range, range_name}
use Rattle.layout.specs.Pages.{fill, put_range}
use Rattle.parts.proofs.Loops.{SoFar}
use Rattle.parts.proofs.ranges.Given as goal

abbrev pub invariant-loop-i : goal.invariant-loop-i
invariant-loop-i l =
    (xs : List Range) × SoFar l.fn.r (range l.sheet.version l.sheet.outputs l.of_q) range_name l.before l.count l.r l.used l.i xs × (l.table ≡ fill put_range l.fn.table l.base xs)
