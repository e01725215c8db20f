-- `parts::fragments` meets its contract: the loop has read some of the fragments, and stored them. Assumes nothing.
use Rattle.std.proofs.Common.{List}
use Rattle.pattern.specs.Meaning.{Fragment, fragment_names}
use Rattle.layout.specs.Reading.{fragment}
use Rattle.parts.specs.Shown.{Stored}
use Rattle.parts.proofs.Loops.{SoFar}
use Rattle.parts.proofs.fragments.Given as goal

abbrev pub invariant-loop-i : goal.invariant-loop-i
invariant-loop-i l =
    (xs : List Fragment) × SoFar l.fn.r (fragment l.sheet.version l.sheet.outputs l.of_q) fragment_names l.before l.count l.r l.used l.i xs × Stored l.first l.fn.tables l.tables xs
