-- `parts::rules` meets its contract: the loop has read some of the rules, and stored them. Assumes nothing.
use Rattle.std.proofs.Common.{List, []}
use Rattle.pattern.specs.Meaning.{Rule}
use Rattle.layout.specs.Reading.{rule}
use Rattle.parts.specs.Shown.{RulesShown}
use Rattle.parts.proofs.Loops.{SoFar}
use Rattle.parts.proofs.rules.Given as goal

abbrev pub invariant-loop-k : goal.invariant-loop-k
invariant-loop-k l = (xs : List Rule) × SoFar l.fn.r (λ _. rule l.sheet.version l.sheet.outputs) (λ _. []) 0 l.count l.r 0 l.k xs × RulesShown l.fn.tables l.tables xs
