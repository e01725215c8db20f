-- How a rule stands after an observation: the status that document 01 names, where an open rule's deadline runs or does not.
-- Assumes nothing.
use Rattle.std.specs.Prelude.{Bool, true, false}
use Rattle.pattern.specs.Meaning.{Status, broken, whole, open'}
use Rattle.pattern.specs.Judge as J
use Rattle.step.specs.declared.Standing.{Standing}
use Rattle.step.specs.declared.Standing.TheVariants.{Whole, Open, Due, Broken}

abbrev pub status_of : Standing → Status
status_of Whole = whole
status_of Open = open'
status_of Due = open'
status_of Broken = broken

abbrev pub is_broken : Standing → Bool
is_broken k = J.is_broken (status_of k)

abbrev pub is_open : Standing → Bool
is_open k = J.is_open (status_of k)

-- the deadline runs
abbrev pub is_due : Standing → Bool
is_due Whole = false
is_due Open = false
is_due Due = true
is_due Broken = false
