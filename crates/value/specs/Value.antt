-- The monitor as a value: a struct with the state of each of its sixteen rules, which goes in and comes back. It is a form of a monitor, and promises what every form does.
-- Assumes nothing.
use Rattle.words.specs.Words.{Held}
use Rattle.monitor.specs.Promise.{Form}
use Rattle.value.specs.declared.Monitor.{Monitor}

-- a monitor's numbers, as memory holds them
abbrev pub numbers_of : Monitor → Held
numbers_of m = record { rules = m.rules; taken = m.taken; latest = m.latest; verdict = m.verdict; mask = m.mask; dues = m.dues }

-- every struct is of the form, and all of it holds something
abbrev pub by_value : Form Monitor
by_value = record { held = numbers_of; Fits = λ (m : Monitor). Unit {0}; Blank = λ (m : Monitor). Unit {0} }
