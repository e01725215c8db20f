-- `places::NamedTable::new` meets its contract: from the last name to the first, each place gets the lowest that stands there. Assumes nothing.
use mathlib.Core.Path.{◌≡◌}
use lib.ListN.{length}
use Rattle.places.specs.Places.{place_count}
use Rattle.places.proofs.Naming.{NamedFrom}
use Rattle.places.proofs.NamedTable.new.Given as goal

abbrev pub invariant-loop-n : goal.invariant-loop-n
invariant-loop-n l = (length l.names ≡ place_count) × NamedFrom l.table l.n l.names
