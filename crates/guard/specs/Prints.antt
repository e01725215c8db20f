-- The five numbers that the program prints (document 01, "Running a log").
-- Assumes nothing.
use Rattle.std.specs.Prelude.{◌≡◌, cond, List, ℕ, ltb, length}
use Rattle.pattern.specs.Judge.{Oracle}
use Rattle.runner.specs.declared.Outcome.{Outcome}
use Rattle.runner.specs.Log.{turned_away}
use Rattle.host.specs.Host.{outcome_of, Judging}

-- "a book.lob beyond 5,774 bytes or a trace.lot beyond 65,535 is printed as `3 0 0 0 0`"; else "these five numbers .. budget 4,294,967,295"
abbrev pub printed : Oracle → List ℕ → List ℕ → Outcome
printed oracle sheet log = cond (ltb 5774 (length sheet)) (turned_away 0 0) (cond (ltb 65535 (length log)) (turned_away 0 0) (outcome_of oracle sheet log 4294967295))

-- whatever judge
abbrev pub Prints : List ℕ → List ℕ → Outcome → Type 0
Prints sheet log r = (oracle : Oracle) → Judging sheet oracle → r ≡ printed oracle sheet log
