-- One record of a log (document 01, "Running a log"): five bytes, a name and a time, as the observation that the judge is given.
-- Assumes nothing.
use Rattle.std.specs.Prelude.{cond, List, ℕ, ◌+◌, ◌*◌, eqb, get_or}
use Rattle.pattern.specs.Judge.{Observation, event, clock}
use Rattle.layout.specs.Form.{number}

-- an observation in a log's numbers: "a name 0 to 63 or FF for a clock reading", and the time; 64 to 254 are names that the judge refuses
abbrev pub observation : ℕ → ℕ → Observation
observation name time = cond (eqb name 255) (clock time) (event name time)

-- the record at an offset
abbrev pub record_from : List ℕ → ℕ → Observation
record_from log at = observation (get_or log at 0) (number log 4 (at + 1))

-- record i of "5-byte records"
abbrev pub record_at : List ℕ → ℕ → Observation
record_at log i = record_from log (5 * i)
