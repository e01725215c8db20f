-- The call of a C host (document 01, "Running a log" and "Where each refusal is found"): what it returns, and the output that it leaves.
-- Assumes nothing.
use Rattle.std.specs.Prelude.{◌≡◌, cond, List, ◌++◌, ℕ, ltb, length, drop}
use Rattle.pattern.specs.Judge.{Oracle, Right}
use Rattle.layout.specs.Layout.{Sheet, le}
use Rattle.layout.specs.Reading.{accepted, refused, read_sheet}
use Rattle.layout.specs.Reading as R
use Rattle.runner.specs.declared.Outcome.{Outcome}
use Rattle.runner.specs.Log.{turned_away, run_of}

-- ---- the five numbers

-- "A refused sheet gives no monitor and nothing is taken"; of an accepted one the log is run
abbrev pub outcome_by : Oracle → R.Outcome → List ℕ → ℕ → Outcome
outcome_by oracle (accepted S) log budget = run_of oracle log budget
outcome_by oracle (refused number place) log budget = turned_away number place

abbrev pub outcome_of : Oracle → List ℕ → List ℕ → ℕ → Outcome
outcome_of oracle sheet log budget = outcome_by oracle (read_sheet sheet) log budget

-- the oracle is right for the sheet's rules, if the sheet is accepted; for a refused sheet none is asked
abbrev pub Judging : List ℕ → Oracle → Type 0
Judging sheet oracle = (S : Sheet) → read_sheet sheet ≡ accepted S → Right S.rules oracle

-- the promise of the five numbers, whatever judge
abbrev pub Outcomes : List ℕ → List ℕ → ℕ → Outcome → Type 0
Outcomes sheet log budget r = (oracle : Oracle) → Judging sheet oracle → r ≡ outcome_of oracle sheet log budget

-- ---- the call

-- "Bytes 0 to 11 are: answer (0 whole, 1 open, 2 broken, 3 refused); refusal number or 0; mask (u16); taken (u32); place (u32)"
abbrev pub twelve : Outcome → List ℕ
twelve o = le 1 o.answer ++ (le 1 o.refusal ++ (le 2 o.mask ++ (le 4 o.taken ++ le 4 o.place)))

-- what a call returns, and what it leaves in the output
pub record Call : Type 0 where
  pub returned : ℕ
  pub output : List ℕ

-- "15 output under 12 bytes: it is unchanged and the call returns 15 (else 0)"; "Later bytes don't change"
abbrev pub call_of : Oracle → List ℕ → List ℕ → ℕ → List ℕ → Call
call_of oracle sheet log budget out =
    cond (ltb (length out) 12)
    (record { returned = 15; output = out })
    (record { returned = 0; output = twelve (outcome_of oracle sheet log budget) ++ drop 12 out })

-- the promise of the call, whatever judge
abbrev pub Calls : List ℕ → List ℕ → ℕ → List ℕ → ℕ → List ℕ → Type 0
Calls sheet log budget out r after = (oracle : Oracle) → Judging sheet oracle → record { returned = r; output = after } ≡ call_of oracle sheet log budget out
