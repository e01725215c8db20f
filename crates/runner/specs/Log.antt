-- Running a log (document 01, "Running a log"), in terms of the judge: records are observed one after the other until a refusal, a break, the budget or the log's end.
-- Assumes nothing.
use Rattle.std.specs.Prelude.{Bool, true, false, cond, ◌||◌, not, List, [], ◌∷◌, ℕ, zero, suc, ◌*◌, ◌/◌, ◌%◌, min, ltb, eqb, length}
use Rattle.pattern.specs.Judge.{Observation, Oracle, Verdict, all_whole, some_open, broken_at, Answer, verdict, refused, Kept, nothing, Turn, judge}
use Rattle.pattern.specs.Values.{Values, verdict_values, refused_values}
use Rattle.records.specs.Records.{record_at}
use Rattle.runner.specs.declared.Outcome.{Outcome}

-- ---- records

-- n records, from record i on
abbrev pub records_from : List ℕ → ℕ → ℕ → List Observation
records_from log i zero = []
records_from log i (suc n) = record_at log i ∷ records_from log (suc i) n

-- "14 length no multiple of 5, or above 4,294,967,295 bytes"
abbrev pub bad_length : List ℕ → Bool
bad_length log = not (eqb (length log % 5) 0) || ltb 4294967295 (length log)

-- ---- the five numbers: answer (0 whole, 1 open, 2 broken, 3 refused), refusal or 0, mask, taken, place

-- an answer's values, and the taken count
abbrev pub numbers : Values → ℕ → Outcome
numbers v n = record { answer = v.answer; refusal = v.refusal; mask = v.mask; taken = n; place = v.place }

-- what a verdict says, once nothing more is looked at
abbrev pub ended : Verdict → ℕ → Outcome
ended v n = numbers (verdict_values v) n

-- the mask of the rules that are open: "Mask is 0 for whole"
abbrev pub open_mask : Verdict → ℕ
open_mask all_whole = 0
open_mask (some_open m) = m
open_mask (broken_at k m) = 0

-- a record's refusal: "after a record's refusal it is the open mask just before"; its place is "of the refused record in the log"
abbrev pub refused_at : ℕ → Verdict → ℕ → ℕ → Outcome
refused_at number before n at =
    let v : Values = refused_values number at in
    record { answer = v.answer; refusal = v.refusal; mask = open_mask before; taken = n; place = v.place }

-- a sheet's or a log's refusal: "nothing is taken"
abbrev pub turned_away : ℕ → ℕ → Outcome
turned_away number place = numbers (refused_values number place) 0

-- ---- what stops a run

-- "Only a refusal or a break stops it before the budget or the log is used up"
abbrev pub stops : Answer → Bool
stops (verdict all_whole) = false
stops (verdict (some_open m)) = false
stops (verdict (broken_at k m)) = true
stops (refused number) = true

abbrev pub is_refusal : Answer → Bool
is_refusal (verdict v) = false
is_refusal (refused number) = true

-- what a run says that stops at the record at an offset; `before` is what the judge kept before it, `after` what it keeps then
abbrev pub stopped_by : Answer → Kept → Kept → ℕ → Outcome
stopped_by (verdict v) before after at = ended v (length after.taken)
stopped_by (refused number) before after at = refused_at number before.verdict (length before.taken) at

-- ---- a run

module _ (oracle : Oracle) (log : List ℕ) where
  -- the judge's turn at record i
  abbrev pub turn_at : Kept → ℕ → Turn
  turn_at k i = judge oracle k (record_at log i)

  -- at most n records more, from record i on, by a judge that keeps k
  unfoldable pub play : Kept → ℕ → ℕ → Outcome
  play k i zero = ended k.verdict (length k.taken)
  play k i (suc n) = cond (stops (turn_at k i).answer) (stopped_by (turn_at k i).answer k (turn_at k i).kept (5 * i)) (play (turn_at k i).kept (suc i) n)

  -- how many of them are looked at: "It looks at no record after such a stop or after the budget"
  unfoldable pub looked_from : Kept → ℕ → ℕ → ℕ
  looked_from k i zero = 0
  looked_from k i (suc n) = suc (cond (stops (turn_at k i).answer) 0 (looked_from (turn_at k i).kept (suc i) n))

  -- how many of them are consumed: those that were looked at, but for one that was refused
  unfoldable pub consumed_from : Kept → ℕ → ℕ → ℕ
  consumed_from k i zero = 0
  consumed_from k i (suc n) = cond (is_refusal (turn_at k i).answer) 0 (suc (cond (stops (turn_at k i).answer) 0 (consumed_from (turn_at k i).kept (suc i) n)))

-- "takes at most a given budget of records"
abbrev pub at_most : List ℕ → ℕ → ℕ
at_most log budget = min budget (length log / 5)

-- "A run starts fresh"; 14 is found "before any record"
unfoldable pub run_of : Oracle → List ℕ → ℕ → Outcome
run_of oracle log budget = cond (bad_length log) (turned_away 14 0) (play oracle log nothing 0 (at_most log budget))

abbrev pub looked_at : Oracle → List ℕ → ℕ → ℕ
looked_at oracle log budget = cond (bad_length log) 0 (looked_from oracle log nothing 0 (at_most log budget))

abbrev pub consumed : Oracle → List ℕ → ℕ → ℕ
consumed oracle log budget = cond (bad_length log) 0 (consumed_from oracle log nothing 0 (at_most log budget))
