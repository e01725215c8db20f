-- What the runner's calls promise: `Runs` is the run's own promise, and the others are its parts, but for `EveryRun`, which follows from it (`every-run`).
-- Assumes nothing.
use Rattle.std.specs.Prelude.{◌≡◌, true, false, List, ℕ, zero, suc, ◌*◌, ◌≤◌, ◌<◌, Option, Some, None, Ok, Err}
use Rattle.std.proofs.Math.Option.{none, some}
use Rattle.pattern.specs.Judge.{Oracle, Right, Verdict, all_whole, some_open, broken_at, time_of, refusal, nothing}
use Rattle.layout.specs.Layout.{Sheet, WellFormedSheet}
use Rattle.book.specs.Looks.{Looks}
use Rattle.book.specs.declared.Book.{Book}
use Rattle.words.specs.Words.{Held, held_by}
use Rattle.answers.specs.declared.Observation.{Observation}
use Rattle.answers.specs.Cases.{number_of}
use Rattle.answers.specs.declared.Verdict.TheVariants.{Whole, Open, Broken}
use Rattle.monitor.specs.Promise.{Answer, verdict_in, in_memory, Observes}
use Rattle.records.specs.Records.{record_at}
use Rattle.runner.specs.Log.{bad_length, ended, refused_at, turned_away, play, at_most, run_of}
use Rattle.runner.specs.declared.Outcome.{Outcome}

-- ---- the promise of a run

-- the time of the record before record i; 0 if there is none
abbrev pub time_before : List ℕ → ℕ → ℕ
time_before log zero = 0
time_before log (suc i) = time_of (record_at log i)

-- no record before record i is refused, by the names and times of the log alone
abbrev pub Accepted : List ℕ → ℕ → Type 0
Accepted log i = (j : ℕ) → j < i → refusal (time_before log j) j (record_at log j) ≡ none

-- how a run of n records ends: whole or open, and all are taken; or record i breaks a rule, and is the last one taken; or it is refused, by the names and times of the log alone
pub data Ends (log : List ℕ) (n : ℕ) (r : Outcome) : Type 0 where
  stays-whole : r ≡ ended all_whole n → Ends log n r
  stays_open : (mask : ℕ) → r ≡ ended (some_open mask) n → Ends log n r
  breaks : (i mask : ℕ) → i < n → r ≡ ended (broken_at (suc i) mask) (suc i) → Ends log n r
  refuses : (i number : ℕ) (before : Verdict) → i < n → refusal (time_before log i) i (record_at log i) ≡ some number → r ≡ refused_at number before i (5 * i) → Ends log n r

-- n records under whatever table: where none is to be refused, the table has the say of how the run ends, and of the masks
pub record Played (log : List ℕ) (n : ℕ) (r : Outcome) : Type 0 where
  pub accepted : Accepted log r.taken
  pub ends : Ends log n r

pub record Runs (table log : List ℕ) (budget : ℕ) (r : Outcome) : Type 0 where
  -- for every table: 14 exactly where the log is no list of records; else its records are played, up to the budget
  pub uneven : bad_length log ≡ true → r ≡ turned_away 14 0
  pub even : bad_length log ≡ false → Played log (at_most log budget) r
  -- for the table of a well-formed sheet's book: the judge's run, whatever judge
  pub judged : (S : Sheet) (b : Book) → WellFormedSheet S → Looks S b → b.table ≡ table → (oracle : Oracle) → Right S.rules oracle → r ≡ run_of oracle log budget

-- the same of the records alone, n of them
pub record Plays (table log : List ℕ) (n : ℕ) (r : Outcome) : Type 0 where
  pub played : Played log n r
  pub judged : (S : Sheet) (b : Book) → WellFormedSheet S → Looks S b → b.table ≡ table → (oracle : Oracle) → Right S.rules oracle → r ≡ play oracle log nothing 0 n

-- what a run says under whatever table, by the two parts of `Runs` that are for every table: 14 for no list of records alone; "In a log 13 can't arise"; "takes at most a given budget of records";
-- "Place is k for broken, the offset named below for refused, else 0", where k is the number taken, and the refused record is the one after those taken
pub record EveryRun (log : List ℕ) (budget : ℕ) (r : Outcome) : Type 0 where
  pub fourteen : r.refusal ≡ 14 → bad_length log ≡ true
  pub thirteen : r.refusal ≡ 13 → ⊥
  pub taken : r.taken ≤ budget
  pub answer : r.answer < 4
  pub place-open : r.answer < 2 → r.place ≡ 0
  pub place-broken : r.answer ≡ 2 → r.place ≡ r.taken
  pub place-refused : r.answer ≡ 3 → r.place ≡ 5 * r.taken

-- ---- one record

-- what a run says that stops with an answer to the record at an offset, which has left this monitor; none where it goes on: "Only a refusal or a break stops" a run
abbrev pub stopped_at : Answer → Held → ℕ → Option Outcome
stopped_at (Ok Whole) m at = None
stopped_at (Ok (Open mask)) m at = None
stopped_at (Ok (Broken k mask)) m at = Some (ended (broken_at k mask) m.taken)
stopped_at (Err why) m at = Some (refused_at (number_of why) (verdict_in m) m.taken at)

-- the record is observed; what the run says, if it stops there
pub record Turns (table before : List ℕ) (o : Observation) (at : ℕ) (t : Option Outcome) (after : List ℕ) : Type 0 where
  pub answer : Answer
  pub observes : Observes in_memory table before o answer after
  pub says : t ≡ stopped_at answer (held_by after) at

-- what a monitor says, once nothing more is looked at
abbrev pub ended_in : List ℕ → Outcome
ended_in m = ended (verdict_in (held_by m)) (held_by m).taken
