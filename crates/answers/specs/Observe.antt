-- One observation of a book's monitor, over the book's table: what it makes of the monitor, and what that leaves in the monitor's memory.
-- Assumes nothing.
use Rattle.std.specs.Prelude.{◌≡◌, Bool, true, false, cond, List, ℕ, ◌+◌, ◌<◌, ◌≤◌, leb, ltb, eqb, get_or, Result, Ok, Err}
use Rattle.words.specs.Words.{Held, held_by, Fits, Holds, Blank}
use Rattle.answers.specs.declared.Observation.{Observation}
use Rattle.answers.specs.declared.Observation.TheVariants.{Event, Clock}
use Rattle.answers.specs.declared.Verdict.{Verdict}
use Rattle.answers.specs.declared.Verdict.TheVariants.{Whole, Open, Broken}
use Rattle.answers.specs.declared.Refusal.{Refusal}
use Rattle.answers.specs.declared.Refusal.TheVariants.{BadName, FallingTime, FullCount}
use Rattle.tables.specs.Cells.{mask_in}
use Rattle.rules.specs.Pass.{Pass, pass_of}
use Rattle.rules.specs.declared.Masks.{Masks}
use Rattle.answers.specs.Cases.{Answer, values_of}

-- a monitor after an observation, and the answer
pub record Observed : Type 0 where
  pub monitor : Held
  pub answer : Answer

-- the verdict of a pass over the rules, at the k-th observation taken: by whether no rule broke, and whether none is open
abbrev pub judged_by : Bool → Bool → Pass → ℕ → ℕ → Observed
judged_by true true p k time = record { monitor = record { rules = p.rules; taken = k; latest = time; verdict = 0; mask = 0; dues = p.dues }; answer = Ok Whole }
judged_by true false p k time = record { monitor = record { rules = p.rules; taken = k; latest = time; verdict = 1; mask = p.opens; dues = p.dues }; answer = Ok (Open p.opens) }
judged_by false y p k time = record { monitor = record { rules = p.rules; taken = k; latest = time; verdict = 2; mask = p.broken; dues = p.dues }; answer = Ok (Broken k p.broken) }

unfoldable pub judged_of : Pass → ℕ → ℕ → Observed
judged_of p k time = judged_by (eqb p.broken 0) (eqb p.opens 0) p k time

unfoldable pub refused_of : Held → Refusal → Observed
refused_of m why = record { monitor = m; answer = Err why }

-- an observation whose name is right: concerned is the mask of the rules that have it
unfoldable pub taken_of : List ℕ → Held → ℕ → ℕ → ℕ → Observed
taken_of table m concerned name time =
    cond (ltb time m.latest) (refused_of m FallingTime)
    (cond (leb 4294967295 m.taken) (refused_of m FullCount)
    (judged_of (pass_of table concerned m.mask m.dues m.rules name time) (m.taken + 1) time))

-- an event concerns the rules that have its name, a clock reading none
unfoldable pub looked_of : List ℕ → Held → Observation → Observed
looked_of table m (Event name time) = cond (leb 64 name) (refused_of m BadName) (taken_of table m (mask_in (get_or table name 0)) name time)
looked_of table m (Clock time) = taken_of table m 0 0 time

unfoldable pub observe_of : List ℕ → Held → Observation → Observed
observe_of table m o = cond (eqb m.verdict 2) (record { monitor = m; answer = Ok (Broken m.taken m.mask) }) (looked_of table m o)

-- ---- by the time and the count alone

-- the number of an observation that is taken; or its time is before the latest, or the count is full
abbrev pub Admits : Held → ℕ → Result ℕ Refusal → Type 0
Admits m time (Ok k) = (m.latest ≤ time) × (m.taken < 4294967295) × (k ≡ m.taken + 1)
Admits m time (Err BadName) = ⊥
Admits m time (Err FallingTime) = time < m.latest
Admits m time (Err FullCount) = (m.latest ≤ time) × (4294967295 ≤ m.taken)

-- ---- in a monitor's memory

-- the bytes hold the monitor of a pair, and the answer is its other half
pub record Gives (o : Observed) (a : Answer) (after : List ℕ) : Type 0 where
  pub holds : Holds after o.monitor
  pub answer : a ≡ o.answer

-- A refused observation leaves every byte, and so does any observation after a break; one that is taken leaves 0 in the bytes that hold nothing
pub record Leaves (table before : List ℕ) (o : Observation) (a : Answer) (after : List ℕ) : Type 0 where
  pub gives : Fits before → Gives (observe_of table (held_by before) o) a after
  pub unchanged : (values_of a).answer ≡ 3 → after ≡ before
  pub stopped : (held_by before).verdict ≡ 2 → after ≡ before
  pub blank : Fits before → ((held_by before).verdict ≡ 2 → ⊥) → ((values_of a).answer ≡ 3 → ⊥) → Blank after

-- the same of a verdict
pub record Judges (before : List ℕ) (p : Masks) (k time : ℕ) (v : Verdict) (after : List ℕ) : Type 0 where
  pub gives : {m : Held} → Holds before m → Gives (judged_of (record { rules = m.rules; broken = p.broken; opens = p.opens; dues = p.dues }) k time) (Ok v) after
  pub blank : {m : Held} → Holds before m → Blank after
