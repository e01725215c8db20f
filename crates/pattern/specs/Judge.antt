-- The judge (document 01, "Observing"): demand 3's second reader. It is fed the rules and the observations, and judges each rule by `Meaning`.
--
-- "Broken" speaks of all continuations, so no definition can test it. The judge therefore asks an oracle for the statuses, and an oracle is right
-- if what it says is what `Meaning` says. A right oracle exists for all well-formed rules, and all right ones say the same: `proofs/Oracle`.
-- Assumes nothing.
use Rattle.std.specs.Prelude.{Bool, true, false, cond, List, [], ◌∷◌, ◌++◌, ℕ, ◌+◌, ◌*◌, ◌≤◌, leb, ltb, eqb, length}
use Rattle.std.proofs.Math.Option.{Option, none, some}
use Rattle.pattern.specs.Lists.{is_in}
use Rattle.pattern.specs.Meaning.{Event, Rule, names_of, Status, broken, whole, open', Judged}

-- ---- observations, and what a rule sees of them

-- "an event or a clock reading (a time alone)"; the name is any number, as the host gave it
pub data Observation : Type 0 where
  event : (name time : ℕ) → Observation
  clock : (time : ℕ) → Observation

abbrev pub time_of : Observation → ℕ
time_of (event n t) = t
time_of (clock t) = t

-- "an event on a name that isn't in it is a clock reading at that time": no event of the rule's own
abbrev pub own : Rule → Observation → List Event
own r (event n t) = cond (is_in n (names_of r)) (record { name = n; time = t } ∷ []) []
own r (clock t) = []

-- "A rule's trace is the list of its own events so far"
abbrev pub trace_of : Rule → List Observation → List Event
trace_of r [] = []
trace_of r (o ∷ os) = own r o ++ trace_of r os

-- "The latest time is that of the last one taken", d if there is none
abbrev pub latest_from : ℕ → List Observation → ℕ
latest_from d [] = d
latest_from d (o ∷ os) = latest_from (time_of o) os

abbrev pub latest : List Observation → ℕ
latest os = latest_from 0 os

-- no observation is before the one before it, nor the first before t; the judge's list is always so, from 0 on
abbrev pub NeverFalls : ℕ → List Observation → Type 0
NeverFalls t [] = Unit {0}
NeverFalls t (o ∷ os) = (t ≤ time_of o) × NeverFalls (time_of o) os

-- ---- the oracle

-- the status of each rule, in order
abbrev pub EachJudged : List Rule → List Observation → List Status → Type 0
EachJudged [] os [] = Unit {0}
EachJudged [] os (s ∷ ss) = ⊥
EachJudged (r ∷ rs) os [] = ⊥
EachJudged (r ∷ rs) os (s ∷ ss) = Judged r (trace_of r os) (latest os) s × EachJudged rs os ss

abbrev pub Oracle : Type 0
Oracle = List Observation → List Status

abbrev pub Right : List Rule → Oracle → Type 0
Right rules oracle = (os : List Observation) → NeverFalls 0 os → EachJudged rules os (oracle os)

-- ---- verdicts and answers

pub data Verdict : Type 0 where
  all_whole : Verdict
  some_open : (mask : ℕ) → Verdict
  broken_at : (k mask : ℕ) → Verdict

pub data Answer : Type 0 where
  verdict : Verdict → Answer
  refused : (number : ℕ) → Answer

abbrev pub is_broken : Status → Bool
is_broken broken = true
is_broken whole = false
is_broken open' = false

abbrev pub is_open : Status → Bool
is_open broken = false
is_open whole = false
is_open open' = true

-- bit i is set if rule i's status passes the test
abbrev pub mask : (Status → Bool) → List Status → ℕ
mask t [] = 0
mask t (s ∷ ss) = cond (t s) 1 0 + 2 * mask t ss

-- "If rules are broken, the verdict is broken, k and the mask of these rules. If none is, it is open with the mask of open rules, or whole if that mask is 0."
abbrev pub verdict_of : ℕ → List Status → Verdict
verdict_of k ss =
    cond (eqb (mask is_broken ss) 0)
    (cond (eqb (mask is_open ss) 0) all_whole (some_open (mask is_open ss)))
    (broken_at k (mask is_broken ss))

-- ---- refusals

abbrev pub bad_name : Observation → Bool
bad_name (event n t) = leb 64 n
bad_name (clock t) = false

-- "in this order, for 12 (a name of 64 or more), 11 (a time before the latest) and 13 (4,294,967,295 already taken)"
abbrev pub refusal : ℕ → ℕ → Observation → Option ℕ
refusal late count o =
    cond (bad_name o) (some 12)
    (cond (ltb (time_of o) late) (some 11)
    (cond (leb 4294967295 count) (some 13) none))

-- ---- one turn, and a list of them

-- "It keeps the list of those taken, empty at first, and a verdict, whole at first"
pub record Kept : Type 0 where
  pub taken : List Observation
  pub verdict : Verdict

abbrev pub nothing : Kept
nothing = record { taken = []; verdict = all_whole }

pub record Turn : Type 0 where
  pub answer : Answer
  pub kept : Kept

module _ (oracle : Oracle) where
  -- "the observation joins the list, and k is the list's length"; "The verdict is the answer"
  abbrev pub joining : Kept → Observation → Turn
  joining k o =
      let os : List Observation = k.taken ++ (o ∷ []) in
      let v : Verdict = verdict_of (length os) (oracle os) in
      record { answer = verdict v; kept = record { taken = os; verdict = v } }

  -- "The first found is its answer, and nothing changes"
  abbrev pub unless_refused : Kept → Observation → Option ℕ → Turn
  unless_refused k o (some n) = record { answer = refused n; kept = k }
  unless_refused k o none = joining k o

  -- "If the verdict is broken, it answers that verdict again and keeps nothing"
  abbrev pub unless_broken : Kept → Observation → Verdict → Turn
  unless_broken k o (broken_at n m) = record { answer = verdict (broken_at n m); kept = k }
  unless_broken k o all_whole = unless_refused k o (refusal (latest k.taken) (length k.taken) o)
  unless_broken k o (some_open m) = unless_refused k o (refusal (latest k.taken) (length k.taken) o)

  abbrev pub judge : Kept → Observation → Turn
  judge k o = unless_broken k o k.verdict

  abbrev pub judge_answers : Kept → List Observation → List Answer
  judge_answers k [] = []
  judge_answers k (o ∷ os) = (judge k o).answer ∷ judge_answers (judge k o).kept os

  abbrev pub judge_keeps : Kept → List Observation → Kept
  judge_keeps k [] = k
  judge_keeps k (o ∷ os) = judge_keeps (judge k o).kept os
