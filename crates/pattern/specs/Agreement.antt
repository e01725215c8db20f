-- Demand 3, on the model: what "the monitor's answers are the judge's" says. It is proved for all well-formed rules and all lists in `proofs/Agreement`.
-- Assumes nothing.
use Rattle.std.specs.Prelude.{◌≡◌, List, [], ◌∷◌, length}
use Rattle.pattern.specs.Lists.{Each}
use Rattle.pattern.specs.Meaning.{Rule, WellFormed, Between}
use Rattle.pattern.specs.Judge.{Observation, latest, Oracle, Right, Kept, nothing, judge_answers, judge_keeps}
use Rattle.pattern.specs.Model.{RuleState, fresh, after, Monitor, fresh_monitor, answers, monitor_after}

-- the rules of a book: "rule count (1 to 16)"
pub record WellFormedRules (rules : List Rule) : Type 0 where
  pub count : Between 1 16 (length rules)
  pub each : Each WellFormed rules

-- ---- a monitor that follows the judge

-- a rule's state after a list of observations, and each rule's, from nothing on
abbrev pub state_after : Rule → RuleState → List Observation → RuleState
state_after r st [] = st
state_after r st (o ∷ os) = state_after r (after r st o) os

abbrev pub states_after : List Rule → List Observation → List RuleState
states_after [] os = []
states_after (r ∷ rs) os = state_after r (fresh r) os ∷ states_after rs os

-- the monitor's states are those after the judge's list, and its latest time, count and verdict are the judge's
pub record Follows (rules : List Rule) (k : Kept) (m : Monitor) : Type 0 where
  pub states : m.rules ≡ states_after rules k.taken
  pub time : m.latest ≡ latest k.taken
  pub taken : m.taken ≡ length k.taken
  pub verdict : m.verdict ≡ k.verdict

-- ---- the claim

-- along the whole list, from a fresh monitor and a judge that has kept nothing
pub record Agrees (rules : List Rule) (oracle : Oracle) (os : List Observation) : Type 0 where
  -- "Every answer equals the judge's to the same observation"
  pub answered : answers rules (fresh_monitor rules) os ≡ judge_answers oracle nothing os
  -- "the monitor's taken count is the length of the judge's list"
  pub taken : (monitor_after rules (fresh_monitor rules) os).taken ≡ length (judge_keeps oracle nothing os).taken
  -- "and its verdict is the judge's"
  pub verdict : (monitor_after rules (fresh_monitor rules) os).verdict ≡ (judge_keeps oracle nothing os).verdict

-- a judge exists, and with every one of them the monitor agrees
pub record Agreement (rules : List Rule) (os : List Observation) : Type 0 where
  pub judged : (oracle : Oracle) × Right rules oracle
  pub agrees : (oracle : Oracle) → Right rules oracle → Agrees rules oracle os
