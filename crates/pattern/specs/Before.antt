-- What a rule meant before document 02's changes 1 and 2, in the words of that time, and who judged by it: a fragment was joined all or any, and every range had an upper end. "Version 1 sheets read as
-- before": that such rules have kept this meaning, and with it every verdict, is proved in `proofs/Plain`. What does not speak of a fragment's match is `Meaning`'s, and so is every name.
-- Assumes nothing.
use Rattle.std.specs.Prelude.{◌≡◌, ◌⊎◌, ◌≢◌, List, [], ◌∷◌, ◌++◌, ℕ, ◌≤◌, replicate}
use Rattle.pattern.specs.Lists.{In, Distinct, Each}
use Rattle.pattern.specs.Meaning.{Event, names, Range, Join, all, any, all_shuffled, any_shuffled, Fragment, Kind, once, repeated, timed, Rule, On, InTime, Rounds, Continuation, Status, broken, whole, open'}
use Rattle.pattern.specs.Judge.{Observation, trace_of, latest, NeverFalls, Oracle}
use Rattle.pattern.specs.Agreement.{Agrees}

-- ---- the rules of that time

-- "1 ≤ u ≤ v": v was not 0
abbrev pub Bounded : Range → Type 0
Bounded r = 1 ≤ r.v

-- "join (0 all, 1 any)"
pub record PlainFragment (f : Fragment) : Type 0 where
  pub join : (f.join ≡ all) ⊎ (f.join ≡ any)
  pub ranges : Each Bounded f.ranges

abbrev pub PlainKind : Kind → Type 0
PlainKind (once i) = Unit {0}
PlainKind (repeated i) = Unit {0}
PlainKind (timed q t) = Each PlainFragment q

pub record PlainRule (r : Rule) : Type 0 where
  pub p : Each PlainFragment r.p
  pub kind : PlainKind r.kind

-- ---- their meaning

-- "n occurs k times in a row, u ≤ k ≤ v": a block of the range
abbrev pub Block : Range → List ℕ → Type 0
Block r w = (k : ℕ) × (r.u ≤ k) × (k ≤ r.v) × (w ≡ replicate k r.name)

-- one block of each range of the list, concatenated in the list's order
abbrev pub Blocks : List Range → List ℕ → Type 0
Blocks [] w = w ≡ []
Blocks (r ∷ rs) w = (a : List ℕ) × (b : List ℕ) × (w ≡ a ++ b) × Block r a × Blocks rs b

-- which choices of its ranges a fragment allows: joined all, every range; joined any, some non-empty subset. The other joins were not there
abbrev pub Chosen : Join → List Range → List Range → Type 0
Chosen all ranges choice = (r : Range) → In r ranges → In r choice
Chosen any ranges choice = choice ≢ []
Chosen all_shuffled ranges choice = ⊥
Chosen any_shuffled ranges choice = ⊥

-- "one block of each range, concatenated in any order", "the same over some non-empty subset of the ranges"
pub record MatchesFragment (f : Fragment) (w : List ℕ) : Type 0 where
  pub choice : List Range
  pub once : Distinct choice
  pub within : (r : Range) → In r choice → In r f.ranges
  pub chosen : Chosen f.join f.ranges choice
  pub blocks : Blocks choice w

-- the fragments in the order given
abbrev pub MatchesOrdering : List Fragment → List Event → Type 0
MatchesOrdering [] w = w ≡ []
MatchesOrdering (f ∷ fs) w = (a : List Event) × (b : List Event) × (w ≡ a ++ b) × MatchesFragment f (names a) × MatchesOrdering fs b

-- "a P and then one i"
pub record TriggeredRound (p : List Fragment) (i : ℕ) (w : List Event) : Type 0 where
  pub first : List Event
  pub trigger : Event
  pub parts : w ≡ first ++ (trigger ∷ [])
  pub ordered : MatchesOrdering p first
  pub named : trigger.name ≡ i

-- "a P and then a Q", in time
pub record TimedRound (p q : List Fragment) (t : ℕ) (w : List Event) : Type 0 where
  pub first : List Event
  pub second : List Event
  pub parts : w ≡ first ++ second
  pub ordered : MatchesOrdering p first
  pub answered : MatchesOrdering q second
  pub in_time : InTime t first second

-- "P, then i, then any events on the rule's names"
pub record Released (r : Rule) (i : ℕ) (w : List Event) : Type 0 where
  pub round : List Event
  pub after : List Event
  pub parts : w ≡ round ++ after
  pub triggered : TriggeredRound r.p i round
  pub on : On r after

abbrev pub MatchesKind : Rule → Kind → List Event → Type 0
MatchesKind r (once i) w = (w ≡ []) ⊎ Released r i w
MatchesKind r (repeated i) w = (n : ℕ) × Rounds (TriggeredRound r.p i) n w
MatchesKind r (timed q t) w = (n : ℕ) × Rounds (TimedRound r.p q t) n w

abbrev pub Matches : Rule → List Event → Type 0
Matches r w = MatchesKind r r.kind w

module _ (r : Rule) (trace : List Event) (latest : ℕ) where
  -- "no continuation makes a match"
  abbrev pub Broken : Type 0
  Broken = (w : List Event) → Continuation r latest w → ¬ Matches r (trace ++ w)

  -- the status of a rule whose own events so far are the trace, where the latest observation was at this time
  abbrev pub Judged : Status → Type 0
  Judged broken = Broken
  Judged whole = Matches r trace
  Judged open' = (¬ Broken) × ¬ Matches r trace

-- ---- the oracle that the judge asked; the judge asks nothing else of the meaning

-- the status of each rule, in order
abbrev pub EachJudged : List Rule → List Observation → List Status → Type 0
EachJudged [] os [] = Unit {0}
EachJudged [] os (s ∷ ss) = ⊥
EachJudged (r ∷ rs) os [] = ⊥
EachJudged (r ∷ rs) os (s ∷ ss) = Judged r (trace_of r os) (latest os) s × EachJudged rs os ss

abbrev pub Right : List Rule → Oracle → Type 0
Right rules oracle = (os : List Observation) → NeverFalls 0 os → EachJudged rules os (oracle os)

-- ---- demand 3 by this meaning

-- a judge exists, and with every one of them the monitor agrees
pub record Agreement (rules : List Rule) (os : List Observation) : Type 0 where
  pub judged : (oracle : Oracle) × Right rules oracle
  pub agrees : (oracle : Oracle) → Right rules oracle → Agrees rules oracle os
