-- A round of a rule (document 02, change 5: "one round of that rule .. all at that time"), by the meaning alone.
-- Assumes nothing.
use Rattle.std.specs.Prelude.{◌≡◌, false, List, map, ℕ}
use Rattle.names.specs.Names.{member}
use Rattle.pattern.specs.Meaning.{Event, Kind, once, repeated, timed, Rule, TriggeredRound, TimedRound}
use Rattle.pattern.specs.Judge.{Observation, event, Verdict, all_whole, some_open, broken_at}

-- P and one trigger, or P and Q in time. "For kind 0 a round ends with the first trigger"
abbrev pub RoundBy : Rule → Kind → List Event → Type 0
RoundBy r (once i) w = TriggeredRound r.p i w
RoundBy r (repeated i) w = TriggeredRound r.p i w
RoundBy r (timed q t) w = TimedRound r.p q t w

abbrev pub Round : Rule → List Event → Type 0
Round r w = RoundBy r r.kind w

-- "all at that time"
abbrev pub events_at : ℕ → List ℕ → List Event
events_at time = map (λ (n : ℕ). record { name = n; time = time })

-- ---- what a monitor says of it

-- the same events, as the judge is given them
abbrev pub fed : ℕ → List ℕ → List Observation
fed time = map (λ (n : ℕ). event n time)

-- the verdict has nothing to say of rule r: if no other rule is broken, it is whole; else another has stopped the book
abbrev pub Spares : ℕ → Verdict → Type 0
Spares r all_whole = Unit {0}
Spares r (some_open m) = member m r ≡ false
Spares r (broken_at k m) = member m r ≡ false
