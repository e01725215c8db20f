-- Document 01's values for each case of an answer, and the judge's observation and verdict for each case of an observation and of a verdict.
-- Assumes nothing.
use Rattle.std.specs.Prelude.{ℕ, Result, Ok, Err}
use Rattle.pattern.specs.Judge as J
use Rattle.pattern.specs.Values.{Values, verdict_values, refused_values}
use Rattle.answers.specs.declared.Observation.{Observation}
use Rattle.answers.specs.declared.Observation.TheVariants.{Event, Clock}
use Rattle.answers.specs.declared.Verdict.{Verdict}
use Rattle.answers.specs.declared.Verdict.TheVariants.{Whole, Open, Broken}
use Rattle.answers.specs.declared.Refusal.{Refusal}
use Rattle.answers.specs.declared.Refusal.TheVariants.{BadName, FallingTime, FullCount}

abbrev pub seen : Observation → J.Observation
seen (Event name time) = J.event name time
seen (Clock time) = J.clock time

-- what an observation is answered: the verdict, or why it is refused
abbrev pub Answer : Type 0
Answer = Result Verdict Refusal

-- "for 12 (a name of 64 or more), 11 (a time before the latest) and 13 (4,294,967,295 already taken)"
abbrev pub number_of : Refusal → ℕ
number_of BadName = 12
number_of FallingTime = 11
number_of FullCount = 13

abbrev pub said : Verdict → J.Verdict
said Whole = J.all_whole
said (Open m) = J.some_open m
said (Broken k m) = J.broken_at k m

-- "answer (0 whole, 1 open, 2 broken, 3 refused); refusal number or 0; mask (u16); .. place (u32)"
abbrev pub values_of : Answer → Values
values_of (Ok v) = verdict_values (said v)
values_of (Err why) = refused_values (number_of why) 0
