-- `rules::all_stepped` meets its contract. The loop's invariant is `Stepping`: the rules seen have their new states, and the masks speak of those. The rest is as in `all_waited`.
-- Assumes nothing.
use Rattle.words.specs.Words.{Held, Holds}
use Rattle.rules.proofs.Passing.{Stepping}
use Rattle.rules.proofs.all_stepped.Given as goal

abbrev pub invariant-loop-r : goal.invariant-loop-r
invariant-loop-r l = (was : Held) → Holds l.initial.m was → Stepping l.table l.noted l.who l.name l.time was l.m l.r-iterator.0 l.all
