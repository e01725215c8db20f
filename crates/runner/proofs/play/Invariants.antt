-- `runner::play` meets its contract. After i records the monitor follows what the judge keeps, and what is left to play from there is what was to be played. Assumes nothing.
use Rattle.runner.proofs.Playing.{Playing}
use Rattle.runner.proofs.play.Given as goal

abbrev pub invariant-loop-i : goal.invariant-loop-i
invariant-loop-i l = Playing l.table l.log l.n l.m l.i
