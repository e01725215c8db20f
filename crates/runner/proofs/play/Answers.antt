-- `runner::play` meets its contract. After i records the monitor follows what the judge keeps, and what is left to play from there is what was to be played. Assumes nothing.
use native.Mathlib.Numerals.{add-one}
use Rattle.runner.proofs.Playing.{start, done, next}
use Rattle.runner.proofs.play.Goals as goal

pub loop-i-init : goal.loop-i-init
loop-i-init c = start c.fresh-m.ensures

pub returns-in-Some : goal.returns-in-Some
returns-in-Some c = next c.loop-i.invariant c.loop-i-test.true c.record_from-o.ensures c.in-Some.ensures

pub loop-i-preserved : goal.loop-i-preserved
loop-i-preserved c = rw add-one (next c.loop-i.invariant c.loop-i-test.true c.record_from-o.ensures c.in_default.ensures)

pub returns : goal.returns
returns c = done c.loop-i.invariant c.loop-i-test.false c.ended.ensures
