-- `rule_player::Turn::first_short` meets its contract. The loop's invariant: the search goes on from range i. Assumes nothing.
use native.Mathlib.Numerals.{add-one}
use native.Mathlib.Omega.{arith}
use Rattle.rule_player.proofs.Said.{searching-start, searching-found, searching-more}
use Rattle.rule_player.proofs.Turn.first_short.Goals as goal

pub loop-i-init : goal.loop-i-init
loop-i-init c = let s = c.args in searching-start s.self.now.ranges s.self.now.filling s.every

pub returns-then-has_enough-every : goal.returns-then-has_enough-every
returns-then-has_enough-every c =
    let s = c.args in
    searching-found s.self.now.ranges s.self.now.filling s.every c.loop-i.i (omega (arith, c.count-n.ensures)) c.loop-i.invariant (rw (← c.has_enough.ensures) c.if-has_enough-every.true)

pub loop-i-preserved : goal.loop-i-preserved
loop-i-preserved c =
    let s = c.args in
    rw add-one (searching-more s.self.now.ranges s.self.now.filling s.every c.loop-i.i (omega (arith, c.count-n.ensures)) c.loop-i.invariant (rw (← c.has_enough.ensures) c.if-has_enough-every.false))
