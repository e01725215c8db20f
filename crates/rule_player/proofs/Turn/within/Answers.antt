-- `rule_player::Turn::within` meets its contract. Assumes nothing.
use native.Mathlib.Omega.{arith}
use borrow.Author.Tests.{lt-ltb, le-ltb}
use Rattle.rule_player.specs.Said.{size_by}
use Rattle.rule_player.proofs.Said.{size_is}
use Rattle.rule_player.proofs.Turn.within.Goals as goal

pub returns-then-i-count : goal.returns-then-i-count
returns-then-i-count c = rw (size_is c.args.self.now.ranges, lt-ltb c.args.i (size_by c.args.self.now.ranges) (omega (arith, c.if-i-count.true, c.count.ensures)))

pub returns : goal.returns
returns c = rw (size_is c.args.self.now.ranges, le-ltb c.args.i (size_by c.args.self.now.ranges) (omega (arith, c.if-i-count.false, c.count.ensures)))
