-- `rule_player::Turn::first_short` meets its contract. The loop's invariant: the search goes on from range i. Assumes nothing.
use Rattle.rule_player.proofs.Said.{Searching}
use Rattle.rule_player.proofs.Turn.first_short.Given as goal

abbrev pub invariant-loop-i : goal.invariant-loop-i
invariant-loop-i l = Searching l.self.ranges l.self.filling l.every l.i
