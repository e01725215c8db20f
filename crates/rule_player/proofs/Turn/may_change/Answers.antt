-- `rule_player::Turn::may_change` meets its contract. Assumes nothing.
use mathlib.Core.Path.{◌∙◌}
use Rattle.rule_player.proofs.Said.{enough-last}
use Rattle.rule_player.proofs.Turn.may_change.Goals as goal

pub returns-in-Some : goal.returns-in-Some
returns-in-Some c =
    let s = c.args.self.now in
    c.has_enough.ensures ∙ enough-last s.ranges s.filling c.in-Some.l (rw c.in-Some.is at s.inside) c.in-Some.is
