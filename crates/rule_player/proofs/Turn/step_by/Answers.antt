-- `rule_player::Turn::step_by` meets its contract: a remainder is below the ranges and 1. Assumes nothing.
use mathlib.Core.Path.{sym, ◌∙◌}
use Rattle.rule_player.proofs.Said.{steps-to}
use Rattle.rule_player.proofs.Turn.step_by.Goals as goal

pub returns : goal.returns
returns c = let s = c.args in c.picked.ensures ∙ sym (steps-to s.self.now.ranges s.self.now.filling s.byte c.count.result c.count.ensures)
