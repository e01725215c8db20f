-- `rule_player::Turn::may_come` meets its contract. Assumes nothing.
use mathlib.Core.Path.{sym, ◌∙◌}
use Rattle.rule_player.proofs.Said.{comes-on}
use Rattle.rule_player.proofs.Turn.may_come.Goals as goal

pub returns-then-goes_on : goal.returns-then-goes_on
returns-then-goes_on c =
    c.has_room.ensures ∙ comes-on c.args.self.now.ranges c.args.self.now.filling c.args.i c.requires (sym c.goes_on.ensures ∙ c.if-goes_on.true)
