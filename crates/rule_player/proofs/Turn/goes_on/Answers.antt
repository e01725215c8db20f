-- `rule_player::Turn::goes_on` meets its contract. Assumes nothing.
use Rattle.rule_player.proofs.Turn.goes_on.Goals as goal

pub returns : goal.returns
returns c = rw (c.is_shuffled.ensures, c.join_in-join.ensures, c.eq.ensures)
