-- `rule_player::Turn::needed` meets its contract. Assumes nothing.
use Rattle.rule_player.proofs.Turn.needed.Goals as goal

pub returns : goal.returns
returns c = rw (c.within.ensures, c.within-of_all.ensures, c.first_short-2.ensures, c.first_short.ensures)
