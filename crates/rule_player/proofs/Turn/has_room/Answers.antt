-- `rule_player::Turn::has_room` meets its contract. Assumes nothing.
use Rattle.rule_player.proofs.Turn.has_room.Goals as goal

pub returns : goal.returns
returns c = rw c.most_in-most.ensures
