-- `recogniser::next_state` meets its contract: it is the formula of the four conditions, which is the move. Assumes nothing.
use Rattle.recogniser.specs.Numbers.{join_of, bounds, next_state}
use Rattle.recogniser.proofs.Moves.{formula-is}
use Rattle.recogniser.proofs.next_state.Goals as goal

pub returns : goal.returns
unfolding next_state
returns c =
    let a = c.args in
    rw (c.formula.ensures, c.min-2.ensures, c.min.ensures, c.is_shuffled.ensures, c.may_be_left_out.ensures, c.has_enough.ensures, c.has_room.ensures)
    (formula-is (join_of a.join) (bounds a.u a.v) a.count a.state a.class)
