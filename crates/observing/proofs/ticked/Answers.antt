-- `observing::ticked` meets its contract: a stopped book answers as before; any other clock reading is taken, or refused by its time or by the count. Assumes nothing.
use Rattle.std.proofs.lemmas.Result.{err_from_is_err_and}
use Rattle.answers.proofs.Leaving.{takes-refused, takes-judged, leaves-stopped, leaves-clock}
use Rattle.observing.proofs.ticked.Goals as goal

pub returns-in-Some : goal.returns-in-Some
returns-in-Some c = rw c.in-Some.ensures.1 (leaves-stopped c.in-Some.ensures.0)

pub returns-in_err-k : goal.returns-in_err-k
returns-in_err-k c =
    let p = err_from_is_err_and c.from_residual.result c.from_residual.ensures.1 in
    rw (p.1, p.2) (leaves-clock c.in_default.ensures (takes-refused _ c.in_err-k.ensures))

pub returns : goal.returns
returns c = leaves-clock c.in_default.ensures (takes-judged c.in_ok-k.ensures c.mask-opens.ensures c.dues-dues.ensures (c.held-p.ensures 0) c.judged.ensures)
