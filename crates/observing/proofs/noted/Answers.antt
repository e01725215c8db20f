-- `observing::noted` meets its contract: a stopped book answers as before; a name of 64 or more is refused; and any other event is taken, or refused by its time or by the count.
-- Assumes nothing.
use native.Mathlib.Omega.{arith}
use Rattle.std.proofs.lemmas.Result.{err_from_is_err_and}
use Rattle.answers.proofs.Leaving.{takes-refused, takes-judged, leaves-stopped, leaves-unnamed, leaves-named}
use Rattle.observing.proofs.noted.Goals as goal

pub returns-in-Some : goal.returns-in-Some
returns-in-Some c = rw c.in-Some.ensures.1 (leaves-stopped c.in-Some.ensures.0)

pub returns-then-name-ge64 : goal.returns-then-name-ge64
returns-then-name-ge64 c = leaves-unnamed c.in_default.ensures c.if-name-ge64.true

pub returns-in_err-k : goal.returns-in_err-k
returns-in_err-k c =
    let p = err_from_is_err_and c.from_residual.result c.from_residual.ensures.1 in
    rw (p.1, p.2) (leaves-named c.in_default.ensures (omega (arith, c.if-name-ge64.false)) c.mask_in-concerned.ensures (takes-refused _ c.in_err-k.ensures))

pub returns : goal.returns
returns c =
    leaves-named c.in_default.ensures (omega (arith, c.if-name-ge64.false)) c.mask_in-concerned.ensures
    (takes-judged c.in_ok-k.ensures c.mask-opens.ensures c.dues-dues.ensures c.looked-p.ensures c.judged.ensures)
