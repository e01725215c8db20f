-- `Reader::bound` meets its contract: the field is looked at, then its value is tested. Assumes nothing.
use Rattle.fields.proofs.Telling.{short, settled}
use Rattle.fields.proofs.Reader.bound.Goals as goal

pub returns-in_err-x : goal.returns-in_err-x
returns-in_err-x c = short _ _ _ c.in_err-x.ensures c.from_residual.ensures.1

pub returns : goal.returns
returns c = settled _ c.in_ok-x.ensures c.too_low.ensures (λ z l. l) c.settle.ensures
