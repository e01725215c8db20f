-- `Reader::between` meets its contract: the field is looked at, then its value is tested. Assumes nothing.
use Rattle.fields.proofs.Telling.{short, settled, inside}
use Rattle.fields.proofs.Reader.between.Goals as goal

pub returns-in_err-x : goal.returns-in_err-x
returns-in_err-x c = short _ _ _ c.in_err-x.ensures c.from_residual.ensures.1

pub returns : goal.returns
returns c = settled _ c.in_ok-x.ensures c.outside.ensures (λ z l. inside c.args.fault _ _ _ z) c.settle.ensures
