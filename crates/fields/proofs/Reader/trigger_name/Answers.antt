-- `Reader::trigger_name` meets its contract: the field is looked at, then its value is tested. Assumes nothing.
use Rattle.std.proofs.Common.{arith}
use Rattle.layout.proofs.Values.{trigger-faultless}
use Rattle.fields.proofs.Telling.{short, settled}
use Rattle.fields.proofs.Reader.trigger_name.Goals as goal

pub returns-in_err-i : goal.returns-in_err-i
returns-in_err-i c = short _ _ _ c.in_err-i.ensures c.from_residual.ensures.1

pub returns : goal.returns
returns c = settled _ c.in_ok-i.ensures c.trigger_fault.ensures (λ z l. (omega arith, (trigger-faultless c.args.outputs c.in_ok-i.i z).0)) c.settle.ensures
