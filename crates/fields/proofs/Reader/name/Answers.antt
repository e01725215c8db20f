-- `Reader::name` meets its contract: the field is looked at, then its value is tested. Assumes nothing.
use Rattle.std.proofs.Common.{arith}
use Rattle.layout.proofs.Values.{today-covered, name-faultless}
use Rattle.fields.proofs.Telling.{short, settled}
use Rattle.fields.proofs.Reader.name.Goals as goal

pub returns-in_err-n : goal.returns-in_err-n
returns-in_err-n c = short _ _ _ c.in_err-n.ensures c.from_residual.ensures.1

pub returns : goal.returns
returns c = settled _ c.in_ok-n.ensures c.name_fault.ensures (λ z l. (omega arith, (name-faultless today-covered c.args.outputs c.args.of_q c.args.used c.in_ok-n.n z).0)) c.settle.ensures
