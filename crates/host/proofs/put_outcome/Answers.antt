-- `host::put_outcome` meets its contract: the five fields, each where the last one ends. Assumes nothing.
use native.Mathlib.Omega.{arith}
use Rattle.host.proofs.Twelve.{stored-twelve}
use Rattle.host.proofs.put_outcome.Goals as goal

pub returns : goal.returns
returns c =
    stored-twelve c.args.o c.args.out.now (omega (arith, c.requires)) c.put.ensures c.put-2.ensures c.put-3.ensures c.put-4.ensures c.put-5.ensures
