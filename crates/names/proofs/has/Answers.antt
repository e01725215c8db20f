-- `names::has` meets its contract: past 63 a 64-bit word has no digit. Assumes nothing.
use mathlib.Core.Path.{sym}
use native.Mathlib.Omega.{arith}
use Rattle.names.proofs.Sets.{member-beyond}
use Rattle.names.proofs.has.Goals as goal

pub returns-then-n-gt63 : goal.returns-then-n-gt63
returns-then-n-gt63 c = sym (member-beyond 64 c.args.set c.args.n (omega (arith, c.ranges.set)) (omega (arith, c.if-n-gt63.true)))
