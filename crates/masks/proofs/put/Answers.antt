-- `masks::put` meets its contract: the set without range i, and with it again if it is to be in. Assumes nothing.
use native.Mathlib.Omega.{arith}
use Prim.Native.Nat.{◌%◌}
use Rattle.masks.proofs.Ranges.{put-members}
use Rattle.masks.proofs.put.Goals as goal

pub returns : goal.returns
returns c = rw c.from.ensures (record { members = put-members c.args.set (c.args.i % 8) c.args.on (omega arith) (omega arith) })
