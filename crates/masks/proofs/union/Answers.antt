-- `masks::union` meets its contract: the members of an `or` are those of either word. Assumes nothing.
use Rattle.names.proofs.Digits.{member-or}
use Rattle.masks.proofs.union.Goals as goal

pub returns : goal.returns
returns c = record { members = member-or c.args.a c.args.b }
