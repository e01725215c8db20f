-- `masks::without` meets its contract: the members of a complement of 16 digits are the other rules, and an `and` keeps those of both words. Assumes nothing.
use native.Mathlib.Omega.{arith}
use Rattle.masks.proofs.Words.{member-without}
use Rattle.masks.proofs.without.Goals as goal

pub returns : goal.returns
returns c = record { members = λ k. member-without 16 c.args.a c.args.b k (omega arith) (omega arith) }
