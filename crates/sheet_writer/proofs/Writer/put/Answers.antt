-- `sheet_writer::Writer::put` meets its contract. Assumes nothing.
use mathlib.Core.Path.{refl}
use native.Mathlib.Omega.{arith}
use Rattle.sheet_writer.proofs.Putting.{le-long}
use Rattle.sheet_writer.proofs.Writer.put.Goals as goal

pub put-requires : goal.put-requires
put-requires c = let s = c.args in omega (arith, c.requires, le-long s.n s.x)

pub overflow_add-self : goal.overflow_add-self
overflow_add-self c = let s = c.args in omega (arith, c.requires, le-long s.n s.x)

pub returns : goal.returns
returns c = let s = c.args in record { same_buffer = refl; at = omega (arith, le-long s.n s.x); buffer = c.put.ensures }
