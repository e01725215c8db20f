-- `sheet_writer::Writer::put_header` meets its contract: four fields, each where the last one ends. Assumes nothing.
use native.Mathlib.Omega.{arith}
use Rattle.sheet_writer.specs.Parts.{header_part}
use Rattle.sheet_writer.proofs.Putting.{wrote-then, wrote-long}
use Rattle.sheet_writer.proofs.Writer.put_header.Goals as goal

pub put_mark-requires : goal.put_mark-requires
unfolding header_part
put_mark-requires c = omega (arith, c.requires)

pub put-requires : goal.put-requires
unfolding header_part
put-requires c = let first = c.put_mark.ensures in omega (arith, c.requires, first.at, wrote-long first)

pub put-requires-2 : goal.put-requires-2
unfolding header_part
put-requires-2 c = let first = wrote-then c.put_mark.ensures c.put.ensures in omega (arith, c.requires, first.at, wrote-long first)

pub put-requires-3 : goal.put-requires-3
unfolding header_part
put-requires-3 c =
    let first = wrote-then c.put_mark.ensures (wrote-then c.put.ensures c.put-2.ensures) in
    omega (arith, c.requires, first.at, wrote-long first)

pub returns : goal.returns
unfolding header_part
returns c =
    rw (← c.version_field.ensures, ← c.outputs_field.ensures, ← c.rule_count.ensures)
    (wrote-then c.put_mark.ensures (wrote-then c.put.ensures (wrote-then c.put-2.ensures c.put-3.ensures)))
