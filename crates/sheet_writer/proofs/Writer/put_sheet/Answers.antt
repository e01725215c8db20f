-- `sheet_writer::Writer::put_sheet` meets its contract. The loop's invariant: the rules below r are put. Assumes nothing.
use mathlib.Core.Path.{◌≡◌, ap}
use native.Mathlib.Omega.{arith}
use Rattle.sheet_writer.specs.Parts.{rule_part, rule_count, header_part, table_bytes}
use Rattle.sheet_writer.proofs.Lengths.{rules-few, header-length, table-length}
use Rattle.sheet_writer.proofs.Putting.{wrote-is, wrote-then, wrote-long, wrote-part, room-part}
use Rattle.sheet_writer.proofs.Writer.put_sheet.Goals as goal

pub put_header-requires : goal.put_header-requires
put_header-requires c = omega (arith, c.requires, table-length c.args.places.now, header-length c.table-table.result.now)

pub put_rule-requires : goal.put_rule-requires
put_rule-requires c =
    let table = c.args.places.now in
    let count : c.rule_count-r-end.result ≡ rule_count table = rw c.rule_count-r-end.ensures (ap rule_count c.table-table.ensures) in
    let first = c.put_header.ensures in
    let room = room-part (rule_part table) c.loop-r.r c.loop-r.invariant (rule_count table) (omega arith)
    (omega (arith, c.requires, table-length table, header-length c.table-table.result.now, first.at, wrote-long first)) in
    (omega (arith, rules-few table), room)

pub loop-r-preserved : goal.loop-r-preserved
loop-r-preserved c = wrote-part (rule_part c.args.places.now) c.loop-r.r c.loop-r.invariant c.put_rule.ensures

pub returns : goal.returns
unfolding table_bytes
returns c =
    let table = c.args.places.now in
    let count : c.rule_count-r-end.result ≡ rule_count table = rw c.rule_count-r-end.ensures (ap rule_count c.table-table.ensures) in
    let all : c.loop-r.r ≡ rule_count table = omega arith in
    wrote-then (wrote-is (ap header_part c.table-table.ensures) c.put_header.ensures) (rw all at c.loop-r.invariant)
