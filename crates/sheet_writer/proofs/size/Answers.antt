-- `sheet_writer::size` meets its contract. The loop's invariant: the size is that of the header and the first r rules, 680 bytes each at most. Assumes nothing.
use mathlib.Core.Path.{◌≡◌, refl, ap}
use native.Mathlib.Omega.{arith}
use Rattle.sheet_writer.specs.Parts.{rule_part, rule_count}
use Rattle.sheet_writer.proofs.Lengths.{up_to-next, rules-few, rule-most, table-length}
use Rattle.sheet_writer.proofs.size.Goals as goal

pub loop-r-init : goal.loop-r-init
loop-r-init c = (rw c.rule_count-r-end.ensures (rules-few _), refl, omega arith)

pub overflow_add-size : goal.overflow_add-size
overflow_add-size c = omega (arith, rule-most c.args.places.now c.loop-r.r, c.rule_size-size.ensures)

pub loop-r-preserved : goal.loop-r-preserved
loop-r-preserved c =
    let table = c.args.places.now in
    let r = c.loop-r.r in
    (omega arith, omega (arith, up_to-next (rule_part table) r, c.rule_size-size.ensures), omega (arith, rule-most table r, c.rule_size-size.ensures))

pub returns : goal.returns
returns c =
    let table = c.args.places.now in
    let all : c.loop-r.r ≡ rule_count table = omega (arith, c.rule_count-r-end.ensures, ap rule_count c.table.ensures) in
    rw (table-length table, ← all) c.loop-r.invariant.1
