-- `sheet_writer::Writer::put_sheet` meets its contract. The loop's invariant: the rules below r are put. Assumes nothing.
use Rattle.sheet_writer.specs.Parts.{up_to, rule_part}
use Rattle.sheet_writer.specs.Wrote.{Wrote}
use Rattle.sheet_writer.proofs.Writer.put_sheet.Given as goal

abbrev pub invariant-loop-r : goal.invariant-loop-r
invariant-loop-r l = Wrote l.initial.self l.self (up_to (rule_part l.places) l.r)
