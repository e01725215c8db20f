-- `sheet_writer::Writer::put_rule` meets its contract. The loop's invariant: the fragments below f are put. Assumes nothing.
use Rattle.sheet_writer.specs.Parts.{up_to, fragment_part}
use Rattle.sheet_writer.specs.Wrote.{Wrote}
use Rattle.sheet_writer.proofs.Writer.put_rule.Given as goal

abbrev pub invariant-loop-f : goal.invariant-loop-f
invariant-loop-f l = Wrote l.initial.self l.self (up_to (fragment_part l.places l.r) l.f)
