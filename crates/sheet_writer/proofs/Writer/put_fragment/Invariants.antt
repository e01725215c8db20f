-- `sheet_writer::Writer::put_fragment` meets its contract. The loop's invariant: the ranges below i are put. Assumes nothing.
use Rattle.sheet_writer.specs.Parts.{up_to, range_part}
use Rattle.sheet_writer.specs.Wrote.{Wrote}
use Rattle.sheet_writer.proofs.Writer.put_fragment.Given as goal

abbrev pub invariant-loop-i : goal.invariant-loop-i
invariant-loop-i l = Wrote l.initial.self l.self (up_to (range_part l.places l.r l.f) l.i)
