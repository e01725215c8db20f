-- `Line::put_numeral` meets its contract. Before each turn the digits of what is left, and what is written, are the whole numeral (`Writing`). The measure is what is left. Assumes nothing.
use Rattle.log_line.proofs.Digits.{Writing}
use Rattle.log_line.proofs.text.Line.put_numeral.Given as goal

abbrev pub invariant-loop-rest : goal.invariant-loop-rest
invariant-loop-rest l = Writing l.initial.self l.x l.self l.rest

abbrev pub decreases-loop-rest : goal.decreases-loop-rest
decreases-loop-rest l = l.rest
