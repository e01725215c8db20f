-- `monitor::verdict` meets its contract: it reads the numbers that the memory keeps of the verdict. Assumes nothing.
use mathlib.Core.Path.{sym}
use Rattle.words.specs.Words.{held_by}
use Rattle.monitor.proofs.verdict.Goals as goal

pub returns : goal.returns
returns c = c.verdict_by.ensures (held_by c.args.m.now) (sym c.verdict.ensures) (sym c.taken.ensures) (sym c.mask.ensures)
