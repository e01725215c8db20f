-- `value::verdict_of` meets its contract: it has the numbers that the monitor keeps of the verdict. Assumes nothing.
use mathlib.Core.Path.{refl}
use Rattle.value.specs.Value.{numbers_of}
use Rattle.value.proofs.verdict_of.Goals as goal

pub returns : goal.returns
returns c = c.verdict_by.ensures (numbers_of c.args.m) refl refl refl
