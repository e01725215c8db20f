-- `step::seen_at` meets its contract: at each return the tests are as in `seen_of`. Assumes nothing.
use mathlib.Core.Path.{◌∙◌}
use Rattle.step.specs.Steps.{seen_of}
use Rattle.step.proofs.seen_at.Goals as goal

pub returns-then-late : goal.returns-then-late
unfolding seen_of
returns-then-late c = c.ready_as.ensures ∙ rw (← c.late.ensures, c.if-late.true)

pub returns-then-is_at : goal.returns-then-is_at
unfolding seen_of
returns-then-is_at c =
    c.inside.ensures ∙ rw (← c.late.ensures, c.if-late.false, ← c.is_at.ensures, c.if-is_at.true)

pub returns : goal.returns
unfolding seen_of
returns c =
    c.outside.ensures ∙ rw (← c.late.ensures, c.if-late.false, ← c.is_at.ensures, c.if-is_at.false)
