-- `step::outside` meets its contract: at each return the tests are as in `outside_of`. Assumes nothing.
use mathlib.Core.Path.{◌∙◌}
use Rattle.step.specs.Steps.{outside_of}
use Rattle.step.proofs.outside.Goals as goal

pub returns-then-not-follows : goal.returns-then-not-follows
unfolding outside_of
returns-then-not-follows c = c.ready_as.ensures ∙ rw (← c.follows.ensures, c.if-not-follows.true)

pub returns-then-frees : goal.returns-then-frees
unfolding outside_of
returns-then-frees c =
    c.ready_as-then-frees.ensures ∙ rw (← c.follows.ensures, c.if-not-follows.false, ← c.frees.ensures, c.if-frees.true)

pub returns : goal.returns
unfolding outside_of
returns c =
    c.ready_as-2.ensures
    ∙ rw (c.opened.ensures, ← c.follows.ensures, c.if-not-follows.false, ← c.frees.ensures, c.if-frees.false)
