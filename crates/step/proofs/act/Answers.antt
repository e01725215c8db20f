-- `step::act` meets its contract: at each return the tests are as in `act_of`, and each arm of the match is the case of what is seen. Assumes nothing.
use mathlib.Core.Path.{◌∙◌}
use borrow.Author.Tests.{eq-eqb, ne_eqb}
use Rattle.step.specs.Steps.{act_of}
use Rattle.step.proofs.act.Goals as goal

pub returns-then-states-eq-IDLE : goal.returns-then-states-eq-IDLE
unfolding act_of
returns-then-states-eq-IDLE c = rw (eq-eqb _ _ c.if-states-eq-IDLE.true)

pub returns-in-Error : goal.returns-in-Error
unfolding act_of
returns-in-Error c =
    c.broken.ensures
    ∙ rw (
      ne_eqb _ _ c.if-states-eq-IDLE.false,
      ← c.cell_at-cell.ensures,
      ← c.time-limit.ensures,
      ← c.seen_at-x.ensures,
      c.in-Error.is,
    )

pub returns-in-Releases : goal.returns-in-Releases
unfolding act_of
returns-in-Releases c =
    c.freed.ensures
    ∙ rw (
      ne_eqb _ _ c.if-states-eq-IDLE.false,
      ← c.cell_at-cell.ensures,
      ← c.time-limit.ensures,
      ← c.seen_at-x.ensures,
      c.in-Releases.is,
    )

pub returns-in-Taken : goal.returns-in-Taken
unfolding act_of
returns-in-Taken c =
    c.takes.ensures
    ∙ rw (
      ne_eqb _ _ c.if-states-eq-IDLE.false,
      ← c.cell_at-cell.ensures,
      ← c.time-limit.ensures,
      ← c.seen_at-x.ensures,
      c.in-Taken.is,
    )
