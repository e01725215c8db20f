-- `host::guard4_run` keeps its promise: the output first, then the five numbers. Assumes nothing.
use Rattle.host.proofs.Outcomes.{too_short, written}
use Rattle.host.proofs.guard4_run.Goals as goal

pub returns-then-out-lt12 : goal.returns-then-out-lt12
returns-then-out-lt12 c =
    let s = c.args in
    too_short s.sheet.now s.log.now s.budget s.out.now c.if-out-lt12.true

pub returns : goal.returns
returns c =
    let s = c.args in
    written s.sheet.now s.log.now s.budget s.out.now _ c.if-out-lt12.false c.outcome.ensures c.put_outcome.ensures
