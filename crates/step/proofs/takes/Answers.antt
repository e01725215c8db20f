-- `step::takes` meets its contract: the digits that are put are the definition's. Assumes nothing.
use native.Mathlib.Omega.{arith}
use Rattle.step.specs.Steps.{taken_of}
use Rattle.step.proofs.Puts.{put-of, index_of}
use Rattle.step.proofs.takes.Goals as goal

pub returns : goal.returns
unfolding taken_of
returns c =
    rw (
      c.ended.ensures,
      c.fragment_in.ensures,
      c.stands-k.ensures,
      put-of (omega arith) c.put-full.ensures,
      c.errs-2.ensures,
      put-of (omega arith) c.put-lacking.ensures,
      c.errs.ensures,
      c.with_state-states.ensures,
      c.moved.ensures,
      c.raised-counts.ensures,
      c.saturating_sum-count.ensures,
      index_of _ c.index_in-i.ensures,
      c.index_in-i.ensures,
    )
