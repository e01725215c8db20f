-- `step::closed` meets its contract: the digit that is put is the definition's. Assumes nothing.
use native.Mathlib.Nat.{mod-mod}
use native.Mathlib.Omega.{arith}
use Rattle.step.specs.Steps.{closed_of}
use Rattle.step.proofs.Puts.{put-of}
use Rattle.step.proofs.closed.Goals as goal

pub returns : goal.returns
unfolding closed_of
returns c =
    rw (put-of (omega arith) c.put.ensures, c.next_state-errs.ensures, c.with_state.ensures, c.next_state-done.ensures, mod-mod)
