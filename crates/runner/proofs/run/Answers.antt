-- `runner::run` keeps its promise: 14 for a log that is no list of records, and else its records are played. Assumes nothing.
use mathlib.Core.Path.{sym, ◌∙◌, ap}
use Prim.Native.Nat.{ℕ, ◌%◌}
use native.Mathlib.Omega.{arith}
use Rattle.runner.proofs.Running.{uneven, long, good, runs-turned, runs-played}
use Rattle.runner.proofs.run.Goals as goal

pub returns-in_default : goal.returns-in_default
returns-in_default c = runs-turned (long c.args.log.now (omega (arith, c.in_default.ensures))) c.turned_away.ensures

pub returns-then-len-ne0 : goal.returns-then-len-ne0
returns-then-len-ne0 c =
    let len = c.in-Ok.ensures.1 in
    runs-turned (uneven c.args.log.now (λ e. c.if-len-ne0.true (ap (λ (n : ℕ). n % 5) len ∙ e))) c.turned_away-then-len-ne0.ensures

pub returns : goal.returns
returns c =
    let len = c.in-Ok.ensures in
    runs-played (good c.args.log.now (ap (λ (n : ℕ). n % 5) (sym len.1) ∙ c.if-len-ne0.false) (omega (arith, len.0)))
    (rw (c.min.ensures, len.1) at c.play.ensures)
