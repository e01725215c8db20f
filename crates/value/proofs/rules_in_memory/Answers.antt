-- `value::rules_in_memory` meets its contract. After r turns the first r rules have their states. Assumes nothing.
use Prim.Native.Nat.{◌<◌}
use mathlib.Core.Path.{◌≡◌}
use native.Mathlib.Omega.{arith}
use Rattle.words.specs.Words.{no_state}
use Rattle.words.proofs.Laws.{zeros-hold, one_more}
use Rattle.words.proofs.Places.{get_d_any}
use Rattle.value.proofs.Sixteen.{given, all-given}
use Rattle.value.proofs.rules_in_memory.Goals as goal

pub loop-r-init : goal.loop-r-init
loop-r-init c = zeros-hold

pub loop-r-preserved : goal.loop-r-preserved
loop-r-preserved c =
    let rules = c.args.rules.now in
    let h : c.loop-r.r < 16 = c.loop-r-test.true in
    one_more (given rules) h (get_d_any rules c.loop-r.r _ no_state (omega (arith, h, c.told-rules))) c.store.ensures c.loop-r.invariant

pub returns : goal.returns
returns c =
    let turn = c.loop-r in
    let e : turn.r ≡ 16 = omega (arith, c.loop-r-test.false, turn.auto.r-end) in
    rw (e, all-given c.args.rules.now c.told-rules) at turn.invariant.holds
