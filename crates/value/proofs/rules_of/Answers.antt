-- `value::rules_of` meets its contract. After r turns the first r states are those that the memory holds. Assumes nothing.
use Rattle.std.proofs.Common.{◌≡◌, ℕ, ◌%◌, ◌<◌, ◌≢◌, sym, ◌∙◌, ap, length, arith, get_or, length-set, get_or-set_other, get_or-set_same, below_more}
use lib.Seq.{ext_get_or}
use Rattle.words.specs.Words.{no_state, held_by}
use Rattle.words.proofs.Laws.{sixteen}
use Rattle.value.proofs.rules_of.Goals as goal

pub loop-r-preserved : goal.loop-r-preserved
loop-r-preserved c =
    let turn = c.loop-r in
    let few : turn.r < 16 = c.loop-r-test.true in
    let e : turn.r % 16 ≡ turn.r = omega arith in (
      length-set _ _ _ ∙ turn.invariant.0,
      below_more _ _
          (λ k h. let ne : k ≢ turn.r = omega arith in rw get_or-set_other (turn.invariant.1 k h))
          (let lt : turn.r < length turn.st-items = omega (arith, turn.invariant.0, few) in
          rw get_or-set_same (c.load.ensures ∙ ap (λ (i : ℕ). get_or (held_by c.args.w.now).rules i no_state) e)),
    )

pub returns : goal.returns
returns c =
    let turn = c.loop-r in
    ext_get_or no_state _ _ (turn.invariant.0 ∙ sym (sixteen c.args.w.now)) (λ k h. turn.invariant.1 k (omega (arith, c.loop-r-test.false, turn.invariant.0, h)))
