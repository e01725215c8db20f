-- `sheet_writer::rule_count` meets its contract. The loop's invariant: the first rule that is not there is the first one from r on. Assumes nothing.
use mathlib.Core.Path.{◌≡◌, sym}
use Prim.Native.Nat.{suc, ◌-◌}
use native.Mathlib.Numerals.{add-one}
use native.Mathlib.Omega.{arith}
use borrow.Author.Tests.{eq-eqb, ne_eqb}
use Rattle.sheet_writer.specs.Parts.{rule_count}
use Rattle.sheet_writer.proofs.rule_count.Goals as goal

pub loop-r-init : goal.loop-r-init
unfolding rule_count
loop-r-init c = λ n e. let all : n ≡ 16 = omega arith in rw all

pub returns-then-table-r-eq0 : goal.returns-then-table-r-eq0
returns-then-table-r-eq0 c = sym (rw (eq-eqb _ 0 c.if-table-r-eq0.true) at (c.loop-r.invariant (suc (15 - c.loop-r.r)) (omega arith)))

pub loop-r-preserved : goal.loop-r-preserved
loop-r-preserved c = λ n e. rw add-one (rw (ne_eqb _ 0 c.if-table-r-eq0.false) at (c.loop-r.invariant (suc n) (omega (arith, e))))

pub returns : goal.returns
returns c = let end : c.loop-r.r ≡ 16 = omega arith in omega (arith, end, c.loop-r.invariant 0 (omega arith))
