-- `parts::range` meets its contract: its three fields are read, and then its word is stored. Assumes nothing.
use Rattle.std.proofs.Common.{◌∙◌}
use Rattle.layout.specs.Reading.{range}
use Rattle.layout.proofs.Values.{with-name}
use Rattle.fields.proofs.Telling.{done, fails, number-is, then}
use Rattle.parts.proofs.range.Goals as goal

pub returns-in_err-n : goal.returns-in_err-n
unfolding range
returns-in_err-n c = fails _ c.in_err-n.ensures c.from_residual.ensures.1

pub returns-in_err-u : goal.returns-in_err-u
unfolding range
returns-in_err-u c = then _ c.in_ok-n.ensures (fails _ c.in_err-u.ensures c.from_residual-in_err-u.ensures.1)

pub returns-in_err-v : goal.returns-in_err-v
unfolding range
returns-in_err-v c = then _ c.in_ok-n.ensures (then _ c.in_ok-u.ensures (fails _ c.in_err-v.ensures c.from_residual-in_err-v.ensures.1))

pub returns : goal.returns
unfolding range
returns c =
    then _ c.in_ok-n.ensures (then _ c.in_ok-u.ensures (then _ c.in_ok-v.ensures
    (done (record { names = c.with.ensures ∙ with-name _ _ (number-is c.in_ok-n.ensures).1; ranges = simp c.range_word.ensures }))))
