-- `book::add_rule` meets its contract. Assumes nothing.
use mathlib.Core.Path.{◌∙◌, sym}
use native.Mathlib.Omega.{arith}
use Rattle.layout.proofs.Values.{with-name}
use Rattle.book.proofs.add_rule.Goals as goal

pub returns-then-has : goal.returns-then-has
returns-then-has c = simp (sym c.has.ensures ∙ c.if-has.true) (c.with.ensures ∙ with-name _ _ (omega arith))

pub returns : goal.returns
returns c = simp (sym c.has.ensures ∙ c.if-has.false)
