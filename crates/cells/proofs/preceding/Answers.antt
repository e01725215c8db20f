-- `cells::preceding` meets its contract. Assumes nothing.
use native.Mathlib.Omega.{arith}
use borrow.Author.Tests.{eq-eqb, ne_eqb}
use Rattle.tables.proofs.Bounds.{round-small}
use Rattle.cells.specs.Making.{before_from}
use Rattle.cells.proofs.preceding.Goals as goal

pub returns-then-f-eq0 : goal.returns-then-f-eq0
unfolding before_from
returns-then-f-eq0 c = (simp (eq-eqb _ _ c.if-f-eq0.true, c.from-all.ensures, c.fragments_in_round.ensures), omega (arith, c.fragments_in_round.ensures, round-small c.args.head))

pub returns : goal.returns
unfolding before_from
returns c = (simp (ne_eqb _ _ c.if-f-eq0.false), omega (arith, round-small c.args.head))
