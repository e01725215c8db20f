-- `names::disjoint` meets its contract: two words have no name in common exactly when their `and` is 0. Assumes nothing.
use lib.Bits.{bit_and}
use borrow.Author.Tests.{eqb-true, eq-eqb}
use Rattle.names.proofs.Sets.{and-disjoint, disjoint-and}
use Rattle.names.proofs.disjoint.Goals as goal

pub returns : goal.returns
returns c = record {
  apart = λ e. and-disjoint c.args.a c.args.b (eqb-true _ _ e);
  exact = λ h. eq-eqb (bit_and c.args.a c.args.b) 0 (disjoint-and c.args.a c.args.b h);
}
