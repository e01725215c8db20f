-- `answers::judged` meets its contract: each test of a mask for 0 is the definition's. Assumes nothing.
use mathlib.Core.Path.{refl}
use borrow.Author.Tests.{eq-eqb, ne_eqb}
use Rattle.answers.specs.Observe.{judged_of}
use Rattle.answers.proofs.judged.Goals as goal

pub returns-then-broken-ne0 : goal.returns-then-broken-ne0
unfolding judged_of
returns-then-broken-ne0 c = record {
  gives = λ h. simp (ne_eqb c.args.p.broken 0 c.if-broken-ne0.true)
      (record { holds = (c.settle.ensures _ h).holds; answer = refl });
  blank = λ h. (c.settle.ensures _ h).blank;
}

pub returns-then-opens-ne0 : goal.returns-then-opens-ne0
unfolding judged_of
returns-then-opens-ne0 c = let p = c.args.p in record {
  gives = λ h. simp (eq-eqb p.broken 0 c.if-broken-ne0.false, ne_eqb p.opens 0 c.if-opens-ne0.true)
      (record { holds = (c.settle-then-opens-ne0.ensures _ h).holds; answer = refl });
  blank = λ h. (c.settle-then-opens-ne0.ensures _ h).blank;
}

pub returns : goal.returns
unfolding judged_of
returns c = let p = c.args.p in record {
  gives = λ h. simp (eq-eqb p.broken 0 c.if-broken-ne0.false, eq-eqb p.opens 0 c.if-opens-ne0.false)
      (record { holds = (c.settle-2.ensures _ h).holds; answer = refl });
  blank = λ h. (c.settle-2.ensures _ h).blank;
}
