-- `fragment::raised` meets its contract: eight choices are the list with one count raised. Assumes nothing.
use Rattle.fragment.proofs.Bytes.{eight-raised}
use borrow.Author.Rules.{rules}
use Rattle.fragment.proofs.raised.Goals as goal

pub returns : goal.returns
returns c =
    rw (← c.from-at.ensures)
    (eight-raised c.args.x c.from-at.result _ _ _ _ _ _ _ _ (search rules)
    c.raised_if.ensures c.raised_if-2.ensures
    c.raised_if-3.ensures c.raised_if-4.ensures
    c.raised_if-5.ensures c.raised_if-6.ensures
    c.raised_if-7.ensures c.raised_if-8.ensures)
