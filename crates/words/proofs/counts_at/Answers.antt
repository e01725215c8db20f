-- `words::counts_at` meets its contract: eight numbers, two bytes after each other. Assumes nothing.
use mathlib.Core.Path.{sym, ◌∙◌}
use mathlib.Core.List.{[], ◌∷◌}
use Rattle.words.proofs.Bytes.{eight}
use Rattle.words.proofs.counts_at.Goals as goal

pub returns : goal.returns
returns c =
    let a = c.args in
    (λ i. c.get16.ensures i ∷ c.get16-2.ensures i ∷ c.get16-3.ensures i ∷ c.get16-4.ensures i ∷ c.get16-5.ensures i ∷ c.get16-6.ensures i
    ∷ c.get16-7.ensures i ∷ c.get16-8.ensures i ∷ [])
    ∙ sym (eight a.m.now 2 a.at)
