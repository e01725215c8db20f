-- `words::settle` meets its contract: the last 16 bytes are stored one after the other, and no rule's byte is. Assumes nothing.
use mathlib.Core.Path.{refl}
use Rattle.words.proofs.Bytes.{stored}
use Rattle.words.proofs.Laws.{own-stored, settles}
use Rattle.words.proofs.settle.Goals as goal

pub returns : goal.returns
returns c = λ k.
    let a = c.args in
    settles a.m.now a.taken a.latest a.verdict a.mask a.dues
    (own-stored a.m.now a.taken a.latest a.verdict a.mask a.dues
    (stored 4 _ _ _ c.put.ensures c.to_le_bytes.ensures) (stored 4 _ _ _ c.put-2.ensures c.to_le_bytes-2.ensures) c.put-3.ensures
    (stored 2 _ _ _ c.put-4.ensures c.to_le_bytes-3.ensures) (stored 2 _ _ _ c.put-5.ensures c.to_le_bytes-4.ensures) (stored 2 _ _ 0 c.put-6.ensures refl))
    c.ranges.taken.fits c.ranges.latest.fits c.ranges.mask.fits c.ranges.dues.fits
