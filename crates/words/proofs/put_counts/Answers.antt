-- `words::put_counts` meets its contract: eight numbers, each where the last one ends. Assumes nothing.
use mathlib.Core.Path.{◌≡◌}
use lib.ListN.{length}
use Rattle.words.proofs.Bytes.{stored, laid-eight}
use borrow.Author.Rules.{rules}
use Rattle.words.proofs.put_counts.Goals as goal

pub returns : goal.returns
returns c =
    let long : length c.args.x ≡ 8 = search rules in
    let a = c.args in
    laid-eight 2 a.x a.m.now a.at long (stored 2 _ _ _ c.put.ensures c.to_le_bytes.ensures) (stored 2 _ _ _ c.put-2.ensures c.to_le_bytes-2.ensures)
    (stored 2 _ _ _ c.put-3.ensures c.to_le_bytes-3.ensures) (stored 2 _ _ _ c.put-4.ensures c.to_le_bytes-4.ensures)
    (stored 2 _ _ _ c.put-5.ensures c.to_le_bytes-5.ensures) (stored 2 _ _ _ c.put-6.ensures c.to_le_bytes-6.ensures)
    (stored 2 _ _ _ c.put-7.ensures c.to_le_bytes-7.ensures) (stored 2 _ _ _ c.put-8.ensures c.to_le_bytes-8.ensures)
