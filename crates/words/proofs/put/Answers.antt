-- `words::put` meets its contract: the part that is written over is a run of stores. Assumes nothing.
use mathlib.Core.Path.{◌≡◌}
use native.Mathlib.Omega.{arith}
use lib.ListN.{length}
use Rattle.words.proofs.Bytes.{put_mid-sets}
use borrow.Author.Rules.{rules}
use Rattle.words.proofs.put.Goals as goal

pub returns : goal.returns
returns g c =
    let long : length c.args.bytes ≡ g.row.N = search rules in
    put_mid-sets c.args.m.now c.args.at _ c.copy_from_slice.ensures.after (omega arith) (omega arith)
