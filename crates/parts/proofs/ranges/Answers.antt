-- `parts::ranges` meets its contract: the loop has read some of the ranges, and stored their words. Assumes nothing.
use Rattle.std.proofs.Common.{refl, ap, ◌∙◌, [], ◌∷◌, ◌++◌, arith}
use Rattle.names.specs.Names.{insert_all}
use Rattle.layout.specs.Reading.{ranges}
use Rattle.layout.specs.Pages.{put_range}
use Rattle.parts.proofs.Loops.{begin, more, refused, finish, one-more, names-of-ranges}
use Rattle.parts.proofs.ranges.Goals as goal

pub loop-i-init : goal.loop-i-init
loop-i-init c = ([], begin _ _ _ _ _, refl)

pub returns-in_err-used : goal.returns-in_err-used
unfolding ranges
returns-in_err-used c = refused _ _ _ _ _ c.loop-i.invariant.1 (omega arith) c.in_err-used.ensures c.from_residual.ensures.1

pub loop-i-preserved : goal.loop-i-preserved
loop-i-preserved c =
    let (xs, f, e) = c.loop-i.invariant in
    let t = c.in_ok-used.ensures in
    (xs ++ (t.says.value ∷ []), more _ _ _ _ _ f (omega arith) t t.says.shows.names, one-more put_range _ _ xs e f.many t.says.shows.ranges)

pub returns : goal.returns
unfolding ranges
returns c =
    let (xs, f, e) = c.loop-i.invariant in
    finish _ _ _ _ _ f (omega arith) (record { names = f.set' ∙ ap (insert_all _) (names-of-ranges xs); ranges = e })
