-- `parts::fragments` meets its contract: the loop has read some of the fragments, and stored them. Assumes nothing.
use Rattle.std.proofs.Common.{refl, ap, ◌∙◌, [], ◌∷◌, ◌++◌, arith}
use Rattle.names.specs.Names.{insert_all}
use Rattle.layout.specs.Reading.{fragments}
use Rattle.layout.specs.Pages.{put_fragment, put_ranges}
use Rattle.parts.proofs.Loops.{begin, more, refused, finish, one-more, names-of-fragments}
use Rattle.parts.proofs.fragments.Goals as goal

pub loop-i-init : goal.loop-i-init
loop-i-init c = ([], begin _ _ _ _ _, record { heads' = refl; fragments = refl; ranges = refl })

pub returns-in_err-used : goal.returns-in_err-used
unfolding fragments
returns-in_err-used c = refused _ _ _ _ _ c.loop-i.invariant.1 (omega arith) c.in_err-used.ensures c.from_residual.ensures.1

pub loop-i-preserved : goal.loop-i-preserved
loop-i-preserved c =
    let (xs, f, e) = c.loop-i.invariant in
    let t = c.in_ok-used.ensures in (
      xs ++ (t.says.value ∷ []),
      more _ _ _ _ _ f (omega arith) t t.says.shows.names,
      record {
        heads' = t.says.shows.heads' ∙ e.heads';
        fragments = one-more put_fragment _ _ xs e.fragments f.many t.says.shows.fragments;
        ranges = one-more put_ranges _ _ xs e.ranges f.many t.says.shows.ranges;
      },
    )

pub returns : goal.returns
unfolding fragments
returns c =
    let (xs, f, e) = c.loop-i.invariant in
    finish _ _ _ _ _ f (omega arith) (record { names = f.set' ∙ ap (insert_all _) (names-of-fragments xs); stored = e })
