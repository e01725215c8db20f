-- `parts::rules` meets its contract: the loop has read some of the rules, and stored them. Assumes nothing.
use Rattle.std.proofs.Common.{refl, [], ◌∷◌, ◌++◌, zero-add, arith}
use Rattle.layout.specs.Reading.{rules}
use Rattle.layout.specs.Pages.{put_rule, put_rule_fragments, put_rule_ranges}
use Rattle.parts.proofs.Loops.{begin, more, refused, finish, one-more}
use Rattle.parts.proofs.rules.Goals as goal

pub loop-k-init : goal.loop-k-init
loop-k-init c = ([], begin _ _ _ _ _, record { heads' = refl; fragments = refl; ranges = refl })

pub returns-in_err-rule : goal.returns-in_err-rule
unfolding rules
returns-in_err-rule c = refused _ _ _ _ _ c.loop-k.invariant.1 (omega arith) c.in_err-rule.ensures c.from_residual.ensures.1

pub loop-k-preserved : goal.loop-k-preserved
loop-k-preserved c =
    let (xs, f, e) = c.loop-k.invariant in
    let t = c.in_ok-rule.ensures in (
      xs ++ (t.says.value ∷ []),
      more _ _ _ _ _ f (omega arith) t refl,
      record {
        heads' = one-more put_rule _ 0 xs e.heads' f.many (rw zero-add t.says.shows.head);
        fragments = one-more put_rule_fragments _ 0 xs e.fragments f.many (rw zero-add t.says.shows.fragments);
        ranges = one-more put_rule_ranges _ 0 xs e.ranges f.many (rw zero-add t.says.shows.ranges);
      },
    )

pub returns : goal.returns
unfolding rules
returns c = let (xs, f, e) = c.loop-k.invariant in finish _ _ _ _ _ f (omega arith) e
