-- The verdict of a pass over the rules. Where its masks are those of the rules' statuses, the answer is the verdict that the judge gives of them: the law `judged-says`.
-- Assumes nothing.
use mathlib.Core.Path.{◌≡◌, refl, ◌∙◌}
use mathlib.Core.Bool.{Bool, true, false, cond}
use mathlib.Core.List.{List}
use Prim.Native.Nat.{ℕ}
use lib.Dec.{eqb}
use Rattle.pattern.specs.Meaning.{Status}
use Rattle.pattern.specs.Judge.{all_whole, some_open, broken_at, verdict_of, mask}
use Rattle.pattern.specs.Judge as J
use Rattle.pattern.specs.Values.{verdict_values}
use Rattle.rules.specs.Pass.{Pass}
use Rattle.answers.specs.Cases.{values_of}
use Rattle.answers.specs.Observe.{judged_by, judged_of}

pub judged-says : (p : Pass) (k time : ℕ) (ss : List Status) → p.broken ≡ mask J.is_broken ss → p.opens ≡ mask J.is_open ss → values_of (judged_of p k time).answer ≡ verdict_values (verdict_of k ss)
unfolding judged_of
judged-says p k time ss b o = look (eqb p.broken 0) (eqb p.opens 0) ∙ rw (b, o)
  where
    look : (x y : Bool) → values_of (judged_by x y p k time).answer ≡ verdict_values (cond x (cond y all_whole (some_open p.opens)) (broken_at k p.broken))
    look true true = refl
    look true false = refl
    look false y = refl
