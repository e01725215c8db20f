-- An answer's values tell the answer, so a promise of equal values is one of equal answers: `same_answer_lem`.
-- Assumes nothing.
use mathlib.Core.Path.{◌≡◌, refl, sym, ◌∙◌, ap}
use mathlib.Core.Bool.{cond}
use lib.Dec.{eqb}
use Rattle.pattern.specs.Judge.{all_whole, some_open, broken_at, Answer, verdict, refused}
use Rattle.pattern.specs.Values.{Values, answer_values}

-- the answer that has these values
abbrev answer_by : Values → Answer
answer_by v =
    cond (eqb v.answer 3) (refused v.refusal)
    (cond (eqb v.answer 2) (verdict (broken_at v.place v.mask))
    (cond (eqb v.answer 1) (verdict (some_open v.mask)) (verdict all_whole)))

told : (a : Answer) → answer_by (answer_values a) ≡ a
told (verdict all_whole) = refl
told (verdict (some_open mask)) = refl
told (verdict (broken_at k mask)) = refl
told (refused number) = refl

pub same_answer_lem : (a b : Answer) → answer_values a ≡ answer_values b → a ≡ b
same_answer_lem a b e = sym (told a) ∙ ap answer_by e ∙ told b
