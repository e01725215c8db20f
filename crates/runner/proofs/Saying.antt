-- What is left of an answer when the cases of other arms are taken away, and what a verdict says that was told as an answer. Each arm of the code's matches names its cases, so that none cites these.
-- Assumes nothing.
use mathlib.Core.Path.{◌≡◌, refl, ap}
use mathlib.Core.Logic.{◌⊎◌, inl, inr, ⊎_elim}
use mathlib.Core.List.{List}
use Rattle.std.specs.Prelude.{Ok, Err}
use Prim.Native.Nat.{ℕ}
use native.Mathlib.Omega.{arith}
use Rattle.pattern.specs.Judge.{Verdict, all_whole, some_open, broken_at}
use Rattle.pattern.specs.Values.{Values, verdict_values}
use Rattle.words.specs.Words.{held_by}
use Rattle.answers.specs.Cases.{Answer, values_of}
use Rattle.answers.specs.declared.Verdict.TheVariants.{Whole, Open, Broken}
use Rattle.answers.specs.declared.Refusal.{Refusal}
use Rattle.monitor.specs.Promise.{verdict_in}
use Rattle.runner.specs.Log.{open_mask}

-- an answer's case, by document 01's number
abbrev variant : Answer → ℕ
variant a = (values_of a).answer

pub left-whole : (a : Answer) → ((x : ℕ) → a ≡ Ok (Open x) → ⊥) → ((k x : ℕ) → a ≡ Ok (Broken k x) → ⊥) → (variant a ≡ 0) ⊎ (variant a ≡ 3)
left-whole (Ok Whole) o b = inl refl
left-whole (Ok (Open x)) o b = absurd (o x refl)
left-whole (Ok (Broken k x)) o b = absurd (b k x refl)
left-whole (Err why) o b = inr refl

pub left-none : (a : Answer) → ((x : ℕ) → a ≡ Ok (Open x) → ⊥) → (variant a ≡ 0) ⊎ ((variant a ≡ 2) ⊎ (variant a ≡ 3))
left-none (Ok Whole) o = inl refl
left-none (Ok (Open x)) o = absurd (o x refl)
left-none (Ok (Broken k x)) o = inr (inl refl)
left-none (Err why) o = inr (inr refl)

pub left-on : (a : Answer) → ((k x : ℕ) → a ≡ Ok (Broken k x) → ⊥) → ((why : Refusal) → a ≡ Err why → ⊥) → (variant a ≡ 0) ⊎ (variant a ≡ 1)
left-on (Ok Whole) b r = inl refl
left-on (Ok (Open x)) b r = inr refl
left-on (Ok (Broken k x)) b r = absurd (b k x refl)
left-on (Err why) b r = absurd (r why refl)

-- no rule is open where the answer that says the verdict is not 1
pub told_none : (m : List ℕ) (a : Answer) → values_of a ≡ verdict_values (verdict_in (held_by m)) → (variant a ≡ 0) ⊎ ((variant a ≡ 2) ⊎ (variant a ≡ 3)) → 0 ≡ open_mask (verdict_in (held_by m))
told_none m a says h = look (verdict_in (held_by m)) (rw number at h)
  where
    number : variant a ≡ (verdict_values (verdict_in (held_by m))).answer
    number = ap (λ (u : Values). u.answer) says

    look : (v : Verdict) → ((verdict_values v).answer ≡ 0) ⊎ (((verdict_values v).answer ≡ 2) ⊎ ((verdict_values v).answer ≡ 3)) → 0 ≡ open_mask v
    look all_whole h = refl
    look (some_open x) h = absurd (⊎_elim (λ e. omega arith) (⊎_elim (λ e. omega arith) (λ e. omega arith)) h)
    look (broken_at k x) h = refl
