-- The judge's mask of a list of statuses (crate `pattern`, `Judge`) by its members: rule k is in it exactly if its status passes the test, and no number past the list is.
-- Assumes nothing.
use mathlib.Core.Path.{◌≡◌, ap, ◌∙◌}
use mathlib.Core.Bool.{Bool, true, false, cond}
use mathlib.Core.List.{List, [], ◌∷◌}
use Prim.Native.Nat.{ℕ, zero, suc, ◌+◌, ◌*◌, ◌/◌, ◌%◌, ◌^◌, ◌<◌, ◌≤◌}
use native.Mathlib.Omega.{arith}
use lib.Dec.{eqb}
use lib.ListN.{length, get_or}
use borrow.Author.Tests.{eq-eqb, ne_eqb}
use Rattle.names.specs.Names.{member}
use Rattle.names.proofs.Digits.{lowest, next}
use Rattle.names.proofs.Sets.{member-beyond}
use Rattle.pattern.specs.Meaning.{Status}
use Rattle.pattern.specs.Judge.{mask}

first : (b : Bool) (x : ℕ) → eqb ((cond b 1 0 + 2 * x) % 2) 1 ≡ b
first true x = eq-eqb ((1 + 2 * x) % 2) 1 (omega arith)
first false x = ne_eqb ((0 + 2 * x) % 2) 1 (λ e. omega arith)

rest : (b : Bool) (x : ℕ) → (cond b 1 0 + 2 * x) / 2 ≡ x
rest true x = omega arith
rest false x = omega arith

pub member-mask : (t : Status → Bool) (ss : List Status) (k : ℕ) (d : Status) → k < length ss → member (mask t ss) k ≡ t (get_or ss k d)
member-mask t [] k d h = absurd (omega arith)
member-mask t (s ∷ ss) zero d h = lowest (mask t (s ∷ ss)) ∙ first (t s) (mask t ss)
member-mask t (s ∷ ss) (suc k) d h =
    next (mask t (s ∷ ss)) k ∙ ap (λ (m : ℕ). member m k) (rest (t s) (mask t ss)) ∙ member-mask t ss k d (omega arith)

one_more : (b : Bool) (x n : ℕ) → x < 2 ^ n → cond b 1 0 + 2 * x < 2 ^ suc n
one_more true x n h = omega arith
one_more false x n h = omega arith

pub mask_below : (t : Status → Bool) (ss : List Status) → mask t ss < 2 ^ length ss
mask_below t [] = omega arith
mask_below t (s ∷ ss) = one_more (t s) (mask t ss) (length ss) (mask_below t ss)

pub member-mask-past : (t : Status → Bool) (ss : List Status) (k : ℕ) → length ss ≤ k → member (mask t ss) k ≡ false
member-mask-past t ss k h = member-beyond (length ss) (mask t ss) k (mask_below t ss) h
