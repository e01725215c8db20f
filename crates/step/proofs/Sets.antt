-- Sets of eight ranges: one with a range put in or out, the empty one, and that of all ranges of a fragment.
-- Assumes nothing.
use mathlib.Core.Path.{◌≡◌, refl, sym, ◌∙◌, ap}
use mathlib.Core.Bool.{Bool, true, false, cond}
use Prim.Native.Nat.{ℕ, suc, ◌/◌, ◌-◌, ◌^◌, ◌≤◌, ◌<◌}
use native.Mathlib.Nat.{div-le_self}
use native.Mathlib.Omega.{arith}
use lib.Dec.{leb, ltb, eqb}
use borrow.Author.Tests.{lt-ltb, le-ltb, leb-true, leb-false}
use Rattle.names.specs.Names.{member}
use Rattle.names.proofs.Sets.{member-empty}
use Rattle.masks.specs.Masks.{mask_n}
use Rattle.masks.proofs.Members.{mask_n-below, member-mask_n, mask_is}
use Rattle.tables.specs.Cells.{less_in}
use Rattle.fragment.specs.Fragments.{ranges_of}
use Rattle.fragment.proofs.States.{ranges-at}
use Rattle.step.specs.Steps.{put_of}

pub same_set : (t t' : ℕ → Bool) → ((k : ℕ) → k < 8 → t k ≡ t' k) → mask_n t 8 ≡ mask_n t' 8
same_set t t' h = mask_is 8 (mask_n t 8) t' (mask_n-below t 8) (λ k g. member-mask_n t 8 k g ∙ h k g)

-- a range put in or out
pub put_is : (t t' : ℕ → Bool) (i : ℕ) (on : Bool) → ((k : ℕ) → k < 8 → cond (eqb k i) on (t k) ≡ t' k) → put_of (mask_n t 8) i on ≡ mask_n t' 8
unfolding put_of
put_is t t' i on h = same_set (λ k. cond (eqb k i) on (member (mask_n t 8) k)) t' (λ k g. ap (cond (eqb k i) on) (member-mask_n t 8 k g) ∙ h k g)

-- the empty set
pub none_in : (t : ℕ → Bool) → ((k : ℕ) → k < 8 → t k ≡ false) → mask_n t 8 ≡ 0
none_in t h = same_set t (λ k. false) h

pub in-none : (t : ℕ → Bool) → mask_n t 8 ≡ 0 → (k : ℕ) → k < 8 → t k ≡ false
in-none t e k g = sym (member-mask_n t 8 k g) ∙ ap (λ (s : ℕ). member s k) e ∙ member-empty k

ranges-small : (cell : ℕ) → ranges_of cell < 256
unfolding ranges_of
ranges-small cell = let h : 255 / 2 ^ (7 - less_in cell) ≤ 255 = div-le_self 255 (2 ^ (7 - less_in cell)) in omega (arith, h)

-- the set of the first n ranges
pub ranges-are : (cell n : ℕ) → suc (less_in cell) ≡ n → ranges_of cell ≡ mask_n (λ k. ltb k n) 8
ranges-are cell n e = mask_is 8 (ranges_of cell) (λ k. ltb k n) (ranges-small cell) (λ k g. ranges-at cell k g ∙ below k (leb k (less_in cell)) refl)
  where
    below : (k : ℕ) (b : Bool) → leb k (less_in cell) ≡ b → b ≡ ltb k n
    below k true q = let h = leb-true k (less_in cell) q in sym (lt-ltb k n (omega (arith, h, e)))
    below k false q = let h = leb-false k (less_in cell) q in sym (le-ltb k n (omega (arith, h, e)))
