-- A word below 2 ^ n is settled by which numbers below n are in it, and `mask_n` makes the word of any test. So a word is found by its members: `mask_is`.
-- Assumes nothing.
use mathlib.Core.Path.{◌≡◌, refl, sym, ap, ◌∙◌}
use mathlib.Core.Bool.{Bool, true, false, cond, ◌&&◌, ◌||◌, or-false, and-true, and-false}
use Prim.Native.Nat.{ℕ, zero, suc, ◌+◌, ◌/◌, ◌%◌, ◌^◌, ◌<◌, ◌≤◌}
use native.Mathlib.Nat.{add_comm, one-mul}
use native.Mathlib.Omega.{arith}
use lib.Bits.{bit_or, or_shifted_r}
use lib.Dec.{eqb}
use borrow.Author.Tests.{eqb-true, eqb-false}
use Rattle.names.specs.Names.{member}
use Rattle.names.proofs.Digits.{lowest, next, member-or, member-power}
use Rattle.names.proofs.Sets.{member-beyond}
use Rattle.masks.specs.Masks.{mask_n}

-- ---- words with the same members are equal

same-digit : (x y : ℕ) → x < 2 → y < 2 → eqb x 1 ≡ eqb y 1 → x ≡ y
same-digit x y h g e = of (eqb y 1) refl e
  where
    of : (b : Bool) → eqb y 1 ≡ b → eqb x 1 ≡ b → x ≡ y
    of true p q = let a : x ≡ 1 = eqb-true x 1 q in let b : y ≡ 1 = eqb-true y 1 p in omega arith
    of false p q = let a : x ≡ 1 → ⊥ = eqb-false x 1 q in let b : y ≡ 1 → ⊥ = eqb-false y 1 p in omega arith

pub same-members : (n a b : ℕ) → a < 2 ^ n → b < 2 ^ n → ((k : ℕ) → k < n → member a k ≡ member b k) → a ≡ b
same-members zero a b h g e = omega arith
same-members (suc n) a b h g e =
    let p : a / 2 ≡ b / 2 =
    same-members n (a / 2) (b / 2) (omega arith) (omega arith) (λ k l. sym (next a k) ∙ e (suc k) (omega arith) ∙ next b k) in
    let q : a % 2 ≡ b % 2 = same-digit (a % 2) (b % 2) (omega arith) (omega arith) (sym (lowest a) ∙ e 0 (omega arith) ∙ lowest b) in
    omega arith

-- ---- the word of a test

one_more : (b : Bool) (x n : ℕ) → x < 2 ^ n → x + cond b (2 ^ n) 0 < 2 ^ suc n
one_more true x n h = omega arith
one_more false x n h = omega arith

pub mask_n-below : (t : ℕ → Bool) (n : ℕ) → mask_n t n < 2 ^ n
mask_n-below t zero = omega arith
mask_n-below t (suc n) = one_more (t n) (mask_n t n) n (mask_n-below t n)

-- a word below 2 ^ n gets member n by a sum
member-sum : (b : Bool) (x n k : ℕ) → x < 2 ^ n → member (x + cond b (2 ^ n) 0) k ≡ (member x k || b && eqb k n)
member-sum true x n k h =
    ap (λ (m : ℕ). member m k) (add_comm x (2 ^ n) ∙ ap (λ (p : ℕ). p + x) (sym (one-mul (2 ^ n))) ∙ sym (or_shifted_r 1 n x h) ∙ ap (bit_or x) (one-mul (2 ^ n)))
    ∙ member-or x (2 ^ n) k
    ∙ ap (λ (b : Bool). member x k || b) (member-power n k)
member-sum false x n k h = ap (λ (m : ℕ). member m k) (omega arith) ∙ sym (or-false (member x k))

pub member-mask_n : (t : ℕ → Bool) (n k : ℕ) → k < n → member (mask_n t n) k ≡ t k
member-mask_n t zero k h = absurd (omega arith)
member-mask_n t (suc n) k h = member-sum (t n) (mask_n t n) n k (mask_n-below t n) ∙ of (eqb k n) refl (member-mask_n t n k)
  where
    of : (b : Bool) → eqb k n ≡ b → (k < n → member (mask_n t n) k ≡ t k) → (member (mask_n t n) k || t n && b) ≡ t k
    of true e below =
        let same : k ≡ n = eqb-true k n e in
        let none : member (mask_n t n) k ≡ false = member-beyond n (mask_n t n) k (mask_n-below t n) (omega arith) in
        rw none (and-true (t n) ∙ ap t (sym same))
    of false e below =
        let differ : k ≡ n → ⊥ = eqb-false k n e in
        rw (and-false (t n), or-false) (below (omega arith))

pub member-mask_n-past : (t : ℕ → Bool) (n k : ℕ) → n ≤ k → member (mask_n t n) k ≡ false
member-mask_n-past t n k h = member-beyond n (mask_n t n) k (mask_n-below t n) h

pub mask_is : (n m : ℕ) (t : ℕ → Bool) → m < 2 ^ n → ((k : ℕ) → k < n → member m k ≡ t k) → m ≡ mask_n t n
mask_is n m t h e = same-members n m (mask_n t n) h (mask_n-below t n) (λ k g. e k g ∙ sym (member-mask_n t n k g))
