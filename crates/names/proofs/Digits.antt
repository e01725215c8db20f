-- The members of a number as a set, digit by digit: those of an `and`, an `or` and a power of two; none past a number's width; and a number with none at all is 0.
-- Digit 0 is the remainder by 2, and digit k + 1 is digit k of the half, so each law goes by recursion on the digit's place or on the number's half.
-- Assumes nothing.
use mathlib.Core.Path.{◌≡◌, refl, sym, ap, ap₂, ◌∙◌}
use mathlib.Core.Bool.{Bool, false, ◌||◌, ◌&&◌}
use Prim.Native.Nat.{ℕ, zero, suc, ◌+◌, ◌*◌, ◌/◌, ◌%◌, ◌^◌, ◌<◌, min, max}
use native.Mathlib.Nat.{zero-lt-suc, mod-lt, div-eq_of_lt, div-one}
use native.Mathlib.Numerals.{one-add}
use native.Mathlib.Omega.{arith}
use lib.Arith.{digits_div, digits_mod, bin_ind}
use lib.Pow.{pow-lt, shr-shr}
use lib.Bits.{bit_and, bit_or, and_step, or_step}
use lib.Dec.{eqb, eqb-zero-suc, eqb-suc-zero, eqb-suc-suc}
use borrow.Author.Tests.{eqb-false}
use Rattle.names.specs.Names.{member}

-- ---- the lowest digit, and the next

pub lowest : (s : ℕ) → member s 0 ≡ eqb (s % 2) 1
unfolding member
lowest s = ap (λ (m : ℕ). eqb (m % 2) 1) (div-one s)

pub next : (s k : ℕ) → member s (suc k) ≡ member (s / 2) k
unfolding member
next s k = ap (λ (m : ℕ). eqb (m % 2) 1) (ap (λ (j : ℕ). s / 2 ^ j) (sym (one-add k)) ∙ sym (shr-shr s 1 k))

-- ---- and, or

digit : (x : ℕ) → x % 2 < 2
digit x = mod-lt x (zero-lt-suc 1)

-- what holds of the four pairs of digits holds of any two digits
pairs : (P : ℕ → ℕ → Type 0) → P 0 0 → P 0 1 → P 1 0 → P 1 1 → (x y : ℕ) → x < 2 → y < 2 → P x y
pairs P a b c d zero zero hx hy = a
pairs P a b c d zero (suc zero) hx hy = b
pairs P a b c d (suc zero) zero hx hy = c
pairs P a b c d (suc zero) (suc zero) hx hy = d
pairs P a b c d zero (suc (suc y)) hx hy = absurd (omega arith)
pairs P a b c d (suc zero) (suc (suc y)) hx hy = absurd (omega arith)
pairs P a b c d (suc (suc x)) y hx hy = absurd (omega arith)

-- an operation that works digit by digit, f on each pair, is g on members
module _ (op f : ℕ → ℕ → ℕ) (g : Bool → Bool → Bool)
    (step : (a b : ℕ) → op a b ≡ op (a / 2) (b / 2) * 2 + f (a % 2) (b % 2))
    (right : (x y : ℕ) → x < 2 → y < 2 → (f x y < 2) × (eqb (f x y) 1 ≡ g (eqb x 1) (eqb y 1))) where
  digitwise : (k a b : ℕ) → member (op a b) k ≡ g (member a k) (member b k)
  digitwise zero a b =
      let h = right (a % 2) (b % 2) (digit a) (digit b) in
      lowest (op a b) ∙ ap (λ (m : ℕ). eqb (m % 2) 1) (step a b) ∙ ap (λ (d : ℕ). eqb d 1) (digits_mod (op (a / 2) (b / 2)) h.0) ∙ h.1
      ∙ sym (ap₂ g (lowest a) (lowest b))
  digitwise (suc k) a b =
      let h = right (a % 2) (b % 2) (digit a) (digit b) in
      next (op a b) k ∙ ap (λ (m : ℕ). member (m / 2) k) (step a b) ∙ ap (λ (m : ℕ). member m k) (digits_div (op (a / 2) (b / 2)) h.0)
      ∙ digitwise k (a / 2) (b / 2)
      ∙ sym (ap₂ g (next a k) (next b k))

pub member-and : (a b k : ℕ) → member (bit_and a b) k ≡ (member a k && member b k)
member-and a b k =
    digitwise bit_and min ◌&&◌ and_step
    (pairs (λ x y. (min x y < 2) × (eqb (min x y) 1 ≡ (eqb x 1 && eqb y 1))) (omega arith, refl) (omega arith, refl) (omega arith, refl) (omega arith, refl))
    k a b

pub member-or : (a b k : ℕ) → member (bit_or a b) k ≡ (member a k || member b k)
member-or a b k =
    digitwise bit_or max ◌||◌ or_step
    (pairs (λ x y. (max x y < 2) × (eqb (max x y) 1 ≡ (eqb x 1 || eqb y 1))) (omega arith, refl) (omega arith, refl) (omega arith, refl) (omega arith, refl))
    k a b

-- ---- past the width; a power of two; no digit at all

pub member-past : (s k : ℕ) → s < 2 ^ k → member s k ≡ false
unfolding member
member-past s k h = ap (λ (m : ℕ). eqb (m % 2) 1) (div-eq_of_lt h)

even : (n : ℕ) → 2 ^ suc n % 2 ≡ 0
even n = omega arith

half : (n : ℕ) → 2 ^ suc n / 2 ≡ 2 ^ n
half n = omega arith

pub member-power : (n k : ℕ) → member (2 ^ n) k ≡ eqb k n
unfolding member
member-power zero zero = refl
member-power zero (suc k) = member-past 1 (suc k) (pow-lt (zero-lt-suc k)) ∙ sym (eqb-suc-zero k)
member-power (suc n) zero = lowest (2 ^ suc n) ∙ ap (λ (d : ℕ). eqb d 1) (even n) ∙ sym (eqb-zero-suc n)
member-power (suc n) (suc k) = next (2 ^ suc n) k ∙ ap (λ (m : ℕ). member m k) (half n) ∙ member-power n k ∙ sym (eqb-suc-suc k n)

pub member-none : (s : ℕ) → ((k : ℕ) → member s k ≡ false) → s ≡ 0
member-none =
    bin_ind (λ (m : ℕ). ((k : ℕ) → member m k ≡ false) → m ≡ 0)
    (λ h. refl)
    (λ m rest h.
    let a : m / 2 ≡ 0 = rest (λ k. sym (next m k) ∙ h (suc k)) in
    let b : m % 2 ≡ 1 → ⊥ = eqb-false (m % 2) 1 (sym (lowest m) ∙ h 0) in
    omega arith)
