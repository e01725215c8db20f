-- The members of what the code computes from a word: of its complement, of a word without those of another, and its lowest one, which is its number of zeros at the low end.
-- Digit 0 is the remainder by 2 and digit k + 1 is digit k of the half, so each goes by recursion on the word's width. They hold of words of every width. Assumes nothing.
use mathlib.Core.Path.{◌≡◌, refl, sym, ap, ◌∙◌}
use mathlib.Core.Bool.{Bool, true, false, not, ◌&&◌, and-true, and_self}
use Prim.Native.Nat.{ℕ, zero, suc, ◌+◌, ◌-◌, ◌/◌, ◌%◌, ◌^◌, ◌<◌}
use native.Mathlib.Omega.{arith}
use lib.Arith.{lt_of_le-ne}
use lib.Bits.{bit_and, and_le_l}
use lib.Count.{count_trailing_zeros, under}
use lib.Dec.{eqb, ltb, eqb-suc-zero, eqb-suc-suc}
use borrow.Author.Tests.{eq-eqb, ne_eqb, ltb-true, ltb-false}
use Rattle.names.specs.Names.{member}
use Rattle.names.proofs.Digits.{lowest, next, member-and}
use Rattle.names.proofs.Sets.{member-beyond}

-- ---- the complement

other-digit : (x y : ℕ) → y < 2 → x + y ≡ 1 → eqb x 1 ≡ not (eqb y 1)
other-digit x zero h e = eq-eqb x 1 (omega arith)
other-digit x (suc zero) h e = ne_eqb x 1 (λ f. omega arith)
other-digit x (suc (suc y)) h e = absurd (omega arith)

pub member-not : (n a k : ℕ) → a < 2 ^ n → k < n → member ((2 ^ n - 1) - a) k ≡ not (member a k)
member-not zero a k h g = absurd (omega arith)
member-not (suc n) a zero h g =
    let x = (2 ^ suc n - 1) - a in lowest x ∙ other-digit (x % 2) (a % 2) (omega arith) (omega arith) ∙ sym (ap not (lowest a))
member-not (suc n) a (suc k) h g =
    let x = (2 ^ suc n - 1) - a in
    let half : x / 2 ≡ (2 ^ n - 1) - a / 2 = omega arith in
    next x k ∙ ap (λ (m : ℕ). member m k) half ∙ member-not n (a / 2) k (omega arith) (omega arith) ∙ sym (ap not (next a k))

-- ---- without the members of another word

pub member-without : (n a b k : ℕ) → a < 2 ^ n → b < 2 ^ n → member (bit_and a ((2 ^ n - 1) - b)) k ≡ (member a k && not (member b k))
member-without n a b k h g = member-and a ((2 ^ n - 1) - b) k ∙ of (ltb k n) refl
  where
    of : (t : Bool) → ltb k n ≡ t → (member a k && member ((2 ^ n - 1) - b) k) ≡ (member a k && not (member b k))
    of true e = ap (λ (x : Bool). member a k && x) (member-not n b k g (ltb-true k n e))
    of false e = rw (member-beyond n a k h (ltb-false k n e))

-- a word from which an `and` has taken a member is smaller
pub and-fewer : (a b k : ℕ) → member a k ≡ true → member (bit_and a b) k ≡ false → bit_and a b < a
and-fewer a b k p q =
    lt_of_le-ne (and_le_l a b) (λ (e : bit_and a b ≡ a). let z : ◌≡◌ {A = ℕ} 0 1 = cc (rw e at q) in omega arith)

-- ---- the lowest member

pub lowest-inside : (n a : ℕ) → 0 < a → a < 2 ^ n → member a (count_trailing_zeros n a) ≡ true
unfolding count_trailing_zeros
lowest-inside zero a h g = absurd (omega arith)
lowest-inside (suc n) a h g = of (a % 2) refl (λ (q : 0 < a / 2). lowest-inside n (a / 2) q (omega arith))
  where
    of : (d : ℕ) → a % 2 ≡ d → (0 < a / 2 → member (a / 2) (count_trailing_zeros n (a / 2)) ≡ true) → member a (under d (count_trailing_zeros n (a / 2))) ≡ true
    of zero e rest = next a (count_trailing_zeros n (a / 2)) ∙ rest (omega arith)
    of (suc d) e rest = lowest a ∙ eq-eqb (a % 2) 1 (omega arith)

pub lowest-least : (n a k : ℕ) → k < count_trailing_zeros n a → member a k ≡ false
unfolding count_trailing_zeros
lowest-least zero a k h = absurd (omega arith)
lowest-least (suc n) a k h = of (a % 2) refl (lowest-least n (a / 2)) k h
  where
    of : (d : ℕ) → a % 2 ≡ d → ((k : ℕ) → k < count_trailing_zeros n (a / 2) → member (a / 2) k ≡ false)
        → (k : ℕ) → k < under d (count_trailing_zeros n (a / 2)) → member a k ≡ false
    of zero e rest zero g = lowest a ∙ ne_eqb (a % 2) 1 (λ f. omega arith)
    of zero e rest (suc k) g = next a k ∙ rest k (omega arith)
    of (suc d) e rest k g = absurd (omega arith)

-- a member's number is below the width
pub member-within : (n a k : ℕ) → a < 2 ^ n → member a k ≡ true → k < n
member-within n a k h p = of (ltb k n) refl
  where
    of : (b : Bool) → ltb k n ≡ b → k < n
    of true e = ltb-true k n e
    of false e = let q : member a k ≡ false = member-beyond n a k h (ltb-false k n e) in let z : ◌≡◌ {A = ℕ} 0 1 = cc in absurd (omega arith)

pub lowest-below : (n a : ℕ) → 0 < a → a < 2 ^ n → count_trailing_zeros n a < n
lowest-below n a h g = member-within n a (count_trailing_zeros n a) g (lowest-inside n a h g)

-- ---- all but the lowest member: the number below a word has the same digits above it, and 0 there

pub rest-members : (n a k : ℕ) → 0 < a → a < 2 ^ n → (member a k && member (a - 1) k) ≡ (member a k && not (eqb k (count_trailing_zeros n a)))
unfolding count_trailing_zeros
rest-members zero a k h g = absurd (omega arith)
rest-members (suc n) a k h g = of (a % 2) refl k (λ (j : ℕ) (q : 0 < a / 2). rest-members n (a / 2) j q (omega arith))
  where
    of : (d : ℕ) → a % 2 ≡ d → (k : ℕ) → ((j : ℕ) → 0 < a / 2 → (member (a / 2) j && member (a / 2 - 1) j) ≡ (member (a / 2) j && not (eqb j (count_trailing_zeros n (a / 2)))))
        → (member a k && member (a - 1) k) ≡ (member a k && not (eqb k (under d (count_trailing_zeros n (a / 2)))))
    of zero e zero ih = rw (lowest a ∙ ne_eqb (a % 2) 1 (λ f. omega arith))
    of zero e (suc k) ih =
        let half : (a - 1) / 2 ≡ a / 2 - 1 = omega arith in
        rw (next a k, next (a - 1) k, half, eqb-suc-suc) (ih k (omega arith))
    of (suc d) e zero ih = rw (lowest (a - 1) ∙ ne_eqb ((a - 1) % 2) 1 (λ f. omega arith))
    of (suc d) e (suc k) ih =
        let half : (a - 1) / 2 ≡ a / 2 = omega arith in
        rw (next a k, next (a - 1) k, half, eqb-suc-zero) (and_self (member (a / 2) k) ∙ sym (and-true (member (a / 2) k)))

-- the lowest member's number is one alone
pub lowest-one : (n a r : ℕ) → 0 < a → a < 2 ^ n → member a r ≡ true → ((k : ℕ) → k < r → member a k ≡ false) → r ≡ count_trailing_zeros n a
lowest-one n a r h g inside least = of (ltb r (count_trailing_zeros n a)) refl (ltb (count_trailing_zeros n a) r) refl
  where
    t : ℕ
    t = count_trailing_zeros n a

    no : {x : Bool} → x ≡ true → x ≡ false → ⊥
    no p q = let z : ◌≡◌ {A = ℕ} 0 1 = cc (sym p ∙ q) in absurd (omega arith)

    of : (x : Bool) → ltb r t ≡ x → (y : Bool) → ltb t r ≡ y → r ≡ count_trailing_zeros n a
    of true p y q = absurd (no inside (lowest-least n a r (ltb-true r t p)))
    of false p true q = absurd (no (lowest-inside n a h g) (least t (ltb-true t r q)))
    of false p false q = omega (arith, ltb-false r t p, ltb-false t r q)
