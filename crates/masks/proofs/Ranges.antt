-- Sets of ranges, words of eight digits: the digit that is put, and a set found by its members. A set without members is 0, and two sets with the same members are one.
-- Assumes nothing.
use mathlib.Core.Path.{◌≡◌, refl, sym, ap, ap₂, ◌∙◌}
use mathlib.Core.Bool.{Bool, true, false, cond, not, ◌&&◌, ◌||◌}
use Prim.Native.Nat.{ℕ, ◌-◌, ◌*◌, ◌%◌, ◌^◌, ◌<◌}
use native.Mathlib.Nat.{mod-eq_of_lt, one-mul, zero-mul}
use native.Mathlib.Omega.{arith}
use lib.Bits.{bit_and, bit_or}
use lib.Dec.{eqb}
use lib.Pow.{pow-lt}
use mir.Val.{bool_byte}
use Rattle.names.specs.Names.{member}
use Rattle.names.proofs.Digits.{member-or, member-power}
use Rattle.names.proofs.Sets.{member-empty}
use Rattle.masks.proofs.Words.{member-without}
use Rattle.masks.proofs.Members.{same-members}

-- ---- the digit that is put

-- the word with digit i alone, if `on` says so
abbrev bit : Bool → ℕ → ℕ
bit on i = (bool_byte on * 2 ^ i) % 256

bit-members : (on : Bool) (i k : ℕ) → i < 8 → member (bit on i) k ≡ (on && eqb k i)
bit-members true i k h = ap (λ (x : ℕ). member x k) (ap (λ (x : ℕ). x % 256) (one-mul (2 ^ i)) ∙ mod-eq_of_lt (pow-lt h)) ∙ member-power i k
bit-members false i k h = ap (λ (x : ℕ). member (x % 256) k) (zero-mul (2 ^ i)) ∙ member-empty k

either : (is on old : Bool) → ((old && not is) || (on && is)) ≡ cond is on old
either true true true = refl
either true true false = refl
either true false true = refl
either true false false = refl
either false true true = refl
either false true false = refl
either false false true = refl
either false false false = refl

module _ (set i : ℕ) (on : Bool) (small : set < 256) (h : i < 8) where
  -- the set without range i
  abbrev rest : ℕ
  rest = bit_and set (255 - bit true i)

  rest-members : (k : ℕ) → member rest k ≡ (member set k && not (eqb k i))
  rest-members k = member-without 8 set (bit true i) k small (omega arith) ∙ ap (λ (b : Bool). member set k && not b) (bit-members true i k h)

  pub put-members : (k : ℕ) → member (bit_or rest (bit on i)) k ≡ cond (eqb k i) on (member set k)
  put-members k = member-or rest (bit on i) k ∙ ap₂ ◌||◌ (rest-members k) (bit-members on i k h) ∙ either (eqb k i) on (member set k)

-- ---- a set found by its members

pub same_set : {s t : ℕ} → s < 256 → t < 256 → ((k : ℕ) → k < 8 → member s k ≡ member t k) → s ≡ t
same_set {s} {t} h g e = same-members 8 s t h g e

pub empty-is : {s : ℕ} → s < 256 → ((k : ℕ) → k < 8 → member s k ≡ false) → s ≡ 0
empty-is h none = same_set h (omega arith) (λ k g. none k g ∙ sym (member-empty k))

pub empty-none : {s : ℕ} → s ≡ 0 → (k : ℕ) → member s k ≡ false
empty-none e k = ap (λ (m : ℕ). member m k) e ∙ member-empty k
