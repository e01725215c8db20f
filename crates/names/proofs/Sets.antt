-- Sets of names as words, "proved against sets of numbers": what is in the empty set, in a set with one more name and with a list of them; that a 64-bit word holds
-- names alone and stays one; and that two words have no name in common exactly when their `and` is 0. They hold of all words. Assumes nothing.
use mathlib.Core.Path.{◌≡◌, refl, sym, ap, ◌∙◌}
use mathlib.Core.Bool.{Bool, true, false, ◌||◌, ◌&&◌, cond, or_assoc, or-false}
use mathlib.Core.List.{List, [], ◌∷◌}
use Prim.Native.Nat.{ℕ, ◌^◌, ◌≤◌, ◌<◌}
use native.Mathlib.Nat.{lt_of_lt_of_le}
use native.Mathlib.Omega.{arith}
use lib.Pow.{pow-lt, pow_mono, pow_pos}
use lib.Bits.{bit_and, or_lt}
use lib.Dec.{eqb}
use Rattle.pattern.specs.Lists.{is_in}
use Rattle.names.specs.Names.{member, insert, insert_all, is_name, with_name, Disjoint}
use Rattle.names.proofs.Digits.{member-and, member-or, member-past, member-power, member-none}

-- ---- membership

pub member-empty : (k : ℕ) → member 0 k ≡ false
member-empty k = member-past 0 k (pow_pos k)

pub member-insert : (s n k : ℕ) → member (insert s n) k ≡ (member s k || eqb k n)
unfolding insert
member-insert s n k = member-or s (2 ^ n) k ∙ ap (λ (b : Bool). member s k || b) (member-power n k)

pub member-insert_all : (s : ℕ) (ns : List ℕ) (k : ℕ) → member (insert_all s ns) k ≡ (member s k || is_in k ns)
member-insert_all s [] k = sym (or-false (member s k))
member-insert_all s (n ∷ ns) k =
    member-insert_all (insert s n) ns k ∙ ap (λ (b : Bool). b || is_in k ns) (member-insert s n k) ∙ or_assoc (member s k) (eqb k n) (is_in k ns)

-- of a word below 2 ^ w no number from w on is a member: of a 64-bit word, names alone
pub member-beyond : (w s k : ℕ) → s < 2 ^ w → w ≤ k → member s k ≡ false
member-beyond w s k h g = member-past s k (lt_of_lt_of_le h (pow_mono g))

pub member-with_name : (s n k : ℕ) → member (with_name s n) k ≡ (member s k || is_name n && eqb k n)
member-with_name s n k = of (is_name n)
  where
    of : (b : Bool) → member (cond b (insert s n) s) k ≡ (member s k || b && eqb k n)
    of true = member-insert s n k
    of false = sym (or-false (member s k))

-- ---- width

pub insert-below : (w s n : ℕ) → s < 2 ^ w → n < w → insert s n < 2 ^ w
unfolding insert
insert-below w s n h g = or_lt w s (2 ^ n) h (pow-lt g)

-- ---- disjointness

not-both : (a b : Bool) → (a ≡ true → b ≡ true → ⊥) → (a && b) ≡ false
not-both true true h = absurd (h refl refl)
not-both true false h = refl
not-both false b h = refl

pub and-disjoint : (a b : ℕ) → bit_and a b ≡ 0 → Disjoint a b
and-disjoint a b e n p q =
    let neither : (member a n && member b n) ≡ false = sym (member-and a b n) ∙ ap (λ (m : ℕ). member m n) e ∙ member-empty n in
    let z : ◌≡◌ {A = ℕ} 0 1 = cc (rw (p, q) at neither) in omega arith

pub disjoint-and : (a b : ℕ) → Disjoint a b → bit_and a b ≡ 0
disjoint-and a b h = member-none (bit_and a b) (λ k. member-and a b k ∙ not-both (member a k) (member b k) (h k))
