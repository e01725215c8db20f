-- The counts that a number of the tables holds are small, whatever the number.
-- Assumes nothing.
use mathlib.Core.Path.{◌≡◌, refl}
use mathlib.Core.Bool.{Bool, true, false, cond}
use Prim.Native.Nat.{ℕ, ◌+◌, ◌≤◌}
use native.Mathlib.Omega.{arith}
use lib.Dec.{ltb}
use borrow.Author.Tests.{le-ltb, ltb-false}
use Rattle.bits.specs.Bits.{part}
use Rattle.layout.specs.Faults.{by_kind}
use Rattle.layout.specs.Layout.{most_ranges}
use Rattle.tables.specs.Words.{cap, kind_in, count_p_in, count_q_in, round_in, count_in}

pub cap-of : (most n : ℕ) → n ≤ most → cap most n ≡ n
cap-of most n h = rw (le-ltb most n h)

pub cap-small : (most n : ℕ) → cap most n ≤ most
cap-small most n = go (ltb most n) refl
  where
    go : (b : Bool) → ltb most n ≡ b → cond b most n ≤ most
    go true e = omega arith
    go false e = ltb-false most n e

pub round-small : (head : ℕ) → round_in head ≤ 16
unfolding round_in
round-small head = cap-small 16 (count_p_in head + by_kind (kind_in head) (count_q_in head) 1)

pub count_small : (word : ℕ) → count_in word ≤ 8
unfolding count_in
count_small word = let h : cap most_ranges (part 8 8 word) ≤ most_ranges = cap-small most_ranges (part 8 8 word) in omega (arith, h)
