-- A count that stops at 65,535: what is stored follows the count, event by event (`one_more`), and neither test of a count sees the difference for bounds up to 65,535 (`same_tests`), so that no
-- move does (`same_move`).
-- Assumes nothing.
use mathlib.Core.Path.{◌≡◌, refl}
use mathlib.Core.Bool.{Bool, true, false}
use Prim.Native.Nat.{ℕ, suc, ◌+◌, ◌≤◌}
use native.Mathlib.Omega.{arith}
use lib.Dec.{leb, ltb}
use borrow.Author.Tests.{le-leb, lt-leb, lt-ltb, le-ltb, leb-true, leb-false, ltb-true, ltb-false}
use Rattle.pattern.specs.Meaning.{Range, Join}
use Rattle.pattern.specs.Recogniser.{State, Class, has_enough, has_room, move}
use Rattle.recogniser.specs.Counts.{saturated}
use Rattle.recogniser.proofs.Moves.{same-conditions}

pub one_more : (count : ℕ) → saturated (saturated count + 1) ≡ saturated (suc count)
unfolding saturated
one_more count = omega arith

pub saturated-zero : saturated 0 ≡ 0
unfolding saturated
saturated-zero = omega arith

-- a bound up to 65,535 is reached, or passed, by what is stored of a count exactly where the count does so
reached : (u count : ℕ) → u ≤ 65535 → leb u (saturated count) ≡ leb u count
unfolding saturated
reached u count h = look (leb u count) refl
  where
    look : (b : Bool) → leb u count ≡ b → leb u (saturated count) ≡ b
    look true q = let l = leb-true u count q in le-leb u (saturated count) (omega (arith, l, h))
    look false q = let l = leb-false u count q in lt-leb u (saturated count) (omega (arith, l, h))

below : (v count : ℕ) → v ≤ 65535 → ltb (saturated count) v ≡ ltb count v
unfolding saturated
below v count h = look (ltb count v) refl
  where
    look : (b : Bool) → ltb count v ≡ b → ltb (saturated count) v ≡ b
    look true q = let l = ltb-true count v q in lt-ltb (saturated count) v (omega (arith, l, h))
    look false q = let l = ltb-false count v q in le-ltb (saturated count) v (omega (arith, l, h))

module _ (r : Range) (u : r.u ≤ 65535) (v : r.v ≤ 65535) (count : ℕ) where
  -- "can this range take one more", and whether it has enough: neither test sees the difference
  pub same_tests : (has_enough r (saturated count) ≡ has_enough r count) × (has_room r (saturated count) ≡ has_room r count)
  same_tests = (reached r.u count u, rw (below r.v count v))

  -- and a move asks nothing else of a count
  pub same_move : (j : Join) (s : State) (class : Class) → move j r (saturated count) s class ≡ move j r count s class
  same_move j = same-conditions j j r r (saturated count) count same_tests.1 same_tests.0 refl refl
