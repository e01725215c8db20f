-- The fields of a cell are small, whatever the words: each fits its place in the number.
-- Assumes nothing.
use mathlib.Core.Bool.{Bool, true, false, cond}
use Prim.Native.Nat.{ℕ, ◌<◌}
use native.Mathlib.Omega.{arith}
use lib.Dec.{eqb}
use Rattle.bits.proofs.BitLaws.{flag_small}
use Rattle.tables.specs.Words.{round_in}
use Rattle.tables.proofs.Bounds.{round-small}
use Rattle.cells.specs.Making.{before_from, last_from, frees_from, order_from, fragment_from, in_p_from, in_q_from, ends_p_from, clock_from, shared_cell}

-- either of two small numbers is small
pub either : (b : Bool) {k x y : ℕ} → x < k → y < k → cond b x y < k
either true p q = p
either false p q = q

pub before_small : (head n : ℕ) → n < round_in head → before_from head n < 16
unfolding before_from
before_small head n h = either (eqb n 0) (omega (arith, round-small head)) (omega (arith, round-small head))

pub shared-small : (head word n : ℕ) → n < round_in head → shared_cell head word n < 4194304
unfolding shared_cell order_from fragment_from clock_from
shared-small head word n h =
    omega (
      arith,
      round-small head,
      before_small head n h,
      flag_small (last_from head n),
      flag_small (frees_from head n),
      flag_small (in_p_from head n),
      flag_small (in_q_from head n),
      flag_small (ends_p_from head n),
    )
