-- What the states before a fragment's first event and the set of its ranges say, place by place.
-- Assumes nothing.
use mathlib.Core.Path.{◌≡◌, refl}
use mathlib.Core.Bool.{cond}
use Prim.Native.Nat.{ℕ, ◌-◌, ◌*◌, ◌/◌, ◌^◌, ◌<◌}
use native.Mathlib.Omega.{arith}
use lib.Dec.{leb}
use lib.ListN.{length, get_or}
use Rattle.names.specs.Names.{member}
use Rattle.recogniser.proofs.Table.{at}
use Rattle.tables.specs.Cells.{less_in}
use Rattle.fragment.specs.Fragments.{digits, waiting_of, ranges_of}

-- ---- the states before the first event

pub waiting-length : (cell : ℕ) → length (waiting_of cell) ≡ 8
unfolding waiting_of
waiting-length cell = refl

pub waiting-at : (cell k : ℕ) → k < 8 → get_or (waiting_of cell) k 0 ≡ cond (leb k (less_in cell)) 2 0
unfolding waiting_of
waiting-at cell k h = at 8 8 (λ less k. get_or (digits 8 (0x0202020202020202 / 2 ^ (56 - 8 * less))) k 0) (λ less k. cond (leb k less) 2 0) refl (less_in cell) k (omega arith) h

-- ---- the set of the ranges

pub ranges-at : (cell k : ℕ) → k < 8 → member (ranges_of cell) k ≡ leb k (less_in cell)
unfolding ranges_of member
ranges-at cell k h = at 8 8 (λ less k. member (255 / 2 ^ (7 - less)) k) (λ less k. leb k less) refl (less_in cell) k (omega arith) h
