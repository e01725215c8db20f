-- A set of ranges with one put in or out is the definition's: it has the same members, and a set is found by its members.
-- Assumes nothing.
use mathlib.Core.Path.{◌≡◌}
use mathlib.Core.Bool.{Bool, cond}
use Prim.Native.Nat.{ℕ, ◌%◌, ◌<◌}
use native.Mathlib.Omega.{arith}
use lib.Dec.{eqb}
use Rattle.names.specs.Names.{member}
use Rattle.masks.specs.Masks.{Put}
use Rattle.masks.proofs.Members.{mask_is}
use Rattle.tables.specs.Cells.{index_in}
use Rattle.step.specs.Steps.{put_of}

pub put-of : {set i made : ℕ} {on : Bool} → made < 256 → Put set i on made → made ≡ put_of set i on
unfolding put_of
put-of {set} {i} {made} {on} h put = mask_is 8 made (λ k. cond (eqb k i) on (member set k)) h (λ k _. put.members k)

-- a cell's range has a number below 8, so that the remainder by 8 is itself
pub index_of : (cell : ℕ) {i : ℕ} → i ≡ index_in cell → i % 8 ≡ index_in cell
index_of cell e = omega (arith, e)
