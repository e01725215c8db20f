-- The table holds the rule: a cell's numbers stand for its range and its fragment's join, and what the code asks of the table of moves is what the model's table says.
-- Assumes nothing.
use mathlib.Core.Path.{◌≡◌, refl, ◌∙◌, ap}
use mathlib.Core.Bool.{Bool, true, false, cond}
use Prim.Native.Nat.{ℕ}
use lib.Dec.{eqb}
use Rattle.pattern.specs.Meaning.{Join, all, any, all_shuffled, any_shuffled, may_be_left_out, Rule}
use Rattle.pattern.specs.Recogniser.{idle, waiting, counting, error, state_number, own, next, has_enough, has_room, move, is_error}
use Rattle.pattern.specs.Model.{fragment_at}
use Rattle.recogniser.specs.Numbers.{join_of, next_state}
use Rattle.layout.specs.Layout.{join_number}
use Rattle.layout.specs.Pages.{range_at}
use Rattle.tables.specs.Cells.{join_of_cell, Cell}
use Rattle.step.specs.Steps.{moved_by, errs_of, closed_state}

-- a join's number is read as the join
join-read : (j : Join) → join_of (join_number j) ≡ j
join-read all = refl
join-read any = refl
join-read all_shuffled = refl
join-read any_shuffled = refl

module _ {rule : Rule} {n i cell : ℕ} (c : Cell rule n i cell) where
  join_is : join_of (join_of_cell cell) ≡ (fragment_at rule n).join
  join_is = ap join_of c.join ∙ join-read (fragment_at rule n).join

  -- *next*, *own*: an error to the range, where it counts
  pub lacks-is : (count : ℕ) → errs_of cell 2 count ≡ is_error (move (fragment_at rule n).join (range_at rule n i) count counting next)
  unfolding next_state
  lacks-is count = rw c.u (look (has_enough (range_at rule n i) count))
    where
      look : (b : Bool) → eqb (state_number (cond b idle error)) 5 ≡ is_error (cond b idle error)
      look true = refl
      look false = refl

  pub full_is : (count : ℕ) → errs_of cell 0 count ≡ is_error (move (fragment_at rule n).join (range_at rule n i) count counting own)
  unfolding next_state
  full_is count = rw c.v (look (has_room (range_at rule n i) count))
    where
      look : (b : Bool) → eqb (state_number (cond b counting error)) 5 ≡ is_error (cond b counting error)
      look true = refl
      look false = refl

  -- *next*: an error to a range that waits
  pub needed-is : (k : ℕ) → eqb (moved_by cell 2 2 0) 5 ≡ is_error (move (fragment_at rule n).join (range_at rule n k) 0 waiting next)
  unfolding next_state
  needed-is k = rw join_is (look (may_be_left_out (fragment_at rule n).join))
    where
      look : (b : Bool) → eqb (state_number (cond b idle error)) 5 ≡ is_error (cond b idle error)
      look true = refl
      look false = refl

-- a range that waits and gets an event of its own counts (3)
pub counts-now : (cell count : ℕ) → moved_by cell 2 0 count ≡ 3
unfolding next_state
counts-now cell count = refl

-- one that counts, has enough and is followed by a sibling in a row is done (4), and takes no more
pub done-now : closed_state ≡ 4
unfolding next_state
done-now = refl

pub done_full : eqb (next_state closed_state 0 0 1 1 1) 5 ≡ true
unfolding next_state
done_full = refl
