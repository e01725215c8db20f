-- `rule_player::Ranges::at` meets its contract. The loop's invariant: below i the names and the cells are those of the places. Assumes nothing.
use mathlib.Core.Path.{◌≡◌}
use Prim.Native.Nat.{ℕ, ◌<◌}
use lib.ListN.{length, get_or}
use Rattle.tables.specs.Cells.{name_at}
use Rattle.places.specs.Places.{cell_of}
use Rattle.rule_player.proofs.Ranges.at.Given as goal

abbrev pub invariant-loop-i : goal.invariant-loop-i
invariant-loop-i l =
    (length l.names ≡ 8) × (length l.cells ≡ 8) × ((k : ℕ) → k < l.i → get_or l.names k 0 ≡ name_at l.places l.r l.f k)
    × ((k : ℕ) → k < l.i → get_or l.cells k 0 ≡ cell_of l.places l.r l.f k)
