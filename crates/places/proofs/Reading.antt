-- What the code reads at a place: the name that stands there, and, in the table of a rule's cells, the cell of the range there.
-- Assumes nothing.
use mathlib.Core.Path.{◌≡◌}
use mathlib.Core.List.{List}
use Prim.Native.Nat.{ℕ, ◌+◌, ◌*◌, ◌≤◌, ◌<◌}
use lib.ListN.{length, get_or}
use Rattle.pattern.specs.Meaning.{Rule, WellFormed}
use Rattle.pattern.specs.Model.{round_of, fragment_at}
use Rattle.layout.specs.Pages.{rule_at}
use Rattle.tables.specs.Cells.{name_at, Cell, HoldsRules}
use Rattle.tables.proofs.Names.{name-few, name-at}
use Rattle.places.specs.Places.{cell_of, Named}

module _ (table names : List ℕ) (r f i : ℕ) (at : Named table names × (r < 16) × (f < 16) × (i < 8)) where
  pub name-read : get_or names (128 * r + 8 * f + i) 0 ≡ name_at table r f i
  name-read = let (named, hr, hf, hi) = at in named r f i hr hf hi

  pub read-few : get_or names (128 * r + 8 * f + i) 0 ≤ 64
  read-few = rw name-read (name-few table r f i)

-- the cell at a place of a rule is its range's
module _ {table : List ℕ} {rules : List Rule} (holds : HoldsRules table rules) (r : ℕ) (here : r < length rules) (well : WellFormed (rule_at rules r)) where
  pub cell-at : (f i : ℕ) → f < length (round_of (rule_at rules r)) → i < length (fragment_at (rule_at rules r) f).ranges → Cell (rule_at rules r) f i (cell_of table r f i)
  cell-at f i inside within = rw (name-at holds r here well f i inside within) ((holds.rule r here).cell f i inside within)
