-- From a place to its name and its cell. A table is by names, and a sheet is in file order: the names by their places stand between the two.
-- Assumes nothing.
use Rattle.std.specs.Prelude.{◌≡◌, cond, List, ℕ, ◌+◌, ◌*◌, ◌<◌, length, get_or}
use Rattle.tables.specs.Cells.{cell_at, stands_at, name_at}

-- ---- a place: range i of fragment f of rule r

-- the cell of the name that stands there; where none does, some word of the table
abbrev pub cell_of : List ℕ → ℕ → ℕ → ℕ → ℕ
cell_of table r f i = get_or table (cell_at r (name_at table r f i)) 0

-- ---- the names by their places

abbrev pub place_at : ℕ → ℕ → ℕ → ℕ
place_at r f i = 128 * r + 8 * f + i

-- so many places: 16 rules, of 16 fragments, of 8 ranges
abbrev pub place_count : ℕ
place_count = 2048

-- name n was put where it stands; every other place is as it was
pub record Placed (table : List ℕ) (n : ℕ) (before after : List ℕ) : Type 0 where
  pub size : length after ≡ place_count
  pub place : (r f i : ℕ) → r < 16 → f < 16 → i < 8 → get_or after (place_at r f i) 0 ≡ cond (stands_at table r f i n) n (get_or before (place_at r f i) 0)

-- every place has its name
abbrev pub Named : List ℕ → List ℕ → Type 0
Named table names = (r f i : ℕ) → r < 16 → f < 16 → i < 8 → get_or names (place_at r f i) 0 ≡ name_at table r f i
