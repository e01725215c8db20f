-- The eight states and the eight counts of a fragment before its first event, and the set of its ranges, by a cell. No promise of an exported call cites it.
-- Assumes nothing.
use Rattle.std.specs.Prelude.{List, [], ◌∷◌, ℕ, zero, suc, ◌-◌, ◌*◌, ◌/◌, ◌%◌, ◌^◌, replicate}
use Rattle.tables.specs.Cells.{less_in}

abbrev pub zeros : List ℕ
zeros = replicate 8 0

-- the n bytes of a word, the lowest first
abbrev pub digits : ℕ → ℕ → List ℕ
digits zero w = []
digits (suc n) w = w % 256 ∷ digits n (w / 256)

-- each range of the cell's fragment waits (2), and the states past the last are idle (0)
unfoldable pub waiting_of : ℕ → List ℕ
waiting_of cell = digits 8 (0x0202020202020202 / 2 ^ (56 - 8 * less_in cell))

-- a bit for each range of the cell's fragment
unfoldable pub ranges_of : ℕ → ℕ
ranges_of cell = 255 / 2 ^ (7 - less_in cell)
