-- What time adds to a rule, in numbers, for every cell and every time: document 01's deadline is t after the end of P. Which fragments are of P and which of Q, a cell says (`specs/Cells` of the
-- crate `tables`). For the cells of a rule it is the crate `pattern`'s model (`proofs/Links` of the crate `step`). No promise of an exported call cites it.
-- Assumes nothing.
use Rattle.std.specs.Prelude.{Bool, cond, ◌&&◌, ℕ, ◌+◌, ltb}
use Rattle.tables.specs.Cells.{in_p_in, in_q_in}

-- after the deadline
abbrev pub overdue_of : ℕ → ℕ → ℕ → Bool
overdue_of limit end now = ltb (end + limit) now

-- an event of Q after it
unfoldable pub late_of : ℕ → ℕ → ℕ → ℕ → Bool
late_of cell limit end now = in_q_in cell && overdue_of limit end now

-- the end of P after an event
unfoldable pub end_of : ℕ → ℕ → ℕ → ℕ
end_of cell end now = cond (in_p_in cell) now end
