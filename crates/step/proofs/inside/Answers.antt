-- `step::inside` meets its contract: the first test asks of the cell's range, and the others are as in `inside_of`. Assumes nothing.
use mathlib.Core.Path.{◌≡◌, sym, ◌∙◌}
use mathlib.Core.Bool.{Bool}
use Prim.Native.Nat.{ℕ, ◌%◌}
use Rattle.names.specs.Names.{member}
use Rattle.tables.specs.Cells.{index_in}
use Rattle.step.specs.Steps.{inside_of}
use Rattle.step.proofs.Puts.{index_of}
use Rattle.step.proofs.inside.Goals as goal

-- the first test asks of the cell's range
full_is : (cell full : ℕ) {i : ℕ} {holds : Bool} → i ≡ index_in cell → holds ≡ member full (i % 8) → member full (index_in cell) ≡ holds
full_is cell full e h = rw (← index_of cell e) (sym h)

pub returns-then-holds : goal.returns-then-holds
unfolding inside_of
returns-then-holds c = c.ready_as.ensures ∙ rw (full_is _ _ c.index_in-i.ensures c.holds.ensures, c.if-holds.true)

pub returns-then-i-st : goal.returns-then-i-st
unfolding inside_of
returns-then-i-st c =
    c.ready_as-then-i-st.ensures
    ∙ rw (full_is _ _ c.index_in-i.ensures c.holds.ensures, c.if-holds.false, ← c.index_in-i.ensures, ← c.is_shuffled.ensures, c.if-i-st.true)

pub returns-then-holds-2 : goal.returns-then-holds-2
unfolding inside_of
returns-then-holds-2 c =
    c.ready_as-then-holds-2.ensures
    ∙ rw (
      full_is _ _ c.index_in-i.ensures c.holds.ensures,
      c.if-holds.false,
      ← c.index_in-i.ensures,
      ← c.is_shuffled.ensures,
      c.if-i-st.false,
      ← c.holds-2.ensures,
      c.if-holds-2.true,
    )

pub returns : goal.returns
unfolding inside_of
returns c =
    c.ready_as-2.ensures
    ∙ rw (
      c.closed.ensures,
      full_is _ _ c.index_in-i.ensures c.holds.ensures,
      c.if-holds.false,
      ← c.index_in-i.ensures,
      ← c.is_shuffled.ensures,
      c.if-i-st.false,
      ← c.holds-2.ensures,
      c.if-holds-2.false,
    )
