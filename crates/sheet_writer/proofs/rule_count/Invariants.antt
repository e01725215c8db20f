-- `sheet_writer::rule_count` meets its contract. The loop's invariant: the first rule that is not there is the first one from r on. Assumes nothing.
use mathlib.Core.Path.{◌≡◌}
use Prim.Native.Nat.{ℕ, ◌+◌}
use lib.Dec.{eqb}
use lib.ListN.{get_or}
use Rattle.tables.specs.Cells.{head_at, first_from}
use Rattle.sheet_writer.specs.Parts.{rule_count}
use Rattle.sheet_writer.proofs.rule_count.Given as goal

abbrev pub invariant-loop-r : goal.invariant-loop-r
invariant-loop-r l = (n : ℕ) → l.r + n ≡ 16 → rule_count l.table ≡ first_from (λ k. eqb (get_or l.table (head_at k) 0) 0) l.r n
