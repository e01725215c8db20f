-- `sheet_writer::size` meets its contract. The loop's invariant: the size is that of the header and the first r rules, 680 bytes each at most. Assumes nothing.
use mathlib.Core.Path.{◌≡◌}
use Prim.Native.Nat.{◌+◌, ◌*◌, ◌≤◌}
use lib.ListN.{length}
use Rattle.sheet_writer.specs.Parts.{up_to, rule_part}
use Rattle.sheet_writer.proofs.size.Given as goal

abbrev pub invariant-loop-r : goal.invariant-loop-r
invariant-loop-r l = (l.r-end ≤ 16) × (l.size ≡ 14 + length (up_to (rule_part l.places) l.r)) × (l.size ≤ 14 + 680 * l.r)
