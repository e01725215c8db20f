-- `sheet_writer::rule_size` meets its contract. The loop's invariant: the size is that of the first f fragments, 42 bytes each at most. Assumes nothing.
use mathlib.Core.Path.{◌≡◌}
use Prim.Native.Nat.{◌+◌, ◌*◌, ◌≤◌}
use lib.ListN.{length}
use Rattle.sheet_writer.specs.Parts.{up_to, fragment_part}
use Rattle.sheet_writer.proofs.rule_size.Given as goal

abbrev pub invariant-loop-f : goal.invariant-loop-f
invariant-loop-f l = (l.f-end ≤ 16) × (l.size ≡ 8 + length (up_to (fragment_part l.places l.r) l.f)) × (l.size ≤ 8 + 42 * l.f)
