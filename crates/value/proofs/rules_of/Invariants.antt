-- `value::rules_of` meets its contract. After r turns the first r states are those that the memory holds. Assumes nothing.
use mathlib.Core.Path.{◌≡◌}
use Prim.Native.Nat.{ℕ, ◌<◌}
use lib.ListN.{length, get_or}
use Rattle.words.specs.Words.{no_state, held_by}
use Rattle.value.proofs.rules_of.Given as goal

abbrev pub invariant-loop-r : goal.invariant-loop-r
invariant-loop-r l = (length l.st-items ≡ 16) × ((k : ℕ) → k < l.r → get_or l.st-items k no_state ≡ get_or (held_by l.w).rules k no_state)
