-- `rules::all_waited` meets its contract. The loop's invariant is `Noting`: the masks speak of the rules seen, and the iterator holds those that are left. Assumes nothing.
use mathlib.Core.List.{List}
use Prim.Native.Nat.{ℕ}
use lib.ListN.{get_or}
use Rattle.step.specs.declared.Standing.{Standing}
use Rattle.words.specs.Words.{no_state, held_by}
use Rattle.rules.specs.Pass.{waited_of}
use Rattle.rules.proofs.Passing.{Noting}
use Rattle.rules.proofs.all_waited.Given as goal

abbrev pub stands : (table bytes : List ℕ) (time k : ℕ) → Standing
stands table bytes time k = (waited_of table k (get_or (held_by bytes).rules k no_state) time).standing

abbrev pub invariant-loop-r : goal.invariant-loop-r
invariant-loop-r l = Noting 0 l.who (stands l.table l.m l.time) l.r-iterator.0 l.all
