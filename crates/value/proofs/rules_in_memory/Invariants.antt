-- `value::rules_in_memory` meets its contract. After r turns the first r rules have their states. Assumes nothing.
use Rattle.words.specs.Upto.{map_n}
use Rattle.words.specs.Words.{Clean, nothing_taken}
use Rattle.words.proofs.Laws.{blank}
use Rattle.value.proofs.Sixteen.{given}
use Rattle.value.proofs.rules_in_memory.Given as goal

abbrev pub invariant-loop-r : goal.invariant-loop-r
invariant-loop-r l = Clean l.w (nothing_taken (map_n (given l.rules) 0 l.r blank))
