-- `opening::unstarted` meets its contract. After r turns the first r rules are fresh, and nothing else is held. Assumes nothing.
use Rattle.std.proofs.Common.{ℕ}
use Rattle.rule_state.specs.declared.RuleState.{RuleState}
use Rattle.words.specs.Upto.{map_n}
use Rattle.words.specs.Words.{Clean, nothing_taken}
use Rattle.words.proofs.Laws.{blank}
use Rattle.opening.specs.Fresh.{fresh_state}
use Rattle.opening.proofs.unstarted.Given as goal

abbrev pub anew : ℕ → RuleState → RuleState
anew r st = fresh_state

abbrev pub invariant-loop-r : goal.invariant-loop-r
invariant-loop-r l = Clean l.m (nothing_taken (map_n anew 0 l.r blank))
