-- `words::end_of` meets its contract: the end time of P stands four bytes into the rule's. Assumes nothing.
use mathlib.Core.Path.{sym, ap, ◌∙◌}
use Prim.Native.Nat.{◌%◌}
use native.Mathlib.Omega.{arith}
use Rattle.rule_state.specs.declared.RuleState.{RuleState}
use Rattle.words.specs.Words.{state_in}
use Rattle.words.proofs.Laws.{rule-at}
use Rattle.words.proofs.end_of.Goals as goal

pub returns : goal.returns
unfolding state_in
returns c = c.get32.ensures ∙ ap (λ (st : RuleState). st.end) (sym (rule-at c.args.m.now (c.args.r % 16) (omega arith)))
