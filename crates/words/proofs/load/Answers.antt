-- `words::load` meets its contract: the rule's bytes hold its state. Assumes nothing.
use mathlib.Core.Path.{sym, ◌∙◌}
use Prim.Native.Nat.{◌%◌}
use native.Mathlib.Omega.{arith}
use Rattle.words.specs.Words.{rule_offset}
use Rattle.words.proofs.Bytes.{bytes-from}
use Rattle.words.proofs.Laws.{rule-at, state-of}
use Rattle.words.proofs.load.Goals as goal

pub returns : goal.returns
returns c =
    let a = c.args in
    state-of a.m.now (rule_offset (a.r % 16)) (c.bytes_at.ensures ∙ bytes-from a.m.now 8 _ (omega (arith, c.told-m))) c.counts_at.ensures c.get32.ensures
    ∙ sym (rule-at a.m.now (a.r % 16) (omega arith))
