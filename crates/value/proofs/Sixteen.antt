-- Sixteen states that are taken over one by one, into memory or out of it: after r turns the first r stand there, and after sixteen all. Assumes nothing.
use mathlib.Core.Path.{◌≡◌, sym, ap, ◌∙◌}
use mathlib.Core.List.{List}
use Prim.Native.Nat.{ℕ}
use native.Mathlib.Omega.{arith}
use lib.ListN.{length, get_or}
use lib.Seq.{ext_get_or}
use Rattle.rule_state.specs.declared.RuleState.{RuleState}
use Rattle.words.specs.Upto.{map_n, length-map_n}
use Rattle.words.specs.Words.{no_state}
use Rattle.words.proofs.Laws.{blank}
use Rattle.words.proofs.Places.{get_d-map_n}

abbrev pub given : List RuleState → ℕ → RuleState → RuleState
given rules r st = get_or rules r no_state

pub all-given : (rules : List RuleState) → length rules ≡ 16 → map_n (given rules) 0 16 blank ≡ rules
all-given rules l =
    ext_get_or no_state _ _ (length-map_n (given rules) 0 16 blank ∙ sym l)
    (λ r h. get_d-map_n (given rules) no_state 0 16 blank r (omega (arith, h, length-map_n (given rules) 0 16 blank)) (omega arith) ∙ ap (λ (i : ℕ). get_or rules i no_state) (omega arith))
