-- A monitor that has taken nothing. It is the same for every book: of a rule to which nothing has come the first state is 1, and its first event begins a fragment whatever the rest is.
-- Assumes nothing.
use Rattle.std.specs.Prelude.{◌∷◌, replicate}
use Rattle.rule_state.specs.declared.RuleState.{RuleState}
use Rattle.words.specs.Words.{Held, nothing_taken}

-- "1 fragment not begun"
abbrev pub fresh_state : RuleState
fresh_state = record { fragment = 0; current = 0; states = 1 ∷ replicate 7 0; counts = replicate 8 0; lacking = 0; full = 0; end = 0 }

unfoldable pub fresh_held : Held
fresh_held = nothing_taken (replicate 16 fresh_state)
