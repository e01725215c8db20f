-- An answer as one number, its lowest eight bits first: answer (0 whole, 1 open, 2 broken, 3 refused), refusal number or 0, mask (16 bits), place (32 bits).
-- Assumes nothing.
use Rattle.std.specs.Prelude.{ℕ}
use Rattle.bits.specs.Bits.{over}
use Rattle.pattern.specs.Values.{Values}

abbrev pub word_of : Values → ℕ
word_of v = over 8 v.answer (over 8 v.refusal (over 16 v.mask v.place))
