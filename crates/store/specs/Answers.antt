-- What a call answers that writes into a slice that is lent: how much it has written, in its own measure, or document 02's number of a refusal. Assumes nothing.
use Rattle.std.specs.Prelude.{ℕ}

pub data Answer : Type 0 where
  written refused : ℕ → Answer
