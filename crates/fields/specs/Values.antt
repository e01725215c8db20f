-- What the code shows of a field that it read.
-- Assumes nothing.
use Rattle.std.specs.Prelude.{◌≡◌, ℕ, ◌^◌, ◌<◌}
use Rattle.pattern.specs.Meaning.{Between}

-- a field's value, of n bytes
abbrev pub Value : ℕ → ℕ → ℕ → Type 0
Value n value v = (value ≡ v) × (v < 256 ^ n)

-- a number from first to last
abbrev pub Within : ℕ → ℕ → ℕ → ℕ → Type 0
Within first last value v = (value ≡ v) × Between first last v
