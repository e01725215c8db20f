-- A range's count in sixteen bits. Document 02, change 2: "Counts may stop rising once u is reached", and a session can have 4,294,967,295 events. Here every count stops at 65,535, which no u and no v
-- of a sheet is above: so neither bound is looked at where a count rises, and neither test of a count sees that it has stopped (`same_tests`, `proofs/Counts`).
-- Assumes nothing.
use Rattle.std.specs.Prelude.{ℕ, min}

-- what is stored of a count: a number below 65,535 stands for itself, and 65,535 for every count from there on
unfoldable pub saturated : ℕ → ℕ
saturated count = min count 65535
