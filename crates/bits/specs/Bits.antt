-- Bit fields: a word has fields, the lowest first, and each is read off it by the bit at which it begins and by its width.
-- Assumes nothing.
use Rattle.std.specs.Prelude.{Bool, cond, ℕ, ◌+◌, ◌*◌, ◌/◌, ◌%◌, ◌^◌, eqb}

-- the field of a word that begins at bit `at` and has `width` bits
abbrev pub part : ℕ → ℕ → ℕ → ℕ
part at width word = word / 2 ^ at % 2 ^ width

-- its inverse: the word of a lowest field of `width` bits, and of the fields above it
abbrev pub over : ℕ → ℕ → ℕ → ℕ
over width lowest above = lowest + 2 ^ width * above

-- a field of one bit that says yes (1) or no (0), and what the one at bit `at` says
abbrev pub flag : Bool → ℕ
flag b = cond b 1 0

abbrev pub flag_at : ℕ → ℕ → Bool
flag_at at word = eqb (part at 1 word) 1
