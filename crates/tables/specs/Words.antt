-- The numbers of a book's tables, and what each holds: a rule's eight bytes, a fragment's join and count, a range's name and bounds, little-endian as in the sheet.
-- Assumes nothing.
use Rattle.std.specs.Prelude.{cond, ℕ, ◌+◌, ◌%◌, ltb}
use Rattle.bits.specs.Bits.{part}
use Rattle.layout.specs.Layout.{most_ranges}
use Rattle.layout.specs.Faults.{by_kind}

-- at most so many
abbrev pub cap : ℕ → ℕ → ℕ
cap most n = cond (ltb most n) most n

-- ---- a rule's

abbrev pub kind_in : ℕ → ℕ
kind_in head = part 0 8 head

abbrev pub count_p_in : ℕ → ℕ
count_p_in head = part 8 8 head

abbrev pub count_q_in : ℕ → ℕ
count_q_in head = part 16 8 head

abbrev pub trigger_in : ℕ → ℕ
trigger_in head = part 24 8 head

abbrev pub time_in : ℕ → ℕ
time_in head = part 32 32 head

-- fragments in the round: P's and Q's, or P's and the trigger's; at most 16, whatever the number
unfoldable pub round_in : ℕ → ℕ
round_in head = cap 16 (count_p_in head + by_kind (kind_in head) (count_q_in head) 1)

-- ---- a fragment's

abbrev pub join_in : ℕ → ℕ
join_in word = part 0 8 word

-- ranges in the fragment: at most 8, whatever the number
unfoldable pub count_in : ℕ → ℕ
count_in word = cap most_ranges (part 8 8 word)

-- ---- a range's

-- the byte of a name; and the name's place in a set of names, whatever the number
abbrev pub name_in : ℕ → ℕ
name_in word = part 0 8 word

abbrev pub bit_in : ℕ → ℕ
bit_in word = word % 64

abbrev pub low_in : ℕ → ℕ
low_in word = part 8 16 word

abbrev pub high_in : ℕ → ℕ
high_in word = part 24 16 word
