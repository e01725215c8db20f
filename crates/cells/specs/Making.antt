-- The cells of a rule, each made of the rule's head and the words of a fragment and of a range. They are defined for all numbers, those of a sheet or not.
-- Assumes nothing.
use Rattle.std.specs.Prelude.{Bool, cond, not, ◌&&◌, ℕ, suc, ◌+◌, ◌-◌, ◌*◌, ◌%◌, ◌^◌, eqb, leb}
use Rattle.bits.specs.Bits.{over, flag}
use Rattle.tables.specs.Words.{kind_in, count_p_in, round_in, join_in, count_in, low_in, high_in}

-- what the head says of fragment n of the round: it comes after P
abbrev pub after_from : ℕ → ℕ → Bool
after_from head n = leb (count_p_in head) n

-- ---- of the order

-- the fragment that it follows
unfoldable pub before_from : ℕ → ℕ → ℕ
before_from head n = cond (eqb n 0) (round_in head - 1) (n - 1)

abbrev pub last_from : ℕ → ℕ → Bool
last_from head n = leb (round_in head) (suc n)

abbrev pub frees_from : ℕ → ℕ → Bool
frees_from head n = eqb (kind_in head) 0 && after_from head n

unfoldable pub order_from : ℕ → ℕ → ℕ
order_from head n = over 4 n (over 4 (before_from head n) (over 1 (flag (last_from head n)) (flag (frees_from head n))))

-- ---- of the fragment

-- one less than the count of its ranges, modulo 8
abbrev pub less_from : ℕ → ℕ
less_from word = (count_in word + 7) % 8

-- without the number of a range; the bit above the join is free
unfoldable pub fragment_from : ℕ → ℕ
fragment_from word = over 3 0 (over 3 (less_from word) (join_in word % 4))

-- ---- of the clock

abbrev pub in_p_from : ℕ → ℕ → Bool
in_p_from head n = not (after_from head n)

abbrev pub in_q_from : ℕ → ℕ → Bool
in_q_from head n = eqb (kind_in head) 2 && after_from head n

abbrev pub ends_p_from : ℕ → ℕ → Bool
ends_p_from head n = eqb (kind_in head) 2 && (not (after_from head n) && after_from head (suc n))

unfoldable pub clock_from : ℕ → ℕ → ℕ
clock_from head n = over 1 (flag (in_p_from head n)) (over 1 (flag (in_q_from head n)) (flag (ends_p_from head n)))

-- ---- the cell

-- what the cells of a fragment's ranges share
unfoldable pub shared_cell : ℕ → ℕ → ℕ → ℕ
shared_cell head word n = over 10 (order_from head n) (over 9 (fragment_from word) (clock_from head n))

-- with range i's own: its number, u and v
unfoldable pub cell_with : ℕ → ℕ → ℕ → ℕ
cell_with shared word i = shared + 2 ^ 10 * i + 2 ^ 32 * over 16 (low_in word) (high_in word)
