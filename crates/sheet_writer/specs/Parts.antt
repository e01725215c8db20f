-- The bytes that a table says, whatever the table: each part of a sheet as it is looked up, by its place. For the table of a sheet's book they are the sheet's own (`own-bytes`).
-- Assumes nothing.
use Rattle.std.specs.Prelude.{List, [], ◌++◌, ℕ, zero, suc, ◌+◌, eqb, get_or}
use Rattle.pattern.specs.Meaning.{Range}
use Rattle.layout.specs.Layout.{le, range_bytes, mark}
use Rattle.tables.specs.Words.{cap, count_p_in, count_q_in}
use Rattle.tables.specs.Cells.{less_in, join_of_cell, least_in, most_in, head_at, version_at, outputs_at, first_from, name_at}
use Rattle.places.specs.Places.{cell_of}

-- what g says of each number below n, one after the other
abbrev pub up_to : (ℕ → List ℕ) → ℕ → List ℕ
up_to g zero = []
up_to g (suc n) = up_to g n ++ g n

-- ---- each field, as it is looked up: in the table, or in the cell of a name

abbrev pub version_field : List ℕ → ℕ
version_field table = get_or table version_at 0

abbrev pub outputs_field : List ℕ → ℕ
outputs_field table = get_or table outputs_at 0

abbrev pub join_field : ℕ → ℕ
join_field cell = join_of_cell cell

abbrev pub least_field : ℕ → ℕ
least_field cell = least_in cell

abbrev pub most_field : ℕ → ℕ
most_field cell = most_in cell

-- ---- a place: range i of fragment f of rule r

-- the range of a name with this cell
abbrev pub range_in : ℕ → ℕ → Range
range_in name cell = record { name = name; u = least_field cell; v = most_field cell }

unfoldable pub range_part : List ℕ → ℕ → ℕ → ℕ → List ℕ
range_part table r f i = range_bytes (range_in (name_at table r f i) (cell_of table r f i))

-- "join .., range count (1 to 8), and each range": a fragment's first range has its join and count
unfoldable pub fragment_part : List ℕ → ℕ → ℕ → List ℕ
fragment_part table r f =
    let first : ℕ = cell_of table r f 0 in
    le 1 (join_field first) ++ (le 1 (suc (less_in first)) ++ up_to (range_part table r f) (suc (less_in first)))

-- "Then the fragments, P's first": those of P and Q. A trigger's fragment is the round's, and no byte of the sheet
abbrev pub fragments_in : ℕ → ℕ
fragments_in head = count_p_in head + count_q_in head

-- at most 16, whatever the number
unfoldable pub fragment_count : ℕ → ℕ
fragment_count head = cap 16 (fragments_in head)

-- "Each rule, 8 bytes", which are its head; then its fragments
unfoldable pub rule_part : List ℕ → ℕ → List ℕ
rule_part table r = le 8 (get_or table (head_at r) 0) ++ up_to (fragment_part table r) (fragment_count (get_or table (head_at r) 0))

-- rules, of at most 16: no rule has the head 0
unfoldable pub rule_count : List ℕ → ℕ
rule_count table = first_from (λ r. eqb (get_or table (head_at r) 0) 0) 0 16

-- "Header, 14 bytes: the mark, version (u16), outputs (u64), rule count (1 to 16)"
unfoldable pub header_part : List ℕ → List ℕ
header_part table = le 3 mark ++ (le 2 (version_field table) ++ (le 8 (outputs_field table) ++ le 1 (rule_count table)))

unfoldable pub table_bytes : List ℕ → List ℕ
table_bytes table = header_part table ++ up_to (rule_part table) (rule_count table)

-- no table says more bytes: 14, and 16 rules of 8 with 16 fragments of 2 with 8 ranges of 5
abbrev pub most_bytes : ℕ
most_bytes = 10894
