-- The table that is made of a sheet's pages and has all that the sheet says: the rules that hold each name, each rule's head, what each rule says of each of its names, the version and the
-- outputs; and on the way to it the sets of names of each fragment and each rule. They are defined for all pages, those of a sheet or not.
-- Assumes nothing.
use Rattle.std.specs.Prelude.{cond, List, ℕ, zero, suc, ◌+◌, ◌*◌, get_or, set, replicate}
use Rattle.std.specs.Int.Bits.{bit_or}
use Rattle.names.specs.Names.{member, insert}
use Rattle.tables.specs.Words.{cap, round_in, count_in, bit_in}
use Rattle.tables.specs.Cells.{head_at, cell_at, version_at, outputs_at, table_length}
use Rattle.cells.specs.Making.{shared_cell, cell_with}

-- a table, after something was put into it for each number below n
abbrev pub in_turn : (List ℕ → ℕ → List ℕ) → ℕ → List ℕ → List ℕ
in_turn put zero table = table
in_turn put (suc n) table = put (in_turn put n table) n

-- f of each number below n, stored at it
abbrev pub stored : (ℕ → ℕ) → ℕ → List ℕ → List ℕ
stored f = in_turn (λ table n. set table n (f n))

-- ---- the names of a fragment

-- the names of n ranges from an index on
abbrev pub names_from : List ℕ → ℕ → ℕ → ℕ
names_from ranges base zero = 0
names_from ranges base (suc n) = insert (names_from ranges base n) (bit_in (get_or ranges (base + n) 0))

module _ (fragments ranges : List ℕ) where
  -- of fragment k
  unfoldable pub fragment_set : ℕ → ℕ
  fragment_set k = names_from ranges (8 * k) (count_in (get_or fragments k 0))

  unfoldable pub name_table : List ℕ
  name_table = stored fragment_set 256 (replicate 256 0)

-- ---- the rules of a name

-- the names of n fragments from an index on
abbrev pub union_from : List ℕ → ℕ → ℕ → ℕ
union_from names base zero = 0
union_from names base (suc n) = bit_or (union_from names base n) (get_or names (base + n) 0)

module _ (heads names : List ℕ) where
  -- of rule r
  unfoldable pub rule_set : ℕ → ℕ
  rule_set r = union_from names (16 * r) (round_in (get_or heads r 0))

  unfoldable pub rule_table : List ℕ
  rule_table = stored rule_set 16 (replicate 16 0)

-- the mask of those of n sets that have name m
abbrev pub mask_of : List ℕ → ℕ → ℕ → ℕ
mask_of sets m zero = 0
mask_of sets m (suc n) = cond (member (get_or sets n 0) m) (insert (mask_of sets m n) n) (mask_of sets m n)

-- ---- the cells, stored

module _ (ranges : List ℕ) (r k shared : ℕ) where
  -- of range i of fragment k, one of rule r's
  abbrev pub put_cell : List ℕ → ℕ → List ℕ
  put_cell table i = set table (cell_at r (bit_in (get_or ranges (8 * k + i) 0))) (cell_with shared (get_or ranges (8 * k + i) 0) i)

module _ (fragments ranges : List ℕ) (head r : ℕ) where
  -- of fragment n of rule r
  unfoldable pub put_fragment : List ℕ → ℕ → List ℕ
  put_fragment table n =
      let word : ℕ = get_or fragments (16 * r + n) 0 in
      in_turn (put_cell ranges r (16 * r + n) (shared_cell head word n)) (count_in word) table

module _ (heads fragments ranges : List ℕ) where
  -- rule r's head and cells
  unfoldable pub put_rule : List ℕ → ℕ → List ℕ
  put_rule table r =
      let head : ℕ = get_or heads r 0 in
      in_turn (put_fragment fragments ranges head r) (round_in head) (set table (head_at r) head)

  -- with the masks, for so many rules
  unfoldable pub rules_of : ℕ → List ℕ
  rules_of count =
      let sets : List ℕ = rule_table heads (name_table fragments ranges) in
      in_turn put_rule (cap 16 count) (stored (λ m. mask_of sets m (cap 16 count)) 64 (replicate table_length 0))

  -- the whole table
  abbrev pub table_of : (count version outputs : ℕ) → List ℕ
  table_of count version outputs = set (set (rules_of count) version_at version) outputs_at outputs
