-- A rule's cells: for each of its names one number that says all that an event on that name asks of the sheet. It is what observing looks up, in place of the sheet's own tables.
-- Each of its fields has one owner: the order of the rule's fragments, the fragment with its ranges, or the clock.
-- Assumes nothing.
use Rattle.std.specs.Prelude.{◌≡◌, Bool, true, false, cond, not, ◌&&◌, List, ℕ, zero, suc, ◌+◌, ◌-◌, ◌*◌, ◌%◌, ◌<◌, eqb, ltb, length, get_or}
use Rattle.bits.specs.Bits.{part, flag_at}
use Rattle.names.specs.Names.{member}
use Rattle.pattern.specs.Lists.{is_in}
use Rattle.pattern.specs.Meaning.{shuffled, Kind, once, repeated, timed, Rule, names_of}
use Rattle.pattern.specs.Model.{round_of, is_once, fragment_at, is_last, after_p}
use Rattle.layout.specs.Layout.{join_number, time_of}
use Rattle.layout.specs.Pages.{rule_at, range_at}
use Rattle.tables.specs.Words.{time_in}

-- ---- what a cell holds

-- of the order: the fragment of the name's range, the one that it follows, whether it is the last of its round, and whether its event releases the rule
abbrev pub fragment_in : ℕ → ℕ
fragment_in cell = part 0 4 cell

abbrev pub before_in : ℕ → ℕ
before_in cell = part 4 4 cell

abbrev pub last_in : ℕ → Bool
last_in cell = flag_at 8 cell

abbrev pub frees_in : ℕ → Bool
frees_in cell = flag_at 9 cell

-- of the fragment: the range's place in it, its count of ranges less one, its join, and of that the digit that says whether its blocks are shuffled
abbrev pub index_in : ℕ → ℕ
index_in cell = part 10 3 cell

abbrev pub less_in : ℕ → ℕ
less_in cell = part 13 3 cell

abbrev pub join_of_cell : ℕ → ℕ
join_of_cell cell = part 16 2 cell

abbrev pub shuffled_in : ℕ → Bool
shuffled_in cell = flag_at 17 cell

-- of the clock: whether the fragment is in P, whether it is in Q, and whether it is the last of a P that a deadline follows
abbrev pub in_p_in : ℕ → Bool
in_p_in cell = flag_at 19 cell

abbrev pub in_q_in : ℕ → Bool
in_q_in cell = flag_at 20 cell

abbrev pub ends_p_in : ℕ → Bool
ends_p_in cell = flag_at 21 cell

-- the range's u and v, which is 0 where it has no upper end
abbrev pub least_in : ℕ → ℕ
least_in cell = part 32 16 cell

abbrev pub most_in : ℕ → ℕ
most_in cell = part 48 16 cell

-- ---- what a rule says of a fragment of its round

-- its event releases the rule: it is the trigger of kind 0
abbrev pub frees : Rule → ℕ → Bool
frees r n = is_once r.kind && after_p r n

abbrev pub is_timed : Kind → Bool
is_timed (once i) = false
is_timed (repeated i) = false
is_timed (timed q t) = true

abbrev pub is_in_p : Rule → ℕ → Bool
is_in_p r n = not (after_p r n)

-- it is held to the deadline
abbrev pub is_in_q : Rule → ℕ → Bool
is_in_q r n = is_timed r.kind && after_p r n

-- the deadline follows it
abbrev pub ends_p : Rule → ℕ → Bool
ends_p r n = is_timed r.kind && (not (after_p r n) && after_p r (suc n))

-- "the first fragment follows the last"
unfoldable pub preceding : Rule → ℕ → ℕ
preceding r n = cond (eqb n 0) (length (round_of r) - 1) (n - 1)

-- ---- the cells of a rule

-- the cell of range i of fragment n
pub record Cell (r : Rule) (n i cell : ℕ) : Type 0 where
  -- the order's
  pub fragment : fragment_in cell ≡ n
  pub before : before_in cell ≡ preceding r n
  pub last : last_in cell ≡ is_last r n
  pub frees : frees_in cell ≡ frees r n
  -- the fragment's
  pub index : index_in cell ≡ i
  pub less : suc (less_in cell) ≡ length (fragment_at r n).ranges
  pub join : join_of_cell cell ≡ join_number (fragment_at r n).join
  pub shuffled : shuffled_in cell ≡ shuffled (fragment_at r n).join
  pub u : least_in cell ≡ (range_at r n i).u
  pub v : most_in cell ≡ (range_at r n i).v
  -- the clock's
  pub in_p : in_p_in cell ≡ is_in_p r n
  pub in_q : in_q_in cell ≡ is_in_q r n
  pub ends_p : ends_p_in cell ≡ ends_p r n

-- ---- the table of a book: at each name the mask of the rules that hold it; then each rule's head; then each rule's cells, by name; then the version and the outputs

abbrev pub head_at : ℕ → ℕ
head_at r = 64 + r

abbrev pub cell_at : ℕ → ℕ → ℕ
cell_at r name = 80 + 64 * r + name

abbrev pub version_at : ℕ
version_at = 1104

abbrev pub outputs_at : ℕ
outputs_at = 1105

-- so many words
abbrev pub table_length : ℕ
table_length = 1106

-- what the word of a name holds, a mask of rules
abbrev pub mask_in : ℕ → ℕ
mask_in word = word % 65536

-- rule r's t
abbrev pub limit_of : List ℕ → ℕ → ℕ
limit_of table r = time_in (get_or table (head_at r) 0)

-- the table has rule r
pub record HoldsRule (table : List ℕ) (r : ℕ) (rule : Rule) : Type 0 where
  pub limit : limit_of table r ≡ time_of rule.kind
  pub cell : (n i : ℕ) → n < length (round_of rule) → i < length (fragment_at rule n).ranges → Cell rule n i (get_or table (cell_at r (range_at rule n i).name) 0)

-- and all of these; bit r of a name's mask: rule r is there, and holds the name
pub record HoldsRules (table : List ℕ) (rules : List Rule) : Type 0 where
  pub rule : (r : ℕ) → r < length rules → HoldsRule table r (rule_at rules r)
  pub holders : (n r : ℕ) → n < 64 → member (mask_in (get_or table n 0)) r ≡ (ltb r (length rules) && is_in n (names_of (rule_at rules r)))

-- ---- from a place to its name

-- the first number from `at` on of which p is so; past the n that are tried, the next
abbrev pub first_from : (ℕ → Bool) → ℕ → ℕ → ℕ
first_from p at zero = at
first_from p at (suc n) = cond (p at) at (first_from p (suc at) n)

-- rule r holds name n at range i of fragment f
abbrev pub stands_at : List ℕ → ℕ → ℕ → ℕ → ℕ → Bool
stands_at table r f i n =
    let cell : ℕ = get_or table (cell_at r n) 0 in
    member (mask_in (get_or table n 0)) r && (eqb (fragment_in cell) f && eqb (index_in cell) i)

-- the name of range i of fragment f of rule r
unfoldable pub name_at : List ℕ → ℕ → ℕ → ℕ → ℕ
name_at table r f i = first_from (stands_at table r f i) 0 64
