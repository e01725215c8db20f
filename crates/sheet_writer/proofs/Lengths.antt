-- How long each part of a table's bytes is: a range has 5 bytes, a fragment 2 and its ranges, a rule 8 and its fragments, the whole 14 and its rules. No table says more than `most_bytes`.
-- With them the counts.
-- Assumes nothing.
use mathlib.Core.Path.{◌≡◌, refl}
use mathlib.Core.Bool.{Bool, true, false}
use mathlib.Core.List.{List}
use Prim.Native.Nat.{ℕ, zero, suc, ◌+◌, ◌*◌, ◌≤◌, ◌<◌}
use native.Mathlib.Nat.{suc-mul}
use native.Mathlib.Numerals.{add-one}
use native.Mathlib.Omega.{arith}
use lib.Dec.{ltb, eqb}
use lib.ListN.{length, get_or, length-append}
use borrow.Author.Tests.{ltb-true, ltb-false}
use Rattle.tables.specs.Cells.{less_in, head_at}
use Rattle.tables.proofs.Bounds.{cap-small}
use Rattle.tables.proofs.Names.{first-few}
use Rattle.places.specs.Places.{cell_of}
use Rattle.sheet_writer.specs.Parts.{up_to, range_part, fragment_part, fragments_in, fragment_count, rule_part, rule_count, header_part, table_bytes, most_bytes}

-- ---- parts, one after the other

module _ (g : ℕ → List ℕ) where
  -- one part more
  pub up_to-next : (n : ℕ) → length (up_to g (n + 1)) ≡ length (up_to g n) + length (g n)
  up_to-next n = rw add-one (length-append (up_to g n) (g n))

  -- part k and those before it are not longer than n parts
  pub room_of : (k n : ℕ) → k < n → length (up_to g k) + length (g k) ≤ length (up_to g n)
  room_of k zero h = absurd (omega arith)
  room_of k (suc n) h = go (ltb k n) refl (room_of k n)
    where
      go : (b : Bool) → ltb k n ≡ b → (k < n → length (up_to g k) + length (g k) ≤ length (up_to g n)) → length (up_to g k) + length (g k) ≤ length (up_to g (suc n))
      go true e before = omega (arith, length-append (up_to g n) (g n), before (ltb-true k n e))
      go false e before = let same : k ≡ n = omega (arith, ltb-false k n e) in rw same (omega (arith, length-append (up_to g n) (g n)))

  -- n parts of at most so many bytes each
  pub up_to-most : (most n : ℕ) → ((k : ℕ) → k < n → length (g k) ≤ most) → length (up_to g n) ≤ n * most
  up_to-most most zero h = omega arith
  up_to-most most (suc n) h =
      omega (arith, length-append (up_to g n) (g n), up_to-most most n (λ k l. h k (omega arith)), h n (omega arith), suc-mul n most)

-- ---- the counts

pub fragments-few : (head : ℕ) → fragment_count head ≤ 16
unfolding fragment_count
fragments-few head = cap-small 16 (fragments_in head)

pub rules-few : (table : List ℕ) → rule_count table ≤ 16
unfolding rule_count
rules-few table = first-few (λ r. eqb (get_or table (head_at r) 0) 0) 0 16

-- ---- the parts

module _ (table : List ℕ) where
  pub range_length : (r f i : ℕ) → length (range_part table r f i) ≡ 5
  unfolding range_part
  range_length r f i = refl

  pub ranges-length : (r f n : ℕ) → length (up_to (range_part table r f) n) ≡ 5 * n
  ranges-length r f zero = refl
  ranges-length r f (suc n) = omega (arith, length-append (up_to (range_part table r f) n) (range_part table r f n), range_length r f n, ranges-length r f n)

  pub fragment-length : (r f : ℕ) → length (fragment_part table r f) ≡ 7 + 5 * less_in (cell_of table r f 0)
  unfolding fragment_part
  fragment-length r f = omega (arith, ranges-length r f (suc (less_in (cell_of table r f 0))))

  pub fragment-most : (r f : ℕ) → length (fragment_part table r f) ≤ 42
  fragment-most r f = omega (arith, fragment-length r f)

  pub rule-length : (r : ℕ) → length (rule_part table r) ≡ 8 + length (up_to (fragment_part table r) (fragment_count (get_or table (head_at r) 0)))
  unfolding rule_part
  rule-length r = omega arith

  pub rule-most : (r : ℕ) → length (rule_part table r) ≤ 680
  rule-most r =
      let n : ℕ = fragment_count (get_or table (head_at r) 0) in
      omega (arith, rule-length r, up_to-most (fragment_part table r) 42 n (λ f h. fragment-most r f), fragments-few (get_or table (head_at r) 0))

  pub header-length : length (header_part table) ≡ 14
  unfolding header_part
  header-length = refl

  pub table-length : length (table_bytes table) ≡ 14 + length (up_to (rule_part table) (rule_count table))
  unfolding table_bytes header_part
  table-length = omega arith

  pub table-most : length (table_bytes table) ≤ most_bytes
  table-most = omega (arith, table-length, up_to-most (rule_part table) 680 (rule_count table) (λ r h. rule-most r), rules-few table)
