-- Where the words of the table stand. What is stored for a rule stands among its own cells and at its own head; and among its cells, where no name occurs twice, each stays as it was stored.
-- Assumes nothing.
use mathlib.Core.Path.{◌≡◌, ◌∙◌}
use mathlib.Core.List.{List}
use Prim.Native.Nat.{ℕ, ◌+◌, ◌*◌, ◌<◌, ◌≤◌}
use native.Mathlib.Nat.{mod-lt, zero-lt-suc}
use native.Mathlib.Omega.{arith}
use lib.ListN.{length, get_or, set, length-set}
use lib.Seq.{get_or-set_same, get_or-set_other}
use Rattle.tables.specs.Words.{round_in, count_in, bit_in}
use Rattle.tables.specs.Cells.{head_at, cell_at, table_length}
use Rattle.cells.specs.Making.{shared_cell, cell_with}
use Rattle.book.specs.Tables.{in_turn, put_cell, put_fragment, put_rule}
use Rattle.book.proofs.Turns.{SameLength, Leaves, turn-length, turn-leaves, turn_at_lem}

-- j is no place of rule r's cells
abbrev Outside : ℕ → ℕ → Type 0
Outside r j = (m : ℕ) → m < 64 → j ≡ cell_at r m → ⊥

bit-small : (word : ℕ) → bit_in word < 64
bit-small word = mod-lt word (zero-lt-suc 63)

module _ (heads fragments ranges : List ℕ) where
  -- the words of fragment n of rule r, and of its range i; the range's name
  abbrev head_of : ℕ → ℕ
  head_of r = get_or heads r 0

  abbrev word_at : ℕ → ℕ → ℕ
  word_at r n = get_or fragments (16 * r + n) 0

  abbrev bounds_at : ℕ → ℕ → ℕ → ℕ
  bounds_at r n i = get_or ranges (8 * (16 * r + n) + i) 0

  -- ---- what is put for one of them

  cell-length : (r k shared : ℕ) → SameLength (put_cell ranges r k shared)
  cell-length r k shared t i = length-set t (cell_at r (bit_in (get_or ranges (8 * k + i) 0))) (cell_with shared (get_or ranges (8 * k + i) 0) i)

  cell-leaves : (r k shared i j : ℕ) → (j ≡ cell_at r (bit_in (get_or ranges (8 * k + i) 0)) → ⊥) → Leaves (put_cell ranges r k shared) i j
  cell-leaves r k shared i j ne t = get_or-set_other t (cell_at r (bit_in (get_or ranges (8 * k + i) 0))) j (cell_with shared (get_or ranges (8 * k + i) 0) i) 0 ne

  module _ (head r : ℕ) where
    fragment-length : SameLength (put_fragment fragments ranges head r)
    unfolding put_fragment
    fragment-length t n = turn-length (put_cell ranges r (16 * r + n) (shared_cell head (word_at r n) n)) (cell-length r (16 * r + n) (shared_cell head (word_at r n) n)) (count_in (word_at r n)) t

    fragment-leaves : (n j : ℕ) → ((i : ℕ) → i < count_in (word_at r n) → j ≡ cell_at r (bit_in (bounds_at r n i)) → ⊥) → Leaves (put_fragment fragments ranges head r) n j
    unfolding put_fragment
    fragment-leaves n j apart =
        turn-leaves (put_cell ranges r (16 * r + n) (shared_cell head (word_at r n) n)) j (count_in (word_at r n)) (λ i l. cell-leaves r (16 * r + n) (shared_cell head (word_at r n) n) i j (apart i l))

    outside-leaves : (n j : ℕ) → Outside r j → Leaves (put_fragment fragments ranges head r) n j
    outside-leaves n j out = fragment-leaves n j (λ i l. out (bit_in (bounds_at r n i)) (bit-small (bounds_at r n i)))

  pub rule-length : SameLength (put_rule heads fragments ranges)
  unfolding put_rule
  rule-length t r =
      turn-length (put_fragment fragments ranges (head_of r) r) (fragment-length (head_of r) r) (round_in (head_of r)) (set t (head_at r) (head_of r))
      ∙ length-set t (head_at r) (head_of r)

  rule-leaves : (r j : ℕ) → Outside r j → (j ≡ head_at r → ⊥) → Leaves (put_rule heads fragments ranges) r j
  unfolding put_rule
  rule-leaves r j out ne t =
      turn-leaves (put_fragment fragments ranges (head_of r) r) j (round_in (head_of r)) (λ n l. outside-leaves (head_of r) r n j out) (set t (head_at r) (head_of r))
      ∙ get_or-set_other t (head_at r) j (head_of r) 0 ne

  -- ---- what is put for a rule, in its own places

  head-put : (r : ℕ) → r < 16 → (t : List ℕ) → length t ≡ table_length → get_or (put_rule heads fragments ranges t r) (head_at r) 0 ≡ head_of r
  unfolding put_rule
  head-put r few t size =
      turn-leaves (put_fragment fragments ranges (head_of r) r) (head_at r) (round_in (head_of r))
      (λ n l. outside-leaves (head_of r) r n (head_at r) (λ m s e. omega (arith, e, few))) (set t (head_at r) (head_of r))
      ∙ get_or-set_same t (head_at r) (head_of r) 0 (omega (arith, size, few))

  -- no two ranges of rule r have the same name
  abbrev pub Once : ℕ → Type 0
  Once r = (m n i j : ℕ) → m < round_in (head_of r) → n < round_in (head_of r) → i < count_in (word_at r m) → j < count_in (word_at r n)
      → bit_in (bounds_at r m i) ≡ bit_in (bounds_at r n j) → (m ≡ n) × (i ≡ j)

  module _ (r : ℕ) (few : r < 16) (once : Once r) (n i : ℕ) (inside : n < round_in (head_of r)) (within : i < count_in (word_at r n)) where
    abbrev place : ℕ
    place = cell_at r (bit_in (bounds_at r n i))

    abbrev cell : ℕ
    cell = cell_with (shared_cell (head_of r) (word_at r n) n) (bounds_at r n i) i

    fragment-put : (t : List ℕ) → length t ≡ table_length → get_or (put_fragment fragments ranges (head_of r) r t n) place 0 ≡ cell
    unfolding put_fragment
    fragment-put =
        let shared : ℕ = shared_cell (head_of r) (word_at r n) n in
        turn_at_lem (put_cell ranges r (16 * r + n) shared) (cell-length r (16 * r + n) shared) table_length i place cell
        (λ t size. get_or-set_same t place cell 0 (omega (arith, size, few, bit-small (bounds_at r n i)))) (count_in (word_at r n)) within
        (λ k l ne. cell-leaves r (16 * r + n) shared k place (λ e. ne (once n n k i inside inside l within (omega (arith, e))).1))

    cell-put : (t : List ℕ) → length t ≡ table_length → get_or (put_rule heads fragments ranges t r) place 0 ≡ cell
    unfolding put_rule
    cell-put t size =
        turn_at_lem (put_fragment fragments ranges (head_of r) r) (fragment-length (head_of r) r) table_length n place cell fragment-put (round_in (head_of r)) inside
        (λ k l ne. fragment-leaves (head_of r) r k place (λ j m e. ne (once k n j i l inside m within (omega (arith, e))).0))
        (set t (head_at r) (head_of r)) (length-set t (head_at r) (head_of r) ∙ size)

  -- ---- the rules' words, when all are stored

  module _ (count : ℕ) (few : count ≤ 16) (t : List ℕ) (size : length t ≡ table_length) where
    abbrev filled : List ℕ
    filled = in_turn (put_rule heads fragments ranges) count t

    pub mask-stays : (m : ℕ) → m < 64 → get_or filled m 0 ≡ get_or t m 0
    mask-stays m h = turn-leaves (put_rule heads fragments ranges) m count (λ r l. rule-leaves r m (λ k s e. omega (arith, h, e)) (λ e. omega (arith, h, e))) t

    pub none-stored : (r : ℕ) → count ≤ r → r < 16 → get_or filled (head_at r) 0 ≡ get_or t (head_at r) 0
    none-stored r h s = turn-leaves (put_rule heads fragments ranges) (head_at r) count (λ k l. rule-leaves k (head_at r) (λ m z e. omega (arith, s, e)) (λ e. omega (arith, l, h, e))) t

    module _ (r : ℕ) (here : r < count) where
      pub head-stored : get_or filled (head_at r) 0 ≡ head_of r
      head-stored =
          turn_at_lem (put_rule heads fragments ranges) rule-length table_length r (head_at r) (head_of r) (head-put r (omega (arith, here, few))) count here
          (λ k l ne. rule-leaves k (head_at r) (λ m s e. omega (arith, e, here, few)) (λ e. ne (omega (arith, e)))) t size

      -- at a name's place stands the cell of its range
      pub cell-at : Once r → (n i : ℕ) → n < round_in (head_of r) → i < count_in (word_at r n)
          → get_or filled (cell_at r (bit_in (bounds_at r n i))) 0 ≡ cell_with (shared_cell (head_of r) (word_at r n) n) (bounds_at r n i) i
      cell-at once n i inside within =
          let small : bit_in (bounds_at r n i) < 64 = bit-small (bounds_at r n i) in
          let low : r < 16 = omega (arith, here, few) in
          turn_at_lem (put_rule heads fragments ranges) rule-length table_length r (cell_at r (bit_in (bounds_at r n i))) (cell_with (shared_cell (head_of r) (word_at r n) n) (bounds_at r n i) i)
          (cell-put r low once n i inside within) count here
          (λ k l ne. rule-leaves k (cell_at r (bit_in (bounds_at r n i))) (λ m s e. ne (omega (arith, small, s, e))) (λ e. omega (arith, l, few, e))) t size
