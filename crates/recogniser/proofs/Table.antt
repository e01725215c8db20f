-- Two rules of two numbers, compared by one test. What a rule says of each pair below two bounds, row by row, is a list. That the lists of two rules are equal is one test of the whole table, which
-- antt computes; `at` carries it to each entry. Assumes nothing.
use mathlib.Core.Path.{◌≡◌, sym, ap, ◌∙◌}
use mathlib.Core.List.{List, [], ◌∷◌}
use Prim.Native.Nat.{ℕ, zero, suc, ◌+◌, ◌*◌, ◌/◌, ◌%◌, ◌<◌}
use native.Mathlib.Nat.{add-zero, zero-add, add-suc, suc-add, le_of_suc-le-suc}
use native.Mathlib.Omega.{arith}
use lib.Arith.{digits_lt, digits_div, digits_mod}
use lib.ListN.{get_or}

module _ {A : Type 0} where
  -- what a rule says of n places, from i on
  abbrev places : (ℕ → A) → ℕ → ℕ → List A
  places rule i zero = []
  places rule i (suc n) = rule i ∷ places rule (suc i) n

  place_at_lem : (rule : ℕ → A) (n i k : ℕ) (d : A) → k < n → get_or (places rule i n) k d ≡ rule (i + k)
  place_at_lem rule zero i k d h = absurd (omega arith)
  place_at_lem rule (suc n) i zero d h = ap rule (sym (add-zero i))
  place_at_lem rule (suc n) i (suc k) d h = place_at_lem rule n (suc i) k d (le_of_suc-le-suc h) ∙ ap rule (suc-add i k ∙ sym (add-suc i k))

  -- the table of a rule, in rows of so many columns: place k is in row k / columns and column k % columns
  abbrev pub table : (rows columns : ℕ) → (ℕ → ℕ → A) → List A
  table rows columns rule = places (λ k. rule (k / columns) (k % columns)) 0 (rows * columns)

  entry : (rows columns : ℕ) (rule : ℕ → ℕ → A) (a b : ℕ) (d : A) → a < rows → b < columns → get_or (table rows columns rule) (a * columns + b) d ≡ rule a b
  entry rows columns rule a b d h i =
      place_at_lem (λ k. rule (k / columns) (k % columns)) (rows * columns) 0 (a * columns + b) d (digits_lt h i)
      ∙ rw (zero-add (a * columns + b), digits_div a i, digits_mod a i)

  -- rules with the same table say the same at each entry
  pub at : (rows columns : ℕ) (one other : ℕ → ℕ → A) → table rows columns one ≡ table rows columns other → (a b : ℕ) → a < rows → b < columns → one a b ≡ other a b
  at rows columns one other test a b h i =
      let d : A = one 0 0 in
      sym (entry rows columns one a b d h i) ∙ ap (λ (xs : List A). get_or xs (a * columns + b) d) test ∙ entry rows columns other a b d h i
