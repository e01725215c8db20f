-- What a table's fragments are: lists by their numbers, and, in the table of a sheet's book, the rule's own round.
-- Assumes nothing.
use mathlib.Core.Path.{◌≡◌, refl, sym, ◌∙◌, ap}
use mathlib.Core.Bool.{Bool, true, false, cond, not, ◌&&◌, ◌||◌}
use Prim.Native.Nat.{ℕ, zero, suc, ◌+◌, ◌-◌, ◌%◌, ◌<◌}
use native.Mathlib.Nat.{add-zero}
use native.Mathlib.Omega.{arith}
use lib.Dec.{ltb}
use lib.ListN.{length, get_or}
use lib.Seq.{ext_get_or}
use mathlib.Core.List.{List}
use Rattle.std.specs.Prelude.{Some}
use Rattle.pattern.specs.Meaning.{Range}
use Rattle.layout.specs.Pages.{no_range}
use Rattle.tables.specs.Cells.{first_from}
use Rattle.rule_player.specs.declared.Filling.{Filling}
use Rattle.rule_player.specs.declared.Ranges.{Ranges}
use Rattle.rule_player.specs.Choice.{count_of, room_for, enough_for, range_of, goes_on, may_change, may_come, is_short, first_short, picked, step_by}
use Rattle.rule_player.specs.Said.{listed, range_by, size_by, fragment_by}

-- ---- a list by its numbers

module _ {A : Type 0} (g : ℕ → A) where
  pub length-listed : (k n : ℕ) → length (listed g k n) ≡ n
  length-listed k zero = refl
  length-listed k (suc n) = ap suc (length-listed (suc k) n)

  get_d-listed : (d : A) (k n i : ℕ) → i < n → get_or (listed g k n) i d ≡ g (k + i)
  get_d-listed d k (suc n) zero h = ap g (sym (add-zero k))
  get_d-listed d k (suc n) (suc i) h = get_d-listed d (suc k) n i (omega (arith, h)) ∙ ap g (omega arith)
  get_d-listed d k zero i h = absurd (omega (arith, h))

  pub listed_at : (d : A) (n i : ℕ) → i < n → get_or (listed g 0 n) i d ≡ g i
  listed_at d n i h = let z : 0 + i ≡ i = omega arith in get_d-listed d 0 n i h ∙ ap g z

-- a list of n numbers, each known by its place
pub all-listed : (g : ℕ → ℕ) (l : List ℕ) (n : ℕ) → length l ≡ n → ((k : ℕ) → k < n → get_or l k 0 ≡ g k) → l ≡ listed g 0 n
all-listed g l n e same = ext_get_or 0 l (listed g 0 n) (e ∙ sym (length-listed g 0 n)) (λ k h. let m : k < n = omega (arith, h, e) in same k m ∙ sym (listed_at g 0 n k m))

-- ---- the ranges of a fragment by its cells

module _ (x : Ranges) where
  pub size_is : length (fragment_by x).ranges ≡ size_by x
  size_is = length-listed (range_by x) 0 (size_by x)

  pub range-is : (i : ℕ) → i < size_by x → range_of (fragment_by x) i ≡ range_by x i
  range-is i h = listed_at (range_by x) no_range (size_by x) i h

-- ---- the questions of a filling, asked of the cells

module _ (x : Ranges) (s : Filling) where
  -- the last block
  pub enough-last : (l : ℕ) → l < size_by x → s.last ≡ Some l → enough_for (range_by x l) (count_of s l) ≡ may_change (fragment_by x) s
  enough-last l h e = rw e (ap (λ (r : Range). enough_for r (count_of s l)) (sym (range-is x l h)))

  -- a range's block that goes on
  module _ (i : ℕ) (h : i < size_by x) where
    pub comes-on : goes_on (fragment_by x) s i ≡ true → room_for (range_by x i) (count_of s i) ≡ may_come (fragment_by x) s i
    comes-on t = ap (λ (r : Range). room_for r (count_of s i)) (sym (range-is x i h)) ∙ sym (rw t refl)

  -- ---- the search for the first range that has not enough

  module _ (every : Bool) where
    -- it goes on from range i
    abbrev pub Searching : ℕ → Type 0
    Searching i = first_short (fragment_by x) s every ≡ first_from (is_short (fragment_by x) s every) i (size_by x - i)

    pub searching-start : Searching 0
    searching-start = let e : length (fragment_by x).ranges ≡ size_by x - 0 = omega (arith, size_is x) in ap (first_from (is_short (fragment_by x) s every) 0) e

    abbrev pub short_by : ℕ → Bool
    short_by i = not (enough_for (range_by x i) (count_of s i)) && (every || ltb 0 (count_of s i))

    module _ (i : ℕ) (h : i < size_by x) (before : Searching i) where
      look_at : first_short (fragment_by x) s every ≡ cond (short_by i) i (first_from (is_short (fragment_by x) s every) (suc i) (size_by x - suc i))
      look_at =
          let e : size_by x - i ≡ suc (size_by x - suc i) = omega (arith, h) in
          before ∙ ap (first_from (is_short (fragment_by x) s every) i) e
          ∙ ap (λ (r : Range). cond (not (enough_for r (count_of s i)) && (every || ltb 0 (count_of s i))) i (first_from (is_short (fragment_by x) s every) (suc i) (size_by x - suc i))) (range-is x i h)

      pub searching-found : short_by i ≡ true → i ≡ first_short (fragment_by x) s every
      searching-found t = sym (look_at ∙ rw t refl)

      pub searching-more : short_by i ≡ false → Searching (suc i)
      searching-more t = look_at ∙ rw t refl

  -- ---- one byte

  pub steps-to : (byte n : ℕ) → n ≡ size_by x → step_by (fragment_by x) s byte ≡ picked (fragment_by x) s (byte % (n + 1))
  steps-to byte n e = let z : suc (length (fragment_by x).ranges) ≡ n + 1 = omega (arith, size_is x, e) in ap (λ (m : ℕ). picked (fragment_by x) s (byte % m)) z
