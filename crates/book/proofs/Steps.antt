-- One turn of each loop that makes a table: what is made of i of them, and one more, is what is made of i + 1; and when there are no more, all is made.
-- Assumes nothing.
use mathlib.Core.Path.{◌≡◌, refl, ap, sym, ◌∙◌}
use mathlib.Core.Bool.{cond}
use mathlib.Core.List.{List}
use Prim.Native.Nat.{ℕ, zero, suc, ◌+◌, ◌*◌, ◌<◌, ◌≤◌, ◌^◌}
use native.Mathlib.Nat.{mod-lt, zero-lt-suc}
use native.Mathlib.Numerals.{add-one}
use native.Mathlib.Omega.{arith}
use lib.Bits.{bit_or}
use lib.ListN.{length, get_or, set, take, drop, replicate, length-drop}
use lib.Seq.{get_or-drop}
use native.Mathlib.Nat.{add-zero, zero-add}
use Rattle.std.specs.Array.{IsFromFnResult, IsFromFnResultFrom}
use Rattle.std.specs.Fn.{Called}
use denote.Param.Members.{Mut}
use Rattle.std.proofs.lemmas.List.FromFn.{fill_by_all}
use Rattle.std.proofs.lemmas.List.{length-replicate}
use Rattle.book.proofs.SetLaws.{stored-length, stored_at}
use Rattle.std.specs.List.{fold}
use Rattle.std.proofs.lemmas.List.Sums.{fold_more}
use Rattle.names.specs.Names.{member, insert, with_name}
use Rattle.names.proofs.Sets.{insert-below}
use Rattle.layout.proofs.Values.{with-name}
use Rattle.tables.specs.Words.{bit_in}
use Rattle.tables.specs.Cells.{cell_at}
use Rattle.cells.specs.Making.{cell_with}
use Rattle.cells.proofs.CellBounds.{either}
use Rattle.book.specs.Tables.{stored, in_turn, names_from, union_from, mask_of, put_cell}

-- a loop that has passed n has made what n make
pub all_made : {A : Type 0} (f : ℕ → A) {i n : ℕ} {x : A} → i ≤ n → n ≤ i → x ≡ f i → x ≡ f n
all_made f {i} {n} l h e = let q : i ≡ n = omega arith in e ∙ ap f q

pub turn_more : (put : List ℕ → ℕ → List ℕ) (t : List ℕ) (i : ℕ) {table table' : List ℕ} → table ≡ in_turn put i t → table' ≡ put table i → table' ≡ in_turn put (i + 1) t
turn_more put t i e e' = e' ∙ rw (add-one, e)

pub cell-more : (ranges : List ℕ) (r k shared : ℕ) (t : List ℕ) (i : ℕ) {table : List ℕ} {bit cell : ℕ} → table ≡ in_turn (put_cell ranges r k shared) i t
    → bit ≡ bit_in (get_or ranges (8 * k + i) 0) → cell ≡ cell_with shared (get_or ranges (8 * k + i) 0) i → set table (cell_at r bit) cell ≡ in_turn (put_cell ranges r k shared) (i + 1) t
cell-more ranges r k shared t i e eb ec = turn_more (put_cell ranges r k shared) t i e (rw (eb, ec))

pub stored_more : (f : ℕ → ℕ) (t : List ℕ) (i : ℕ) {table : List ℕ} {x : ℕ} → table ≡ stored f i t → x ≡ f i → set table i x ≡ stored f (i + 1) t
stored_more f t i e ex = rw (add-one, e, ex)

pub names_more : (ranges : List ℕ) (base i : ℕ) {names n x : ℕ} → names ≡ names_from ranges base i → n ≡ bit_in (get_or ranges (base + i) 0) → x ≡ with_name names n
    → x ≡ names_from ranges base (i + 1)
names_more ranges base i {names} {n} e en ex =
    let small : n ≤ 63 = omega (arith, en, mod-lt (get_or ranges (base + i) 0) (zero-lt-suc 63)) in
    ex ∙ with-name names n small ∙ rw (add-one, e, en)

pub union_more : (names : List ℕ) (base i : ℕ) {set : ℕ} → set ≡ union_from names base i → bit_or set (get_or names (base + i) 0) ≡ union_from names base (i + 1)
union_more names base i e = rw (add-one, e)

-- what is made of n numbers of a list, from an index on, one after the other, is the fold over that piece
pub folded : (f : ℕ → ℕ → ℕ) (made : ℕ → ℕ) (xs : List ℕ) (base : ℕ) → made 0 ≡ 0 → ((n : ℕ) → made (suc n) ≡ f (made n) (get_or xs (base + n) 0))
    → (n : ℕ) → base + n ≤ length xs → made n ≡ fold f 0 (take n (drop base xs))
folded f made xs base none more zero h = none
folded f made xs base none more (suc n) h =
    let piece : List ℕ = drop base xs in
    let within : n < length piece = omega (arith, length-drop {A = ℕ}) in
    more n
    ∙ (rw (folded f made xs base none more n (omega arith), ← get_or-drop base xs n 0) (sym (fold_more f 0 piece n 0 within))
    ∙ ap (λ (k : ℕ). fold f 0 (take k piece)) (add-one n))

-- the names of ranges
pub names-folded : (ranges : List ℕ) (base n : ℕ) → base + n ≤ length ranges → names_from ranges base n ≡ fold (λ set word. with_name set (bit_in word)) 0 (take n (drop base ranges))
names-folded ranges base =
    folded (λ set word. with_name set (bit_in word)) (names_from ranges base) ranges base refl
    (λ n. sym (with-name (names_from ranges base n) _ (omega (arith, mod-lt (get_or ranges (base + n) 0) (zero-lt-suc 63)))))

-- the names of fragments
pub union-folded : (names : List ℕ) (base n : ℕ) → base + n ≤ length names → union_from names base n ≡ fold bit_or 0 (take n (drop base names))
union-folded names base = folded bit_or (union_from names base) names base refl (λ n. refl)

-- an array of what a function that keeps its state gives at each index
module _ {F : Type 0} (g : Mut F (ℕ × Unit {0}) ℕ) (f : F) (h : ℕ → ℕ) (ys : List ℕ) (gives : (i y : ℕ) (q : F) → Called g f (i, tt) y q → (q ≡ f) × (y ≡ h i)) where
  each-at : (n i : ℕ) → IsFromFnResultFrom g f ys i n → (k : ℕ) → k < n → get_or ys (i + k) 0 ≡ h (i + k)
  each-at zero i r k l = absurd (omega (arith, l))
  each-at (suc n) i (q, y, at, called, rest) zero l = rw add-zero (at.1 0 ∙ (gives i y q called).1)
  each-at (suc n) i (q, y, at, called, rest) (suc k) l =
      let e : i + suc k ≡ i + 1 + k = omega arith in
      let same : q ≡ f = (gives i y q called).0 in
      rw e (each-at n (i + 1) (rw same at rest) k (omega (arith, l)))

  pub array-stored : (n : ℕ) → IsFromFnResult g f ys n → ys ≡ stored h n (replicate n 0)
  array-stored n r =
      let t : List ℕ = stored h n (replicate n 0) in
      let long : length (replicate n 0) ≡ n = length-replicate n 0 in
      fill_by_all h ys n 0 r.long (λ k l. simp zero-add at (each-at n 0 r.each k l))
      ∙ sym (fill_by_all h t n 0 (stored-length h n _ ∙ long) (λ k l. stored_at h n _ k l (omega (arith, long))))

pub mask-more : (sets : List ℕ) (m i : ℕ) {mask x : ℕ} → mask ≡ mask_of sets m i → x ≡ cond (member (get_or sets i 0) m) (insert mask i) mask → x ≡ mask_of sets m (i + 1)
mask-more sets m i e ex = rw (add-one, ← e) ex

-- ---- bounds

pub mask_below : (sets : List ℕ) (m n : ℕ) → n ≤ 16 → mask_of sets m n < 2 ^ 16
mask_below sets m zero h = omega arith
mask_below sets m (suc n) h =
    let l : mask_of sets m n < 2 ^ 16 = mask_below sets m n (omega (arith, h)) in
    either (member (get_or sets n 0) m) (insert-below 16 (mask_of sets m n) n l (omega (arith, h))) l
