-- A table into which something is put for each number in turn: an entry that only one of them writes is what that one puts there, and one that none writes is as it was.
-- Assumes nothing.
use mathlib.Core.Path.{◌≡◌, refl, ◌∙◌}
use mathlib.Core.Bool.{Bool, true, false}
use mathlib.Core.List.{List}
use Prim.Native.Nat.{ℕ, zero, suc, ◌<◌}
use native.Mathlib.Omega.{arith}
use lib.Dec.{eqb}
use lib.ListN.{length, get_or}
use borrow.Author.Tests.{eqb-true, eqb-false}
use Rattle.book.specs.Tables.{in_turn}

module _ (put : List ℕ → ℕ → List ℕ) where
  -- what is put for any number leaves the length
  abbrev pub SameLength : Type 0
  SameLength = (t : List ℕ) (i : ℕ) → length (put t i) ≡ length t

  -- what is put for i leaves entry j
  abbrev pub Leaves : ℕ → ℕ → Type 0
  Leaves i j = (t : List ℕ) → get_or (put t i) j 0 ≡ get_or t j 0

  pub turn-length : SameLength → (n : ℕ) (t : List ℕ) → length (in_turn put n t) ≡ length t
  turn-length same zero t = refl
  turn-length same (suc n) t = same (in_turn put n t) n ∙ turn-length same n t

  pub turn-leaves : (j n : ℕ) → ((i : ℕ) → i < n → Leaves i j) → (t : List ℕ) → get_or (in_turn put n t) j 0 ≡ get_or t j 0
  turn-leaves j zero h t = refl
  turn-leaves j (suc n) h t = h n (omega arith) (in_turn put n t) ∙ turn-leaves j n (λ i l. h i (omega (arith, l))) t

  -- i's entry j is x, in any table of the size
  pub turn_at_lem : SameLength → (size i j x : ℕ) → ((t : List ℕ) → length t ≡ size → get_or (put t i) j 0 ≡ x) → (n : ℕ) → i < n → ((k : ℕ) → k < n → (k ≡ i → ⊥) → Leaves k j)
      → (t : List ℕ) → length t ≡ size → get_or (in_turn put n t) j 0 ≡ x
  turn_at_lem same size i j x here zero l apart t s = absurd (omega (arith, l))
  turn_at_lem same size i j x here (suc n) l apart t s = go (eqb n i) refl (λ l'. turn_at_lem same size i j x here n l' (λ k m. apart k (omega (arith, m))) t s)
    where
      go : (b : Bool) → eqb n i ≡ b → (i < n → get_or (in_turn put n t) j 0 ≡ x) → get_or (put (in_turn put n t) n) j 0 ≡ x
      go true e ih = rw (eqb-true n i e) (here (in_turn put i t) (turn-length same i t ∙ s))
      go false e ih = let ne : n ≡ i → ⊥ = eqb-false n i e in apart n (omega arith) ne (in_turn put n t) ∙ ih (omega (arith, l, ne))
