-- A loop over a small array: each of the first n elements changed by its place.
-- Assumes nothing.
use Rattle.std.specs.Prelude.{◌≡◌, refl, List, [], ◌∷◌, ℕ, zero, suc, ◌+◌, ◌<◌, length, get_or, set}
use Rattle.std.proofs.Common.{sym, ◌∙◌, ap, add-zero, zero-add, add-suc, suc-add, le_of_suc-le-suc, not-suc-le-zero, add-one}

module _ {A : Type 0} where
  -- the n elements from number k on, each changed by f of its number
  abbrev pub map_n : (ℕ → A → A) → ℕ → ℕ → List A → List A
  map_n f k zero l = l
  map_n f k (suc n) [] = []
  map_n f k (suc n) (x ∷ l) = f k x ∷ map_n f (suc k) n l

  set-map_n : (f : ℕ → A → A) (k n : ℕ) (l : List A) (d : A) → n < length l → set (map_n f k n l) n (f (k + n) (get_or l n d)) ≡ map_n f k (suc n) l
  set-map_n f k n [] d h = absurd (not-suc-le-zero h)
  set-map_n f k zero (x ∷ l) d h = ap (λ (i : ℕ). f i x ∷ l) (add-zero k)
  set-map_n f k (suc n) (x ∷ l) d h =
      ap (λ (i : ℕ). f k x ∷ set (map_n f (suc k) n l) n (f i (get_or l n d))) (add-suc k n ∙ sym (suc-add k n))
      ∙ ap (λ (t : List A). f k x ∷ t) (set-map_n f (suc k) n l d (le_of_suc-le-suc h))

  -- one turn of the loop
  pub map_n-more : (f : ℕ → A → A) (n : ℕ) (l : List A) (d : A) → n < length l → set (map_n f 0 n l) n (f n (get_or l n d)) ≡ map_n f 0 (n + 1) l
  map_n-more f n l d h =
      ap (λ (i : ℕ). set (map_n f 0 n l) n (f i (get_or l n d))) (sym (zero-add n)) ∙ set-map_n f 0 n l d h
      ∙ ap (λ (i : ℕ). map_n f 0 i l) (sym (add-one n))

  pub length-map_n : (f : ℕ → A → A) (k n : ℕ) (l : List A) → length (map_n f k n l) ≡ length l
  length-map_n f k zero l = refl
  length-map_n f k (suc n) [] = refl
  length-map_n f k (suc n) (x ∷ l) = ap suc (length-map_n f (suc k) n l)
