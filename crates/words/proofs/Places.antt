-- A list whose elements are changed each by its place: the change only matters at the places there are, and one element more can be changed at any place.
-- Assumes nothing.
use mathlib.Core.Path.{◌≡◌, refl, sym, ap, ap₂, ◌∙◌}
use mathlib.Core.List.{List, [], ◌∷◌}
use Prim.Native.Nat.{ℕ, zero, suc, ◌+◌, ◌<◌, ◌≤◌}
use native.Mathlib.Nat.{add-zero, zero-add, not-suc-le-zero}
use native.Mathlib.Omega.{arith}
use lib.ListN.{length, get_or, set}
use Rattle.words.specs.Upto.{map_n}

module _ {A : Type 0} where
  -- two changes that do the same at the n places from k on
  pub map_n-within : (f g : ℕ → A → A) (k n : ℕ) (l : List A) → ((i : ℕ) (x : A) → k ≤ i → i < k + n → f i x ≡ g i x) → map_n f k n l ≡ map_n g k n l
  map_n-within f g k zero l e = refl
  map_n-within f g k (suc n) [] e = refl
  map_n-within f g k (suc n) (x ∷ l) e =
      ap₂ (λ (y : A) (t : List A). y ∷ t) (e k x (omega arith) (omega arith)) (map_n-within f g (suc k) n l (λ i y h g. e i y (omega arith) (omega arith)))

  -- the same at every place from k on
  pub map_n-alike : (f g : ℕ → A → A) (k n : ℕ) (l : List A) → ((i : ℕ) (x : A) → k ≤ i → f i x ≡ g i x) → map_n f k n l ≡ map_n g k n l
  map_n-alike f g k n l e = map_n-within f g k n l (λ i x h m. e i x h)

  pub get_d-map_n : (f : ℕ → A → A) (d : A) (k n : ℕ) (l : List A) (i : ℕ) → i < n → n ≤ length l → get_or (map_n f k n l) i d ≡ f (k + i) (get_or l i d)
  get_d-map_n f d k zero l i h w = absurd (not-suc-le-zero h)
  get_d-map_n f d k (suc n) [] i h w = absurd (not-suc-le-zero w)
  get_d-map_n f d k (suc n) (x ∷ l) zero h w = ap (λ (j : ℕ). f j x) (omega arith)
  get_d-map_n f d k (suc n) (x ∷ l) (suc i) h w = get_d-map_n f d (suc k) n l i (omega arith) (omega arith) ∙ ap (λ (j : ℕ). f j (get_or l i d)) (omega arith)

  -- a change that does nothing
  pub map_n-same : (f : ℕ → A → A) (k n : ℕ) (l : List A) → ((i : ℕ) (x : A) → f i x ≡ x) → map_n f k n l ≡ l
  map_n-same f k zero l e = refl
  map_n-same f k (suc n) [] e = refl
  map_n-same f k (suc n) (x ∷ l) e = ap₂ (λ (y : A) (t : List A). y ∷ t) (e k x) (map_n-same f (suc k) n l e)

  set-map_n-from : (f g : ℕ → A → A) (k n i : ℕ) (l : List A) (d : A) → i < n → i < length l
      → ((j : ℕ) (x : A) → (j ≡ k + i → ⊥) → f j x ≡ g j x) → set (map_n f k n l) i (g (k + i) (get_or l i d)) ≡ map_n g k n l
  set-map_n-from f g k zero i l d h m e = absurd (omega arith)
  set-map_n-from f g k (suc n) i [] d h m e = absurd (omega arith)
  set-map_n-from f g k (suc n) zero (x ∷ l) d h m e =
      ap₂ (λ (y : A) (t : List A). y ∷ t) (ap (λ (j : ℕ). g j x) (add-zero k)) (map_n-alike f g (suc k) n l (λ i y a. e i y (λ p. omega arith)))
  set-map_n-from f g k (suc n) (suc i) (x ∷ l) d h m e =
      let j : k + suc i ≡ suc k + i = omega arith in
      ap₂ (λ (y : A) (t : List A). y ∷ t) (e k x (λ p. omega arith))
      (ap (λ (j : ℕ). set (map_n f (suc k) n l) i (g j (get_or l i d))) j
      ∙ set-map_n-from f g (suc k) n i l d (omega arith) (omega arith) (λ j y q. e j y (λ p. q (omega arith))))

  -- one element more: the change g is f but for place i
  pub set-map_n : (f g : ℕ → A → A) (n i : ℕ) (l : List A) (d : A) → i < n → i < length l
      → ((j : ℕ) (x : A) → (j ≡ i → ⊥) → f j x ≡ g j x) → set (map_n f 0 n l) i (g i (get_or l i d)) ≡ map_n g 0 n l
  set-map_n f g n i l d h m e =
      ap (λ (j : ℕ). set (map_n f 0 n l) i (g j (get_or l i d))) (sym (zero-add i)) ∙ set-map_n-from f g 0 n i l d h m (λ j y q. e j y (λ p. q (omega arith)))

pub get_d_any : {A : Type 0} (l : List A) (i : ℕ) (d e : A) → i < length l → get_or l i d ≡ get_or l i e
get_d_any [] i d e h = absurd (omega arith)
get_d_any (x ∷ l) zero d e h = refl
get_d_any (x ∷ l) (suc i) d e h = get_d_any l i d e (omega arith)
