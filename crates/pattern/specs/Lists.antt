-- Lists: membership as a statement and as a test, no element twice, a property of each element. Assumes nothing.
use Rattle.std.specs.Prelude.{◌≡◌, ◌⊎◌, Bool, true, false, ◌&&◌, ◌||◌, List, [], ◌∷◌, ℕ, eqb}

module _ {A : Type 0} where
  -- x is an element of the list
  abbrev pub In : A → List A → Type 0
  In x [] = ⊥
  In x (y ∷ ys) = (x ≡ y) ⊎ In x ys

  -- no element comes twice
  abbrev pub Distinct : List A → Type 0
  Distinct [] = Unit {0}
  Distinct (x ∷ xs) = (¬ In x xs) × Distinct xs

  -- every element has the property
  abbrev pub Each : (A → Type 0) → List A → Type 0
  Each P [] = Unit {0}
  Each P (x ∷ xs) = P x × Each P xs

  -- every element passes the test; some element does
  abbrev pub all_of : (A → Bool) → List A → Bool
  all_of t [] = true
  all_of t (x ∷ xs) = t x && all_of t xs

  abbrev pub any_of : (A → Bool) → List A → Bool
  any_of t [] = false
  any_of t (x ∷ xs) = t x || any_of t xs

-- the test for `In`, for numbers
abbrev pub is_in : ℕ → List ℕ → Bool
is_in n [] = false
is_in n (m ∷ ms) = eqb n m || is_in n ms
