-- Sets of rules (document 01, "Observing"): "a 16-bit mask of the rules". Rules are numbered 0 to 15, and rule r is in a mask if its binary digit r is 1, as a name is in
-- a set of names (crate `names`). What each function promises is a record that speaks of every number; one of 16 or more is in no mask. A set of a fragment's ranges, "1 to 8",
-- is a word of eight digits in the same way. Assumes nothing.
use Rattle.std.specs.Prelude.{◌≡◌, Bool, true, false, cond, not, ◌&&◌, ◌||◌, ℕ, zero, suc, ◌+◌, ◌^◌, ◌<◌, eqb, ltb, Option, MatchOption}
use Rattle.names.specs.Names.{member}

-- a rule's number: "Rules are numbered from 0", and a sheet has at most 16
abbrev pub is_rule : ℕ → Bool
is_rule r = ltb r 16

-- the mask of the numbers below n that pass a test
abbrev pub mask_n : (ℕ → Bool) → ℕ → ℕ
mask_n t zero = 0
mask_n t (suc n) = mask_n t n + cond (t n) (2 ^ n) 0

-- the rules of either mask
pub record Union (a b both : ℕ) : Type 0 where
  pub members : (k : ℕ) → member both k ≡ (member a k || member b k)

-- the rules of a that are not in b
pub record Without (a b left : ℕ) : Type 0 where
  pub members : (k : ℕ) → member left k ≡ (member a k && not (member b k))

-- the mask with rule r, where `on` says so; a number that is no rule is not added
pub record With (mask r : ℕ) (on : Bool) (made : ℕ) : Type 0 where
  pub members : (k : ℕ) → member made k ≡ (member mask k || on && (is_rule r && eqb k r))

-- the lowest rule of a mask that has any; of the empty mask, some rule's number
pub record Lowest (mask r : ℕ) : Type 0 where
  pub rule : r < 16
  pub inside : 0 < mask → member mask r ≡ true
  pub least : 0 < mask → (k : ℕ) → k < r → member mask k ≡ false

-- the mask without rule r; it is a smaller number if r was in it
pub record Less (mask r left : ℕ) : Type 0 where
  pub members : (k : ℕ) → member left k ≡ (member mask k && not (eqb k r))
  pub fewer : member mask r ≡ true → left < mask

-- the mask without its lowest rule, if it has any
abbrev pub Rest : ℕ → ℕ → Type 0
Rest mask left = (r : ℕ) → 0 < mask → Lowest mask r → Less mask r left

-- one turn over the rules of a mask, from the lowest up: none comes of an empty mask, and of any other its lowest, without which the mask is left
abbrev pub Turn : ℕ → Option ℕ → ℕ → Type 0
Turn mask r left = MatchOption r ((mask ≡ 0) × (left ≡ 0)) (λ x. (0 < mask) × Lowest mask x × Less mask x left)

-- the set of ranges in which range i is or is not, as `on` says, and every other is as it was
pub record Put (set i : ℕ) (on : Bool) (made : ℕ) : Type 0 where
  pub members : (k : ℕ) → member made k ≡ cond (eqb k i) on (member set k)
