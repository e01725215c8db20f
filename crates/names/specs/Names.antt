-- Sets of names (document 01, "The recogniser of a range"): "Sets of names are 64-bit words, one bit a name." A word is a number, and name n is in it if its
-- binary digit n is 1. Assumes nothing.
use Rattle.std.specs.Prelude.{◌≡◌, Bool, true, cond, List, [], ◌∷◌, ℕ, ◌/◌, ◌%◌, ◌^◌, eqb, ltb}
use Rattle.std.specs.Int.Bits.{bit_or}

-- name n is in the set
unfoldable pub member : ℕ → ℕ → Bool
member set n = eqb (set / 2 ^ n % 2) 1

-- the set with name n
unfoldable pub insert : ℕ → ℕ → ℕ
insert set n = bit_or set (2 ^ n)

-- the set with the names of a list
abbrev pub insert_all : ℕ → List ℕ → ℕ
insert_all set [] = set
insert_all set (n ∷ ns) = insert_all (insert set n) ns

-- "A name is a number 0 to 63"
abbrev pub is_name : ℕ → Bool
is_name n = ltb n 64

-- the set with n, where n is a name; a number that is none is in no 64-bit word, and leaves the set as it is
abbrev pub with_name : ℕ → ℕ → ℕ
with_name set n = cond (is_name n) (insert set n) set

-- no name is in both sets
abbrev pub Disjoint : ℕ → ℕ → Type 0
Disjoint a b = (n : ℕ) → member a n ≡ true → member b n ≡ true → ⊥

-- an answer to whether they are, exact both ways
pub record TellsDisjoint (a b : ℕ) (answer : Bool) : Type 0 where
  pub apart : answer ≡ true → Disjoint a b
  pub exact : Disjoint a b → answer ≡ true
