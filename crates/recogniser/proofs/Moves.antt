-- The formula against document 01's table, `move`: antt computes both at all six states and four classes, for each of the sixteen outcomes of the four conditions (`test`), and `formula-is` carries
-- it to any two numbers. What a move asks follows: the four conditions and nothing else (`same-conditions`). Assumes nothing.
use mathlib.Core.Path.{◌≡◌, refl, sym, ap, ap₂, ◌∙◌}
use mathlib.Core.Bool.{Bool, true, false}
use Prim.Native.Nat.{ℕ, ◌<◌, min}
use native.Mathlib.Omega.{arith}
use Rattle.names.specs.Names.{member}
use Rattle.pattern.specs.Meaning.{Join, Range, may_be_left_out, shuffled}
use Rattle.pattern.specs.Recogniser.{State, state_number, Class, has_enough, has_room, move}
use Rattle.recogniser.specs.Numbers.{state_of, class_number, class_of, join_number, bounds, next_state}
use Rattle.recogniser.specs.Formula.{formula}
use Rattle.recogniser.proofs.Numbers.{state-back, class_back, join-back, state-number, class-number}
use Rattle.recogniser.proofs.Table.{table, at}

module _ (j : Join) (r : Range) (count : ℕ) where
  -- what document 01's table says
  abbrev rule : ℕ → ℕ → ℕ
  rule state class = state_number (move j r count (state_of state) (class_of class))

  -- the one test of all 24 entries, for each outcome of the conditions
  test : (a b c d : Bool) → has_room r count ≡ a → has_enough r count ≡ b → may_be_left_out j ≡ c → shuffled j ≡ d → table 6 4 (formula a b c d) ≡ table 6 4 rule
  unfolding formula member
  test true true true true p q x y = rw (p, q, x, y)
  test true true true false p q x y = rw (p, q, x, y)
  test true true false true p q x y = rw (p, q, x, y)
  test true true false false p q x y = rw (p, q, x, y)
  test true false true true p q x y = rw (p, q, x, y)
  test true false true false p q x y = rw (p, q, x, y)
  test true false false true p q x y = rw (p, q, x, y)
  test true false false false p q x y = rw (p, q, x, y)
  test false true true true p q x y = rw (p, q, x, y)
  test false true true false p q x y = rw (p, q, x, y)
  test false true false true p q x y = rw (p, q, x, y)
  test false true false false p q x y = rw (p, q, x, y)
  test false false true true p q x y = rw (p, q, x, y)
  test false false true false p q x y = rw (p, q, x, y)
  test false false false true p q x y = rw (p, q, x, y)
  test false false false false p q x y = rw (p, q, x, y)

  -- the formula of the four conditions
  abbrev by : ℕ → ℕ → ℕ
  by = formula (has_room r count) (has_enough r count) (may_be_left_out j) (shuffled j)

  -- of a state and a class, by their numbers
  move-is : (s : State) (c : Class) → by (state_number s) (class_number c) ≡ state_number (move j r count s c)
  move-is s c =
      let row : state_number s < 6 = omega (arith, ap state_number (state-back s), state-number (state_number s)) in
      let column : class_number c < 4 = omega (arith, ap class_number (class_back c), class-number (class_number c)) in
      at 6 4 by rule (test _ _ _ _ refl refl refl refl) (state_number s) (class_number c) row column
      ∙ ap₂ (λ (x : State) (y : Class). state_number (move j r count x y)) (state-back s) (class_back c)

  -- of any two numbers: one past the last that is in use stands for the last
  pub formula-is : (state class : ℕ) → by (min state 5) (min class 3) ≡ rule state class
  formula-is state class = ap₂ by (sym (state-number state)) (sym (class-number class)) ∙ move-is (state_of state) (class_of class)

-- a move asks the four conditions and nothing else
pub same-conditions : (j k : Join) (r q : Range) (n m : ℕ) → has_room r n ≡ has_room q m → has_enough r n ≡ has_enough q m → may_be_left_out j ≡ may_be_left_out k → shuffled j ≡ shuffled k
    → (s : State) (c : Class) → move j r n s c ≡ move k q m s c
same-conditions j k r q n m room enough optional mixed s c =
    let same : by j r n (state_number s) (class_number c) ≡ by k q m (state_number s) (class_number c) = rw (room, enough, optional, mixed) in
    sym (state-back (move j r n s c)) ∙ ap state_of (sym (move-is j r n s c) ∙ same ∙ move-is k q m s c) ∙ state-back (move k q m s c)

-- the move in numbers is the move of any range with these bounds: its name has no part in a move
pub next-state : (j : Join) (r : Range) (count : ℕ) (s : State) (c : Class)
    → next_state (state_number s) (class_number c) (join_number j) count r.u r.v ≡ state_number (move j r count s c)
unfolding next_state
next-state j r count s c = simp (join-back, state-back, class_back) (ap state_number (same-conditions j j (bounds r.u r.v) r count count refl refl refl refl s c))
