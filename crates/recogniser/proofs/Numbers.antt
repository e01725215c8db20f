-- Document 01's numbers, there and back: a state, a class and a join stay the same, and a number past the last that is in use becomes the last. Assumes nothing.
use mathlib.Core.Path.{◌≡◌, refl}
use mathlib.Core.Bool.{Bool, true, false}
use Prim.Native.Nat.{ℕ, zero, suc, min}
use native.Mathlib.Omega.{arith}
use Rattle.pattern.specs.Meaning.{Join, all, any, all_shuffled, any_shuffled, may_be_left_out, shuffled}
use Rattle.pattern.specs.Recogniser.{State, idle, unbegun, waiting, counting, done, error, state_number, Class, own, sibling, next, other}
use Rattle.recogniser.specs.Numbers.{state_of, class_number, class_of, join_number, join_with, left_out_bit, shuffled_bit, join_of}

pub state-back : (s : State) → state_of (state_number s) ≡ s
state-back idle = refl
state-back unbegun = refl
state-back waiting = refl
state-back counting = refl
state-back done = refl
state-back error = refl

pub class_back : (c : Class) → class_of (class_number c) ≡ c
class_back own = refl
class_back sibling = refl
class_back next = refl
class_back other = refl

pub join-back : (j : Join) → join_of (join_number j) ≡ j
join-back all = refl
join-back any = refl
join-back all_shuffled = refl
join-back any_shuffled = refl

pub state-number : (n : ℕ) → state_number (state_of n) ≡ min n 5
state-number zero = refl
state-number (suc zero) = refl
state-number (suc (suc zero)) = refl
state-number (suc (suc (suc zero))) = refl
state-number (suc (suc (suc (suc zero)))) = refl
state-number (suc (suc (suc (suc (suc n))))) = omega arith

pub class-number : (n : ℕ) → class_number (class_of n) ≡ min n 3
class-number zero = refl
class-number (suc zero) = refl
class-number (suc (suc zero)) = refl
class-number (suc (suc (suc n))) = omega arith

-- the two questions of the join that a number stands for are its two digits
left-out-with : (a b : Bool) → may_be_left_out (join_with a b) ≡ a
left-out-with true true = refl
left-out-with true false = refl
left-out-with false true = refl
left-out-with false false = refl

shuffled-with : (a b : Bool) → shuffled (join_with a b) ≡ b
shuffled-with true true = refl
shuffled-with true false = refl
shuffled-with false true = refl
shuffled-with false false = refl

pub left-out-is : (n : ℕ) → may_be_left_out (join_of n) ≡ left_out_bit n
left-out-is n = left-out-with (left_out_bit n) (shuffled_bit n)

pub shuffled-is : (n : ℕ) → shuffled (join_of n) ≡ shuffled_bit n
shuffled-is n = shuffled-with (left_out_bit n) (shuffled_bit n)
