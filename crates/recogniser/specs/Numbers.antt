-- Document 01's numbers for the states of a range, the classes of an event and the joins of a fragment, both ways, and the move in these numbers.
-- Code holds numbers, and every number stands for something, so that nothing is asked of them. Assumes nothing.
use Rattle.std.specs.Prelude.{Bool, true, false, ℕ, zero, suc, ◌/◌, ◌%◌, eqb}
use Rattle.pattern.specs.Meaning.{Range, Join, all, any, all_shuffled, any_shuffled}
use Rattle.pattern.specs.Recogniser.{State, idle, unbegun, waiting, counting, done, error, state_number, Class, own, sibling, next, other, move}

-- a state's number is `state_number` of pattern's `Recogniser`; every number above 4 is error
abbrev pub state_of : ℕ → State
state_of zero = idle
state_of (suc zero) = unbegun
state_of (suc (suc zero)) = waiting
state_of (suc (suc (suc zero))) = counting
state_of (suc (suc (suc (suc zero)))) = done
state_of (suc (suc (suc (suc (suc n))))) = error

-- "own, sibling (same fragment), next (a name of the following fragment; ..) or other", in this order from 0; every number above 2 is other
abbrev pub class_number : Class → ℕ
class_number own = 0
class_number sibling = 1
class_number next = 2
class_number other = 3

abbrev pub class_of : ℕ → Class
class_of zero = own
class_of (suc zero) = sibling
class_of (suc (suc zero)) = next
class_of (suc (suc (suc n))) = other

-- "join (0 all, 1 any)", "2 all shuffled and 3 any shuffled"
abbrev pub join_number : Join → ℕ
join_number all = 0
join_number any = 1
join_number all_shuffled = 2
join_number any_shuffled = 3

-- the join with these answers: may a range be left out; are the blocks shuffled
abbrev pub join_with : Bool → Bool → Join
join_with false false = all
join_with true false = any
join_with false true = all_shuffled
join_with true true = any_shuffled

-- the two answers are binary digits 0 and 1 of a join's number; no other digit is looked at
abbrev pub left_out_bit : ℕ → Bool
left_out_bit n = eqb (n % 2) 1

abbrev pub shuffled_bit : ℕ → Bool
shuffled_bit n = eqb (n / 2 % 2) 1

abbrev pub join_of : ℕ → Join
join_of n = join_with (left_out_bit n) (shuffled_bit n)

-- a range with these bounds; its name has no part in a move
abbrev pub bounds : ℕ → ℕ → Range
bounds u v = record { name = 0; u = u; v = v }

-- the state after an event, by the table of moves, all in numbers
unfoldable pub next_state : (state class join count u v : ℕ) → ℕ
next_state state class join count u v = state_number (move (join_of join) (bounds u v) count (state_of state) (class_of class))
