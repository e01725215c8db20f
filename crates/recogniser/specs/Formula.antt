-- The move of a range as a formula (document 02, change 4: "a formula over state, class, join, count and bounds that gives the same move at every entry"). The join, the count and the bounds enter by
-- the four conditions of document 01's table: `room`, "count < v", and where v is 0 always; `enough`, "count ≥ u"; `optional`, the range may be left out; `shuffled`, blocks need not be in a row.
-- It says which states take an event of a class without error, as a set, and where the event leads them. That it is the table is `formula-is` (`proofs/Moves`). Assumes nothing.
use Rattle.std.specs.Prelude.{Bool, cond, not, ◌&&◌, ◌||◌, ℕ, ◌+◌, ◌*◌, ◌%◌, eqb}
use Rattle.bits.specs.Bits.{flag}
use Rattle.names.specs.Names.{member}

-- a set of states: state s is in it if binary digit s is 1. "0 and 5 stay": neither is in any
abbrev pub set_of : (unbegun waiting counting done : Bool) → ℕ
set_of unbegun waiting counting done = 2 * flag unbegun + 4 * flag waiting + 8 * flag counting + 16 * flag done

-- the states that take an event of a class. 1 takes *own* and *sibling*; 2 these and, where it may be left out, *next*; 3 *own* where it has room, *sibling* where blocks are shuffled or it has
-- enough, and *next* where it has enough; 4 *sibling* and *next*
abbrev pub takers_of : (class : ℕ) (room enough optional shuffled : Bool) → ℕ
takers_of class room enough optional shuffled =
    let own = eqb class 0 in
    let sibling = eqb class 1 in
    let next = eqb class 2 in
    set_of (own || sibling)
    ((own || sibling) || next && optional)
    ((own && room || sibling && (shuffled || enough)) || next && enough)
    (sibling || next)

-- where it leads such a state. *own*: to 3; *sibling*: from 1 to 2, from 3, unless blocks are shuffled, to 4, and the others stay; *next*: to 0
abbrev pub leads_to : (state class : ℕ) (shuffled : Bool) → ℕ
leads_to state class shuffled = cond (eqb class 0) 3 (cond (eqb class 1) (cond (eqb state 1) 2 (cond (eqb state 3 && not shuffled) 4 state)) 0)

-- idle stays, and a state that does not take the event is an error. A set has eight digits, so that of a state's number the lowest three are asked for
unfoldable pub formula : (room enough optional shuffled : Bool) (state class : ℕ) → ℕ
formula room enough optional shuffled state class =
    cond (eqb state 0) 0 (cond (member (takers_of class room enough optional shuffled) (state % 8)) (leads_to state class shuffled) 5)
